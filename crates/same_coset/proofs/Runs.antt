-- The invariant: the runs so far, times what remains, are the matrix up to sign, and the place so far is where these runs lead (`RemainsOf`).
-- In order: the whole matrix (`whole_sound`, `whole_remains`); one run (`run_less`, `run_sound`, `run_remains`, and all of it in `later`); the last run
-- (`arrived`). Assumes nothing.
use mathlib.Core.Path.{◌≡◌, sym, ap, ◌∙◌}
use mathlib.Core.Logic.{inl}
use mathlib.Core.List.{List, [], ◌∷◌}
use Prim.Native.Nat.{ℕ, ◌<◌}
use native.Mathlib.Omega.{arith}
use lib.IntN.{ℤ, pos, nat_abs}
use lib.Signed.{non_neg}
use Rattle.matrix.specs.Matrix.{Mat, ◌⊗◌, det, mat_s, ◌≈◌}
use Rattle.matrix.specs.Bounds.{Small}
use Rattle.matrix.specs.Words.{S}
use Rattle.matrix.proofs.Matrix.{⊗-assoc, ⊗-idl, det_𝟙, det_one, det_letter, det-≈, ◌∙≈◌, ≈-left}
use Rattle.numbering.specs.Table.{image_at}
use Rattle.numbering.proofs.Space.{entries_at}
use Rattle.figures.specs.Inner.Scan.{held_t}
use Rattle.cusp_record.specs.Record.{cusp_place}
use Rattle.cusp_record.proofs.Record.{place_zero}
use Rattle.same_coset.specs.Runs.{power_t, runs_value, Arrived}
use Rattle.same_coset.specs.Inner.Places.{TURN, held_turns, run_place, Prepared}
use Rattle.same_coset.specs.Inner.Rows.{signed, partial_quotient, row_pair, remaining_matrix, LIMIT, SoundRemaining, WholeRemaining, AfterRun, RemainsOf}
use Rattle.same_coset.specs.Inner.Rows.{RemainsLater}
use Rattle.same_coset.specs.declared.t_runs.Remaining.{Remaining}
use Rattle.same_coset.proofs.Powers.{det_power_t}
use Rattle.same_coset.proofs.Nearest.{remainder_less}
use Rattle.same_coset.proofs.Rows.{run_is, abs_signed, after_unit, signed_right_low, last_is, sign_size, whole_rows}
use Rattle.same_coset.proofs.Places.{size_u, run_low, run_leads}

det_runs : (l : List ℤ) → det (runs_value l) ≡ pos 1
det_runs [] = det_𝟙
det_runs (q ∷ l) = det_one (runs_value l) (power_t q ⊗ mat_s) (det_runs l) (det_one (power_t q) mat_s (det_power_t q) (det_letter S))

-- ---- the whole matrix

module _ {n : ℕ} {w : List ℕ} (g : Prepared n w) {m : Mat} {x : Remaining} (all : WholeRemaining m x) where
  all_remains : remaining_matrix x ≈ m
  all_remains = rw (all.aligned_is, all.a_is, all.b_is, all.c_is, all.d_is) (whole_rows m.a m.b m.c m.d)

  pub whole_sound : Small LIMIT m → det m ≡ pos 1 → SoundRemaining n x
  whole_sound small unit = record {
    place_low = omega (arith, all.place_is, g.some);
    unit = det-≈ all_remains ∙ unit;
    a_low = omega (arith, all.a_is, small.in_a);
    b_low = omega (arith, ap nat_abs all.b_is, abs_signed (non_neg m.a) m.b, small.in_b);
    c_low = omega (arith, all.c_is, small.in_c);
    d_low = omega (arith, ap nat_abs all.d_is, abs_signed (non_neg m.c) m.d, small.in_d);
  }

  pub whole_remains : RemainsOf n w m x
  whole_remains = record {
    runs = [];
    value = inl (⊗-idl (remaining_matrix x)) ∙≈ all_remains;
    there = λ lead e. all.place_is ∙ sym (ap (cusp_place (held_t n w)) e.zero ∙ place_zero e.permutes (omega (arith, size_u g, g.some)));
  }

-- ---- one run

pub none_yet : {n : ℕ} {w : List ℕ} {x : Remaining} → SoundRemaining n x → RemainsLater n w x x
none_yet s = record { sound = s; remains = λ m f. f }

module _ {n : ℕ} {w : List ℕ} (g : Prepared n w) {x y : Remaining} (s : SoundRemaining n x) (some : 0 < x.c) (r : AfterRun n w x y) where
  abbrev q : ℕ
  q = partial_quotient x.a x.c

  abbrev run : Mat
  run = power_t (signed x.aligned (pos q))

  abbrev before_S : ℕ
  before_S = run_place (held_t n w) x.aligned q x.place

  before_S_low : before_S < n
  before_S_low = run_low g x.place s.place_low x.aligned q

  pub run_less : y.c < x.c
  run_less = rw r.c_is (remainder_less x.a x.c some)

  pub run_sound : SoundRemaining n y
  run_sound = record {
    place_low = rw r.place_is (g.turn_low before_S before_S_low);
    unit = rw (r.aligned_is, r.a_is, r.b_is, r.c_is, r.d_is) (after_unit s some);
    a_low = omega (arith, r.a_is, s.c_low);
    b_low = rw r.b_is s.d_low;
    c_low = omega (arith, run_less, s.c_low);
    d_low = rw r.d_is (signed_right_low s some);
  }

  run_back : run ⊗ (mat_s ⊗ remaining_matrix y) ≈ remaining_matrix x
  run_back =
      rw (r.aligned_is, r.a_is, r.b_is, r.c_is, r.d_is)
      (run_is x.aligned x.a x.b x.c x.d some)

  pub run_remains : {m : Mat} → RemainsOf n w m x → RemainsOf n w m y
  run_remains f =
      let so_far = runs_value f.runs in
      let unit = det_runs f.runs in
      let z = remaining_matrix y in
      record {
        runs = signed x.aligned (pos q) ∷ f.runs;
        value = inl (⊗-assoc so_far (run ⊗ mat_s) z ∙ ap (λ (i : Mat). so_far ⊗ i) (⊗-assoc run mat_s z)) ∙≈ ≈-left so_far run_back ∙≈ f.value;
        there = λ lead e.
            let u = held_t n w in
            let here : before_S ≡ cusp_place u (lead (so_far ⊗ run)) =
            ap (run_place u x.aligned q) (f.there lead e) ∙ run_leads e so_far unit x.aligned q in
            r.place_is ∙ sym (entries_at TURN n w before_S before_S_low) ∙ ap (image_at (held_turns n w)) here
            ∙ sym (e.by_S (so_far ⊗ run) (det_one so_far run unit (det_power_t (signed x.aligned (pos q)))))
            ∙ ap (λ (i : Mat). cusp_place u (lead i)) (⊗-assoc so_far run mat_s);
      }

  pub later : {x₀ : Remaining} → RemainsLater n w x₀ x → RemainsLater n w x₀ y
  later l = record { sound = run_sound; remains = λ m f. run_remains (l.remains m f) }

-- ---- the test of two

-- ---- the last run

pub arrived : {n : ℕ} {w : List ℕ} {m : Mat} {x : Remaining} → SoundRemaining n x → x.c ≡ 0 → RemainsOf n w m x
    → Arrived (held_turns n w) (held_t n w) m (run_place (held_t n w) (non_neg x.b) (nat_abs x.b) x.place)
arrived {n} {w} {m} {x} s none f lead e =
    let so_far = runs_value f.runs in
    let u = held_t n w in
    let b = x.b in
    let last : remaining_matrix x ≡ power_t b =
    ap (λ (i : ℕ). row_pair x.aligned x.a b i x.d) none
    ∙ last_is x.aligned x.a b x.d (rw none at s.unit) in
    ap (run_place u (non_neg b) (nat_abs b)) (f.there lead e)
    ∙ run_leads e so_far (det_runs f.runs) (non_neg b) (nat_abs b)
    ∙ ap (λ (i : ℤ). cusp_place u (lead (so_far ⊗ power_t i))) (sign_size b)
    ∙ ap (λ (i : Mat). cusp_place u (lead (so_far ⊗ i))) (sym last)
    ∙ ap (cusp_place u) (e.up_to_sign (so_far ⊗ remaining_matrix x) m f.value)
