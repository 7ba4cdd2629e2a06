-- THE WALK ALONG ONE MATRIX is the walk of the pair query from the identity to it. In order: M times the inverse of the identity is M (`one_times`); S⁻¹ M S,
-- entry by entry (`round_is`); the matrix that is followed is as small as M (`along_ready`, `one_ready`); whether it comes home (`home_is`).
-- Assumes nothing.
use mathlib.Core.Path.{◌≡◌, refl, sym, ◌∙◌, ap, subst}
use mathlib.Core.List.{List, []}
use Prim.Native.Nat.{ℕ, ◌^◌, ◌≤◌}
use native.Mathlib.Decide.{ℕ_discrete}
use lib.Dec.{eqb, lit≤}
use lib.ListN.{length}
use lib.IntN.{ℤ, pos, neg_ℤ}
use borrow.Author.Tests.{eq-eqb, ne_eqb}
use Rattle.matrix.specs.Matrix.{Mat, mat, ◌⊗◌, 𝟙, adj, det, mat_s, of_list, to_list}
use Rattle.matrix.specs.Bounds.{Small}
use Rattle.matrix.specs.Action as action
use Rattle.matrix.proofs.Integer.{abs_neg}
use Rattle.matrix.proofs.Matrix.{⊗-idr, with}
use Rattle.matrix.proofs.Ring.{var, ◌⊛◌, ⊖◌, lit, const, block, adjᵉ, ring_m}
use Rattle.matrix.proofs.Bounds.{small_more}
use Rattle.coset.specs.Positions.{followed, Positions}
use Rattle.coset.specs.Inner.Steps.{BuiltSteps}
use Rattle.coset.proofs.Positions.{positions}
use Rattle.walk_runs.specs.Inner.Tally.{WalkTallied}
use Rattle.walk_runs.specs.declared.Stop.{Stop}
use Rattle.call.specs.Inner.Fills.{Fills}
use Rattle.word.specs.Answer.{closes, word_if, found_if}
use Rattle.word.specs.Inner.Ready.{home_along, letters_along, sign_along_walk, WalkReady}
use Rattle.call.specs.Refusal.{Answer}
use Rattle.word.specs.declared.FoundWord.{FoundWord}
use Rattle.word.proofs.Turned.{followed_by}
use Rattle.word.proofs.Finding.{walk_run, as_found_after, told, at_home, away}
use Rattle.matrix_word.specs.Answer.{most_entry, identity_rows, is_member, member_word}
use Rattle.matrix_word.specs.Claim.{ValidMatrix}
use Rattle.matrix_word.specs.Inner.Ready.{MatrixReady}

pub one_times : (m : Mat) → m ⊗ adj (of_list identity_rows) ≡ m
unfolding adj 𝟙
one_times m = ⊗-idr m

-- S⁻¹ m S
abbrev pub round_matrix : Mat → Mat
round_matrix m = mat m.d (neg_ℤ m.c) (neg_ℤ m.b) m.a

pub round_is : (m : Mat) → adj mat_s ⊗ (m ⊗ mat_s) ≡ round_matrix m
unfolding mat_s
round_is m = ring_m (with m []) (adjᵉ (const mat_s) ⊛ (block 0 ⊛ const mat_s)) (lit (var 3) (⊖ var 2) (⊖ var 1) (var 0)) tt

round_small : (h : ℕ) (m : Mat) → Small h m → Small h (round_matrix m)
round_small h m s = record {
  in_a = s.in_d;
  in_b = subst (λ (n : ℕ). n ≤ h) (sym (abs_neg m.c)) s.in_c;
  in_c = subst (λ (n : ℕ). n ≤ h) (sym (abs_neg m.b)) s.in_b;
  in_d = s.in_a;
}

along_small : {v : ℕ} {t : List ℤ} → Positions v t → (m : Mat) → Small most_entry m → Small (2 ^ 60) (followed v t m)
along_small g m s =
    let k = small_more most_entry (2 ^ 60) m (lit≤ tt) s in
    followed_by g m (λ (n : Mat). Small (2 ^ 60) n) (subst (Small (2 ^ 60)) (sym (round_is m)) (round_small (2 ^ 60) m k)) k

-- a matrix that passes, once the tables are there
pub one_ready : {v : ℕ} {t m : List ℤ} {w₀ w : List ℕ} {x : ℕ} → ValidMatrix v t m w₀ → BuiltSteps t v w x → MatrixReady t v w m x
one_ready q e = record { prepared = e.prepared; start = e.start; entries = q.entries; unit = q.unit }

-- by the list a of the matrix that is followed
pub along_ready : {v : ℕ} {t m : List ℤ} (a : List ℤ) {w : List ℕ} {x : ℕ} → MatrixReady t v w m x → of_list a ≡ followed v t (of_list m) → WalkReady t v w a x
along_ready {v} {t} {m} a q e =
    let g = positions q.prepared.tables.symbol in
    record {
      prepared = q.prepared;
      start = q.start;
      unit = subst (λ (n : Mat). det n ≡ pos 1) (sym e) (g.followed_unit (of_list m) q.unit);
      small = subst (λ (n : Mat). Small (2 ^ 60) n) (sym e) (along_small g (of_list m) q.entries);
    }

module _ (v : ℕ) (t m a : List ℤ) (e : of_list a ≡ followed v t (of_list m)) where
  along_is : of_list a ≡ followed v t (of_list m ⊗ adj (of_list identity_rows))
  along_is = e ∙ ap (followed v t) (sym (one_times (of_list m)))

  -- its steps are those of the walk from the identity, where the space was left as it was first
  pub as_one : (out out1 out' : List ℤ) (start : ℕ) (r : Answer FoundWord) → out1 ≡ out
      → Fills (walk_run (home_along v t (of_list a)) (letters_along v t (of_list a)) out1 out' start)
      (word_if start (length (letters_along v t (of_list a))) (sign_along_walk v t (of_list a))) r
      → Fills (walk_run (is_member v t m) (member_word v t m) out out' start) (found_if v t identity_rows m start) r
  as_one out out1 out' start r same g =
      as_found_after v t identity_rows m {m = to_list (followed v t (of_list m ⊗ adj (of_list identity_rows)))} refl out out1 out' start r same
      (subst (λ (n : Mat). Fills (walk_run (home_along v t n) (letters_along v t n) out1 out' start)
      (word_if start (length (letters_along v t n)) (sign_along_walk v t n)) r) along_is g)

  home_is : home_along v t (of_list a) ≡ is_member v t m
  unfolding home_along closes action.at
  home_is = ap (home_along v t) along_is

-- whether it ends at home
pub home_by : {v : ℕ} {t m : List ℤ} (a : List ℤ) {w : List ℕ} {x : ℕ} {end : Stop} → MatrixReady t v w m x → of_list a ≡ followed v t (of_list m)
    → WalkTallied v t (of_list a) x end → eqb end.at x ≡ is_member v t m
home_by {v} {t} {m} a {w} {x} {end} q e k =
    let l = told (along_ready a q e) k in
    elim (ℕ_discrete end.at x) [
      | yes h ↦ eq-eqb end.at x h ∙ sym (at_home v t (of_list a) l.0 (h ∙ q.start)) ∙ home_is v t m a e
      | no h ↦ ne_eqb end.at x h ∙ sym (away v t (of_list a) l.0 (λ z. h (z ∙ sym q.start))) ∙ home_is v t m a e
    ]
