-- The tables of a family are a pair of permutations that passes the checks 12 to 15 (`passport`), and they are numbered already: the listing's rule
-- changes nothing (`numbered_S`, `numbered_R`).
-- Why: what `CosetsOf` says of them. `image` and `image_at` are one map on the points.
-- Assumes nothing.
use mathlib.Core.Path.{◌≡◌, refl, sym, ◌∙◌, ap}
use mathlib.Core.List.{List, [], ◌∷◌}
use Prim.Native.Nat.{ℕ, zero, suc, ◌≤◌, ◌<◌}
use native.Mathlib.Omega.{arith}
use lib.ListN.{length, get_or}
use lib.Seq.{ext_get_or}
use Rattle.matrix.specs.Matrix.{Mat, 𝟙}
use Rattle.matrix.specs.Words.{Letter, S, Q, P}
use Rattle.matrix.specs.Euclid.{word_of}
use Rattle.matrix.specs.Action as action
use Rattle.matrix.proofs.Matrix.{det_𝟙}
use Rattle.numbering.specs.Find.{◌∈◌}
use Rattle.numbering.specs.Order.{order_of, up_to, Maps, Reached, here, by_σ, by_ρ}
use Rattle.numbering.specs.Table.{image_at, renamed}
use Rattle.numbering.proofs.Find.{none_below_lem}
use Rattle.numbering.proofs.Order.{numbering, order_ext}
use Rattle.numbering.proofs.Table.{renamed_length, renamed_at}
use Rattle.numbering.proofs.Numbered.{up_to_length, up_to_at}
use Rattle.right_cosets.specs.Leads.{by_table_q, leads}
use Rattle.congruence.specs.Congruence.{Meets}
use Rattle.congruence.specs.Index.{family_index}
use Rattle.congruence.specs.Cosets.{family_s, family_r}
use Rattle.right_cosets.specs.Cosets.{CosetsOf}
use Rattle.congruence.specs.declared.Family.{Family}
use Rattle.congruence.proofs.Theorem.{tables}
use Rattle.right_cosets.proofs.Walked.{up_to_find}
use Rattle.congruence_tables.specs.Inner.Held.{Group}
use Rattle.permutations.specs.Pair.{image}
use Rattle.import_rule.specs.Fixed.{by_q}
use Rattle.permutations.specs.Check.{Passport}
use Rattle.import_call.specs.Import.{numbering as points}

-- an image in a table, where there is an entry
same_image : (t : List ℕ) (x : ℕ) → x < length t → image t x ≡ image_at t x
same_image t x h = elsewhere t x x 0 h
  where
    elsewhere : (t : List ℕ) (x d e : ℕ) → x < length t → get_or t x d ≡ get_or t x e
    elsewhere [] x d e h = none_below_lem h
    elsewhere (y ∷ t) zero d e h = refl
    elsewhere (y ∷ t) (suc x) d e h = elsewhere t x d e (omega arith)

module _ {C : Mat → Type 0} {n : ℕ} {s r : List ℕ} (a : CosetsOf C n s r) where
  some : 0 < n
  some = omega (arith, a.low 𝟙 det_𝟙)

  low_S : (x : ℕ) → x < n → image_at s x < n
  low_S x h = rw a.size_S at (a.permutes_S.low x (rw a.size_S h))

  low_R : (x : ℕ) → x < n → image_at r x < n
  low_R x h = rw a.size_R at (a.permutes_R.low x (rw a.size_R h))

  image_S : (x : ℕ) → x < n → image s x ≡ image_at s x
  image_S x h = same_image s x (rw a.size_S h)

  image_R : (x : ℕ) → x < n → image r x ≡ image_at r x
  image_R x h = same_image r x (rw a.size_R h)

  maps : Maps (image_at s) (image_at r) 0 n
  maps = record { start_low = some; σ_low = low_S; ρ_low = low_R }

  -- ---- every point is reached

  record Seen (x : ℕ) : Type 0 where
    low : x < n
    reached : Reached (image s) (image r) 0 x

  seen : {x : ℕ} → Reached (image_at s) (image_at r) 0 x → Seen x
  seen here = record { low = some; reached = here }
  seen (by_σ {x} h) = let z = seen h in record { low = low_S x z.low; reached = rw (image_S x z.low) at (by_σ z.reached) }
  seen (by_ρ {x} h) = let z = seen h in record { low = low_R x z.low; reached = rw (image_R x z.low) at (by_ρ z.reached) }

  all_in : (x : ℕ) → x < n → x ∈ order_of (image_at s) (image_at r) 0 n
  all_in x h = rw a.numbered (rw (up_to_find n x h) (omega (arith, up_to_length n)))

  all_seen : (x : ℕ) → x < n → Seen x
  all_seen x h = seen ((numbering (image_at s) (image_at r) 0 n maps).only x (all_in x h))

  pub passport_of : n ≤ 3066 → Passport s r
  passport_of most = record {
    some = rw a.size_S (omega (arith, some));
    most = rw a.size_S most;
    even = a.size_R ∙ sym a.size_S;
    points_S = λ x h. let k : x < n = rw a.size_S at h in rw (image_S x k, a.size_S) (low_S x k);
    points_R = λ x h. let k : x < n = rw a.size_R at h in rw (image_R x k, a.size_R) (low_R x k);
    one_S = λ x y h k e. a.permutes_S.one x y h k (sym (image_S x (rw a.size_S at h)) ∙ e ∙ image_S y (rw a.size_S at k));
    one_R = λ x y h k e. a.permutes_R.one x y h k (sym (image_R x (rw a.size_R at h)) ∙ e ∙ image_R y (rw a.size_R at k));
    twice = λ x h. let k : x < n = rw a.size_S at h in rw (image_S x k, image_S (image_at s x) (low_S x k)) (a.twice x k);
    thrice = λ x h.
        let k : x < n = rw a.size_R at h in
        let l = low_R x k in
        rw (image_R x k, image_R (image_at r x) l, image_R (image_at r (image_at r x)) (low_R (image_at r x) l)) (a.thrice x k);
    reached = λ x h. (all_seen x (rw a.size_S at h)).reached;
  }

  -- ---- a matrix leads where it leads

  q_low : (x : ℕ) → x < n → by_table_q s r x < n
  q_low x h = low_S _ (low_R _ (low_R _ (low_S x h)))

  q_same : (x : ℕ) → x < n → by_q (image s) (image r) x ≡ by_table_q s r x
  q_same x h =
      let i = low_S x h in
      let j = low_R (image_at s x) i in
      let k = low_R (image_at r (image_at s x)) j in
      rw (image_S x h, image_R (image_at s x) i, image_R (image_at r (image_at s x)) j, image_S (image_at r (image_at r (image_at s x))) k)

  run_same : (l : List Letter) (x : ℕ) → x < n → action.run (image s) (by_q (image s) (image r)) x l ≡ action.run (image_at s) (by_table_q s r) x l
  run_same [] x h = refl
  run_same (S ∷ l) x h = rw (image_S x h) (run_same l (image_at s x) (low_S x h))
  run_same (Q ∷ l) x h = rw (q_same x h) (run_same l (by_table_q s r x) (q_low x h))
  run_same (P ∷ l) x h = rw (q_same x h, q_same (by_table_q s r x) (q_low x h)) (run_same l (by_table_q s r (by_table_q s r x)) (q_low _ (q_low x h)))

  pub leads_same : (m : Mat) → action.at (image s) (by_q (image s) (image r)) 0 m ≡ leads s r m
  unfolding action.at
  leads_same m = run_same (word_of m) 0 some

  -- ---- the numbering changes nothing

  pub points_are : points s r ≡ up_to n
  points_are = rw a.size_S (order_ext (image_at s) (image_at r) (image s) (image r) 0 n maps image_S image_R ∙ a.numbered)

  renamed_same : (t : List ℕ) → length t ≡ n → ((x : ℕ) → x < n → image_at t x < n) → renamed (up_to n) (image t) ≡ t
  renamed_same t size low =
      let l = up_to_length n in
      ext_get_or 0 (renamed (up_to n) (image t)) t (renamed_length (up_to n) (image t) ∙ l ∙ sym size) (λ j h.
      let k : j < n = omega (arith, renamed_length (up_to n) (image t)) in
      renamed_at (up_to n) (image t) j (omega arith)
      ∙ ap (λ (x : ℕ). Rattle.numbering.specs.Find.find (up_to n) (image t x)) (up_to_at n j k)
      ∙ ap (Rattle.numbering.specs.Find.find (up_to n)) (same_image t j (omega (arith, size)))
      ∙ up_to_find n (image_at t j) (low j k))

  pub numbered_S : renamed (points s r) (image s) ≡ s
  numbered_S = rw points_are (renamed_same s a.size_S low_S)

  pub numbered_R : renamed (points s r) (image r) ≡ r
  numbered_R = rw points_are (renamed_same r a.size_R low_R)

-- ---- the families

module _ (f : Family) (n : ℕ) (g : Group f n) where
  pub family_cosets_lem : CosetsOf (Meets f n) (family_index f n) (family_s f n) (family_r f n)
  family_cosets_lem = tables f n g.modulus.some

  pub passport : Passport (family_s f n) (family_r f n)
  passport = passport_of family_cosets_lem g.few
