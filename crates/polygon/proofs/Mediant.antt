-- Three neighbours l, m, y of a chain: m is the mediant of l and y exactly when its denominator is the sum of theirs.
--
-- In order: the two sides of an edge (`turn_back`); the middle denominator divides the sum of the others, so it is the sum or at most half
-- of it (`sum_or_half`); the numerator of a mediant (`mediant`); the frames about a triangle (`Triangle`, `triangle`).
--
-- Why: with l = p/q, m = a/b, y = r/s and k = r q - p s the two neighbour equations give k b = q + s and k a = p + r.
-- Assumes nothing.
use mathlib.Core.Path.{◌≡◌, refl, sym, ◌∙◌, ap}
use mathlib.Core.Logic.{◌⊎◌, inl, inr}
use mathlib.Core.List.{List, [], ◌∷◌}
use Prim.Native.Nat.{ℕ, zero, suc, ◌+◌, ◌*◌, ◌≤◌, ◌<◌}
use native.Mathlib.Omega.{arith}
use lib.IntN.{ℤ, pos, negsuc, neg_ℤ, nat_abs, ◌+ℤ◌, ◌*ℤ◌, ◌-ℤ◌, +ℤ_idl, +ℤ_idr, +ℤ_invr, -ℤ-+ℤ_cancel}
use Rattle.matrix.specs.Matrix.{Mat, mat, ◌⊗◌, 𝟙, neg, adj, det, mat_s, mat_q, mat_p, ◌≈◌}
use Rattle.matrix.proofs.Matrix.{⊗-assoc, ⊗-idr, ⊗-neg, S_S, ≈-sym, ◌∙≈◌, ≈-right}
use Rattle.matrix.proofs.Integer.{abs_neg}
use Rattle.matrix.proofs.Ring.{var, ◌⊕◌, ◌⊙◌, ⊖◌, ring, MExp, lit, const, ◌⊛◌, ∼◌, ring_m, detᵉ}

-- ---- the two sides of an edge

pub S_twice : (m : Mat) → m ⊗ mat_s ⊗ mat_s ≈ m
S_twice m = inr (⊗-assoc m mat_s mat_s ∙ ap (λ (n : Mat). m ⊗ n) S_S ∙ ⊗-neg m 𝟙 ∙ ap neg (⊗-idr m))

pub turn_back : (m n : Mat) → m ⊗ mat_s ≈ n → n ⊗ mat_s ≈ m
turn_back m n e = ≈-right mat_s (≈-sym e) ∙≈ S_twice m

-- ---- integers

-- a product with a positive number that is 0, and one that is positive
zero_factor : (b : ℕ) (z : ℤ) → 0 < b → pos b *ℤ z ≡ pos 0 → z ≡ pos 0
zero_factor b (pos zero) h e = refl
zero_factor b (pos (suc n)) h e = let k : b * suc n ≡ 0 = ap nat_abs e in absurd (omega arith)
zero_factor b (negsuc n) h e = let k : b * suc n ≡ 0 = sym (abs_neg (pos (b * suc n))) ∙ ap nat_abs e in absurd (omega arith)

cancel_pos : (b : ℕ) (x y : ℤ) → 0 < b → pos b *ℤ x ≡ pos b *ℤ y → x ≡ y
cancel_pos b x y h e =
    let d : pos b *ℤ (x -ℤ y) ≡ pos 0 =
    ring (pos b ∷ x ∷ y ∷ []) (var 0 ⊙ (var 1 ⊕ ⊖ var 2)) (var 0 ⊙ var 1 ⊕ ⊖ (var 0 ⊙ var 2)) tt ∙ ap (λ (z : ℤ). z -ℤ (pos b *ℤ y)) e ∙ +ℤ_invr (pos b *ℤ y) in
    sym (-ℤ-+ℤ_cancel x y) ∙ ap (λ (z : ℤ). z +ℤ y) (zero_factor b (x -ℤ y) h d) ∙ +ℤ_idl y

pub neg_pos : (m n : ℕ) → neg_ℤ (pos m) ≡ pos n → m ≡ 0
neg_pos zero n e = refl
neg_pos (suc m) n e = let z : ◌≡◌ {A = ℕ} 0 1 = cc in absurd (omega arith)

-- ---- l = p/q, m = a/b, y = r/s: the variables 0 to 5

module _ (p a r : ℤ) (q b s : ℕ) (dl : det (mat a p (pos b) (pos q)) ≡ pos 1) (dy : det (mat r a (pos s) (pos b)) ≡ pos 1) where
  abbrev env : List ℤ
  env = p ∷ pos q ∷ a ∷ pos b ∷ r ∷ pos s ∷ []

  abbrev to_m : MExp
  to_m = lit (var 2) (var 0) (var 3) (var 1)

  abbrev to_y : MExp
  to_y = lit (var 4) (var 2) (var 5) (var 3)

  times_den : (r *ℤ pos q +ℤ neg_ℤ (p *ℤ pos s)) *ℤ pos b ≡ pos (q + s)
  unfolding det
  times_den =
      ring env ((var 4 ⊙ var 1 ⊕ ⊖ (var 0 ⊙ var 5)) ⊙ var 3) (var 1 ⊙ detᵉ to_y ⊕ var 5 ⊙ detᵉ to_m) tt
      ∙ ap (λ (z : ℤ). pos q *ℤ z +ℤ pos s *ℤ det (mat a p (pos b) (pos q))) dy
      ∙ ap (λ (z : ℤ). pos q *ℤ pos 1 +ℤ pos s *ℤ z) dl
      ∙ ap pos (omega arith)

  by_factor : (k : ℤ) → 0 < q + s → k *ℤ pos b ≡ pos (q + s) → (b ≡ q + s) ⊎ (2 * b ≤ q + s)
  by_factor (pos zero) h e = let z : 0 * b ≡ q + s = ap nat_abs e in absurd (omega arith)
  by_factor (pos (suc zero)) h e = let z : 1 * b ≡ q + s = ap nat_abs e in inl (omega arith)
  by_factor (pos (suc (suc k))) h e = let z : suc (suc k) * b ≡ q + s = ap nat_abs e in inr (omega arith)
  by_factor (negsuc k) h e =
      let z : suc k * b ≡ 0 = neg_pos (suc k * b) (q + s) e in
      let y : suc k * b ≡ q + s = sym (abs_neg (pos (suc k * b))) ∙ ap nat_abs e in
      absurd (omega arith)

  pub sum_or_half : 0 < q + s → (b ≡ q + s) ⊎ (2 * b ≤ q + s)
  sum_or_half h = by_factor (r *ℤ pos q +ℤ neg_ℤ (p *ℤ pos s)) h times_den

  pub mediant : b ≡ q + s → 0 < b → a ≡ p +ℤ r
  unfolding det
  mediant e h = cancel_pos b a (p +ℤ r) h
      (ap (λ (d : ℕ). pos d *ℤ a) e
      ∙ ring env ((var 1 ⊕ var 5) ⊙ var 2) (var 3 ⊙ (var 0 ⊕ var 4) ⊕ (detᵉ to_m ⊕ ⊖ detᵉ to_y)) tt
      ∙ ap (λ (z : ℤ). pos b *ℤ (p +ℤ r) +ℤ (z +ℤ neg_ℤ (det (mat r a (pos s) (pos b))))) dl
      ∙ ap (λ (z : ℤ). pos b *ℤ (p +ℤ r) +ℤ (pos 1 +ℤ neg_ℤ z)) dy
      ∙ +ℤ_idr (pos b *ℤ (p +ℤ r)))

-- ---- the frames about a triangle: l and r those of its left and right chord, m that of its top chord

pub record Triangle (l r m : Mat) : Type 0 where
  pub unit : det m ≡ det l
  pub left : m ⊗ mat_q ≡ l ⊗ mat_s
  pub right : m ⊗ mat_p ≡ neg (r ⊗ mat_s)

pub triangle : (p q r s : ℤ) → Triangle (mat (p +ℤ r) p (q +ℤ s) q) (mat r (p +ℤ r) s (q +ℤ s)) (mat r p s q)
unfolding det adj mat_s mat_q mat_p
triangle p q r s =
    let e = p ∷ q ∷ r ∷ s ∷ [] in
    let m = lit (var 2) (var 0) (var 3) (var 1) in
    let l = lit (var 0 ⊕ var 2) (var 0) (var 1 ⊕ var 3) (var 1) in
    let n = lit (var 2) (var 0 ⊕ var 2) (var 3) (var 1 ⊕ var 3) in
    record {
      unit = ring e (detᵉ m) (detᵉ l) tt;
      left = ring_m e (m ⊛ const mat_q) (l ⊛ const mat_s) tt;
      right = ring_m e (m ⊛ const mat_p) (∼ (n ⊛ const mat_s)) tt;
    }
