-- ENTRIES TELL RIGHT COSETS APART: where x stands for l and y for m, the numbers of x and y are equal exactly when l m⁻¹ meets the condition
-- (`same_meets`, `meets_same`); and they are equal exactly when the pairs have one number (`same_code`, `code_same`).
-- Why, for Γ0: the bottom rows are (c d) and u (c d) modulo n, for some u that has an inverse. So the greatest common divisors g of c and of u c with
-- n are the same, the multipliers s and s' have s = u s' modulo h = n / g, and so d s = u d s' modulo h. For the converse, s c/g and s' c'/g are 1
-- modulo h, so c/g d' = c/g c'/g d' s' = c/g c'/g d s = d c'/g modulo h, and c d' - d c' is a multiple of n.
-- Why, for Γ1 and Γ: the bottom rows or the matrices are equal up to sign, and of the two signs the entry has the first bottom row. Where both
-- signs have the same bottom row, n is 1 or 2, for the determinant is 1, and the matrices are their own negatives.
-- In order: signs; Γ1; Γ; the law; the number of a pair; by the family. The rows of Γ0 are in Rows.antt.
-- Assumes nothing.
use mathlib.Core.Path.{◌≡◌, refl, sym, ◌∙◌, ap, subst}
use mathlib.Core.Logic.{◌⊎◌, inl, inr}
use mathlib.Core.List.{[], ◌∷◌}
use Prim.Native.Nat.{ℕ, ◌+◌, ◌*◌, ◌-◌, ◌%◌, ◌≤◌, ◌<◌}
use native.Mathlib.Omega.{arith}
use native.Mathlib.Nat.{mod-lt}
use lib.IntN.{ℤ, pos, negsuc, neg_ℤ, ◌+ℤ◌, ◌-ℤ◌, ◌*ℤ◌}
use Rattle.matrix.specs.Matrix.{Mat, 𝟙, ◌⊗◌, neg, adj, det}
use Rattle.matrix.proofs.Matrix.{neg_neg, neg-⊗, det_neg, ⊗-idl}
use Rattle.matrix.proofs.Ring.{con, var, ◌⊕◌, ◌⊙◌, ⊖◌, ring}
use Rattle.right_cosets.specs.Condition.{Unit, Condition}
use Rattle.congruence.specs.Congruence.{Multiple, Modulo, Gamma0, Gamma1, Gamma, Meets}
use Rattle.congruence.specs.declared.Family.{Family}
use Rattle.congruence.specs.declared.Family.TheVariants as family
use Rattle.congruence.proofs.Modulo.{mod_product, mod_refl, mod_sym, mod_trans, mod_meets}
use Rattle.congruence.proofs.Multiple.{mult_as, mult_zero, mult-+, mult-*, mult_neg, residue_one}
use Rattle.congruence.proofs.Signed.{gamma1_as}
use Rattle.congruence.proofs.Conditions.{gamma0}
use Rattle.right_cosets.proofs.Transversal.{self, back, flip, unit_over}
use Rattle.congruence.proofs.Theorem.{families}
use Rattle.congruence.proofs.Sign.{gamma1_by}
use Rattle.congruence_tables.specs.declared.residues.Residues.{Residues}
use Rattle.congruence_tables.specs.Inner.Residues.{matrix_of, negated, First, FirstRow, MatrixOf, RowOf, Stands, AllEqual, SameKey}
use Rattle.congruence_tables.specs.Inner.Residues.{first_of, second_of, row_code}
use Rattle.congruence_tables.proofs.Products.{opposite_is}
use Rattle.congruence_tables.proofs.Rows.{Rows, carried_rows, ratio, gamma0_rows, gamma1_rows, row_c, points_cross, points_one}

-- ---- signs

-- of m and -m the one that has P
record SignedAs (f : Family) (n : ℕ) (m : Mat) (P : Mat → Type 0) : Type 0 where
  by : Mat
  unit : Unit by
  is : P by
  to : (k : Mat) → Meets f n (m ⊗ adj k) → Meets f n (by ⊗ adj k)
  from : (k : Mat) → Meets f n (by ⊗ adj k) → Meets f n (m ⊗ adj k)

signed_as : (f : Family) (n : ℕ) (m : Mat) (P : Mat → Type 0) → Unit m → P m ⊎ P (neg m) → SignedAs f n m P
signed_as f n m P u (inl h) = record { by = m; unit = u; is = h; to = λ k i. i; from = λ k i. i }
signed_as f n m P u (inr h) = record {
  by = neg m;
  unit = det_neg m ∙ u;
  is = h;
  to = λ k i. rw (neg-⊗ m (adj k)) ((families f n).sign (m ⊗ adj k) i);
  from = λ k i. rw (neg_neg (m ⊗ adj k)) at ((families f n).sign (neg (m ⊗ adj k)) (rw (neg-⊗ m (adj k)) at i));
}

module _ (f : Family) (n : ℕ) {P Q : Mat → Type 0} {l m : Mat} (p : SignedAs f n l P) (q : SignedAs f n m Q) where
  abbrev c : Condition (Meets f n)
  c = families f n

  both_to : Meets f n (l ⊗ adj m) → Meets f n (p.by ⊗ adj q.by)
  both_to h = flip c q.by p.by (q.to p.by (flip c p.by m (p.to m h)))

  both_from : Meets f n (p.by ⊗ adj q.by) → Meets f n (l ⊗ adj m)
  both_from h = p.from m (flip c m p.by (q.from p.by (flip c p.by q.by h)))

row_of : {n : ℕ} {x : Residues} {m : Mat} → Modulo n (matrix_of x) m → RowOf n x m
row_of h = record { c_is = h.c_is; d_is = h.d_is }

module _ (n : ℕ) (some : 0 < n) where
  equal_of : (p q : ℕ) → p < n → q < n → Multiple n (pos p -ℤ pos 1 *ℤ pos q) → p ≡ q
  equal_of p q h k e = residue_one n p q h k (mult_as (ring (pos p ∷ pos q ∷ []) (var 0 ⊕ ⊖ (con (pos 1) ⊙ var 1)) (var 0 ⊕ ⊖ var 1) tt) e)

  opposite_of : (p q : ℕ) → p < n → q < n → Multiple n (pos p -ℤ negsuc 0 *ℤ pos q) → p ≡ negated n q
  opposite_of p q h k e = residue_one n p (negated n q) h (mod-lt (n - q) some) (mult_as
      (ring (pos p ∷ pos q ∷ pos (negated n q) ∷ []) (var 0 ⊕ ⊖ (con (negsuc 0) ⊙ var 1) ⊕ ⊖ (var 2 ⊕ ⊖ ⊖ var 1)) (var 0 ⊕ ⊖ var 2) tt)
      (mult-+ e (mult_neg (opposite_is n q (omega arith)))))

  turned : (p q : ℕ) → Multiple n (pos p -ℤ negsuc 0 *ℤ pos q) → Multiple n (pos q -ℤ negsuc 0 *ℤ pos p)
  turned p q e = mult_as (ring (pos p ∷ pos q ∷ []) (var 0 ⊕ ⊖ (con (negsuc 0) ⊙ var 1)) (var 1 ⊕ ⊖ (con (negsuc 0) ⊙ var 0)) tt) e

  -- of a row and its negative the first one is only one
  first_one : (c d c' d' : ℕ) → First n c d → First n c' d' → c ≡ negated n c' → d ≡ negated n d' → c' ≡ negated n c → d' ≡ negated n d
      → (c ≡ c') × (d ≡ d')
  first_one c d c' d' f g e i e' i' =
      let a : c ≤ c' = rw e' f.first in
      let b : c' ≤ c = rw e g.first in
      let same : c ≡ c' = omega arith in
      let a2 : d ≤ d' = rw i' (f.second (same ∙ e')) in
      let b2 : d' ≤ d = rw i (g.second (sym same ∙ e)) in
      (same, omega arith)

  rows_one : (x y : Residues) → FirstRow n x → FirstRow n y
      → Rows n (pos 1) (pos y.c) (pos y.d) (pos x.c) (pos x.d) ⊎ Rows n (negsuc 0) (pos y.c) (pos y.d) (pos x.c) (pos x.d)
      → (x.c ≡ y.c) × (x.d ≡ y.d)
  rows_one x y h k (inl r) = (equal_of x.c y.c h.c_low k.c_low r.c_is, equal_of x.d y.d h.d_low k.d_low r.d_is)
  rows_one x y h k (inr r) =
      first_one x.c x.d y.c y.d h.first k.first
      (opposite_of x.c y.c h.c_low k.c_low r.c_is) (opposite_of x.d y.d h.d_low k.d_low r.d_is)
      (opposite_of y.c x.c k.c_low h.c_low (turned x.c y.c r.c_is))
      (opposite_of y.d x.d k.d_low h.d_low (turned x.d y.d r.d_is))

-- ---- Γ1

-- the entry d of l m⁻¹, for equal bottom rows
row_d : (n : ℕ) (x y : Residues) (l m : Mat) → Unit m → RowOf n x l → RowOf n y m → x.c ≡ y.c → x.d ≡ y.d → Multiple n ((l ⊗ adj m).d -ℤ pos 1)
unfolding ◌⊗◌ adj det
row_d n x y l m u h k ec ed =
    let hc : Multiple n (pos y.c -ℤ l.c) = mult_as (ap (λ (z : ℕ). pos z -ℤ l.c) ec) h.c_is in
    let hd : Multiple n (pos y.d -ℤ l.d) = mult_as (ap (λ (z : ℕ). pos z -ℤ l.d) ed) h.d_is in
    mult_as
    (ring (pos y.c ∷ pos y.d ∷ l.c ∷ l.d ∷ m.a ∷ m.b ∷ m.c ∷ m.d ∷ [])
    ((var 5 ⊙ (var 0 ⊕ ⊖ var 2) ⊕ ⊖ var 5 ⊙ (var 0 ⊕ ⊖ var 6)) ⊕ (⊖ var 4 ⊙ (var 1 ⊕ ⊖ var 3) ⊕ var 4 ⊙ (var 1 ⊕ ⊖ var 7)))
    (var 2 ⊙ ⊖ var 5 ⊕ var 3 ⊙ var 4 ⊕ ⊖ (var 4 ⊙ var 7 ⊕ ⊖ (var 5 ⊙ var 6))) tt
    ∙ ap (λ (z : ℤ). l.c *ℤ neg_ℤ m.b +ℤ l.d *ℤ m.a -ℤ z) u)
    (mult-+ (mult-+ (mult-* m.b hc) (mult-* (neg_ℤ m.b) k.c_is)) (mult-+ (mult-* (neg_ℤ m.a) hd) (mult-* m.a k.d_is)))

gamma1_meets : (n : ℕ) (x y : Residues) (l m : Mat) → Unit l → Unit m → RowOf n x l → RowOf n y m → x.c ≡ y.c → x.d ≡ y.d → Gamma1 n (l ⊗ adj m)
gamma1_meets n x y l m ul um h k ec ed =
    let z : Multiple n (pos x.c *ℤ pos y.d -ℤ pos x.d *ℤ pos y.c) = rw (ec, ed) (crossed_same y.c y.d) in
    (gamma1_as (l ⊗ adj m)).0 (gamma1_by n (l ⊗ adj m) (unit_over l m ul um) (row_c n x y l m h k z) (inl (row_d n x y l m um h k ec ed)))
  where
    crossed_same : (c d : ℕ) → Multiple n (pos c *ℤ pos d -ℤ pos d *ℤ pos c)
    crossed_same c d = mult_as (ring (pos c ∷ pos d ∷ []) (con (pos 0)) (var 0 ⊙ var 1 ⊕ ⊖ (var 1 ⊙ var 0)) tt) mult_zero

-- ---- Γ

-- l m⁻¹ in Γ: l is m or -m modulo n
gamma_equal : (n : ℕ) (l m : Mat) → Unit m → Gamma n (l ⊗ adj m) → Modulo n l m ⊎ Modulo n l (neg m)
gamma_equal n l m u (inl h) = inl (rw (back l m u, ⊗-idl m) at (mod_product {m = m} {m' = m} h mod_refl))
gamma_equal n l m u (inr h) = inr (rw (back l m u, neg-⊗ 𝟙 m, ⊗-idl m) at (mod_product {m = m} {m' = m} h mod_refl))

-- where the bottom row is its own negative, two is a multiple of n
two : (n : ℕ) (x : Residues) (m : Mat) → Unit m → RowOf n x m → Multiple n (pos x.c +ℤ pos x.c) → Multiple n (pos x.d +ℤ pos x.d)
    → Multiple n (pos 2)
unfolding det
two n x m u h c d = mult_as
    (ring (pos x.c ∷ pos x.d ∷ m.a ∷ m.b ∷ m.c ∷ m.d ∷ [])
    ((var 2 ⊙ (var 1 ⊕ var 1) ⊕ ⊖ (var 2 ⊕ var 2) ⊙ (var 1 ⊕ ⊖ var 5)) ⊕ (⊖ var 3 ⊙ (var 0 ⊕ var 0) ⊕ (var 3 ⊕ var 3) ⊙ (var 0 ⊕ ⊖ var 4)))
    (con (pos 2) ⊙ (var 2 ⊙ var 5 ⊕ ⊖ (var 3 ⊙ var 4))) tt
    ∙ ap (λ (z : ℤ). pos 2 *ℤ z) u)
    (mult-+ (mult-+ (mult-* m.a d) (mult-* (neg_ℤ (m.a +ℤ m.a)) h.d_is)) (mult-+ (mult-* (neg_ℤ m.b) c) (mult-* (m.b +ℤ m.b) h.c_is)))

matrix_row : {n : ℕ} {x : Residues} → MatrixOf n x → FirstRow n x
matrix_row h = record { c_low = h.low.c_low; d_low = h.low.d_low; first = h.first }

module _ (n : ℕ) (some : 0 < n) (x y : Residues) (p : MatrixOf n x) (q : MatrixOf n y) where
  difference_of : (a b : ℕ) (z w : ℤ) → Multiple n (pos a -ℤ z) → Multiple n (pos b -ℤ w) → Multiple n (z -ℤ w) → Multiple n (pos a -ℤ pos b)
  difference_of a b z w h k e = mult_as
      (ring (pos a ∷ pos b ∷ z ∷ w ∷ []) (var 0 ⊕ ⊖ var 2 ⊕ (⊖ (var 1 ⊕ ⊖ var 3) ⊕ (var 2 ⊕ ⊖ var 3))) (var 0 ⊕ ⊖ var 1) tt)
      (mult-+ h (mult-+ (mult_neg k) e))

  sum_of : (a b : ℕ) (z w : ℤ) → Multiple n (pos a -ℤ z) → Multiple n (pos b -ℤ w) → Multiple n (z -ℤ neg_ℤ w) → Multiple n (pos a -ℤ negsuc 0 *ℤ pos b)
  sum_of a b z w h k e = mult_as
      (ring (pos a ∷ pos b ∷ z ∷ w ∷ []) (var 0 ⊕ ⊖ var 2 ⊕ ((var 1 ⊕ ⊖ var 3) ⊕ (var 2 ⊕ ⊖ ⊖ var 3))) (var 0 ⊕ ⊖ (con (negsuc 0) ⊙ var 1)) tt)
      (mult-+ h (mult-+ k e))

  -- numbers that are opposite modulo n, where two is a multiple of it
  halves : (a b : ℕ) → a < n → b < n → Multiple n (pos 2) → Multiple n (pos a -ℤ negsuc 0 *ℤ pos b) → a ≡ b
  halves a b h k t e = residue_one n a b h k (mult_as
      (ring (pos a ∷ pos b ∷ []) (var 0 ⊕ ⊖ (con (negsuc 0) ⊙ var 1) ⊕ ⊖ var 1 ⊙ con (pos 2)) (var 0 ⊕ ⊖ var 1) tt)
      (mult-+ e (mult-* (neg_ℤ (pos b)) t)))

  doubled : (a b : ℕ) → a ≡ b → Multiple n (pos a -ℤ negsuc 0 *ℤ pos b) → Multiple n (pos b +ℤ pos b)
  doubled a b e h = mult_as
      (ap (λ (z : ℕ). pos z -ℤ negsuc 0 *ℤ pos b) e ∙ ring (pos b ∷ []) (var 0 ⊕ ⊖ (con (negsuc 0) ⊙ var 0)) (var 0 ⊕ var 0) tt) h

  gamma_one : (l m : Mat) → Unit m → Modulo n (matrix_of x) l → Modulo n (matrix_of y) m → Modulo n l m ⊎ Modulo n l (neg m) → AllEqual x y
  unfolding neg
  gamma_one l m u h k (inl e) =
      let hx = p.low in
      let hy = q.low in
      record {
        a_is = residue_one n x.a y.a hx.a_low hy.a_low (difference_of x.a y.a l.a m.a h.a_is k.a_is e.a_is);
        b_is = residue_one n x.b y.b hx.b_low hy.b_low (difference_of x.b y.b l.b m.b h.b_is k.b_is e.b_is);
        c_is = residue_one n x.c y.c hx.c_low hy.c_low (difference_of x.c y.c l.c m.c h.c_is k.c_is e.c_is);
        d_is = residue_one n x.d y.d hx.d_low hy.d_low (difference_of x.d y.d l.d m.d h.d_is k.d_is e.d_is);
      }
  gamma_one l m u h k (inr e) =
      let hx = p.low in
      let hy = q.low in
      let a = sum_of x.a y.a l.a m.a h.a_is k.a_is e.a_is in
      let b = sum_of x.b y.b l.b m.b h.b_is k.b_is e.b_is in
      let c = sum_of x.c y.c l.c m.c h.c_is k.c_is e.c_is in
      let d = sum_of x.d y.d l.d m.d h.d_is k.d_is e.d_is in
      let row = rows_one n some x y (matrix_row p) (matrix_row q) (inr (record { c_is = c; d_is = d })) in
      let t = two n y m u (row_of k) (doubled x.c y.c row.0 c) (doubled x.d y.d row.1 d) in
      record {
        a_is = halves x.a y.a hx.a_low hy.a_low t a;
        b_is = halves x.b y.b hx.b_low hy.b_low t b;
        c_is = row.0;
        d_is = row.1;
      }

-- ---- the law

module _ (n : ℕ) (some : 0 < n) (x y : Residues) (l m : Mat) where
  pub same_meets : (f : Family) → Stands f n x l → Stands f n y m → SameKey f x y → Meets f n (l ⊗ adj m)
  same_meets family.Gamma0 p q e = row_c n x y l m p.is q.is (points_cross n some x y p.entry q.entry e.0 e.1)
  same_meets family.Gamma1 p q e =
      let s = signed_as family.Gamma1 n l (λ (k : Mat). RowOf n x k) p.unit p.is in
      let t = signed_as family.Gamma1 n m (λ (k : Mat). RowOf n y k) q.unit q.is in
      both_from family.Gamma1 n s t (gamma1_meets n x y s.by t.by s.unit t.unit s.is t.is e.0 e.1)
  same_meets family.Gamma p q z =
      let s = signed_as family.Gamma n l (λ (k : Mat). Modulo n (matrix_of x) k) p.unit p.is in
      let t = signed_as family.Gamma n m (λ (k : Mat). Modulo n (matrix_of y) k) q.unit q.is in
      let same : x ≡ y = rw (z.a_is, z.b_is, z.c_is, z.d_is) in
      let h : Modulo n s.by t.by = mod_trans (mod_sym s.is) (subst (λ (v : Residues). Modulo n (matrix_of v) t.by) (sym same) t.is) in
      both_from family.Gamma n s t
      (mod_meets family.Gamma n (s.by ⊗ adj t.by) (t.by ⊗ adj t.by) (mod_product h mod_refl) (self (families family.Gamma n) t.by t.unit))

  pub meets_same : (f : Family) → Stands f n x l → Stands f n y m → Meets f n (l ⊗ adj m) → SameKey f x y
  meets_same family.Gamma0 p q h =
      points_one n some x y p.entry q.entry (ratio l m) (ratio m l)
      (carried_rows (ratio l m) x y l m p.is q.is (gamma0_rows n l m p.unit h))
      (carried_rows (ratio m l) y x m l q.is p.is (gamma0_rows n m l q.unit (flip (gamma0 n) l m h)))
  meets_same family.Gamma1 p q h =
      let s = signed_as family.Gamma1 n l (λ (k : Mat). RowOf n x k) p.unit p.is in
      let t = signed_as family.Gamma1 n m (λ (k : Mat). RowOf n y k) q.unit q.is in
      rows_one n some x y p.entry.row q.entry.row (carry s t (gamma1_rows n s.by t.by t.unit (both_to family.Gamma1 n s t h)))
    where
      carry : (s : SignedAs family.Gamma1 n l (λ (k : Mat). RowOf n x k)) (t : SignedAs family.Gamma1 n m (λ (k : Mat). RowOf n y k))
          → Rows n (pos 1) t.by.c t.by.d s.by.c s.by.d ⊎ Rows n (negsuc 0) t.by.c t.by.d s.by.c s.by.d
          → Rows n (pos 1) (pos y.c) (pos y.d) (pos x.c) (pos x.d) ⊎ Rows n (negsuc 0) (pos y.c) (pos y.d) (pos x.c) (pos x.d)
      carry s t (inl r) = inl (carried_rows (pos 1) y x t.by s.by t.is s.is r)
      carry s t (inr r) = inr (carried_rows (negsuc 0) y x t.by s.by t.is s.is r)
  meets_same family.Gamma p q h =
      let s = signed_as family.Gamma n l (λ (k : Mat). Modulo n (matrix_of x) k) p.unit p.is in
      let t = signed_as family.Gamma n m (λ (k : Mat). Modulo n (matrix_of y) k) q.unit q.is in
      gamma_one n some x y p.entry q.entry s.by t.by t.unit s.is t.is
      (gamma_equal n s.by t.by t.unit (both_to family.Gamma n s t h))

-- ---- the number of a pair

-- second numbers are below 4,096; of Γ the numbers are below 64
pub record BelowSixtyFour (x : Residues) : Type 0 where
  pub b_low : x.b < 64
  pub c_low : x.c < 64
  pub d_low : x.d < 64

abbrev pub LowOf : Family → Residues → Type 0
LowOf family.Gamma0 x = x.b < 4096
LowOf family.Gamma1 x = x.d < 4096
LowOf family.Gamma x = BelowSixtyFour x

pub low_second : (f : Family) (x : Residues) → LowOf f x → second_of f x < 4096
low_second family.Gamma0 x h = h
low_second family.Gamma1 x h = h
low_second family.Gamma x h = omega (arith, h.c_low, h.d_low)

module _ (x y : Residues) where
  pub same_code : (f : Family) → SameKey f x y → row_code f x ≡ row_code f y
  same_code family.Gamma0 e = rw (e.0, e.1)
  same_code family.Gamma1 e = rw (e.0, e.1)
  same_code family.Gamma e = rw (e.a_is, e.b_is, e.c_is, e.d_is)

  pub code_same : (f : Family) → LowOf f x → LowOf f y → row_code f x ≡ row_code f y → SameKey f x y
  code_same family.Gamma0 p q e = (omega arith, omega arith)
  code_same family.Gamma1 p q e = (omega arith, omega arith)
  code_same family.Gamma p q e =
      let b = p.b_low in
      let b' = q.b_low in
      let c = p.c_low in
      let c' = q.c_low in
      let d = p.d_low in
      let d' = q.d_low in
      record { a_is = omega arith; b_is = omega arith; c_is = omega arith; d_is = omega arith }

-- ---- by the family

module _ (x : Residues) {f : Family} (e : f ≡ family.Gamma) where
  pub first_2 : 64 * x.a + x.b ≡ first_of f x
  first_2 = rw e

  pub second_2 : 64 * x.c + x.d ≡ second_of f x
  second_2 = rw e
