-- The images of entries by S and R: the bottom row (c d) becomes (d -c) and (d d-c), and the residues of m g are those of x g up to sign.
-- Assumes nothing.
use mathlib.Core.Path.{◌≡◌, refl, sym, ◌∙◌, ap, subst}
use mathlib.Core.Logic.{◌⊎◌, inl, inr}
use mathlib.Core.List.{[], ◌∷◌}
use Prim.Native.Nat.{ℕ, ◌+◌, ◌-◌, ◌%◌, ◌≤◌}
use native.Mathlib.Omega.{arith}
use lib.IntN.{ℤ, pos, negsuc, neg_ℤ, ◌+ℤ◌, ◌-ℤ◌, ◌*ℤ◌}
use Rattle.matrix.specs.Matrix.{Mat, ◌⊗◌, neg, mat_s, mat_t, mat_r}
use Rattle.matrix.proofs.Matrix.{neg_neg, neg-⊗}
use Rattle.matrix.proofs.Ring.{con, var, ◌⊕◌, ◌⊙◌, ⊖◌, ring}
use Rattle.congruence.specs.Congruence.{Multiple, Modulo}
use Rattle.congruence.specs.declared.Family.{Family}
use Rattle.congruence.specs.declared.Family.TheVariants as family
use Rattle.congruence.proofs.Modulo.{mod_product, mod_refl, mod_trans, mod_neg}
use Rattle.congruence.proofs.Multiple.{mult_as, mult-+, mult_neg}
use Rattle.congruence_tables.specs.declared.residues.Residues.{Residues}
use Rattle.congruence_tables.specs.Inner.Residues.{matrix_of, ResiduesOf, ProductWith, negated, negated_all, SignedOf, SignedRow, PointOf, RowEntry}
use Rattle.congruence_tables.specs.Inner.Residues.{RowOf, UpToSign, ImageBy}
use Rattle.congruence_tables.proofs.Products.{opposite_is, less_is}

-- ---- rows

module _ (n : ℕ) (x r : Residues) (low : x.c ≤ n) (ec : r.c ≡ x.d) where
  row_first : (m : Mat) → RowOf n x m → Multiple n (pos r.c -ℤ (m.c *ℤ pos 0 +ℤ m.d *ℤ pos 1))
  row_first m h = mult_as
      (ring (pos x.d ∷ m.c ∷ m.d ∷ []) (var 0 ⊕ ⊖ var 2) (var 0 ⊕ ⊖ (var 1 ⊙ con (pos 0) ⊕ var 2 ⊙ con (pos 1))) tt
      ∙ ap (λ (z : ℕ). pos z -ℤ (m.c *ℤ pos 0 +ℤ m.d *ℤ pos 1)) (sym ec)) h.d_is

  row_s : r.d ≡ negated n x.c → (m : Mat) → RowOf n x m → RowOf n r (m ⊗ mat_s)
  unfolding ◌⊗◌ mat_s
  row_s ed m h = record {
    c_is = row_first m h;
    d_is = mult_as
        (ring (pos (negated n x.c) ∷ pos x.c ∷ m.c ∷ m.d ∷ [])
        (var 0 ⊕ ⊖ ⊖ var 1 ⊕ ⊖ (var 1 ⊕ ⊖ var 2)) (var 0 ⊕ ⊖ (var 2 ⊙ con (negsuc 0) ⊕ var 3 ⊙ con (pos 0))) tt
        ∙ ap (λ (z : ℕ). pos z -ℤ (m.c *ℤ negsuc 0 +ℤ m.d *ℤ pos 0)) (sym ed))
        (mult-+ (opposite_is n x.c low) (mult_neg h.c_is));
  }

  row_r : r.d ≡ (x.d + (n - x.c)) % n → (m : Mat) → RowOf n x m → RowOf n r (m ⊗ mat_r)
  unfolding ◌⊗◌ mat_s mat_t mat_r
  row_r ed m h = record {
    c_is = row_first m h;
    d_is = mult_as
        (ring (pos ((x.d + (n - x.c)) % n) ∷ pos x.c ∷ pos x.d ∷ m.c ∷ m.d ∷ [])
        (var 0 ⊕ ⊖ (var 2 ⊕ ⊖ var 1) ⊕ ((var 2 ⊕ ⊖ var 4) ⊕ ⊖ (var 1 ⊕ ⊖ var 3))) (var 0 ⊕ ⊖ (var 3 ⊙ con (negsuc 0) ⊕ var 4 ⊙ con (pos 1))) tt
        ∙ ap (λ (z : ℕ). pos z -ℤ (m.c *ℤ negsuc 0 +ℤ m.d *ℤ pos 1)) (sym ed))
        (mult-+ (less_is n x.c x.d low) (mult-+ h.d_is (mult_neg h.c_is)));
  }

  pub image_point_s : PointOf n r → {f : Family} → f ≡ family.Gamma0 → r.d ≡ negated n x.c → ImageBy f n mat_s x r
  image_point_s p e ed = rw e (record { entry = p; is = row_s ed })

  pub image_point_r : PointOf n r → {f : Family} → f ≡ family.Gamma0 → r.d ≡ (x.d + (n - x.c)) % n → ImageBy f n mat_r x r
  image_point_r p e ed = rw e (record { entry = p; is = row_r ed })

-- ---- Γ1

-- a row, of the two signs the first
module _ (n : ℕ) {c d : ℕ} (c_low : c ≤ n) (d_low : d ≤ n) {r : Residues} (s : SignedRow n c d r) where
  turned : (e z : ℕ) (k : ℤ) → e ≤ n → z ≡ negated n e → Multiple n (pos e -ℤ k) → Multiple n (pos z -ℤ neg_ℤ k)
  turned e z k l is h = mult_as
      (ring (pos (negated n e) ∷ pos e ∷ k ∷ []) (var 0 ⊕ ⊖ ⊖ var 1 ⊕ ⊖ (var 1 ⊕ ⊖ var 2)) (var 0 ⊕ ⊖ ⊖ var 2) tt
      ∙ ap (λ (y : ℕ). pos y -ℤ neg_ℤ k) (sym is))
      (mult-+ (opposite_is n e l) (mult_neg h))

  pub row_signed : (m : Mat) → Multiple n (pos c -ℤ m.c) → Multiple n (pos d -ℤ m.d) → RowOf n r m ⊎ RowOf n r (neg m)
  unfolding neg
  row_signed m h k = go s.is
    where
      go : ((r.c ≡ c) × (r.d ≡ d)) ⊎ ((r.c ≡ negated n c) × (r.d ≡ negated n d)) → RowOf n r m ⊎ RowOf n r (neg m)
      go (inl e) = inl (record {
        c_is = mult_as (ap (λ (z : ℕ). pos z -ℤ m.c) (sym e.0)) h;
        d_is = mult_as (ap (λ (z : ℕ). pos z -ℤ m.d) (sym e.1)) k;
      })
      go (inr e) = inr (record { c_is = turned c r.c m.c c_low e.0 h; d_is = turned d r.d m.d d_low e.1 k })

  pub row_image : (y : Residues) → y.c ≡ c → y.d ≡ d → (m : Mat) → RowOf n y m ⊎ RowOf n y (neg m) → RowOf n r m ⊎ RowOf n r (neg m)
  row_image y ec ed m (inl h) =
      row_signed m (mult_as (ap (λ (z : ℕ). pos z -ℤ m.c) ec) h.c_is) (mult_as (ap (λ (z : ℕ). pos z -ℤ m.d) ed) h.d_is)
  row_image y ec ed m (inr h) = back
      (row_signed (neg m) (mult_as (ap (λ (z : ℕ). pos z -ℤ (neg m).c) ec) h.c_is) (mult_as (ap (λ (z : ℕ). pos z -ℤ (neg m).d) ed) h.d_is))
    where
      back : RowOf n r (neg m) ⊎ RowOf n r (neg (neg m)) → RowOf n r m ⊎ RowOf n r (neg m)
      back (inl z) = inr z
      back (inr z) = inl (rw (neg_neg m) at z)

  pub row_entry : RowEntry n r
  row_entry = record { above = s.above; row = s.row }

-- a step of rows, of either sign
step_sign_lem : (n : ℕ) (x y : Residues) (g : Mat) → ((m : Mat) → RowOf n x m → RowOf n y (m ⊗ g)) → (m : Mat) → RowOf n x m ⊎ RowOf n x (neg m)
    → RowOf n y (m ⊗ g) ⊎ RowOf n y (neg (m ⊗ g))
step_sign_lem n x y g step m (inl h) = inl (step m h)
step_sign_lem n x y g step m (inr h) = inr (rw (neg-⊗ m g) at (step (neg m) h))

module _ (n : ℕ) (x r : Residues) (c_low : x.c ≤ n) (d_low : x.d ≤ n) {e : ℕ} (e_low : e ≤ n) (s : SignedRow n x.d e r) {f : Family}
    (is : f ≡ family.Gamma1) where
  abbrev y : Residues
  y = record { a = 0; b = 0; c = x.d; d = e }

  pub image_row_s : e ≡ negated n x.c → ImageBy f n mat_s x r
  image_row_s ed = rw is (record {
    entry = row_entry n d_low e_low s;
    is = λ m h. row_image n d_low e_low s y refl refl (m ⊗ mat_s) (step_sign_lem n x y mat_s (row_s n x y c_low refl ed) m h);
  })

  pub image_row_r : e ≡ (x.d + (n - x.c)) % n → ImageBy f n mat_r x r
  image_row_r ed = rw is (record {
    entry = row_entry n d_low e_low s;
    is = λ m h. row_image n d_low e_low s y refl refl (m ⊗ mat_r) (step_sign_lem n x y mat_r (row_r n x y c_low refl ed) m h);
  })

-- ---- Γ

negated_is : (n : ℕ) (x : Residues) → ResiduesOf n x → Modulo n (matrix_of (negated_all n x)) (neg (matrix_of x))
unfolding neg
negated_is n x h = record {
  a_is = opposite_is n x.a (omega (arith, h.a_low));
  b_is = opposite_is n x.b (omega (arith, h.b_low));
  c_is = opposite_is n x.c (omega (arith, h.c_low));
  d_is = opposite_is n x.d (omega (arith, h.d_low));
}

turned_sign : (n : ℕ) (x : Residues) → ResiduesOf n x → (m : Mat) → UpToSign n x m → UpToSign n (negated_all n x) m
turned_sign n x low m (inl h) = inr (mod_trans (negated_is n x low) (mod_neg h))
turned_sign n x low m (inr h) = inl (rw (neg_neg m) at (mod_trans (negated_is n x low) (mod_neg h)))

pub signed_stands : (n : ℕ) (x r : Residues) → ResiduesOf n x → SignedOf n x r → (m : Mat) → UpToSign n x m → UpToSign n r m
signed_stands n x r low s m h = go s.is
  where
    go : (r ≡ x) ⊎ (r ≡ negated_all n x) → UpToSign n r m
    go (inl e) = subst (λ (z : Residues). UpToSign n z m) (sym e) h
    go (inr e) = subst (λ (z : Residues). UpToSign n z m) (sym e) (turned_sign n x low m h)

product_sign : (n : ℕ) (g : Mat) (x y : Residues) → ProductWith n g x y → (m : Mat) → UpToSign n x m → UpToSign n y (m ⊗ g)
product_sign n g x y p m (inl h) = inl (mod_trans p.is (mod_product h mod_refl))
product_sign n g x y p m (inr h) = inr (rw (neg-⊗ m g) at (mod_trans p.is (mod_product {m = g} {m' = g} h mod_refl)))

module _ (n : ℕ) (g : Mat) (x y r : Residues) (p : ProductWith n g x y) (s : SignedOf n y r) {f : Family} where
  pub image_2 : f ≡ family.Gamma → ImageBy f n g x r
  image_2 e = rw e (record {
    entry = record { low = s.low; first = s.first };
    is = λ m h. signed_stands n y r p.low s (m ⊗ g) (product_sign n g x y p m h);
  })
