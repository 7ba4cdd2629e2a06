-- What the images by S and R and the entry of the identity need, by the family.
-- Assumes nothing.
use mathlib.Core.Path.{◌≡◌, sym, ◌∙◌, ap, subst}
use mathlib.Core.Logic.{inl}
use mathlib.Core.List.{List}
use Prim.Native.Nat.{ℕ, ◌+◌, ◌-◌, ◌%◌, ◌≤◌, ◌<◌}
use native.Mathlib.Omega.{arith}
use native.Mathlib.Nat.{mod-lt, mod-eq_of_lt}
use lib.ListN.{length}
use lib.IntN.{pos, ◌-ℤ◌}
use Rattle.matrix.specs.Matrix.{𝟙, mat_s, mat_r}
use Rattle.matrix.proofs.Matrix.{det_𝟙}
use Rattle.call.specs.Space.{work_length}
use Rattle.congruence.specs.Congruence.{Multiple, Modulo}
use Rattle.congruence.specs.declared.Family.{Family}
use Rattle.congruence.specs.declared.Family.TheVariants as family
use Rattle.congruence.proofs.Multiple.{mult_as, mult_zero}
use Rattle.congruence.proofs.Sign.{mod_mult}
use Rattle.congruence.specs.Inner.Common.{Modulus}
use Rattle.congruence_tables.specs.declared.residues.Residues.{Residues}
use Rattle.congruence_tables.specs.Inner.Residues.{matrix_of, ResiduesOf, negated, SignedOf, SignedRow, FirstRow, RowEntry, PointOf, MatrixOf}
use Rattle.congruence_tables.specs.Inner.Residues.{EntryOf, RowOf, Stands, ImageBy}
use Rattle.congruence_tables.proofs.Images.{image_point_s, image_point_r, image_row_s, image_row_r, row_signed, signed_stands}
use Rattle.congruence_tables.specs.Inner.Held.{ColumnsFor, Points, PointAt, TakesImage}

-- ---- images

module _ {f : Family} {n : ℕ} {w : List ℕ} {x : Residues} (a : TakesImage f n w x) where
  pub point_of : f ≡ family.Gamma0 → PointOf n x
  point_of e = subst (λ (z : Family). EntryOf z n x) e a.entry

  pub row_of : f ≡ family.Gamma1 → FirstRow n x
  row_of e = first_row (subst (λ (z : Family). EntryOf z n x) e a.entry)
    where
      first_row : RowEntry n x → FirstRow n x
      first_row h = h.row

  pub residues_2 : f ≡ family.Gamma → ResiduesOf n x
  residues_2 e = low_of (subst (λ (z : Family). EntryOf z n x) e a.entry)
    where
      low_of : MatrixOf n x → ResiduesOf n x
      low_of h = h.low

  module _ (e : f ≡ family.Gamma0) where
    pub points_S : {d : ℕ} → d ≡ negated n x.c → Points n w x.d d
    points_S i = record {
      modulus = a.modulus;
      long = a.long;
      c_low = (point_of e).d_low;
      d_low = rw i (mod-lt (n - x.c) a.modulus.some);
      columns = subst (λ (z : Family). ColumnsFor z n w) e a.columns;
    }

    pub points_R : {d : ℕ} → d ≡ (x.d + (n - x.c)) % n → Points n w x.d d
    points_R i = record {
      modulus = a.modulus;
      long = a.long;
      c_low = (point_of e).d_low;
      d_low = rw i (mod-lt (x.d + (n - x.c)) a.modulus.some);
      columns = subst (λ (z : Family). ColumnsFor z n w) e a.columns;
    }

    pub image_S : {d : ℕ} {r : Residues} → d ≡ negated n x.c → PointAt n x.d d r → ImageBy f n mat_s x r
    image_S {d} {r} i p = image_point_s n x r (omega (arith, (point_of e).c_low)) p.c_is p.point e (p.d_is ∙ i)

    pub image_R : {d : ℕ} {r : Residues} → d ≡ (x.d + (n - x.c)) % n → PointAt n x.d d r → ImageBy f n mat_r x r
    image_R {d} {r} i p = image_point_r n x r (omega (arith, (point_of e).c_low)) p.c_is p.point e (p.d_is ∙ i)

  module _ (e : f ≡ family.Gamma1) where
    pub rows_S : {d : ℕ} → d ≡ negated n x.c → Modulus n × (x.d < n) × (d < n)
    rows_S i = (a.modulus, (row_of e).d_low, rw i (mod-lt (n - x.c) a.modulus.some))

    pub rows_R : {d : ℕ} → d ≡ (x.d + (n - x.c)) % n → Modulus n × (x.d < n) × (d < n)
    rows_R i = (a.modulus, (row_of e).d_low, rw i (mod-lt (x.d + (n - x.c)) a.modulus.some))

    pub row_S : {d : ℕ} {r : Residues} → d ≡ negated n x.c → SignedRow n x.d d r → ImageBy f n mat_s x r
    row_S {d} {r} i s =
        image_row_s n x r (omega (arith, (row_of e).c_low)) (omega (arith, (row_of e).d_low)) (let h = (rows_S i).2 in omega arith) s e i

    pub row_R : {d : ℕ} {r : Residues} → d ≡ (x.d + (n - x.c)) % n → SignedRow n x.d d r → ImageBy f n mat_r x r
    row_R {d} {r} i s =
        image_row_r n x r (omega (arith, (row_of e).c_low)) (omega (arith, (row_of e).d_low)) (let h = (rows_R i).2 in omega arith) s e i

-- ---- the identity

abbrev one : ℕ → Residues
one n = record { a = 1 % n; b = 0; c = 0; d = 1 % n }

module _ (n : ℕ) (a : Modulus n) where
  pub one_residues : ResiduesOf n (one n)
  one_residues = record { a_low = mod-lt 1 a.some; b_low = a.some; c_low = a.some; d_low = mod-lt 1 a.some }

  pub one_low : 1 % n < n
  one_low = mod-lt 1 a.some

  one_rest : Multiple n (pos (1 % n) -ℤ pos 1)
  one_rest = mod_mult n (1 % n) 1 (mod-eq_of_lt (mod-lt 1 a.some))

  one_is : Modulo n (matrix_of (one n)) 𝟙
  unfolding 𝟙
  one_is = record { a_is = one_rest; b_is = mult_zero; c_is = mult_zero; d_is = one_rest }

  pub one_points : {f : Family} → f ≡ family.Gamma0 → (w : List ℕ) → work_length ≤ length w → ColumnsFor f n w → Points n w 0 (1 % n)
  one_points e w l c = record {
    modulus = a;
    long = l;
    c_low = a.some;
    d_low = mod-lt 1 a.some;
    columns = subst (λ (z : Family). ColumnsFor z n w) e c;
  }

  row_is : (r : Residues) → r.c ≡ 0 → r.d ≡ 1 % n → RowOf n r 𝟙
  unfolding 𝟙
  row_is r ec ed = record {
    c_is = mult_as (ap (λ (z : ℕ). pos z -ℤ pos 0) (sym ec)) mult_zero;
    d_is = mult_as (ap (λ (z : ℕ). pos z -ℤ pos 1) (sym ed)) one_rest;
  }

  module _ (r : Residues) {f : Family} where
    pub identity_0 : f ≡ family.Gamma0 → PointAt n 0 (1 % n) r → Stands f n r 𝟙
    identity_0 e p = rw e (record { unit = det_𝟙; entry = p.point; is = row_is r p.c_is p.d_is })

    pub identity_1 : f ≡ family.Gamma1 → SignedRow n 0 (1 % n) r → Stands f n r 𝟙
    unfolding 𝟙
    identity_1 e s = rw e (record {
      unit = det_𝟙;
      entry = record { above = s.above; row = s.row };
      is = row_signed n (omega arith) (let h = mod-lt 1 a.some in omega arith) s 𝟙 mult_zero one_rest;
    })

    pub identity_2 : f ≡ family.Gamma → SignedOf n (one n) r → Stands f n r 𝟙
    identity_2 e s = rw e (record {
      unit = det_𝟙;
      entry = record { low = s.low; first = s.first };
      is = signed_stands n (one n) r one_residues s 𝟙 (inl one_is);
    })
