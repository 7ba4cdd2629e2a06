-- Right cosets by small numbers modulo n, and what is computed of them.
--
--   matrix_of x           the matrix of the residues
--   ResiduesOf n x        they are below n
--   ProductWith n g x r   r is the product of x with g modulo n
--   negated n c           -c modulo n
--   First n c d           the row (c d) isn't behind (-c -d)
--   TurnsRow n c d b      b tells whether (c d) isn't before (-c -d), where they differ
--   SignedOf n x r        r is x or -x, the one with the first bottom row
--   FirstRow n x          the bottom row of x is below n and isn't behind its negative
--   SignedRow n c d r     r is the row (c d) or (-c -d), the first one, with zeros above it
--   SmallOf x             its numbers are at most 1,000
--   PointOf n x           x is an entry of Γ0: with g the greatest common divisor of c and n and s c = g modulo n, a is
--                         n / g and b is d s modulo n / g
--   EntryOf f n x         x is an entry of the family: for Γ0 that, for Γ1 a first row with zeros above it, for Γ
--                         residues with the first bottom row
--   Represents f n x m    the entry x is one of the matrix m, modulo n: for Γ0 its bottom row is that of m, for Γ1 that
--                         of m or -m, for Γ x is m or -m
--   Stands f n x m        x is an entry of the unit m
--   first_of, second_of     the pair of numbers that tells cosets of the family apart; for Γ a row goes by 64 a + b
--   row_code f x           the number of that pair
--   SameKey f x y         the numbers that tell cosets apart are equal
--   multiplier_of f n     the multiplier of the buckets
--   ImageBy f n g x r     for each matrix that x stands for, r stands for its product with g
use Rattle.std.specs.Prelude.{◌≡◌, ◌⊎◌, Bool, true, false, ℕ, ◌+◌, ◌*◌, ◌-◌, ◌%◌, ◌≤◌, ◌<◌, pos, ◌-ℤ◌}
use Rattle.matrix.specs.Matrix.{Mat, mat, ◌⊗◌, neg}
use Rattle.right_cosets.specs.Condition.{Unit}
use Rattle.congruence.specs.Congruence.{Multiple, Modulo}
use Rattle.congruence.specs.declared.Family.{Family}
use Rattle.congruence.specs.declared.Family.TheVariants as family
use Rattle.congruence.specs.declared.modular.Common.{Common}
use Rattle.congruence.specs.Inner.Common.{CommonOf}
use Rattle.congruence_tables.specs.declared.residues.Residues.{Residues}

abbrev pub matrix_of : Residues → Mat
matrix_of x = mat (pos x.a) (pos x.b) (pos x.c) (pos x.d)

pub record ResiduesOf (n : ℕ) (x : Residues) : Type 0 where
  pub a_low : x.a < n
  pub b_low : x.b < n
  pub c_low : x.c < n
  pub d_low : x.d < n

pub record ProductWith (n : ℕ) (g : Mat) (x r : Residues) : Type 0 where
  pub low : ResiduesOf n r
  pub is : Modulo n (matrix_of r) (matrix_of x ⊗ g)

-- ---- signs

abbrev pub negated : ℕ → ℕ → ℕ
negated n c = (n - c) % n

abbrev pub negated_all : ℕ → Residues → Residues
negated_all n x = record { a = negated n x.a; b = negated n x.b; c = negated n x.c; d = negated n x.d }

pub record First (n c d : ℕ) : Type 0 where
  pub first : c ≤ negated n c
  pub second : c ≡ negated n c → d ≤ negated n d

pub record Last (n c d : ℕ) : Type 0 where
  pub first : negated n c ≤ c
  pub second : c ≡ negated n c → negated n d ≤ d

pub record TurnsRow (n c d : ℕ) (b : Bool) : Type 0 where
  pub yes : b ≡ true → Last n c d
  pub no : b ≡ false → First n c d

pub record SignedOf (n : ℕ) (x r : Residues) : Type 0 where
  pub low : ResiduesOf n r
  pub first : First n r.c r.d
  pub is : (r ≡ x) ⊎ (r ≡ negated_all n x)

-- ---- entries

pub record FirstRow (n : ℕ) (x : Residues) : Type 0 where
  pub c_low : x.c < n
  pub d_low : x.d < n
  pub first : First n x.c x.d

pub record ZerosAbove (x : Residues) : Type 0 where
  pub a_is : x.a ≡ 0
  pub b_is : x.b ≡ 0

pub record SignedRow (n c d : ℕ) (r : Residues) : Type 0 where
  pub above : ZerosAbove r
  pub row : FirstRow n r
  pub is : ((r.c ≡ c) × (r.d ≡ d)) ⊎ ((r.c ≡ negated n c) × (r.d ≡ negated n d))

pub record RowEntry (n : ℕ) (x : Residues) : Type 0 where
  pub above : ZerosAbove x
  pub row : FirstRow n x

pub record SmallOf (x : Residues) : Type 0 where
  pub a_most : x.a ≤ 1000
  pub b_most : x.b ≤ 1000
  pub c_most : x.c ≤ 1000
  pub d_most : x.d ≤ 1000

pub record PointOf (n : ℕ) (x : Residues) : Type 0 where
  pub c_low : x.c < n
  pub d_low : x.d < n
  pub by : Common
  pub common : CommonOf n x.c by
  pub a_is : x.a ≡ by.h
  pub b_is : x.b ≡ x.d * by.s % by.h

pub record MatrixOf (n : ℕ) (x : Residues) : Type 0 where
  pub low : ResiduesOf n x
  pub first : First n x.c x.d

abbrev pub EntryOf : Family → ℕ → Residues → Type 0
EntryOf family.Gamma0 n x = PointOf n x
EntryOf family.Gamma1 n x = RowEntry n x
EntryOf family.Gamma n x = MatrixOf n x

pub record RowOf (n : ℕ) (x : Residues) (m : Mat) : Type 0 where
  pub c_is : Multiple n (pos x.c -ℤ m.c)
  pub d_is : Multiple n (pos x.d -ℤ m.d)

abbrev pub UpToSign : ℕ → Residues → Mat → Type 0
UpToSign n x m = Modulo n (matrix_of x) m ⊎ Modulo n (matrix_of x) (neg m)

abbrev pub Represents : Family → ℕ → Residues → Mat → Type 0
Represents family.Gamma0 n x m = RowOf n x m
Represents family.Gamma1 n x m = RowOf n x m ⊎ RowOf n x (neg m)
Represents family.Gamma n x m = UpToSign n x m

pub record Stands (f : Family) (n : ℕ) (x : Residues) (m : Mat) : Type 0 where
  pub unit : Unit m
  pub entry : EntryOf f n x
  pub is : Represents f n x m

abbrev pub first_of : Family → Residues → ℕ
first_of family.Gamma0 x = x.a
first_of family.Gamma1 x = x.c
first_of family.Gamma x = 64 * x.a + x.b

abbrev pub second_of : Family → Residues → ℕ
second_of family.Gamma0 x = x.b
second_of family.Gamma1 x = x.d
second_of family.Gamma x = 64 * x.c + x.d

abbrev pub row_code : Family → Residues → ℕ
row_code f x = first_of f x * 4096 + second_of f x

pub record AllEqual (x y : Residues) : Type 0 where
  pub a_is : x.a ≡ y.a
  pub b_is : x.b ≡ y.b
  pub c_is : x.c ≡ y.c
  pub d_is : x.d ≡ y.d

abbrev pub SameKey : Family → Residues → Residues → Type 0
SameKey family.Gamma0 x y = (x.a ≡ y.a) × (x.b ≡ y.b)
SameKey family.Gamma1 x y = (x.c ≡ y.c) × (x.d ≡ y.d)
SameKey family.Gamma x y = AllEqual x y

abbrev pub multiplier_of : Family → ℕ → ℕ
multiplier_of family.Gamma0 n = 3
multiplier_of family.Gamma1 n = n
multiplier_of family.Gamma n = 3942

pub record ImageBy (f : Family) (n : ℕ) (g : Mat) (x r : Residues) : Type 0 where
  pub entry : EntryOf f n r
  pub is : (m : Mat) → Represents f n x m → Represents f n r (m ⊗ g)
