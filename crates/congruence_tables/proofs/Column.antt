-- Laws of the columns: they are made for c and -c at once, from both ends to the middle.
-- Why for -c: with s c = g modulo n, (-s) (-c) is g too, and what divides n and c divides n - c.
-- Assumes nothing.
use mathlib.Core.Path.{◌≡◌, refl, sym, ◌∙◌, ap}
use mathlib.Core.Logic.{◌≢◌}
use mathlib.Core.List.{List, [], ◌∷◌}
use Prim.Native.Nat.{ℕ, zero, suc, ◌+◌, ◌*◌, ◌-◌, ◌%◌, ◌≤◌, ◌<◌, ◌∣◌}
use native.Mathlib.Omega.{arith}
use native.Mathlib.Decide.{dec_lt, ℕ_discrete}
use native.Mathlib.Nat.{mul-le-mul}
use lib.IntN.{pos, neg_ℤ, ◌+ℤ◌, ◌-ℤ◌}
use lib.ListN.{length, get_or, set, length-set}
use lib.Seq.{get_or-set_same, get_or-set_other}
use Rattle.matrix.proofs.Ring.{var, ◌⊕◌, ◌⊙◌, ⊖◌, ring}
use Rattle.call.specs.Space.{work_length}
use Rattle.congruence.specs.Congruence.{Multiple}
use Rattle.congruence.proofs.Multiple.{mult_as, mult_self, mult-+, mult-*, mult_neg}
use Rattle.congruence.proofs.Factor.{dvd_mult, mult_dvd}
use Rattle.congruence.specs.declared.modular.Common.{Common}
use Rattle.congruence.specs.Inner.Common.{Modulus, CommonOf}
use Rattle.congruence_tables.specs.Inner.Held.{PART, MULTIPLIER, ColumnAt, with_column, ColumnsMade, Points, PointAt}

-- ---- the column of -c

whole : (n c e : ℕ) → e + c ≡ n → Multiple n (pos e +ℤ pos c)
whole n c e i = mult_as (ap pos (sym i)) mult_self

divides_other : (g n c e : ℕ) → e + c ≡ n → g ∣ n → g ∣ c → g ∣ e
divides_other g n c e i h k = mult_dvd g e (mult_as
    (ap (λ (z : ℕ). pos z -ℤ pos c) (sym i) ∙ ring (pos e ∷ pos c ∷ []) (var 0 ⊕ var 1 ⊕ ⊖ var 1) (var 0) tt)
    (mult-+ (dvd_mult h) (mult_neg (dvd_mult k))))

opposite_multiplier : (n c e s t g : ℕ) → e + c ≡ n → t + s ≡ n → Multiple n (pos (s * c) -ℤ pos g) → Multiple n (pos (t * e) -ℤ pos g)
opposite_multiplier n c e s t g i j h = mult_as
    (ring (pos c ∷ pos e ∷ pos s ∷ pos t ∷ pos g ∷ [])
    (var 3 ⊙ (var 1 ⊕ var 0) ⊕ (⊖ var 0 ⊙ (var 3 ⊕ var 2) ⊕ (var 2 ⊙ var 0 ⊕ ⊖ var 4))) (var 3 ⊙ var 1 ⊕ ⊖ var 4) tt)
    (mult-+ (mult-* (pos t) (whole n c e i)) (mult-+ (mult-* (neg_ℤ (pos c)) (whole n s t j)) h))

opposite_common : (n c e : ℕ) (r : Common) → e + c ≡ n → CommonOf n c r → CommonOf n e (record { g = r.g; s = n - r.s; h = r.h })
opposite_common n c e r i h = record {
  some = h.some;
  low = omega arith;
  part = h.part;
  divides_n = h.divides_n;
  divides_c = divides_other r.g n c e i h.divides_n h.divides_c;
  is = opposite_multiplier n c e r.s (n - r.s) r.g i (omega (arith, h.low)) h.is;
}

-- ---- a column put in

module _ (w : List ℕ) (c h s : ℕ) (long : work_length ≤ length w) (room : c ≤ 1000) where
  pub put_length : length (with_column w c h s) ≡ length w
  put_length = simp length-set

  pub put_other : (p : ℕ) → p ≢ PART + c → p ≢ MULTIPLIER + c → get_or (with_column w c h s) p 0 ≡ get_or w p 0
  put_other p a b = simp get_or-set_other

  put_part : get_or (with_column w c h s) (PART + c) 0 ≡ h
  put_part =
      get_or-set_other (set w (PART + c) h) (MULTIPLIER + c) (PART + c) s 0 (λ e. omega arith) ∙ get_or-set_same w (PART + c) h 0 (omega arith)

  put_multiplier : get_or (with_column w c h s) (MULTIPLIER + c) 0 ≡ s
  put_multiplier = get_or-set_same (set w (PART + c) h) (MULTIPLIER + c) s 0 (omega (arith, length-set w (PART + c) h))

  pub put_same : (n : ℕ) (r : Common) → CommonOf n c r → h ≡ r.h → s ≡ r.s → ColumnAt n (with_column w c h s) c
  put_same n r common eh es = record { by = r; common = common; part_is = put_part ∙ eh; multiplier_is = put_multiplier ∙ es }

  pub put_old : (n j : ℕ) → j ≤ 1000 → j ≢ c → ColumnAt n w j → ColumnAt n (with_column w c h s) j
  put_old n j l ne a = record {
    by = a.by;
    common = a.common;
    part_is = put_other (PART + j) (λ e. ne (omega arith)) (λ e. omega arith) ∙ a.part_is;
    multiplier_is = put_other (MULTIPLIER + j) (λ e. omega arith) (λ e. ne (omega arith)) ∙ a.multiplier_is;
  }

-- ---- the loop of `columns`

-- those of the numbers before c and of their negatives are made
pub record ColumnsTo (n : ℕ) (w₀ w : List ℕ) (c : ℕ) : Type 0 where
  pub modulus : Modulus n
  pub long : work_length ≤ length w
  pub same : length w ≡ length w₀
  pub below : (p : ℕ) → p < PART → get_or w p 0 ≡ get_or w₀ p 0
  pub front : (j : ℕ) → j < n → j < c → ColumnAt n w j
  pub back : (j : ℕ) → j < n → n < j + c → ColumnAt n w j

pub columns_none : (n : ℕ) (w : List ℕ) → Modulus n → work_length ≤ length w → ColumnsTo n w w 0
columns_none n w m l = record {
  modulus = m;
  long = l;
  same = refl;
  below = λ p h. refl;
  front = λ j h k. let no : ⊥ = omega arith in absurd no;
  back = λ j h k. let no : ⊥ = omega arith in absurd no;
}

module _ {n : ℕ} {w₀ w : List ℕ} {c : ℕ} (z : ColumnsTo n w₀ w c) (low : c + c ≤ n) (r : Common) (common : CommonOf n c r) where
  abbrev w1 : List ℕ
  w1 = with_column w c r.h r.s

  abbrev w2 : List ℕ
  w2 = with_column w1 (n - c) r.h (n - r.s)

  c_low : c ≤ 1000
  c_low = omega (arith, z.modulus.most)

  e_low : n - c ≤ 1000
  e_low = omega (arith, z.modulus.most)

  pub column_long : work_length ≤ length w1
  column_long = omega (arith, put_length w c r.h r.s z.long c_low, z.long)

  made : (j : ℕ) → j < n → (j ≢ c → j ≢ n - c → ColumnAt n w j) → ColumnAt n w2 j
  made j l old =
      let most = z.modulus.most in
      elim (ℕ_discrete j (n - c)) [
        | yes e ↦ rw e (put_same w1 (n - c) r.h (n - r.s) column_long e_low n (record { g = r.g; s = n - r.s; h = r.h })
            (opposite_common n c (n - c) r (omega arith) common) refl refl)
        | no e ↦ put_old w1 (n - c) r.h (n - r.s) column_long e_low n j (omega arith) e (elim (ℕ_discrete j c) [
          | yes d ↦ rw d (put_same w c r.h r.s z.long c_low n r common refl refl)
          | no d ↦ put_old w c r.h r.s z.long c_low n j (omega arith) d (old d e)
        ])
      ]

  pub columns_more : ColumnsTo n w₀ w2 (c + 1)
  columns_more = record {
    modulus = z.modulus;
    long = omega (arith, put_length w1 (n - c) r.h (n - r.s) column_long e_low, column_long);
    same = put_length w1 (n - c) r.h (n - r.s) column_long e_low ∙ put_length w c r.h r.s z.long c_low ∙ z.same;
    below = λ p h. put_other w1 (n - c) r.h (n - r.s) column_long e_low p (λ e. omega arith) (λ e. omega arith)
        ∙ put_other w c r.h r.s z.long c_low p (λ e. omega arith) (λ e. omega arith) ∙ z.below p h;
    front = λ j l k. made j l (λ d e. z.front j l (omega arith));
    back = λ j l k. made j l (λ d e. z.back j l (omega arith));
  }

  part_low : (h g n : ℕ) → 0 < g → h * g ≡ n → h ≤ n
  part_low h zero n k e = let no : ⊥ = omega arith in absurd no
  part_low h (suc g) n k e = omega arith

  h_low : r.h ≤ 1000
  h_low = omega (arith, part_low r.h r.g n common.some common.part, z.modulus.most)

  pub puts_first : (work_length ≤ length w) × (c ≤ 1000) × (r.h ≤ 1000) × (r.s ≤ 1000)
  puts_first = (z.long, c_low, h_low, omega (arith, common.low, z.modulus.most))

  pub puts_second : {v : List ℕ} → v ≡ w1 → (work_length ≤ length v) × (n - c ≤ 1000) × (r.h ≤ 1000) × (n - r.s ≤ 1000)
  puts_second e = (rw e column_long, e_low, h_low, omega (arith, z.modulus.most))

  pub columns_next : {v v' : List ℕ} → v ≡ w1 → v' ≡ with_column v (n - c) r.h (n - r.s) → ColumnsTo n w₀ v' (c + 1)
  columns_next e f = rw (f, e) columns_more

pub columns_all : {n : ℕ} {w₀ w : List ℕ} {c : ℕ} → ColumnsTo n w₀ w c → n < c + c → ColumnsMade n w₀ w
columns_all {n} {w₀} {w} {c} z h = record {
  same = z.same;
  below = z.below;
  columns = λ j l. elim (dec_lt j c) [
    | yes k ↦ z.front j l k
    | no k ↦ z.back j l (omega arith)
  ];
}

-- ---- the entry of a point

part_some : (h g n : ℕ) → h * g ≡ n → 0 < n → 0 < h
part_some zero g n e l = let no : ⊥ = omega arith in absurd no
part_some (suc h) g n e l = omega arith

module _ {n : ℕ} {w : List ℕ} {c d : ℕ} (a : Points n w c d) where
  abbrev col : ColumnAt n w c
  col = a.columns c a.c_low

  pub point_some : {h : ℕ} → h ≡ get_or w (PART + c) 0 → 0 < h
  point_some e =
      let s = part_some col.by.h col.by.g n col.common.part a.modulus.some in
      omega (arith, col.part_is)

  pub point_product : {s : ℕ} → s ≡ get_or w (MULTIPLIER + c) 0 → d * s ≤ 1000000
  point_product {s} e =
      let most = a.modulus.most in
      let d_most : d ≤ 1000 = omega (arith, a.d_low) in
      let s-most : s ≤ 1000 = omega (arith, col.multiplier_is, col.common.low) in
      mul-le-mul d_most s-most

  pub point_at_lem : {h s : ℕ} → h ≡ get_or w (PART + c) 0 → s ≡ get_or w (MULTIPLIER + c) 0 → PointAt n c d (record { a = h; b = d * s % h; c = c; d = d })
  point_at_lem {h} {s} e f =
      let eh : h ≡ col.by.h = e ∙ col.part_is in
      let es : s ≡ col.by.s = f ∙ col.multiplier_is in
      record {
        point = record {
          c_low = a.c_low;
          d_low = a.d_low;
          by = col.by;
          common = col.common;
          a_is = eh;
          b_is = ap (λ (z : ℕ). d * z % h) es ∙ ap (λ (z : ℕ). d * col.by.s % z) eh;
        };
        c_is = refl;
        d_is = refl;
      }
