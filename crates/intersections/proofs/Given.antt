-- What is given: the table of T is made of those of S and R (`composes`, `composed-…`), and 24 goes before the result spaces (`given_large`, `given_few`).
-- Assumes nothing.
use Rattle.std.specs.Prelude.{Ok, Err}
use mathlib.Core.Path.{◌≡◌, ◌∙◌, ap}
use mathlib.Core.Logic.{inl}
use mathlib.Core.List.{List}
use Prim.Native.Nat.{ℕ, ◌≤◌, ◌<◌}
use native.Mathlib.Omega.{arith}
use lib.ListN.{length}
use borrow.Author.Tests.{lt-ltb, le-ltb}
use Rattle.call.specs.declared.refusal.Refusal.TheVariants.{LargeIntersection}
use Rattle.call.specs.Space.{entries}
use Rattle.numbering.specs.Table.{◌then_table◌}
use Rattle.numbering.specs.Inner.Space.{S_TABLE, R_TABLE, T_TABLE, put_to}
use Rattle.numbering.specs.Inner.Marks.{Composes}
use Rattle.numbering.proofs.Space.{entries_length, put_length, put_entries, put_entries_other}
use Rattle.numbering.proofs.Table.{then_length}
use Rattle.intersections.specs.Answer.{too_many}
use Rattle.intersections.specs.Inner.Pairs.{GiveTables}

pub given_large : (n : ℕ) → 3066 < n → too_many n ≡ Err LargeIntersection
given_large n h = rw (lt-ltb 3066 n h)

pub given_few : (n : ℕ) → n ≤ 3066 → too_many n ≡ Ok tt
given_few n h = rw (le-ltb 3066 n h)

module _ {w : List ℕ} {n : ℕ} (g : GiveTables w n) (few : n ≤ 3066) where
  pub composes : Composes S_TABLE R_TABLE T_TABLE n n w
  composes = record {
    long = g.long;
    fits_a = omega arith;
    fits_b = omega arith;
    fits_to = omega arith;
    apart_a = inl (inl (omega arith));
    apart_b = inl (omega arith);
    low = g.low few;
  }

  abbrev T_is : List ℕ
  T_is = entries S_TABLE n w then_table entries R_TABLE n w

  long_S : length (entries S_TABLE n w) ≡ n
  long_S = entries_length S_TABLE n w (omega (arith, g.long))

  long_T : length T_is ≡ n
  long_T = then_length (entries S_TABLE n w) (entries R_TABLE n w) ∙ long_S

  module _ {w' : List ℕ} (is : w' ≡ put_to w T_TABLE T_is n) where
    pub composed_length : length w' ≡ length w
    composed_length = ap length is ∙ put_length w T_TABLE T_is n (omega (arith, g.long)) (omega (arith, long_T))

    pub composed_S : entries S_TABLE n w' ≡ entries S_TABLE n w
    composed_S =
        ap (entries S_TABLE n) is ∙ put_entries_other w T_TABLE T_is n (omega (arith, g.long)) (omega (arith, long_T)) S_TABLE n (inl (omega arith))
        (omega (arith, g.long))

    pub composed_R : entries R_TABLE n w' ≡ entries R_TABLE n w
    composed_R =
        ap (entries R_TABLE n) is ∙ put_entries_other w T_TABLE T_is n (omega (arith, g.long)) (omega (arith, long_T)) R_TABLE n (inl (omega arith))
        (omega (arith, g.long))

    pub composed_T : entries T_TABLE n w' ≡ T_is
    composed_T = ap (entries T_TABLE n) is ∙ put_entries w T_TABLE T_is n long_T (omega (arith, g.long))
