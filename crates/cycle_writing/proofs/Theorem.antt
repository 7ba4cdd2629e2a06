-- Reading an export returns the tables.
--     short-S, short-R    the tables of a passport have short cycles
--     exported            the export is right, its cycles make the tables, and the reader says just this
-- Assumes nothing.
use mathlib.Core.Path.{◌≡◌, refl, sym, ap, subst, ◌∙◌}
use mathlib.Core.Logic.{inl, inr}
use mathlib.Core.Bool.{true}
use mathlib.Core.List.{List, []}
use Prim.Native.Nat.{ℕ, suc, ◌<◌}
use native.Mathlib.Omega.{arith}
use lib.ListN.{length}
use borrow.Author.Tests.{le-leb}
use Rattle.basics.specs.Count.{those}
use Rattle.numbering.specs.Table.{image_at}
use Rattle.figures.specs.Cusps.{steps_to, width, iterates}
use Rattle.permutations.specs.Pair.{image}
use Rattle.permutations.specs.Check.{Passport}
use Rattle.cycle_notation.specs.Piece.{cycle_pieces, without_offsets}
use Rattle.cycle_notation.specs.Form.{points_of, Disjoint, in_range, Reading, Right}
use Rattle.cycle_notation.specs.Table.{cycle_table}
use Rattle.cycle_notation.specs.Verdict as verdict
use Rattle.cycle_notation.proofs.Only.{verdict_only}
use Rattle.cycle_writing.specs.Cycles.{begins_cycle, points_from_one, cycles_below, cycles_of}
use Rattle.cycle_writing.specs.Bytes.{export_of}
use Rattle.cycle_writing.specs.Export.{Exported}
use Rattle.cycle_writing.specs.Inner.Short.{ShortTable}
use Rattle.cycle_writing.proofs.Right.{whole_reading}
use Rattle.cycle_writing.proofs.Short.{image_is}
use Rattle.cycle_writing.proofs.Points.{disjoint_below}
use Rattle.cycle_writing.proofs.Tables.{table_again}
use Rattle.cycle_writing.proofs.Most.{export_most}

-- the points behind x in its cycle, counted from 1
abbrev behind_x : List ℕ → ℕ → List ℕ
behind_x t x = points_from_one (iterates t (steps_to x t (length t) (image_at t x)) (image_at t x))

abbrev starts : List ℕ → List ℕ
starts t = those (begins_cycle t) (length t)

export_reading : (s r : List ℕ) → Reading true (without_offsets (cycle_pieces (export_of s r))) (length s) (cycles_of s) (cycles_of r)
unfolding cycle_pieces export_of cycles_below width iterates
export_reading s r = whole_reading (length s) (λ (x : ℕ). suc x) (λ (x : ℕ). suc x) (behind_x s) (behind_x r) (starts s) (starts r)

-- the table as a map that moves nothing outside, and as one that takes what is outside to 0
module _ (t : List ℕ) (low : (x : ℕ) → x < length t → image t x < length t) where
  low_at_lem : (x : ℕ) → x < length t → image_at t x < length t
  low_at_lem x l = subst (λ (y : ℕ). y < length t) (image_is t x l) (low x l)

  once_at : (x : ℕ) → x < length t → image t (image t x) ≡ image_at t (image_at t x)
  once_at x l = image_is t (image t x) (low x l) ∙ ap (image_at t) (image_is t x l)

  twice_at : (x : ℕ) → x < length t → image t (image t (image t x)) ≡ image_at t (image_at t (image_at t x))
  twice_at x l = once_at (image t x) (low x l) ∙ ap (λ (y : ℕ). image_at t (image_at t y)) (image_is t x l)

module _ (s r : List ℕ) (p : Passport s r) where
  pub short_S : ShortTable s
  short_S = record { most = p.most; low = low_at_lem s p.points_S; short = λ x l. inl (sym (once_at s p.points_S x l) ∙ p.twice x l) }

  pub short_R : ShortTable r
  short_R = record {
    most = omega (arith, p.most, p.even);
    low = low_at_lem r p.points_R;
    short = λ x l. inr (sym (twice_at r p.points_R x l) ∙ p.thrice x l);
  }

  index_in : in_range (length s) ≡ true
  index_in = rw (le-leb 1 (length s) p.some, le-leb (length s) 3066 p.most)

  export_right : Right (without_offsets (cycle_pieces (export_of s r))) (length s) (cycles_of s) (cycles_of r)
  export_right = record {
    semi = true;
    reading = export_reading s r;
    index = index_in;
    points_S = disjoint_below s short_S (length s) (omega arith);
    points_R = subst (λ (n : ℕ). Disjoint n [] (points_of (cycles_of r))) p.even (disjoint_below r short_R (length r) (omega arith));
  }

  pub exported : Exported s r (export_of s r)
  exported = record {
    passport = p;
    text = refl;
    most = export_most s r short_S short_R;
    right = export_right;
    S_table = table_again s short_S;
    R_table = subst (λ (n : ℕ). cycle_table n (cycles_of r) ≡ r) p.even (table_again r short_R);
    reads_back = sym (verdict_only (export_of s r) (verdict.reads (record { index = length s; of_s = cycles_of s; of_r = cycles_of r }))
        (verdict.right (record { index = length s; of_s = cycles_of s; of_r = cycles_of r }) export_right));
  }
