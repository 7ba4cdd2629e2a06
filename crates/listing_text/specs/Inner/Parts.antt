-- The slices that a program lends for a listing, and its parts as they lie there.
--   ListingSpaces w table out  the work space, the generator table and the bytes that are written are long enough for
--                              every symbol
--   parts_of f g rows w     the lines of the figures f with the widths in the work space w, of g generators in the rows,
--                          and of the tables of S, R and T in w
use Rattle.std.specs.Prelude.{List, ◌++◌, ℕ, ◌≤◌, ℤ, length}
use Rattle.call.specs.Space.{work_length, entries}
use Rattle.numbering.specs.Inner.Space.{S_TABLE, WIDTHS, R_TABLE, T_TABLE}
use Rattle.figures.specs.declared.FigureRecord.{FigureRecord}
use Rattle.listing_text.specs.Listing.{figure_lines, generator_part, table_lines}

pub record ListingSpaces (w : List ℕ) (table : List ℤ) (out : List ℕ) : Type 0 where
  pub work : work_length ≤ length w
  pub table_long : 5120 ≤ length table
  pub out_long : 212992 ≤ length out

abbrev pub parts_of : FigureRecord → ℕ → List ℤ → List ℕ → List ℕ
parts_of f g rows w =
    let n = f.index in
    figure_lines f (entries WIDTHS f.cusps w)
    ++ generator_part g rows
    ++ table_lines (entries S_TABLE n w) (entries R_TABLE n w) (entries T_TABLE n w)
