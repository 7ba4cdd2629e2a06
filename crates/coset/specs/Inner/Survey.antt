-- What `survey` answers and leaves, and the answer of `figures`.
--
--   Surveyed v t w w' f     the figures f of the symbol's tables, and in the work space the tables of S, R and T and
--                           the widths
--   figured_if f c          the answer of `figures`, from the verdict c: the figures f, or the refusal
use Rattle.std.specs.Prelude.{◌≡◌, List, ℕ, ◌≤◌, length, ℤ, Ok, Err}
use Rattle.numbering.specs.Inner.Space.{ROOM, S_TABLE, WIDTHS, R_TABLE, T_TABLE}
use Rattle.call.specs.Space.{entries}
use Rattle.call.specs.Refusal.{Checked, Answer}
use Rattle.figures.specs.declared.FigureRecord.{FigureRecord}
use Rattle.coset.specs.Tables.{table_s, table_r, table_t}
use Rattle.coset.specs.Answer.{widths_of, figures_of}

pub record Surveyed (v : ℕ) (t : List ℤ) (w w' : List ℕ) (f : FigureRecord) : Type 0 where
  pub figures : f ≡ figures_of v t
  pub same : length w' ≡ length w
  pub few : f.index ≤ ROOM
  pub few_cusps : f.cusps ≤ ROOM
  pub S_is : entries S_TABLE f.index w' ≡ table_s v t
  pub R_is : entries R_TABLE f.index w' ≡ table_r v t
  pub T_is : entries T_TABLE f.index w' ≡ table_t v t
  pub widths_are : entries WIDTHS f.cusps w' ≡ widths_of v t

abbrev pub figured_if : FigureRecord → Checked → (Answer FigureRecord)
figured_if f (Ok tt) = Ok f
figured_if f (Err r) = Err r
