-- THE GENUS IS A NUMBER, for tables s and r of S and R: the formula of docs/CONVENTIONS.md, 5, has a solution from 0,
-- so that refusal 18 is never the genus of such tables. The proof is `tables_genus`, in proofs/Genus.antt.
--
--   CosetPair s r      the tables are a transitive pair; S twice moves nothing, and R three times moves nothing
--   HasGenus f         the figure f is a number: it is no refusal
--   GenusFormula s r   12 g = 12 + index - 3 e2 - 4 e3 - 6 cusps for a whole g from 0, of the tables s, r and their
--                      product, the table of T
--   TablesGenus s r    the formula, and that the genus among the figures of the tables is a number
use Rattle.std.specs.Prelude.{◌≡◌, List, ℕ, ◌+◌, ◌*◌, ◌<◌, length, Ok}
use Rattle.numbering.specs.Table.{image_at, ◌then_table◌}
use Rattle.figures.specs.Cusps.{fixed_points, cusps}
use Rattle.figures.specs.FiguresOf.{figures_in}
use Rattle.call.specs.Refusal.{Filled}
use Rattle.figures.specs.RiemannHurwitz.{Transitive}

pub record CosetPair (s r : List ℕ) : Type 0 where
  pub transitive : Transitive s r
  pub twice : (x : ℕ) → x < length s → image_at s (image_at s x) ≡ x
  pub thrice : (x : ℕ) → x < length r → image_at r (image_at r (image_at r x)) ≡ x

pub record GenusFormula (s r : List ℕ) : Type 0 where
  pub genus : ℕ
  pub formula :
      12 * genus + 3 * fixed_points s + 4 * fixed_points r + 6 * length (cusps (s then_table r)) ≡ 12 + length s

pub record HasGenus (f : Filled) : Type 0 where
  pub genus : ℕ
  pub is : f ≡ Ok genus

pub record TablesGenus (s r : List ℕ) : Type 0 where
  pub formula : GenusFormula s r
  pub figure : HasGenus (figures_in (length s) s r (s then_table r)).genus
