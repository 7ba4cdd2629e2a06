-- Texts one after another in one text, each of a format that tells its count.
--
--   cut_behind w n ps  where the pieces ps of a text of n bytes are cut behind w of them: at the piece that follows
--                      these, or at the text's end where none follows, or where no count is wanted
--   first_end f ns n ps     the same behind the first text of the format f, where the text's numbers are ns
--   part_end f t       where the first text of the format f ends in the text t, and the next one begins. Where some
--                      piece of t is no number, it is the end of t, so that whoever reads the first text refuses the
--                      first such piece of all
use Rattle.std.specs.Prelude.{ℕ, List, [], ◌∷◌, ltb, ℤ, length, Option, None, Some}
use Rattle.basics.specs.Choice.{pick}
use Rattle.text.specs.Piece.{Piece, pieces, first_bad, numbers, place_at}
use Rattle.text.specs.Reading.{wanted}
use Rattle.text.specs.declared.Format.{Format}

abbrev pub cut_behind : Option ℕ → ℕ → List Piece → ℕ
cut_behind None n ps = n
cut_behind (Some w) n ps = pick (ltb w (length ps)) (place_at ps w) n

abbrev pub first_end : Format → List ℤ → ℕ → List Piece → ℕ
first_end f [] n ps = n
first_end f (v ∷ ns) n ps = cut_behind (wanted f v) n ps

abbrev pub unless_bad : Option ℕ → (n e : ℕ) → ℕ
unless_bad (Some p) n e = n
unless_bad None n e = e

unfoldable pub part_end : Format → List ℕ → ℕ
part_end f t = unless_bad (first_bad (pieces t)) (length t) (first_end f (numbers (pieces t)) (length t) (pieces t))
