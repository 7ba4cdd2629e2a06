-- The coset tables of an accepted symbol (docs/CONVENTIONS.md, 4).
--
--   step_r v t p        where R leads from the position p: R is S Q⁻¹ S up to sign, and Q⁻¹ is Q twice
--   cosets v t          the positions that stand for the cosets of H, by number: H is 0; then, for each in order, its S
--                       image and next its R image take the next free number if new
--   table_s v t         the images of the numbers under multiplication on the right by S
--   table_r v t         by R
--   table_t v t         by T, which is S first and then R
--   index_of v t         3 (v - 1) and the number of odd sides
--   most_cosets         4,090: no accepted symbol has more (`Meaning`, in Answer.antt)
use Rattle.std.specs.Prelude.{List, ℕ, ◌+◌, ℤ}
use Rattle.basics.specs.Count.{count}
use Rattle.polygon.specs.Cut.{corners, places}
use Rattle.polygon.specs.Step.{odd_at, step_s, turn_q, origin_of}
use Rattle.numbering.specs.Order.{order_of}
use Rattle.numbering.specs.Table.{◌then◌, renamed}

unfoldable pub step_r : ℕ → List ℤ → ℕ → ℕ
step_r v t p = step_s v t (turn_q v (turn_q v (step_s v t p)))

unfoldable pub cosets : ℕ → List ℤ → List ℕ
cosets v t = order_of (step_s v t) (step_r v t) (origin_of v t) (places v)

unfoldable pub table_s : ℕ → List ℤ → List ℕ
table_s v t = renamed (cosets v t) (step_s v t)

unfoldable pub table_r : ℕ → List ℤ → List ℕ
table_r v t = renamed (cosets v t) (step_r v t)

unfoldable pub table_t : ℕ → List ℤ → List ℕ
table_t v t = renamed (cosets v t) (step_s v t then step_r v t)

abbrev pub index_of : ℕ → List ℤ → ℕ
index_of v t = corners v + count (odd_at v t) (v + 1)

abbrev pub most_cosets : ℕ
most_cosets = 4090
