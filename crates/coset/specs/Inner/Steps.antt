-- The steps by S, once for each position, in the work space: where S leads, the letter that it writes with the sign of
-- the step, and where S and then a turn lead.
--
--   NEXT, LETTER       where the tables of S lie
--   FORTH, BACK        where those of S and then Q, of S and then Q⁻¹, which is Q twice
--   block_table b      the table of S and then Q, or Q⁻¹ where b holds
--   turn_by v b p      where Q, or Q⁻¹ where b holds, leads from p
--   letter_in w p      the letter that w holds for p, 0 for none: half of what is stored there, 1024 lower
--   sign_in w p        the sign that w holds for p: plus where what is stored there is odd
--   StepsReady t v w n w holds the polygon's tables, and the steps from the real positions below n: where S leads, its
--                      letter, its sign, where a turn leads then; these keep the equation of the step, sign
--                      included (`crossings`)
--   StepTables t v w   w holds the steps from all positions
--   BuiltSteps t v w x and x is the start
use Rattle.std.specs.Prelude.{◌≡◌, Bool, List, ℕ, ◌+◌, ◌/◌, ◌%◌, ◌≤◌, ◌<◌, eqb, get_or, ℤ, pos, ◌-ℤ◌}
use Rattle.basics.specs.Choice.{pick}
use Rattle.matrix.specs.Words.{S, Q, P, letter}
use Rattle.polygon.specs.Cut.{places}
use Rattle.polygon.specs.Step.{Real, step_s, turn_q, written, start_of}
use Rattle.polygon.specs.Walk.{goes}
use Rattle.polygon.specs.Inner.Tables.{PolygonTables, letters_of}
use Rattle.signs.specs.Step.{step_sign}
use Rattle.coset.specs.Positions.{FrameEquation}

abbrev pub NEXT : ℕ
NEXT = 8192

abbrev pub LETTER : ℕ
LETTER = 12288

abbrev pub FORTH : ℕ
FORTH = 16384

abbrev pub BACK : ℕ
BACK = 20480

abbrev pub block_table : Bool → ℕ
block_table inverse = pick inverse BACK FORTH

abbrev pub turn_by : ℕ → Bool → ℕ → ℕ
turn_by v inverse p = pick inverse (turn_q v (turn_q v p)) (turn_q v p)

abbrev pub letter_in : List ℕ → ℕ → ℤ
letter_in w p = pos (get_or w (LETTER + p) 0 / 2) -ℤ pos 1024

abbrev pub sign_in : List ℕ → ℕ → Bool
sign_in w p = eqb (get_or w (LETTER + p) 0 % 2) 1

pub record StepsReady (t : List ℤ) (v : ℕ) (w : List ℕ) (n : ℕ) : Type 0 where
  pub tables : PolygonTables t v w
  pub steps : (p : ℕ) → p < n → Real v t p → get_or w (NEXT + p) 0 ≡ step_s v t p
  pub codes : (p : ℕ) → p < n → Real v t p → get_or w (LETTER + p) 0 / 2 ≤ 2048
  pub letters : (p : ℕ) → p < n → Real v t p → letters_of (letter_in w p) ≡ written v t S p
  pub signs : (p : ℕ) → p < n → Real v t p → sign_in w p ≡ step_sign v t S p
  pub blocks : (inverse : Bool) (p : ℕ) → p < n → Real v t p
      → get_or w (block_table inverse + p) 0 ≡ goes v t (pick inverse P Q) (step_s v t p)
  pub crossings : (p : ℕ) → p < n → Real v t p
      → FrameEquation v t p (letter S) (sign_in w p) (letters_of (letter_in w p)) (get_or w (NEXT + p) 0)

abbrev pub StepTables : List ℤ → ℕ → List ℕ → Type 0
StepTables t v w = StepsReady t v w (places v)

pub record BuiltSteps (t : List ℤ) (v : ℕ) (w : List ℕ) (x : ℕ) : Type 0 where
  pub prepared : StepTables t v w
  pub start : x ≡ start_of v t
