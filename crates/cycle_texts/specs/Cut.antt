-- What is judged of a text where the input goes on behind it: its whole pieces. A run of digits at its end may go on,
-- so that it says nothing yet; but one that says more than 3,066 is no index and no point, whatever digits follow.
--
--   all_digits t             each byte of t is a digit
--   without_run t, last_run t  t without the run of digits at its end, and that run; it may be empty
--   over_most t              that run says more than 3,066
--   judged_text longer t     the part of t that is judged: all of it where the input ends there (longer is false).
--                            Where the input goes on: all of t where the run at its end says more than 3,066, and
--                            else t without that run
use Rattle.std.specs.Prelude.{Bool, true, ◌&&◌, List, [], ◌∷◌, ℕ, ltb}
use Rattle.basics.specs.Choice.{pick}
use Rattle.cycle_notation.specs.Piece.{digit_byte, run_value}

unfoldable pub all_digits : List ℕ → Bool
all_digits [] = true
all_digits (b ∷ t) = digit_byte b && all_digits t

unfoldable pub without_run : List ℕ → List ℕ
without_run [] = []
without_run (b ∷ t) = pick (all_digits (b ∷ t)) [] (b ∷ without_run t)

unfoldable pub last_run : List ℕ → List ℕ
last_run [] = []
last_run (b ∷ t) = pick (all_digits (b ∷ t)) (b ∷ t) (last_run t)

abbrev pub over_most : List ℕ → Bool
over_most t = ltb 3066 (run_value 0 (last_run t))

unfoldable pub judged_text : Bool → List ℕ → List ℕ
judged_text longer t = pick longer (pick (over_most t) t (without_run t)) t
