-- Where the part of a text that is judged ends, and the answer to it by its number.
--
--   RunBegins t e        the run of digits at the end of t begins at the offset e
--   JudgedTo longer t e  the part of t that is judged ends before the offset e
--   cut_refusal end f    the refusal of an input that goes on, by that of the part that is judged, f, which ends before
--                        `end`: 12 stays, and 27 with a place inside that part; any other is 27 with the place 65,536
--   cut_answer end a     the answer to such an input: the same, and 27 with that place where there are tables
--   CyclesLeave ..       what is left in the tables of S and R, s and r before and s' and r' after
use Rattle.std.specs.Prelude.{◌≡◌, Bool, List, ℕ, ◌≤◌, ltb, length, take, Ok, Err}
use Rattle.basics.specs.Choice.{pick}
use Rattle.call.specs.Refusal.{Filled}
use Rattle.call.specs.declared.refusal.Refusal.TheVariants.{PointCount, BadCycles}
use Rattle.call.specs.declared.refusal.Refusal.{Refusal}
use Rattle.call.specs.Call.{if_accepted, at_front}
use Rattle.text.specs.Reading.{text_most}
use Rattle.cycle_reading.specs.Reading.{cycles_check, read_s, read_r}
use Rattle.cycle_texts.specs.Cut.{without_run, judged_text}

pub record RunBegins (t : List ℕ) (e : ℕ) : Type 0 where
  pub inside : e ≤ length t
  pub whole : without_run t ≡ take e t

pub record JudgedTo (longer : Bool) (t : List ℕ) (e : ℕ) : Type 0 where
  pub inside : e ≤ length t
  pub long : e ≡ length (take e t)
  pub same : take e t ≡ judged_text longer t

abbrev pub cut_refusal : ℕ → Refusal → Refusal
cut_refusal end PointCount = PointCount
cut_refusal end (BadCycles p) = pick (ltb p end) (BadCycles p) (BadCycles text_most)
cut_refusal end f = BadCycles text_most

abbrev pub cut_answer : ℕ → Filled → Filled
cut_answer end (Ok n) = Err (BadCycles text_most)
cut_answer end (Err f) = Err (cut_refusal end f)

pub record CyclesLeave (longer : Bool) (text s r s' r' : List ℕ) : Type 0 where
  pub S_left : s' ≡ if_accepted (cycles_check (judged_text longer text)) (at_front (read_s (judged_text longer text)) s) s
  pub R_left : r' ≡ if_accepted (cycles_check (judged_text longer text)) (at_front (read_r (judged_text longer text)) r) r
