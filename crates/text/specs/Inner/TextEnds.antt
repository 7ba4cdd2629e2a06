-- Where the text of an input ends.
--   TextEnds n buffer end    the text of n bytes at the front of the buffer ends before the offset `end`. A buffer of
--                            fewer than n bytes is all text
use Rattle.std.specs.Prelude.{ℕ, ◌≤◌, ◌≡◌, List, length, take}

pub record TextEnds (n : ℕ) (buffer : List ℕ) (end : ℕ) : Type 0 where
  pub inside : end ≤ length buffer
  pub long : end ≡ length (take end buffer)
  pub same : take end buffer ≡ take n buffer
