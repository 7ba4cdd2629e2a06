-- The lent work space.
--
--   work_length     its length in 16-bit numbers, named once for all calls
--   zeros n         n zeros: what a work space of length n holds after a call that got past its length check
--   entries off n w     the table of n entries at off
use Rattle.std.specs.Prelude.{List, ℕ, replicate, take, drop}

abbrev pub work_length : ℕ
work_length = 32768

unfoldable pub zeros : ℕ → List ℕ
zeros n = replicate n 0

abbrev pub entries : (off n : ℕ) → List ℕ → List ℕ
entries off n w = take n (drop off w)
