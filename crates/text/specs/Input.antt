-- An answer to an input, in bytes.
--
--   Prints bytes e out out'   the bytes stand at the front of out' and end before the offset e; behind them stands what
--                             stood there in `out`
--   AnswersInput bytes_of Means buffer e out out' input
--                             where the input was read: its text is the n bytes at the front of the buffer, all of it
--                             where it has fewer, and `longer` says whether the input goes on behind them; the bytes
--                             for this text are printed, and they mean what they should. Where a read failed, nothing
--                             is written
use Rattle.std.specs.Prelude.{ℕ, ◌≤◌, ◌≡◌, Bool, List, ◌++◌, length, take, drop}
use Rattle.text.specs.declared.input.Input.{Input}
use Rattle.text.specs.declared.input.Input.TheVariants as input

pub record Prints (bytes : List ℕ) (e : ℕ) (out out' : List ℕ) : Type 0 where
  pub end_is : e ≡ length bytes
  pub inside : e ≤ length out'
  pub left : out' ≡ bytes ++ drop e out

pub data AnswersInput (bytes_of : Bool → List ℕ → List ℕ) (Means : Bool → List ℕ → List ℕ → Type 0) (buffer : List ℕ)
    (e : ℕ) (out out' : List ℕ) : Input → Type 0 where
  was_read : (n : ℕ) (longer : Bool) → Prints (bytes_of longer (take n buffer)) e out out'
      → Means longer (take n buffer) (bytes_of longer (take n buffer))
      → AnswersInput bytes_of Means buffer e out out' (input.Read n longer)
  not_read : e ≡ 0 → out' ≡ out → AnswersInput bytes_of Means buffer e out out' input.Failed
