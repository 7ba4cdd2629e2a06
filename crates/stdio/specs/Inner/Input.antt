-- What the crate `stdio` says of what it read, in this order:
--   Held        what `read_whole` found lies within the buffer, and fills it where the input goes on behind it
--   Further     the same, of n bytes that fill a buffer
-- That these are the bytes of the input is in no contract: none can say what std's `read` reads from the system.
use Rattle.std.specs.Prelude.{ℕ, ◌≤◌, ◌≡◌, true, List, length, take}
use Rattle.text.specs.declared.input.Input.{Input}
use Rattle.text.specs.declared.input.Input.TheVariants as input

-- The second part follows from the first; a slice `&buf[..n]` asks for both. No program makes one: its answer takes the
-- buffer and the `Input`.
abbrev pub Held : Input → List ℕ → Type 0
Held (input.Read n more) xs = (n ≤ length xs) × (n ≡ length (take n xs)) × (more ≡ true → n ≡ length xs)
Held input.Failed xs = Unit {0}

abbrev pub Further : ℕ → Input → Type 0
Further n (input.Read k more) = k ≡ n
Further n input.Failed = Unit {0}
