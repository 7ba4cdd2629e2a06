-- Bytes by a text in quotes.
--     ascii t      the bytes of t, one for each of its characters, which are all of ASCII here
use Rattle.std.specs.Prelude.{ℕ, List, [], ◌∷◌}
use Prim.Native.Char.{code}
use Prim.Native.String.{String, [] as end, ◌∷◌ as ◌then◌}

abbrev pub ascii : String → List ℕ
ascii end = []
ascii (c then t) = code c ∷ ascii t
