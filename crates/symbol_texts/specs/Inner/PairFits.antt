-- Pairs of tables that fit a text.
--
--   EachBelow n xs     each entry of the table xs is below n
--   PairFits s r       from 1 to 3,066 points, as many in r as in s, and each entry of both tables is below 3,066
--   PairsReadBack      the text of every such pair is read back as it; proofs/PairReadBack.antt, `pair_read_back`
-- Assumes nothing.
use Rattle.std.specs.Prelude.{◌≡◌, List, ℕ, ◌≤◌, ◌<◌, length, get_or}
use Rattle.symbol_texts.specs.Pair.{pair_text, PairReadBack}

abbrev pub EachBelow : ℕ → List ℕ → Type 0
EachBelow n xs = (i : ℕ) → i < length xs → get_or xs i 0 < n

pub record PairFits (s r : List ℕ) : Type 0 where
  pub some : 1 ≤ length s
  pub most : length s ≤ 3066
  pub even : length r ≡ length s
  pub below_S : EachBelow 3066 s
  pub below_R : EachBelow 3066 r

abbrev pub PairsReadBack : Type 0
PairsReadBack = (s r : List ℕ) → PairFits s r → PairReadBack s r (pair_text s r)
