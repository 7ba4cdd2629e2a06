-- What the code of a check may assume, since the checks before it passed.
--
--   SmallSide s         no entry of the side is larger than 10⁹ in size
use Rattle.matrix.specs.Bounds.{Small}
use Rattle.symbol.specs.Table.{frame}
use Rattle.symbol.specs.declared.Side.{Side}

abbrev pub SmallSide : Side → Type 0
SmallSide s = Small 1000000000 (frame s)
