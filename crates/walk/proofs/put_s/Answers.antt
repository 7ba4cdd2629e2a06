-- `put_s` puts the letter that the table of S has (`put_of`). Assumes nothing.
use Rattle.walk.proofs.Letters.{put_of}
use Rattle.walk.proofs.put_s.Goals as goal

pub returns : goal.returns
returns c = let l = c.letter-z in put_of l.result (record { sfits = l.type_inv }) l.ensures c.put.ensures
