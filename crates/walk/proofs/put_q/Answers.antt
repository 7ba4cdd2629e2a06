-- `put_q` puts the letter that a turn writes (`put_of`). Assumes nothing.
use Rattle.walk.proofs.Letters.{put_of}
use Rattle.walk.proofs.put_q.Goals as goal

pub returns : goal.returns
returns c = let l = c.letter_q-z in put_of l.result (record { sfits = l.type_inv }) l.ensures.result_value c.put.ensures
