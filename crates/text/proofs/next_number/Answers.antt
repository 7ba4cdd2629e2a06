-- `text::next_number` meets its contract: where no piece is bad, `next` answers with a number or none. Assumes nothing.
use Rattle.text.proofs.Walks.{sound_next}
use Rattle.text.proofs.next_number.Goals as goal

pub returns : goal.returns
returns c = rw c.unwrap_or.ensures (sound_next c.args.text.now c.args.from c.next.result c.requires.1 c.next.ensures)
