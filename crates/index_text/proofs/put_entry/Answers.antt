-- `index_text::put_entry` meets its contract: four spaces, the index and the end of the line, one behind the other. Assumes nothing.
use native.Mathlib.Omega.{arith}
use Rattle.index_text.proofs.Entering.{entry_put}
use Rattle.index_text.proofs.put_entry.Goals as goal

pub returns : goal.returns
returns c =
    let third = c.put.ensures in
    let m = c in
    let second = m.put-second.ensures in
    let index = m.index_of_gamma0.ensures in
    let k = m in
    let first = k.put-first.ensures in
    let s = k in (
      entry_put s.args.n index.value first second.puts third (omega (arith, s.requires.1)) (omega (arith, s.requires.1, first.end_is)),
      omega (arith, first.end_is, second.within, third.end_is),
    )
