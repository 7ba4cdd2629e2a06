-- `beyond` reads the table of other sides (`flip_read`). Assumes nothing.
use borrow.Author.Rules.{rules}
use mathlib.Core.Path.{◌∙◌}
use Rattle.polygon.proofs.Stepping.{flip_read}
use Rattle.containment.proofs.following.beyond.Goals as goal

pub returns : goal.returns
returns c =
    let s = c in
    c.index.ensures ∙ flip_read s.args.u.now s.args.n s.args.w.now s.requires.0 s.args.p s.requires.1
