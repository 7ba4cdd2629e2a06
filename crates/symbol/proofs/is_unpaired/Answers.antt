-- `is_unpaired` tells whether side i fails check 6: even and odd sides pass, a free one fails where its label is not counted just twice
-- (`unpaired_free`), and what is no pairing fails. Assumes nothing.
use mathlib.Core.Path.{◌≡◌, sym, ◌∙◌, ap}
use mathlib.Core.Bool.{not}
use Prim.Native.Nat.{ℕ}
use lib.Dec.{eqb}
use borrow.Author.Rules.{rules}
use Rattle.matrix.specs.Matrix.{nth}
use Rattle.symbol.specs.Table.{pairing_of}
use Rattle.symbol.specs.declared.Pairing.TheVariants.{Free}
use Rattle.symbol.proofs.Marking.{unpaired_free}
use Rattle.symbol.proofs.is_unpaired.Goals as goal

pub returns-in-Free : goal.returns-in-Free
returns-in-Free c =
    let e : pairing_of c.args.v (nth c.args.p.now c.args.i) ≡ Free c.in-Free.l = search rules in
    ap (λ (d : ℕ). not (eqb d 2)) c.counted.ensures
    ∙ sym (unpaired_free c.args.v c.args.p.now c.args.i c.in-Free.l c.args.marks.now e c.requires.3)
