-- `put_refusal` puts the two numbers of a refusal, which fit (`row_as`). Assumes nothing.
use mathlib.Core.Path.{ap, ◌∙◌}
use Prim.Native.Nat.{ℕ}
use lib.IntN.{pos}
use Rattle.matrix.proofs.Bounds.{kept}
use Rattle.sheets.proofs.Rows.{row_as}
use Rattle.sheets.proofs.put_refusal.Goals as goal

pub returns : goal.returns
returns c =
    let p = c.signed-2 in
    let n = c.signed in
    let s = c.args in
    c.put_two.ensures ∙ row_as s.i s.lines.now (kept n.result n.type_inv ∙ n.ensures ∙ ap (λ (k : ℕ). pos k) c.number.ensures)
    (kept p.result p.type_inv ∙ p.ensures ∙ ap (λ (k : ℕ). pos k) c.place.ensures)
