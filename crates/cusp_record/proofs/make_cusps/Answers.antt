-- `make_cusps` copies the columns of the record; clearing comes last. Assumes nothing.
use mathlib.Core.Path.{◌∙◌, ap}
use Rattle.call.specs.Space.{zeros}
use Rattle.coset.proofs.Stored.{both_as}
use borrow.Author.Rules.{rules}
use Rattle.cusp_record.proofs.make_cusps.Goals as goal

pub returns : goal.returns
returns c =
    let k = c in
    let m = k in
    let a = m in
    let st = a in
    let f = a.arrange_record-n.ensures in record { fills = both_as _ _ _ _ st.args.cusps.now st.args.steps.now m.copy_columns-made.ensures f.cusps_are f.steps_are f.index; w_after = k.clear.ensures ∙ ap zeros f.same }
