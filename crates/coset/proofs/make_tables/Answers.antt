-- `make_tables` copies what `arrange` left, which are the tables of the definition, as many entries as the index says (`made`, `three_as`);
-- clearing comes last, so zeros stay. Assumes nothing.
use mathlib.Core.Path.{◌∙◌, ap}
use Rattle.call.specs.Space.{zeros}
use Rattle.coset.proofs.Stored.{three_as}
use Rattle.coset.proofs.Answer.{made}
use borrow.Author.Rules.{rules}
use Rattle.coset.proofs.make_tables.Goals as goal

pub returns : goal.returns
returns c =
    let k = c in
    let m = k in
    let a = m in
    let st = a in
    let g = made st.requires.0 a.arrange-n.ensures.0 in record { fills = three_as _ _ _ _ _ _ st.args.s.now st.args.r.now st.args.u.now m.copy_tables-made.ensures g.S_is g.R_is g.T_is g.index; w_after = k.clear.ensures ∙ ap zeros a.arrange-n.ensures.1 }
