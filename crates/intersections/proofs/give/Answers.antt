-- `intersections::give` meets its contract: 24 for more than 3,066 pairs, and all is left as it is; else T is made and the three tables are copied.
-- Assumes nothing.
use borrow.Author.Rules.{rules}
use mathlib.Core.Path.{refl}
use native.Mathlib.Omega.{arith}
use Rattle.call.specs.declared.refusal.Refusal.TheVariants.{LargeIntersection}
use Rattle.call.specs.Inner.Fills.{made_if}
use Rattle.call.proofs.Laws.{run_stop, run_pass, fills_as, ran}
use Rattle.coset.proofs.Stored.{three_as}
use Rattle.intersections.specs.Answer.{too_many}
use Rattle.intersections.proofs.Given.{given_large, given_few, composes, composed_length, composed_S, composed_R, composed_T}
use Rattle.intersections.proofs.give.Goals as goal

pub returns-then-n-gt-MOST : goal.returns-then-n-gt-MOST
returns-then-n-gt-MOST c =
    let n = c.args.n in
    record { fills = fills_as {by = made_if n} (run_stop LargeIntersection (too_many n) _ (given_large n (omega arith)) (refl, (refl, (refl, tt)))) refl; w_len_unchanged = refl }

pub compose-requires : goal.compose-requires
compose-requires c =
    composes c.requires (omega arith)

pub returns : goal.returns
returns c =
    let copied = c in
    let composed = copied in
    let st = composed in
    let args = st.args in
    let n = args.n in
    let is = composed.compose.ensures in
    let k = three_as _ _ _ _ _ _ args.s.now args.r.now args.u.now copied.copy_tables.ensures (composed_S st.requires (omega arith) is)
    (composed_R st.requires (omega arith) is) (composed_T st.requires (omega arith) is) refl in
    record { fills = fills_as {by = made_if n} (run_pass (too_many n) _ (given_few n (omega arith)) (ran k)) k.answer; w_len_unchanged = composed_length st.requires (omega arith) is }
