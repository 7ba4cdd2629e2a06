use mathlib.Core.Path.{◌≡◌, refl, sym, ◌∙◌, ap, subst}
use Prim.Native.Nat.{ℕ, ◌+◌, ◌-◌, ◌*◌}
use native.Mathlib.Nat.{add-sub_cancel_left}
use native.Mathlib.Numerals.{add-one}
use native.Mathlib.Omega.{arith}
use lib.ListN.{length, take, drop}
use Rattle.word.specs.Answer.{four}
use Rattle.sheets.specs.Sheet.{pairs_in}
use Rattle.sheets.specs.Inner.Pairs.{Fitting}
use Rattle.sheets.proofs.Single.{pair_fits}
use Rattle.sheets.proofs.Lines.{Going, going_none, going_more}
use Rattle.sheets.proofs.answer_pairs.Goals.{After-answer_pair-answer}
use Rattle.sheets.proofs.answer_pairs.Goals as goal

pub loop-i-init : goal.loop-i-init
loop-i-init c = (going_none _ _ _ _ _ _, refl, refl, c.requires.3)

-- the line of an answer fits
fits : (a : After-answer_pair-answer) → Fitting a.answer_pair-answer.result
fits a =
    let l = a in
    let st = l in
    let k = 8 * l.loop-i.i in
    let part = take (k + 8 - k) (drop k st.args.p.now) in
    let same : length l.loop-i.out ≡ length st.args.out.now = l.loop-i.invariant.2 in
    subst Fitting (sym a.answer_pair-answer.ensures.fills.answer)
    (pair_fits st.requires.0.prepared.tables.symbol (four part 0) (four part 4) (length l.loop-i.out) l.loop-i.next
    (omega (arith, same, st.well_formed.1.1.1.1.1.1.1.0)))

pub write_line-requires : goal.write_line-requires
write_line-requires c =
    let l = c in
    let st = l in (
      omega (arith, c.loop-i-test.true, l.loop-i.invariant.1, st.requires.2),
      fits (goal.at.write_line-requires c).After-answer_pair-answer,
    )

pub word_end-next-requires : goal.word_end-next-requires
word_end-next-requires c = fits (goal.at.word_end-next-requires c).After-answer_pair-answer

pub loop-i-preserved : goal.loop-i-preserved
loop-i-preserved c =
    let a = c in
    let l = a in
    let st = l in
    let ready = st.requires.0.prepared.tables in
    let k = 8 * l.loop-i.i in
    let p = st.args.p.now in (
      going_more ready.symbol ready.long l.loop-i.invariant.0 _ (ap (λ (j : ℕ). take j (drop k p)) (add-sub_cancel_left k 8)) a.answer_pair-answer.result _ _
          c.word_end-next.result a.answer_pair-answer.ensures.fills c.write_line.ensures c.word_end-next.ensures
          (l.loop-i.i + 1) (add-one l.loop-i.i),
      c.write_line.auto.lines ∙ l.loop-i.invariant.1,
      a.answer_pair-answer.auto.out ∙ l.loop-i.invariant.2,
      a.answer_pair-answer.ensures.rounds,
    )

pub shape_of-r : goal.shape_of-r
shape_of-r c = c.loop-i.invariant.3.listed.long ∙ sym c.requires.3.listed.long

pub returns : goal.returns
returns c =
    let l = c in
    let st = l in
    let end : l.loop-i.i ≡ pairs_in st.args.p.now = omega (arith, c.loop-i.auto.i-end, c.loop-i-test.false) in
    let z = subst (λ (j : ℕ). Going st.args.v st.args.t.now st.args.p.now st.args.w.now st.args.lines.now st.args.out.now j
    l.loop-i.lines
    l.loop-i.out l.loop-i.next) end l.loop-i.invariant.0 in
    record { lines_after = z.table; out_after = z.space }
