-- `answer_pair` makes the checks 8 and 9, and then it answers by the walk. Assumes nothing.
use Rattle.std.specs.Prelude.{Err}
use mathlib.Core.Path.{◌≡◌, refl, sym, ◌∙◌, ap}
use mathlib.Core.List.{List}
use lib.IntN.{ℤ}
use Rattle.call.proofs.Laws.{run_stop, run_pass, fills_as, ran}
use Rattle.matrix.specs.Matrix.{of_list}
use Rattle.word.specs.Answer.{four, matrices_check, closes, found_word}
use Rattle.word.proofs.Pair.{unit_is}
use Rattle.word.proofs.Finding.{walk_run}
use Rattle.word.proofs.Order.{passed_small}
use Rattle.word.proofs.Refused.{passed_by}
use Rattle.sheets.proofs.Single.{pair_as}
use borrow.Author.Rules.{rules}
use Rattle.sheets.proofs.answer_pair.Goals as goal

pub answer_by-requires : goal.answer_by-requires
answer_by-requires c =
    let a = c.four_at-a.result in
    let b = c.four_at-b.result in
    let p = passed_by a b (sym c.pair_check.ensures ∙ c.in_ok-pair_check.was) in
    let m = passed_small a b p.entries in (
      record {
        prepared = c.requires.0.prepared;
        start = c.requires.0.start;
        entries_A = m.0;
        entries_B = m.1;
        unit_A = unit_is a p.A;
        unit_B = unit_is b p.B;
      },
      c.requires.2,
    )

pub returns-in_err-pair_check : goal.returns-in_err-pair_check
returns-in_err-pair_check c =
    let e : c.from_residual.result ≡ Err c.in_err-pair_check.field-0.0 = search rules in
    let v = c.args.v in
    let t = c.args.t.now in
    let A = four c.args.pair.now 0 in
    let B = four c.args.pair.now 4 in
    let a = c.four_at-a.result in
    let out = c.args.out.now in
    let is = ap (λ (x : List ℤ). matrices_check x B) (sym c.four_at-a.ensures) ∙ ap (matrices_check a) (sym c.four_at-b.ensures) in record {
      fills = fills_as
          (run_stop c.in_err-pair_check.field-0.0 (matrices_check A B)
          (walk_run (closes v t (of_list A) (of_list B)) (found_word v t (of_list A) (of_list B)) out out c.args.start)
          (is ∙ sym c.pair_check.ensures ∙ c.in_err-pair_check.was) (refl, tt)) e;
      rounds = c.requires.2;
    }

pub returns : goal.returns
returns c =
    let v = c.args.v in
    let t = c.args.t.now in
    let a = c.four_at-a.result in
    let b = c.four_at-b.result in
    let out = c.args.out.now in
    let g = c.answer_by.ensures.fills in
    let rest = walk_run (closes v t (of_list a) (of_list b)) (found_word v t (of_list a) (of_list b)) out _ c.args.start in record {
      fills = pair_as v t c.four_at-a.ensures c.four_at-b.ensures {out = out} {out' = c.answer_by.new.out}
          (fills_as (run_pass (matrices_check a b) rest (sym c.pair_check.ensures ∙ c.in_ok-pair_check.was) (ran g)) g.answer);
      rounds = c.answer_by.ensures.rounds;
    }
