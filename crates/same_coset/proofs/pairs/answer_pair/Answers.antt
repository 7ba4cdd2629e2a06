-- `answer_pair` makes the checks 8 and 9, and then it says yes or no by the places (`found_is`). Assumes nothing.
use Rattle.std.specs.Prelude.{Ok, Err}
use mathlib.Core.Path.{◌≡◌, sym, ◌∙◌, ap, subst}
use mathlib.Core.Bool.{Bool}
use mathlib.Core.List.{List}
use Prim.Native.Nat.{ℕ}
use lib.IntN.{ℤ}
use Rattle.matrix.specs.Matrix.{of_list}
use Rattle.call.specs.Refusal.{◌or_else◌, Checked, Decision}
use Rattle.call.specs.Inner.Fills.{decided}
use Rattle.word.specs.Answer.{four, matrices_check, closes}
use Rattle.word.proofs.Pair.{unit_is}
use Rattle.word.proofs.Order.{passed_small, asked}
use Rattle.word.proofs.Refused.{passed_by}
use Rattle.sheets.proofs.Single.{SmallRefusal, pair_small}
use Rattle.same_coset.specs.Inner.Ready.{pair_shared, LineFits}
use Rattle.same_coset.proofs.Single.{found_is}
use Rattle.same_coset.proofs.Lines.{fits_yes_no, fits_refused}
use borrow.Author.Rules.{rules}
use Rattle.same_coset.proofs.pairs.answer_pair.Goals.{After-pair_check}
use Rattle.same_coset.proofs.pairs.answer_pair.Goals as goal

-- the pair that was read
module _ (j : After-pair_check) where
  abbrev a : List ℤ
  a = j.four_at-a.result

  abbrev b : List ℤ
  b = j.four_at-b.result

  read : (v : ℕ) (t : List ℤ) → pair_shared v t a b ≡ pair_shared v t (four j.args.pair.now 0) (four j.args.pair.now 4)
  read v t =
      ap (λ (x : List ℤ). pair_shared v t x b) j.four_at-a.ensures
      ∙ ap (pair_shared v t (four j.args.pair.now 0)) j.four_at-b.ensures

  -- the answer by the verdict of 8 and 9
  by_verdict : (v : ℕ) (t : List ℤ) (c : Checked) → matrices_check a b ≡ c
      → decided (closes v t (of_list a) (of_list b)) (c or_else (Ok tt)) ≡ pair_shared v t a b
  by_verdict v t c e = ap (λ (x : Checked). decided (closes v t (of_list a) (of_list b)) (x or_else (Ok tt))) (sym e)

pub share-requires : goal.share-requires
share-requires c =
    let a = c.four_at-a.result in
    let b = c.four_at-b.result in
    let p = passed_by a b (sym c.pair_check.ensures ∙ c.in_ok-pair_check.was) in
    let m = passed_small a b p.entries in
    (c.requires.0, record { entries = m.0; unit = unit_is a p.A }, record { entries = m.1; unit = unit_is b p.B })

pub returns-in_err-pair_check : goal.returns-in_err-pair_check
returns-in_err-pair_check c =
    let e : c.from_residual.result ≡ Err c.in_err-pair_check.field-0.0 = search rules in
    let j = (goal.at.returns-in_err-pair_check c).After-pair_check in
    let f = c.in_err-pair_check.field-0.0 in
    let is = sym c.pair_check.ensures ∙ c.in_err-pair_check.was in record {
      pair_shared = λ v t w₀ ok g. e ∙ by_verdict j v t _ is ∙ read j v t;
      line_fits = subst LineFits (sym e) (fits_refused f (subst SmallRefusal is (pair_small (a j) (b j))));
    }

pub returns : goal.returns
returns c =
    let j = (goal.at.returns c).After-pair_check in
    let passing = sym c.pair_check.ensures ∙ c.in_ok-pair_check.was in
    let h = c.share in record {
      pair_shared = (λ v t w₀ ok g. ap {B = Decision} (λ (b : Bool). Ok b)
          (found_is {w = c.args.w.now} (asked (a j) (b j) ok c.requires.0.long (passed_by (a j) (b j) passing)) h.result
          (h.ensures v t w₀ ok g))
          ∙ by_verdict j v t (Ok tt) passing ∙ read j v t);
      line_fits = fits_yes_no h.result;
    }
