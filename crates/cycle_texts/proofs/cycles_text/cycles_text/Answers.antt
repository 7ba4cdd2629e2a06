-- `cycles_text` meets its contract: each answer has its lines, and tables that come out stand at the front of the lent ones. Assumes nothing.
use mathlib.Core.Path.{◌≡◌, sym, ap, ◌∙◌}
use mathlib.Core.List.{List}
use Prim.Native.Nat.{ℕ}
use native.Mathlib.Omega.{arith}
use lib.ListN.{length, take}
use Rattle.decimal.proofs.Placing.{puts_as}
use Rattle.symbol_texts.proofs.PairLines.{pair_fits}
use Rattle.cycle_reading.specs.Reading.{read_s, read_r}
use Rattle.cycle_texts.specs.Cut.{judged_text}
use Rattle.cycle_texts.proofs.CyclesPrinting.{Made, made_pair, front_of, pair_as, fits_as, lines_by_lem}
use Rattle.cycle_texts.proofs.cycles_text.cycles_text.Goals.{After-read_tables-read, In-Ok, Start}
use Rattle.cycle_texts.proofs.cycles_text.cycles_text.Goals as goal

-- the tables that came out
module _ (k : In-Ok) where
  abbrev called : After-read_tables-read
  called = (goal.at.In-Ok k).After-read_tables-read

  abbrev start : Start
  start = (goal.at.After-read_tables-read called).Start

  abbrev text : List ℕ
  text = judged_text start.args.longer start.args.text.now

  abbrev n : ℕ
  n = k.in-Ok.n

  made : Made text n
  made = made_pair start.args.longer start.args.text.now n (sym called.read_tables-read.ensures.value ∙ k.in-Ok.is)

  abbrev stood_S : List ℕ
  stood_S = called.read_tables-read.new.s

  abbrev stood_R : List ℕ
  stood_R = called.read_tables-read.new.r

  front_S : take n stood_S ≡ read_s text
  front_S = front_of _ n (read_s text) start.args.s.now stood_S made.check made.S_long called.read_tables-read.ensures.cycles_leave.S_left

  front_R : take n stood_R ≡ read_r text
  front_R = front_of _ n (read_r text) start.args.r.now stood_R made.check made.R_long called.read_tables-read.ensures.cycles_leave.R_left

pub slice_bounds-pair_lines-end : goal.slice_bounds-pair_lines-end
slice_bounds-pair_lines-end c =
    let k = c in
    omega (arith, (made (goal.at.slice_bounds-pair_lines-end c).In-Ok).passport.most, (made (goal.at.slice_bounds-pair_lines-end c).In-Ok).S_long, (start (goal.at.slice_bounds-pair_lines-end c).In-Ok).requires.0, k.s-1.given)

pub slice_bounds-pair_lines-end-in-Ok : goal.slice_bounds-pair_lines-end-in-Ok
slice_bounds-pair_lines-end-in-Ok c = let k = c in sym (ap length (front_S (goal.at.slice_bounds-pair_lines-end-in-Ok c).In-Ok) ∙ (made (goal.at.slice_bounds-pair_lines-end-in-Ok c).In-Ok).S_long)

pub slice_bounds-pair_lines-end-in-Ok-2 : goal.slice_bounds-pair_lines-end-in-Ok-2
slice_bounds-pair_lines-end-in-Ok-2 c =
    let k = c in
    omega (arith, (made (goal.at.slice_bounds-pair_lines-end-in-Ok-2 c).In-Ok).passport.most, (made (goal.at.slice_bounds-pair_lines-end-in-Ok-2 c).In-Ok).S_long, (start (goal.at.slice_bounds-pair_lines-end-in-Ok-2 c).In-Ok).requires.1, k.r-1.given)

pub slice_bounds-pair_lines-end-in-Ok-3 : goal.slice_bounds-pair_lines-end-in-Ok-3
slice_bounds-pair_lines-end-in-Ok-3 c = let k = c in sym (ap length (front_R (goal.at.slice_bounds-pair_lines-end-in-Ok-3 c).In-Ok) ∙ (made (goal.at.slice_bounds-pair_lines-end-in-Ok-3 c).In-Ok).R_long)

pub pair_lines-requires : goal.pair_lines-requires
pair_lines-requires c =
    let k = c in
    (fits_as (front_S (goal.at.pair_lines-requires c).In-Ok) (front_R (goal.at.pair_lines-requires c).In-Ok) (pair_fits (read_s (text (goal.at.pair_lines-requires c).In-Ok)) (read_r (text (goal.at.pair_lines-requires c).In-Ok)) (made (goal.at.pair_lines-requires c).In-Ok).passport), (start (goal.at.pair_lines-requires c).In-Ok).requires.2)

pub returns-in-Ok : goal.returns-in-Ok
returns-in-Ok c =
    let k = c in
    puts_as (pair_as (front_S (goal.at.returns-in-Ok c).In-Ok) (front_R (goal.at.returns-in-Ok c).In-Ok)
    ∙ lines_by_lem (start (goal.at.returns-in-Ok c).In-Ok).args.longer (start (goal.at.returns-in-Ok c).In-Ok).args.text.now _ (sym k.in-Ok.is ∙ (called (goal.at.returns-in-Ok c).In-Ok).read_tables-read.ensures.value))
    c.pair_lines.ensures

pub returns-in-Err : goal.returns-in-Err
returns-in-Err c =
    let k = c in
    let m = k in
    let s = m in
    puts_as (lines_by_lem s.args.longer s.args.text.now _ (sym k.in-Err.is ∙ m.read_tables-read.ensures.value))
    c.refusal_line.ensures
