-- `read_tables` meets its contract: the answer of `read_cycles` to the part that is judged, cut where the input goes on; it leaves
-- the tables of that part. Assumes nothing.
use mathlib.Core.Path.{◌≡◌, refl, ap, ◌∙◌}
use mathlib.Core.List.{List}
use Prim.Native.Nat.{ℕ}
use lib.ListN.{length}
use Rattle.cycle_texts.specs.Cut.{judged_text}
use Rattle.cycle_texts.specs.CyclesAnswer.{cycles_read}
use Rattle.cycle_texts.specs.Inner.Ends.{JudgedTo, CyclesLeave}
use Rattle.cycle_texts.proofs.Cutting.{read_as_lem, tables_left, answer_whole}
use Rattle.cycle_texts.proofs.CyclesPrinting.{answer_cut}
use Rattle.cycle_texts.proofs.cycles_text.read_tables.Goals.{After-judged_end-end, After-read_cycles-read, Start}
use Rattle.cycle_texts.proofs.cycles_text.read_tables.Goals as goal

-- the answer of `read_cycles`
module _ (m : After-read_cycles-read) where
  abbrev ended : After-judged_end-end
  ended = (goal.at.After-read_cycles-read m).After-judged_end-end

  abbrev begun : Start
  begun = (goal.at.After-judged_end-end ended).Start

  abbrev S' : List ℕ
  S' = m.read_cycles-read.new.s

  abbrev R' : List ℕ
  R' = m.read_cycles-read.new.r

  part : JudgedTo begun.args.longer begun.args.text.now ended.judged_end-end.result
  part = ended.judged_end-end.ensures

  told : m.read_cycles-read.result ≡ cycles_read (judged_text begun.args.longer begun.args.text.now)
  told = read_as_lem _ begun.args.s.now begun.args.r.now S' R' part.same begun.requires.0 begun.requires.1 m.read_cycles-read.ensures

  left : CyclesLeave begun.args.longer begun.args.text.now begun.args.s.now begun.args.r.now S' R'
  left =
      tables_left _ begun.args.s.now begun.args.r.now S' R' part.same begun.requires.0 begun.requires.1 m.read_cycles-read.ensures
      begun.args.longer begun.args.text.now refl

pub slice_bounds-read_cycles-end : goal.slice_bounds-read_cycles-end
slice_bounds-read_cycles-end c = c.judged_end-end.ensures.long

pub returns-then-longer : goal.returns-then-longer
returns-then-longer c =
    let m = c in
    let s = begun (goal.at.returns-then-longer c).After-read_cycles-read in record {
      value = c.cut_answer.ensures
          ∙ answer_cut s.args.longer s.args.text.now (ended (goal.at.returns-then-longer c).After-read_cycles-read).judged_end-end.result m.read_cycles-read.result
          ((part (goal.at.returns-then-longer c).After-read_cycles-read).long ∙ ap length (part (goal.at.returns-then-longer c).After-read_cycles-read).same) (told (goal.at.returns-then-longer c).After-read_cycles-read) c.if-longer.true;
      cycles_leave = left (goal.at.returns-then-longer c).After-read_cycles-read;
    }

pub returns : goal.returns
returns c =
    let m = c in
    let s = begun (goal.at.returns c).After-read_cycles-read in record { value = answer_whole s.args.longer s.args.text.now m.read_cycles-read.result (told (goal.at.returns c).After-read_cycles-read) c.if-longer.false; cycles_leave = left (goal.at.returns c).After-read_cycles-read }
