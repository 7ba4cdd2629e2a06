-- `export_line`: an export ends well within the slice (`made_line`), and a line end follows it; a refusal leaves the slice as it was. Assumes nothing.
use mathlib.Core.List.{List}
use native.Mathlib.Omega.{arith}
use Prim.Native.Nat.{ℕ}
use Rattle.decimal.proofs.Placing.{puts_as, puts_then}
use Rattle.cycle_texts.proofs.ToCyclesPrinting.{MadeLine, made_line, refused_line, puts_from}
use Rattle.cycle_texts.proofs.to_cycles_text.export_line.Goals.{After-write_cycles-made, In-Ok, Start}
use Rattle.cycle_texts.proofs.to_cycles_text.export_line.Goals as goal

module _ (d : After-write_cycles-made) where
  abbrev start : Start
  start = (goal.at.After-write_cycles-made d).Start

  abbrev S : List ℕ
  S = start.args.s.now

  abbrev R : List ℕ
  R = start.args.r.now

  abbrev out₀ : List ℕ
  out₀ = start.args.out.now

  abbrev out₁ : List ℕ
  out₁ = d.write_cycles-made.new.out

-- where an export was made
module _ (k : In-Ok) where
  abbrev called : After-write_cycles-made
  called = (goal.at.In-Ok k).After-write_cycles-made

  abbrev n : ℕ
  n = k.in-Ok.n

  there : MadeLine (S called) (R called) n (out₀ called) (out₁ called)
  there = made_line (S called) (R called) (out₀ called) (out₁ called) called.write_cycles-made.ensures n k.in-Ok.is

pub put-requires : goal.put-requires
put-requires c =
    let k = c in
    omega (arith, (there (goal.at.put-requires c).In-Ok).most, (start (called (goal.at.put-requires c).In-Ok)).requires, c.out-1.given)

pub returns-in-Ok : goal.returns-in-Ok
returns-in-Ok c =
    let k = c in
    puts_as (there (goal.at.returns-in-Ok c).In-Ok).line (puts_then (there (goal.at.returns-in-Ok c).In-Ok).puts c.put.ensures (omega arith))

pub returns-in-Err : goal.returns-in-Err
returns-in-Err c =
    let k = c in
    let d = k in
    let l = refused_line (S (goal.at.returns-in-Err c).After-write_cycles-made) (R (goal.at.returns-in-Err c).After-write_cycles-made) (out₀ (goal.at.returns-in-Err c).After-write_cycles-made) (out₁ (goal.at.returns-in-Err c).After-write_cycles-made) d.write_cycles-made.ensures k.in-Err.refusal k.in-Err.is (start (goal.at.returns-in-Err c).After-write_cycles-made).requires in
    puts_as l.line (puts_from l.same c.refusal_line.ensures)
