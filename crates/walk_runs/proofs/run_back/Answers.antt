-- `run_back` follows the round of S p backward; both ways the same number of letters is written (`back_ran`). Assumes nothing.
use mathlib.Core.Path.{refl}
use native.Mathlib.Omega.{arith}
use Rattle.matrix.specs.Words.{S}
use Rattle.coset.proofs.Positions.{positions}
use Rattle.walk_runs.proofs.Tallying.{led_low, back_enough, back_ran}
use Rattle.walk_runs.proofs.run_back.Goals as goal

pub overflow_add-result : goal.overflow_add-result
overflow_add-result c =
    let f = c in
    let s = f in
    let ok = s.requires.0.tables.symbol in
    let b = f.follow_back-s in
    let x = c.letters_of_s-out in
    omega (arith, led_low ok s.args.u s.args.k b.result b.ensures, s.requires.4, x.ensures, (positions ok).polygon.short S s.args.p)

pub overflow_sub-result : goal.overflow_sub-result
overflow_sub-result c =
    let f = c in
    let s = f in
    let b = f.follow_back-s in
    let x = c.letters_of_s-out in
    let y = c.letters_of_s-twice in
    back_enough s.requires.0.tables.symbol s.args.p s.args.u s.args.k b.result s.requires.3.is b.ensures x.result y.result
    x.ensures y.ensures

pub returns : goal.returns
returns c =
    let f = c in
    let s = f in
    let b = f.follow_back-s in
    let x = c.letters_of_s-out in
    let y = c.letters_of_s-twice in
    back_ran s.requires.0.tables.symbol s.args.p s.args.u s.args.k b.result s.requires.3.is b.ensures x.result y.result
    x.ensures y.ensures _ c.next.ensures refl
