use native.Mathlib.Omega.{arith}
use mathlib.Core.Path.{◌≡◌, refl, ◌∙◌}
use Prim.Native.Nat.{◌-◌, ◌≤◌}
use lib.ListN.{length}
use Rattle.coset.specs.Inner.Steps.{StepsReady}
use Rattle.coset.proofs.Noted.{prepared_none, prepared_all}
use borrow.Author.Rules.{rules}
use Rattle.coset.proofs.steps.prepare.Goals as goal

pub loop-p-init : goal.loop-p-init
loop-p-init c =
    (prepared_none c.requires, search rules, refl)

pub note_place-requires : goal.note_place-requires
note_place-requires c =
    (c.loop-p.invariant.0, c.loop-p-test.true)

pub loop-p-preserved : goal.loop-p-preserved
loop-p-preserved c = (
  c.note_place.ensures.0,
  omega arith,
  c.note_place.ensures.1
      ∙ c.loop-p.invariant.2,
)

pub returns : goal.returns
returns c =
    let l = c in
    record { step_tables = prepared_all l.loop-p.p l.loop-p.invariant.0 (omega (arith, l.loop-p.invariant.1, c.loop-p-test.false)); w_len_unchanged = l.loop-p.invariant.2 }
