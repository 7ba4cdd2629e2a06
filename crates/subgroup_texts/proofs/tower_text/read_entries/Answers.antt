-- `read_entries` meets its contract: there is no number, or the first one is negative, or all are handed on. Assumes
-- nothing.
use mathlib.Core.Path.{◌≡◌, refl, sym, ap, ◌∙◌}
use native.Mathlib.Omega.{arith}
use lib.IntN.{ℤ, pos}
use lib.Signed.{lt_z}
use lib.ListN.{length}
use mir.Syntax.{w64}
use mir.Val.{to_z, of_z}
use mir.Facts.{to_z-of_z}
use Rattle.text.specs.Inner.Inside.{left_by}
use Rattle.text.proofs.Walks.{walked_start, walked_sound}
use Rattle.subgroup_texts.proofs.TowerReadings.{by_none, by_negative, by_number}
use Rattle.subgroup_texts.proofs.tower_text.read_entries.Goals.{In-Some}
use Rattle.subgroup_texts.proofs.tower_text.read_entries.Goals as goal

-- the test of the first number
read : (k : In-Some) → lt_z (to_z w64 (of_z w64 k.in-Some.entries.value)) (pos 0) ≡ lt_z k.in-Some.entries.value (pos 0)
read k = ap (λ (z : ℤ). lt_z z (pos 0)) (to_z-of_z {w = w64} {z = k.in-Some.entries.value} (record { sfits = omega arith }))

pub next_number-requires : goal.next_number-requires
next_number-requires c = let w = walked_start c.args.text.now in (w.inside, walked_sound w c.requires.0)

pub returns-in_default : goal.returns-in_default
unfolding left_by
returns-in_default c = let t = c.args.text.now in (by_none t (length t) c.in_default.ensures, refl)

pub returns-then-entries-lt0 : goal.returns-then-entries-lt0
unfolding left_by
returns-then-entries-lt0 c = let t = c.args.text.now in (
  by_negative t (length t) c.requires.0 c.in-Some.ensures
      (sym (read (goal.at.returns-then-entries-lt0 c).In-Some) ∙ c.if-entries-lt0.true),
  refl,
)

pub fill-requires : goal.fill-requires
fill-requires c = (c.requires.0, omega (arith, c.requires.1), c.requires.2)

pub returns : goal.returns
unfolding left_by
returns c = let t = c.args.text.now in (
  by_number t (length t) c.requires.0 c.in-Some.ensures
      (sym (read (goal.at.returns c).In-Some) ∙ c.if-entries-lt0.false) c.args.count c.requires.1,
  c.fill.ensures,
)
