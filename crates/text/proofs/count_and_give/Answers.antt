-- `text::count_and_give` meets its contract: the first piece is v, and each test of the count is one of
-- `count_place`. Assumes nothing.
use Rattle.std.specs.Prelude.{Err}
use mathlib.Core.Path.{refl, sym, ap, ◌∙◌, ◌≡◌}
use native.Mathlib.Omega.{arith}
use Prim.Native.Nat.{ℕ}
use lib.ListN.{length}
use mir.Syntax.{w64}
use mir.Facts.{to_z-of_z}
use Rattle.call.specs.declared.refusal.Refusal.TheVariants.{BadText}
use Rattle.text.specs.Reading.{wanted}
use Rattle.text.specs.Inner.Inside.{left_by}
use Rattle.text.proofs.Walks.{walked_start, walked_sound}
use Rattle.text.proofs.Answers.{first_none, some_piece, first_any, first_few, first_many, first_just}
use Rattle.text.proofs.count_and_give.Goals.{After-wanted_for}
use Rattle.text.proofs.count_and_give.Goals as goal

-- where v is known: the count wanted is v's
told : (w : After-wanted_for) → w.wanted_for.result ≡ wanted w.args.format w.in-Some.first.value
told w =
    w.wanted_for.ensures
    ∙ ap (wanted w.args.format) (to_z-of_z {w = w64} {z = w.in-Some.first.value} (record { sfits = omega arith }))

pub next_number-requires : goal.next_number-requires
next_number-requires c = let w = walked_start c.args.text.now in (w.inside, walked_sound w c.requires.0)

pub returns-in_default : goal.returns-in_default
unfolding left_by
returns-in_default c = let a = c.args in
    (first_none a.format a.text.now (length a.out.now) c.in_default.ensures, refl)

pub give-requires : goal.give-requires
give-requires c = let a = c.args in
    (c.requires.0, some_piece a.format a.text.now (length a.out.now) c.in-Some.ensures)

pub returns-in_default-wanted_for : goal.returns-in_default-wanted_for
returns-in_default-wanted_for c = let a = c.args in (
  c.give.ensures.0 ∙ first_any a.format a.text.now (length a.out.now) c.in-Some.ensures
      (sym c.in_default-wanted_for.is ∙ told (goal.at.returns-in_default-wanted_for c).After-wanted_for),
  c.give.ensures.1,
)

pub returns-then-count-k : goal.returns-then-count-k
unfolding left_by
returns-then-count-k c = let a = c.args in (
  first_few a.format a.text.now (length a.out.now) c.in-Some.ensures c.in-Some-wanted_for.k
      (sym c.in-Some-wanted_for.is ∙ told (goal.at.returns-then-count-k c).After-wanted_for) (omega arith),
  refl,
)

pub returns-then-k-count : goal.returns-then-k-count
unfolding left_by
returns-then-k-count c = let a = c.args in (
  ap (λ (p : ℕ). Err (BadText p)) c.place.ensures
      ∙ first_many a.format a.text.now (length a.out.now) c.in-Some.ensures c.in-Some-wanted_for.k
      (sym c.in-Some-wanted_for.is ∙ told (goal.at.returns-then-k-count c).After-wanted_for) (omega arith),
  refl,
)

pub returns : goal.returns
returns c = let a = c.args in (
  c.give-2.ensures.0 ∙ first_just a.format a.text.now (length a.out.now) c.in-Some.ensures c.in-Some-wanted_for.k
      (sym c.in-Some-wanted_for.is ∙ told (goal.at.returns c).After-wanted_for) (omega arith),
  c.give-2.ensures.1,
)
