-- `turn` is one run and S. Why b - q d fits: what remains has determinant 1 again, so that its second column stays within the limit (`subtracts`, `right_low`).
-- Assumes nothing.
use mathlib.Core.Path.{◌≡◌, refl, ap, ◌∙◌}
use mathlib.Core.Bool.{Bool, not}
use Prim.Native.Nat.{ℕ, ◌+◌, ◌<◌}
use native.Mathlib.Omega.{arith}
use lib.ListN.{get_or}
use lib.IntN.{pos, ◌-ℤ◌, ◌*ℤ◌}
use mir.Syntax.{w64}
use mir.Val.{to_z, of_z}
use mir.Facts.{to_z-of_z}
use Rattle.figures.specs.Inner.Scan.{held_t}
use Rattle.same_coset.specs.Inner.Places.{TURN, run_place}
use Rattle.same_coset.specs.Inner.Rows.{signed, both_or_none, rounds_up, partial_quotient}
use Rattle.same_coset.specs.declared.t_runs.Remaining.{Remaining}
use Rattle.same_coset.proofs.Rows.{subtracts, right_low}
use Rattle.same_coset.proofs.Places.{run_low}
use Rattle.same_coset.proofs.Signed.{kept, alike}
use Rattle.same_coset.proofs.t_runs.turn.Goals.{After-slide-y, Start}
use Rattle.same_coset.proofs.t_runs.turn.Goals as goal

-- after the run, before S
module _ (e : After-slide-y) where
  abbrev start : Start
  start = (goal.at.After-slide-y e).Start

  abbrev x : Remaining
  x = start.args.x

  abbrev q : ℕ
  q = partial_quotient x.a x.c

  abbrev leads : ℕ → ℕ
  leads i = run_place (held_t start.args.n start.args.w.now) x.aligned i x.place

  here_is : e.slide-y.result ≡ leads q
  here_is = e.slide-y.ensures ∙ ap leads e.divide-e.ensures.quotient_is

  here_low : e.slide-y.result < start.args.n
  here_low = omega (arith, here_is, run_low start.requires.0 x.place start.requires.1.place_low x.aligned q)

  right_is : to_z w64 (of_z w64 e.subtract-right.result) ≡ x.b -ℤ pos q *ℤ x.d
  right_is =
      let s = e.subtract-right in
      to_z-of_z {w = w64} {z = s.result} (record { sfits = s.type_inv }) ∙ s.ensures
      ∙ ap (λ (i : ℕ). to_z w64 (of_z w64 x.b) -ℤ pos i *ℤ to_z w64 (of_z w64 x.d)) e.divide-e.ensures.quotient_is
      ∙ rw (kept x.b start.requires.1.b_low, kept x.d start.requires.1.d_low)

pub subtract-right-requires : goal.subtract-right-requires
subtract-right-requires c =
    let s = c in
    let a = s.args.x in
    rw (kept a.b s.requires.1.b_low, kept a.d s.requires.1.d_low, c.divide-e.ensures.quotient_is) (subtracts s.requires.1 s.requires.2)

pub with_sign-requires : goal.with_sign-requires
with_sign-requires c = let e = c in rw (right_is (goal.at.with_sign-requires c).After-slide-y) (right_low (start (goal.at.with_sign-requires c).After-slide-y).requires.1 (start (goal.at.with_sign-requires c).After-slide-y).requires.2)

pub overflow_add-y : goal.overflow_add-y
overflow_add-y c = let e = c in omega (arith, here_low (goal.at.overflow_add-y c).After-slide-y, (start (goal.at.overflow_add-y c).After-slide-y).requires.0.room)

pub offset_bounds-w-y : goal.offset_bounds-w-y
offset_bounds-w-y c = let e = c in omega (arith, here_low (goal.at.offset_bounds-w-y c).After-slide-y, (start (goal.at.offset_bounds-w-y c).After-slide-y).requires.0.room)

pub bounds-w-y : goal.bounds-w-y
bounds-w-y c = let e = c in omega (arith, here_low (goal.at.bounds-w-y c).After-slide-y, (start (goal.at.bounds-w-y c).After-slide-y).requires.0.room, (start (goal.at.bounds-w-y c).After-slide-y).requires.0.long)

pub returns : goal.returns
returns c =
    let e = c in
    let s = start (goal.at.returns c).After-slide-y in
    let d = e.divide-e.ensures in
    let right = c.with_sign in
    record {
      a_is = refl;
      b_is = kept (x (goal.at.returns c).After-slide-y).d s.requires.1.d_low;
      c_is = d.distance_is;
      d_is = to_z-of_z {w = w64} {z = right.result} (record { sfits = right.type_inv }) ∙ right.ensures
          ∙ ap (λ (up : Bool). signed (not up) (to_z w64 (of_z w64 e.subtract-right.result))) d.up_is
          ∙ ap (signed (not (rounds_up (x (goal.at.returns c).After-slide-y).a (x (goal.at.returns c).After-slide-y).c))) (right_is (goal.at.returns c).After-slide-y);
      aligned_is = alike e.divide-e.result.up s.args.x.aligned ∙ ap (λ (up : Bool). both_or_none up s.args.x.aligned) d.up_is;
      place_is = c.index.ensures ∙ ap (λ (i : ℕ). get_or s.args.w.now (TURN + i) 0) (here_is (goal.at.returns c).After-slide-y);
    }
