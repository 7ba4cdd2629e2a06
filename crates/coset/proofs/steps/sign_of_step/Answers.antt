-- `sign_of_step` multiplies the signs of the two frames and of the crossing. Assumes nothing.
use mathlib.Core.Path.{◌≡◌, ◌∙◌, ap}
use mathlib.Core.Bool.{Bool}
use lib.IntN.{ℤ}
use mir.Facts.{to_z-of_z}
use mir.Syntax.{w16}
use Rattle.polygon.specs.Inner.Tables.{letters_of}
use Rattle.signs.specs.Sign.{◌·◌}
use Rattle.signs.specs.Step.{left_to_right, crossing_sign}
use borrow.Author.Rules.{rules}
use Rattle.coset.proofs.steps.sign_of_step.Goals as goal

pub returns : goal.returns
returns c =
    let a = c.sign_of_frame-here.ensures in
    let b = c.sign_of_frame-there.ensures in
    let e = c.times-frames.ensures in
    let s = c in
    let k = to_z-of_z {w = w16} {z = s.args.letter} s.ranges.letter in
    let f = c.sign_of_crossing-crossing.ensures ∙ ap (λ (z : ℤ). crossing_sign (letters_of z) (left_to_right s.args.v s.args.p)) k in
    product c.times.ensures e a b f
  where
    product : {x y a b c d e : Bool} → x ≡ y · c → y ≡ a · b → a ≡ d → b ≡ e → {f : Bool} → c ≡ f → x ≡ d · e · f
    product h i j k l = cc
