-- `clear_flips`: what is filled with 0 is cleared (`cleared_to`). Assumes nothing.
use mathlib.Core.Path.{◌≡◌, ◌∙◌, ap}
use Prim.Native.Nat.{ℕ, ◌+◌, ◌*◌, ◌-◌, ◌≤◌}
use native.Mathlib.Omega.{arith}
use lib.ListN.{length, drop, replicate, length-replicate, length-drop}
use lib.Seq.{length-take-le}
use Rattle.std.proofs.lemmas.Slice.{put_mid-paste}
use Rattle.polygon.proofs.Scanning.{cleared_to, cleared_all}
use Rattle.polygon.proofs.cutting.clear_flips.Goals as goal

pub returns : goal.returns
returns c =
    let w = c.args.w.now in
    let n = 4 * c.args.v + 1 in
    let k = 4096 + 4 * c.args.v + 1 - 4096 in
    let e : k ≡ n = omega arith in
    let room : k ≤ length (drop 4096 w) = omega (arith, length-drop 4096 w, c.requires.0, c.requires.1) in
    let is : c.fill.new.self ≡ replicate {A = ℕ} n 0 =
    c.fill.ensures.after (λ y e. e) ∙ ap (λ (m : ℕ). replicate {A = ℕ} m 0) (length-take-le k (drop 4096 w) room ∙ e) in
    rw (put_mid-paste 4096 k w c.fill.new.self (replicate n 0) n is (omega arith) (omega (arith, length-replicate {A = ℕ} n 0)))
    (cleared_all c.args.v w _ n (cleared_to w n n (omega arith) (omega arith) c.requires.1) (omega arith))
