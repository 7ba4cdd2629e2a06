-- Q leads from points to points: `low_Q`.
-- Assumes nothing.
use mathlib.Core.Path.{◌≡◌}
use mathlib.Core.List.{List}
use Prim.Native.Nat.{ℕ, ◌<◌}
use lib.ListN.{length}
use Rattle.permutations.specs.Pair.{image, Pair}
use Rattle.import_rule.specs.Fixed.{by_q}

pub low_Q : (s r : List ℕ) → Pair s r → (x y : ℕ) → x < length s → y ≡ by_q (image s) (image r) x → y < length s
low_Q s r p x y h e =
    let a = p.permuting.σ_low x h in
    let b = p.permuting.ρ_low (image s x) a in
    let c = p.permuting.ρ_low (image r (image s x)) b in
    rw e (p.permuting.σ_low (image r (image r (image s x))) c)
