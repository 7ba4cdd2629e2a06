-- The test of the table of Γ0, over all its entries together.
--
--   index_by f n        the index of Γ0(n) by its least prime, split off again and again, f times at most
--   right_from n is    whether the entries of the list are those for n, n + 1, ..: an entry costs about as many
--                      divisions as the largest prime of n says, where the product over all numbers up to n costs n of
--                      them, twice
use Rattle.std.specs.Prelude.{Bool, true, false, List, [], ◌∷◌, ℕ, zero, suc, ◌*◌, ◌/◌, eqb, ltb}
use Rattle.basics.specs.Choice.{pick}
use Rattle.congruence.specs.Index.{divides, least_divisor}

unfoldable pub index_by : ℕ → ℕ → ℕ
index_by zero n = 1
index_by (suc f) n =
    let p = least_divisor n in
    let m = n / p in
    let more = pick (divides p m) p (suc p) * index_by f m in
    pick (ltb 1 n) more 1

unfoldable pub right_from : ℕ → List ℕ → Bool
right_from n [] = true
right_from n (i ∷ is) = let further = right_from (suc n) is in pick (eqb i (index_by n n)) further false
