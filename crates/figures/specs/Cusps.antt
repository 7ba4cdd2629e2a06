-- Fixed points and cusps of a table (docs/CONVENTIONS.md, 5). The figures e2 and e3 are the fixed points of the tables
-- of S and of R; the cusps are the cycles of the table of T, listed by smallest point, and a cusp's width is the length
-- of its cycle.
--     is_fixed t x       whether t fixes x
--     fixed_points t     how many places the table t fixes
--     times t k x        t, k times, from x
--     steps_to x t k y   how many steps of t lead from y to x: at most k are tried
--     width t x          the length of the cycle of x: how many steps lead from x back to x, at least one
--     iterates t k x     the first k points of the walk from x by t
--     cycle t x          the points of the cycle of x
--     none_below x l     whether no entry of l is below x
--     smallest t x       whether x is the smallest point of its cycle
--     cusps_to t i       the smallest points below i of the cycles, in order
--     cusps t            the smallest points of the cycles, in order: one for each cusp
--     widths t           the widths of the cusps, in the same order
--     cycles t l         the cycles of the points of l, one after another
--     sum l              the sum of a list
--     Lies t i x         x lies in the cycle of a cusp below i
--     Width t x k        THE THEOREM on a width k: t leads from x back to x in k steps, and not in fewer
--     Cusps t            THE THEOREM on the cusps of a permutation t: each point is in the cycle of exactly one cusp,
--                        the smallest of them; the widths are positive and add up to the number of points
-- `proofs/Cycle.antt` proves `width_is`, and `proofs/Cusps.antt` `cusps_are`, for every t with `Permutes t`.
use Rattle.std.specs.Prelude.{◌≡◌, ◌≢◌, Bool, true, false, List, [], ◌∷◌, ◌++◌, map, ℕ, zero, suc, ◌+◌, ◌≤◌, ◌<◌}
use Rattle.std.specs.Prelude.{length, get_or, eqb, leb}
use Rattle.numbering.specs.Find.{◌∈◌}
use Rattle.basics.specs.Choice.{pick}
use Rattle.basics.specs.Count.{those}
use Rattle.numbering.specs.Table.{image_at}

abbrev pub is_fixed : List ℕ → ℕ → Bool
is_fixed t x = eqb (image_at t x) x

abbrev pub fixed_points : List ℕ → ℕ
fixed_points t = length (those (is_fixed t) (length t))

unfoldable pub times : List ℕ → ℕ → ℕ → ℕ
times t zero x = x
times t (suc k) x = times t k (image_at t x)

unfoldable pub steps_to : ℕ → List ℕ → ℕ → ℕ → ℕ
steps_to x t zero y = 0
steps_to x t (suc k) y = pick (eqb y x) 0 (suc (steps_to x t k (image_at t y)))

unfoldable pub width : List ℕ → ℕ → ℕ
width t x = suc (steps_to x t (length t) (image_at t x))

unfoldable pub iterates : List ℕ → ℕ → ℕ → List ℕ
iterates t zero x = []
iterates t (suc k) x = x ∷ iterates t k (image_at t x)

abbrev pub cycle : List ℕ → ℕ → List ℕ
cycle t x = iterates t (width t x) x

unfoldable pub none_below : ℕ → List ℕ → Bool
none_below x [] = true
none_below x (y ∷ l) = pick (leb x y) (none_below x l) false

abbrev pub smallest : List ℕ → ℕ → Bool
smallest t x = none_below x (cycle t x)

abbrev pub cusps_to : List ℕ → ℕ → List ℕ
cusps_to t i = those (smallest t) i

abbrev pub cusps : List ℕ → List ℕ
cusps t = cusps_to t (length t)

abbrev pub widths : List ℕ → List ℕ
widths t = map (width t) (cusps t)

unfoldable pub cycles : List ℕ → List ℕ → List ℕ
cycles t [] = []
cycles t (x ∷ l) = cycle t x ++ cycles t l

unfoldable pub sum : List ℕ → ℕ
sum [] = 0
sum (x ∷ l) = x + sum l

pub record Width (t : List ℕ) (x k : ℕ) : Type 0 where
  pub some : 0 < k
  pub back : times t k x ≡ x
  pub first : (j : ℕ) → 0 < j → j < k → times t j x ≢ x

pub record Lies (t : List ℕ) (i x : ℕ) : Type 0 where
  pub cusp : ℕ
  pub low : cusp < i
  pub small : smallest t cusp ≡ true
  pub has : x ∈ cycle t cusp

pub record Cusps (t : List ℕ) : Type 0 where
  pub each : (x : ℕ) → x < length t → Lies t (length t) x
  pub one : (x : ℕ) (a b : Lies t (length t) x) → a.cusp ≡ b.cusp
  pub least : (x : ℕ) (a : Lies t (length t) x) → a.cusp ≤ x
  pub positive : (j : ℕ) → j < length (widths t) → 0 < get_or (widths t) j 0
  pub total : sum (widths t) ≡ length t
