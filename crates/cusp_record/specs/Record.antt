-- THE COSET RECORD. The cosets are the points 0, 1, .. of the tables s, r and u of S, R and T. The record has two
-- tables more: the cusp of each coset, and its steps. Both are defined here by the table u alone, which is a
-- permutation.
--
--   cusp_point u k     the entry k of figures' `cusps`, which lists the smallest points of the cycles of u: it stands
--                      for the cusp k
--   cusp_width u k     the length of its cycle
--   cusp_among u l x   which entry of l is the first with x in its cycle
--   cusp_of u x        the cusp that x lies in, by its number
--   cusp_steps u x     the steps of x: where x stands in its cusp's cycle, which begins with the smallest point
--   cusp_table u       the cusps of the points 0, 1, ..; `step_table u` has their steps
--   cusp_order u       all points, cusp by cusp, each cusp from its smallest point in the order of T
--   cusp_place u x     where x stands in cusp_order
--   cusp_first u k     how many points the cusps below k have together: the cusp k begins there in cusp_order
--   cusp_onward u n x  T^n from x by one look at cuspOrder: n is added to the steps, and the width taken off as often
--                      as it goes
--   CuspColumns u c d  THE STANDING RULE of the columns c of cusps and d of steps beside the table u of T, in these
--                      parts:
--     size             each has an entry for each point
--     listing          the cusps are numbered by their smallest points, in ascending order
--     cusp             the entry of x in c is one of the cusps; its smallest point isn't above x
--     steps            from that point T comes to x in as many steps as d says; these are less than the width, and a
--                      smaller number does not lead to x
--     smallest         the smallest point of the cusp k has k and no steps
--     rule             T keeps the cusp and adds one step, back to 0 after the width
--   CosetRecord s r u c d   the standing rule of the whole record: s, r and u are permutations, u is s first and then
--                           r, and `CuspColumns u c d`
--   InCuspOrder u      what cusp_order is for: it has each point once, cusp_steps behind its cusp's first place, and so
--                      any number of steps of T is one look
-- `proofs/Record.antt` proves `columns` and `in_order_is` for every u with `Permutes u`, and `coset_record` for
-- permutations s, r and their product.
use Rattle.std.specs.Prelude.{◌≡◌, ◌≢◌, List, [], ◌∷◌, map, ℕ, suc, ◌+◌, ◌%◌, ◌≤◌, ◌<◌, length, get_or, take}
use Rattle.basics.specs.Choice.{pick}
use Rattle.numbering.specs.Find.{find, is_in, Once}
use Rattle.numbering.specs.Order.{up_to}
use Rattle.numbering.specs.Table.{image_at, ◌then_table◌, Permutations}
use Rattle.figures.specs.Cusps.{times, cycle, cusps, widths, cycles, sum}

abbrev pub cusp_point : List ℕ → ℕ → ℕ
cusp_point u k = get_or (cusps u) k 0

abbrev pub cusp_width : List ℕ → ℕ → ℕ
cusp_width u k = get_or (widths u) k 0

unfoldable pub cusp_among : List ℕ → List ℕ → ℕ → ℕ
cusp_among u [] x = 0
cusp_among u (c ∷ l) x = pick (is_in (cycle u c) x) 0 (suc (cusp_among u l x))

abbrev pub cusp_of : List ℕ → ℕ → ℕ
cusp_of u x = cusp_among u (cusps u) x

abbrev pub cusp_steps : List ℕ → ℕ → ℕ
cusp_steps u x = find (cycle u (cusp_point u (cusp_of u x))) x

unfoldable pub cusp_table : List ℕ → List ℕ
cusp_table u = map (cusp_of u) (up_to (length u))

unfoldable pub step_table : List ℕ → List ℕ
step_table u = map (cusp_steps u) (up_to (length u))

-- ---- all points by cusps

abbrev pub cusp_order : List ℕ → List ℕ
cusp_order u = cycles u (cusps u)

abbrev pub cusp_place : List ℕ → ℕ → ℕ
cusp_place u x = find (cusp_order u) x

abbrev pub cusp_first : List ℕ → ℕ → ℕ
cusp_first u k = sum (take k (widths u))

abbrev pub cusp_onward : List ℕ → ℕ → ℕ → ℕ
cusp_onward u n x = get_or (cusp_order u) (cusp_first u (cusp_of u x) + (cusp_steps u x + n) % cusp_width u (cusp_of u x)) 0

-- ---- the theorems

pub record CuspColumns (u c d : List ℕ) : Type 0 where
  -- size
  pub size_cusps : length c ≡ length u
  pub size_steps : length d ≡ length u
  -- listing
  pub ascending : (j k : ℕ) → j < k → k < length (cusps u) → cusp_point u j < cusp_point u k
  -- cusp
  pub low : (x : ℕ) → x < length u → image_at c x < length (cusps u)
  pub least : (x : ℕ) → x < length u → cusp_point u (image_at c x) ≤ x
  -- steps
  pub leads : (x : ℕ) → x < length u → times u (image_at d x) (cusp_point u (image_at c x)) ≡ x
  pub within : (x : ℕ) → x < length u → image_at d x < cusp_width u (image_at c x)
  pub no_fewer : (x j : ℕ) → x < length u → j < image_at d x → times u j (cusp_point u (image_at c x)) ≢ x
  -- smallest
  pub cusp_of_is : (k : ℕ) → k < length (cusps u) → image_at c (cusp_point u k) ≡ k
  pub no_steps : (k : ℕ) → k < length (cusps u) → image_at d (cusp_point u k) ≡ 0
  -- rule
  pub keeps : (x : ℕ) → x < length u → image_at c (image_at u x) ≡ image_at c x
  pub adds : (x : ℕ) → x < length u → image_at d (image_at u x) ≡ (image_at d x + 1) % cusp_width u (image_at c x)

pub record CosetRecord (s r u c d : List ℕ) : Type 0 where
  pub permutations : Permutations s r u
  pub T_is : u ≡ s then_table r
  pub columns : CuspColumns u c d

pub record InCuspOrder (u : List ℕ) : Type 0 where
  pub size : length (cusp_order u) ≡ length u
  pub once : Once (cusp_order u)
  pub point_low : (j : ℕ) → j < length u → get_or (cusp_order u) j 0 < length u
  pub place_low : (x : ℕ) → x < length u → cusp_place u x < length u
  pub at_place : (x : ℕ) → x < length u → get_or (cusp_order u) (cusp_place u x) 0 ≡ x
  pub of_point : (j : ℕ) → j < length u → cusp_place u (get_or (cusp_order u) j 0) ≡ j
  pub place_is : (x : ℕ) → x < length u → cusp_place u x ≡ cusp_first u (cusp_of u x) + cusp_steps u x
  pub fits : (k : ℕ) → k < length (cusps u) → cusp_first u k + cusp_width u k ≤ length u
  pub keeps_all : (n x : ℕ) → x < length u → cusp_of u (times u n x) ≡ cusp_of u x
  pub adds_all : (n x : ℕ) → x < length u → cusp_steps u (times u n x) ≡ (cusp_steps u x + n) % cusp_width u (cusp_of u x)
  pub onward_is : (n x : ℕ) → x < length u → cusp_onward u n x ≡ times u n x
