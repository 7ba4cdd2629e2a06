-- Division to the nearest multiple, and what remains of a matrix after some runs, in the numbers of the code.
--
--   signed plus z            z, or -z where `plus` fails
--   both_or_none h k         the test whether h and k pass both or fail both
--   rounds_up a c            the test whether the multiple of c above a is nearer to a than the one below
--   partial_quotient a c     a by c, rounded to the nearest whole number; of two that are as near, the smaller one
--   least_remainder a c      the distance of a from that multiple of c
--   DividesNearest a c e     e is the division of a by c to the nearest multiple
--   row_pair aligned a b c d  the matrix with the upper row (a b) and the lower row (c d), or (-c -d) where `aligned`
--                            fails
--   remaining_matrix x       the matrix that remains
--   LIMIT                    no entry of a pair of matrices is larger in size (docs/CONVENTIONS.md, 7.1), nor is one of
--                            what remains
--   OneMatrix m              m can be followed: its entries are from -1,000,000 to 1,000,000, and its determinant is 1
--   SoundRemaining n x       x stands at one of n places, and its matrix has determinant 1 and entries within the limit
--   Subtracts b q d          q d is at most twice the limit in size, and b - q d within it
--   WholeRemaining m x       x is the matrix m before any run, at the base point
--   AfterRun n w x y         y is what remains of x after one run of T and S
--   RemainsOf n w m x        x remains of the matrix m: some runs, times the matrix of x, are m up to sign, and x
--                            stands where these runs lead
--   RemainsLater n w x y     y remains of whatever x remains of, and is sound
--   LeadsTo n w x p          p is the place to which any matrix leads that x remains of
use Rattle.std.specs.Prelude.{◌≡◌, Bool, true, false, not, List, ℕ, ◌+◌, ◌*◌, ◌-◌, ◌/◌, ◌%◌, ◌≤◌, ◌<◌, ltb, get_or, ℤ}
use Rattle.std.specs.Prelude.{pos, neg_ℤ, nat_abs, ◌-ℤ◌, ◌*ℤ◌}
use Rattle.std.specs.Int.Signed.{non_neg}
use Rattle.basics.specs.Choice.{pick}
use Rattle.matrix.specs.Matrix.{Mat, mat, ◌⊗◌, of_list, det, ◌≈◌}
use Rattle.matrix.specs.Bounds.{Small}
use Rattle.figures.specs.Inner.Scan.{held_t}
use Rattle.same_coset.specs.Runs.{runs_value, Arrived}
use Rattle.same_coset.specs.Inner.Places.{TURN, held_turns, run_place}
use Rattle.same_coset.specs.declared.t_runs.Division.{Division}
use Rattle.same_coset.specs.declared.t_runs.Remaining.{Remaining}

abbrev pub signed : Bool → ℤ → ℤ
signed true z = z
signed false z = neg_ℤ z

abbrev pub both_or_none : Bool → Bool → Bool
both_or_none true k = k
both_or_none false k = not k

abbrev pub rounds_up : (a c : ℕ) → Bool
rounds_up a c = ltb (c - a % c) (a % c)

abbrev pub partial_quotient : (a c : ℕ) → ℕ
partial_quotient a c = pick (rounds_up a c) (a / c + 1) (a / c)

abbrev pub least_remainder : (a c : ℕ) → ℕ
least_remainder a c = pick (rounds_up a c) (c - a % c) (a % c)

pub record DividesNearest (a c : ℕ) (e : Division) : Type 0 where
  pub quotient_is : e.quotient ≡ partial_quotient a c
  pub distance_is : e.distance ≡ least_remainder a c
  pub up_is : e.up ≡ rounds_up a c

abbrev pub row_pair : Bool → (a : ℕ) (b : ℤ) (c : ℕ) (d : ℤ) → Mat
row_pair aligned a b c d = mat (pos a) b (signed aligned (pos c)) (signed aligned d)

abbrev pub remaining_matrix : Remaining → Mat
remaining_matrix x = row_pair x.aligned x.a x.b x.c x.d

abbrev pub LIMIT : ℕ
LIMIT = 1000000

pub record OneMatrix (m : List ℤ) : Type 0 where
  pub entries : Small LIMIT (of_list m)
  pub unit : det (of_list m) ≡ pos 1

pub record SoundRemaining (n : ℕ) (x : Remaining) : Type 0 where
  pub place_low : x.place < n
  pub unit : det (remaining_matrix x) ≡ pos 1
  pub a_low : x.a ≤ LIMIT
  pub b_low : nat_abs x.b ≤ LIMIT
  pub c_low : x.c ≤ LIMIT
  pub d_low : nat_abs x.d ≤ LIMIT

pub record Subtracts (b : ℤ) (q : ℕ) (d : ℤ) : Type 0 where
  pub product : nat_abs (pos q *ℤ d) ≤ 2 * LIMIT
  pub difference : nat_abs (b -ℤ pos q *ℤ d) ≤ LIMIT

pub record WholeRemaining (m : Mat) (x : Remaining) : Type 0 where
  pub a_is : x.a ≡ nat_abs m.a
  pub b_is : x.b ≡ signed (non_neg m.a) m.b
  pub c_is : x.c ≡ nat_abs m.c
  pub d_is : x.d ≡ signed (non_neg m.c) m.d
  pub aligned_is : x.aligned ≡ both_or_none (non_neg m.a) (non_neg m.c)
  pub place_is : x.place ≡ 0

pub record AfterRun (n : ℕ) (w : List ℕ) (x y : Remaining) : Type 0 where
  pub a_is : y.a ≡ x.c
  pub b_is : y.b ≡ x.d
  pub c_is : y.c ≡ least_remainder x.a x.c
  pub d_is : y.d
      ≡ signed (not (rounds_up x.a x.c)) (x.b -ℤ pos (partial_quotient x.a x.c) *ℤ x.d)
  pub aligned_is : y.aligned ≡ both_or_none (rounds_up x.a x.c) x.aligned
  pub place_is : y.place ≡ get_or w (TURN + run_place (held_t n w) x.aligned (partial_quotient x.a x.c) x.place)
      0

pub record RemainsOf (n : ℕ) (w : List ℕ) (m : Mat) (x : Remaining) : Type 0 where
  pub runs : List ℤ
  pub value : runs_value runs ⊗ remaining_matrix x ≈ m
  pub there : Arrived (held_turns n w) (held_t n w) (runs_value runs) x.place

pub record RemainsLater (n : ℕ) (w : List ℕ) (x y : Remaining) : Type 0 where
  pub sound : SoundRemaining n y
  pub remains : (m : Mat) → RemainsOf n w m x → RemainsOf n w m y

abbrev pub LeadsTo : ℕ → List ℕ → Remaining → ℕ → Type 0
LeadsTo n w x p = (m : Mat) → RemainsOf n w m x → Arrived (held_turns n w) (held_t n w) m p
