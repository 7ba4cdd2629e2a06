-- The tables of rounds of S Q over the positions. A round is entered when a run first meets it, behind those that are
-- there; each position in it has a place. The sums are of the letters that S Q writes at all places before.
--
--     place   in code and here    holds
--     0                           for each position 1 + its place, 0 for none
--     4096    POSITION            the position at each place
--     8192    BEGINNING           the first place of its round
--     12288   ENDING              the place behind the last one of its round
--     16384   SUM                 how many letters are written at all places before it
--     20480   ENTERED             how many places there are
--
--   round_place, position_in, beginning_in, end_in, sum_in, entered_in, rounds_length  what r holds, and its length
--   forth_to v t, forth_count v t  where S Q leads, and how many letters it writes
--   is_placeless r p        p has no place
--   RoundsListed v t r n    the positions at the places below n are real, each has that place, no other position has
--                           one; and the sums are those of their letters
--   Looped v t r n y        the place y lies in its round, whose places are below n, and S Q leads round it
--   Closed v t r a          every place below a lies in its round
--   Rounds v t r            all of it: whole rounds
--   Opening v t r p a n x   the places from a to n - 1 are the beginning of the round of p, and S Q leads on to x
--   RoundOpened v t r p a n  they are that round, behind whole rounds
--   RoundEntered r x n a s r'  the position x is put at the place n in the round from a, with the sum s behind it
--   EndsFilled a n i r r'   the end n is entered at the places from a to i - 1
--   HasPlace v t r p        the position p has a place
--   Arc                     a place, the first one of its round, and the one behind that round
--   Located r p a           a is where the position p stands
--   Sums r b                the sums grow up to the place b
--   InRound v t r p a b y   the position p stands at the place y of the round from a to b
use Rattle.std.specs.Prelude.{◌≡◌, Bool, ◌⊎◌, List, ℕ, suc, ◌+◌, ◌-◌, ◌*◌, ◌≤◌, ◌<◌, eqb, length, get_or, ℤ}
use Rattle.basics.specs.Count.{count}
use Rattle.matrix.specs.Words.{Q}
use Rattle.polygon.specs.Cut.{places}
use Rattle.coset.specs.Positions.{Real}
use Rattle.walk_runs.specs.Runs.{Round, block_to, block_count}
use Rattle.walk_runs.specs.declared.rounds.Arc.{Arc}

abbrev pub POSITION : ℕ
POSITION = 4096

abbrev pub BEGINNING : ℕ
BEGINNING = 8192

abbrev pub ENDING : ℕ
ENDING = 12288

abbrev pub SUM : ℕ
SUM = 16384

abbrev pub ENTERED : ℕ
ENTERED = 20480

abbrev pub rounds_length : ℕ
rounds_length = 20481

abbrev pub round_place : List ℕ → ℕ → ℕ
round_place r p = get_or r p 0

abbrev pub position_in : List ℕ → ℕ → ℕ
position_in r y = get_or r (POSITION + y) 0

abbrev pub beginning_in : List ℕ → ℕ → ℕ
beginning_in r y = get_or r (BEGINNING + y) 0

abbrev pub end_in : List ℕ → ℕ → ℕ
end_in r y = get_or r (ENDING + y) 0

abbrev pub sum_in : List ℕ → ℕ → ℕ
sum_in r y = get_or r (SUM + y) 0

abbrev pub entered_in : List ℕ → ℕ
entered_in r = get_or r ENTERED 0

abbrev pub forth_to : ℕ → List ℤ → ℕ → ℕ
forth_to v t = block_to v t Q

abbrev pub forth_count : ℕ → List ℤ → ℕ → ℕ
forth_count v t = block_count v t Q

abbrev pub is_placeless : List ℕ → ℕ → Bool
is_placeless r p = eqb (round_place r p) 0

pub record RoundsListed (v : ℕ) (t : List ℤ) (r : List ℕ) (n : ℕ) : Type 0 where
  pub long : length r ≡ rounds_length
  pub real : (y : ℕ) → y < n → Real v t (position_in r y)
  pub place : (y : ℕ) → y < n → round_place r (position_in r y) ≡ suc y
  pub below : (p : ℕ) → p < places v → 0 < round_place r p → round_place r p ≤ n
  pub back : (p : ℕ) → p < places v → 0 < round_place r p → position_in r (round_place r p - 1) ≡ p
  pub sums : (y : ℕ) → y < n → sum_in r (suc y) ≡ sum_in r y + forth_count v t (position_in r y)
  pub low : (y : ℕ) → y ≤ n → sum_in r y ≤ 2 * y
  pub few : n + count (is_placeless r) (places v) ≡ places v

pub record Looped (v : ℕ) (t : List ℤ) (r : List ℕ) (n y : ℕ) : Type 0 where
  pub from : beginning_in r y ≤ y
  pub before : y < end_in r y
  pub within : end_in r y ≤ n
  pub next : (z : ℕ) → beginning_in r y ≤ z → suc z < end_in r y
      → forth_to v t (position_in r z) ≡ position_in r (suc z)
  pub last : (z : ℕ) → suc z ≡ end_in r y → forth_to v t (position_in r z) ≡ position_in r (beginning_in r y)

abbrev pub Closed : ℕ → List ℤ → List ℕ → ℕ → Type 0
Closed v t r a = (y : ℕ) → y < a → Looped v t r a y

pub record Rounds (v : ℕ) (t : List ℤ) (r : List ℕ) : Type 0 where
  pub listed : RoundsListed v t r (entered_in r)
  pub closed : Closed v t r (entered_in r)

pub record Opening (v : ℕ) (t : List ℤ) (r : List ℕ) (p a n x : ℕ) : Type 0 where
  pub from : a ≤ n
  pub first : (y : ℕ) → a ≤ y → y < n → beginning_in r y ≡ a
  pub next : (y : ℕ) → a ≤ y → suc y < n → forth_to v t (position_in r y) ≡ position_in r (suc y)
  pub last : (y : ℕ) → a ≤ y → suc y ≡ n → forth_to v t (position_in r y) ≡ x
  pub begins : a < n → position_in r a ≡ p
  pub real : Real v t x
  pub none : a ≡ n → (x ≡ p) × (round_place r x ≡ 0)

pub record RoundOpened (v : ℕ) (t : List ℤ) (r : List ℕ) (p a n : ℕ) : Type 0 where
  pub listed : RoundsListed v t r n
  pub closed : Closed v t r a
  pub some : a < n
  pub first : (y : ℕ) → a ≤ y → y < n → beginning_in r y ≡ a
  pub next : (y : ℕ) → a ≤ y → suc y < n → forth_to v t (position_in r y) ≡ position_in r (suc y)
  pub last : (y : ℕ) → suc y ≡ n → forth_to v t (position_in r y) ≡ position_in r a
  pub begins : position_in r a ≡ p

pub record RoundEntered (r : List ℕ) (x n a s : ℕ) (r' : List ℕ) : Type 0 where
  pub long : length r' ≡ length r
  pub place_is : round_place r' x ≡ suc n
  pub place_other : (p : ℕ) → p < POSITION → (p ≡ x → ⊥) → round_place r' p ≡ round_place r p
  pub order_is : position_in r' n ≡ x
  pub order_other : (y : ℕ) → y < POSITION → (y ≡ n → ⊥) → position_in r' y ≡ position_in r y
  pub first_is : beginning_in r' n ≡ a
  pub first_other : (y : ℕ) → y < POSITION → (y ≡ n → ⊥) → beginning_in r' y ≡ beginning_in r y
  pub end_other : (y : ℕ) → y < POSITION → end_in r' y ≡ end_in r y
  pub sum_is : sum_in r' (suc n) ≡ s
  pub sum_other : (y : ℕ) → y < POSITION → (y ≡ suc n → ⊥) → sum_in r' y ≡ sum_in r y

pub record EndsFilled (a n i : ℕ) (r r' : List ℕ) : Type 0 where
  pub long : length r' ≡ length r
  pub ends : (y : ℕ) → a ≤ y → y < i → end_in r' y ≡ n
  pub other : (j : ℕ) → (j < ENDING + a) ⊎ (ENDING + i ≤ j) → get_or r' j 0 ≡ get_or r j 0

pub record HasPlace (v : ℕ) (t : List ℤ) (r : List ℕ) (p : ℕ) : Type 0 where
  pub rounds : Rounds v t r
  pub entered : 0 < round_place r p

-- ---- where a position stands

pub record Located (r : List ℕ) (p : ℕ) (a : Arc) : Type 0 where
  pub at_is : a.at ≡ round_place r p - 1
  pub first_is : a.first ≡ beginning_in r a.at
  pub end_is : a.end ≡ end_in r a.at

pub record Sums (r : List ℕ) (b : ℕ) : Type 0 where
  pub long : length r ≡ rounds_length
  pub room : b ≤ 4090
  pub grow : (i j : ℕ) → i ≤ j → j ≤ b → sum_in r i ≤ sum_in r j
  pub low : (i : ℕ) → i ≤ b → sum_in r i ≤ 8180

pub record InRound (v : ℕ) (t : List ℤ) (r : List ℕ) (p a b y : ℕ) : Type 0 where
  pub sums : Sums r b
  pub from : a ≤ y
  pub before : y < b
  pub here : position_in r y ≡ p
  pub real : (z : ℕ) → z < b → Real v t (position_in r z)
  pub round : Round (forth_to v t) (forth_count v t) (position_in r) (sum_in r) a b
