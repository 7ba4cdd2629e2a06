-- What the functions of the numbering ask of the work space, and what they leave there. The tables NUMBER and ORDER are
-- a sparse set: x is listed exactly when k = number[x] < n and order[k] = x, whatever stood in the tables before, so
-- nothing needs to be cleared.
--     listed n w                 the n points that have numbers, by number
--     Sparse size n w            NUMBER and ORDER list n points below size, each with its number
--     NowListed size w w' l n    w' is w but for NUMBER and ORDER, which list l, n points
--     Fresh size n x w           x is a point that is not listed yet
--     Visit size n i w           i is the number of a listed point, and images of points are points
--     Images start size w        SIGMA and RHO hold maps of the points 0 .. size-1, of which start is one
--     order_in start size w       the numbering that they give
--     Renames from to size n w   the images in the table at from of what is listed are listed; there is room at to
--     Composes a b to n m w      the n entries of the table at a are places of the table of m entries at b; there is
--                                room at to, or to is a
--     TablesOf f g start size n w    the numbering of the maps f and g from start has n numbers; ORDER lists it; the
--                                    tables of
--                                f, of g, and of f and then g, by number, stand at S_TABLE, R_TABLE and T_TABLE
--     TablesLeft start size w w' n  w' holds the tables of the maps that SIGMA and RHO of w hold; all else is as before
--     Copies off n w out         there is room in out for the table of n entries at off
--     MapsFilled f g size w      SIGMA and RHO hold the maps f and g of the points 0 .. size-1
-- An upper crate that has filled SIGMA and RHO with its maps f and g shows `MapsFilled`; `proofs/Filled.antt` turns
-- this into what `tables` asks, and what `tables` leaves into `TablesOf`.
use Rattle.std.specs.Prelude.{◌≡◌, ◌⊎◌, List, ℕ, ◌+◌, ◌≤◌, ◌<◌, length, get_or}
use Rattle.numbering.specs.Find.{◌∈◌, ◌∉◌}
use Rattle.numbering.specs.Order.{order_of, Maps}
use Rattle.numbering.specs.Table.{image_at, ◌then◌, renamed}
use Rattle.numbering.specs.Inner.Space.{WORK, ROOM, S_TABLE, SIGMA, RHO, NUMBER, ORDER, R_TABLE, T_TABLE, Apart}
use Rattle.numbering.specs.Inner.Space.{ChangedWithin}
use Rattle.call.specs.Space.{entries}

abbrev pub listed : ℕ → List ℕ → List ℕ
listed n w = entries ORDER n w

pub record Sparse (size n : ℕ) (w : List ℕ) : Type 0 where
  pub long : WORK ≤ length w
  pub room : size ≤ ROOM
  pub few : n ≤ size
  pub low : (j : ℕ) → j < n → get_or w (ORDER + j) 0 < size
  pub number : (j : ℕ) → j < n → get_or w (NUMBER + get_or w (ORDER + j) 0) 0 ≡ j

pub record NowListed (size : ℕ) (w w' l : List ℕ) (n : ℕ) : Type 0 where
  pub sparse : Sparse size n w'
  pub frame : ChangedWithin NUMBER R_TABLE w w'
  pub list : listed n w' ≡ l

pub record Fresh (size n x : ℕ) (w : List ℕ) : Type 0 where
  pub sparse : Sparse size n w
  pub low : x < size
  pub new : x ∉ listed n w

pub record Visit (size n i : ℕ) (w : List ℕ) : Type 0 where
  pub sparse : Sparse size n w
  pub low : i < n
  pub σ_low : (x : ℕ) → x < size → image_at (entries SIGMA size w) x < size
  pub ρ_low : (x : ℕ) → x < size → image_at (entries RHO size w) x < size

pub record Images (start size : ℕ) (w : List ℕ) : Type 0 where
  pub long : WORK ≤ length w
  pub room : size ≤ ROOM
  pub maps : Maps (image_at (entries SIGMA size w)) (image_at (entries RHO size w)) start size

abbrev pub order_in : (start size : ℕ) → List ℕ → List ℕ
order_in start size w = order_of (image_at (entries SIGMA size w)) (image_at (entries RHO size w)) start size

pub record Renames (from to size n : ℕ) (w : List ℕ) : Type 0 where
  pub sparse : Sparse size n w
  pub fits_from : from + size ≤ WORK
  pub fits_to : to + n ≤ WORK
  pub apart_from : Apart from size to n
  pub apart_number : Apart NUMBER ROOM to n
  pub apart_order : Apart ORDER ROOM to n
  pub closed : (x : ℕ) → x ∈ listed n w → image_at (entries from size w) x ∈ listed n w

pub record Composes (a b to n m : ℕ) (w : List ℕ) : Type 0 where
  pub long : WORK ≤ length w
  pub fits_a : a + n ≤ WORK
  pub fits_b : b + m ≤ WORK
  pub fits_to : to + n ≤ WORK
  pub apart_a : Apart a n to n ⊎ (a ≡ to)
  pub apart_b : Apart b m to n
  pub low : (j : ℕ) → j < n → image_at (entries a n w) j < m

pub record TablesOf (f g : ℕ → ℕ) (start size n : ℕ) (w : List ℕ) : Type 0 where
  pub marks : Sparse size n w
  pub count : n ≡ length (order_of f g start size)
  pub list : listed n w ≡ order_of f g start size
  pub S_is : entries S_TABLE n w ≡ renamed (order_of f g start size) f
  pub R_is : entries R_TABLE n w ≡ renamed (order_of f g start size) g
  pub T_is : entries T_TABLE n w ≡ renamed (order_of f g start size) (f then g)

pub record TablesLeft (start size : ℕ) (w w' : List ℕ) (n : ℕ) : Type 0 where
  pub tables : TablesOf (image_at (entries SIGMA size w)) (image_at (entries RHO size w)) start size n w'
  pub same : length w' ≡ length w
  pub below : (k : ℕ) → k < S_TABLE → get_or w' k 0 ≡ get_or w k 0
  pub between : (k : ℕ) → S_TABLE + n ≤ k → k < NUMBER → get_or w' k 0 ≡ get_or w k 0
  pub past_R : (k : ℕ) → R_TABLE + n ≤ k → k < T_TABLE → get_or w' k 0 ≡ get_or w k 0
  pub past_T : (k : ℕ) → T_TABLE + n ≤ k → get_or w' k 0 ≡ get_or w k 0

pub record Copies (off n : ℕ) (w out : List ℕ) : Type 0 where
  pub fits : off + n ≤ length w
  pub room : n ≤ length out

pub record MapsFilled (f g : ℕ → ℕ) (size : ℕ) (w : List ℕ) : Type 0 where
  pub long : WORK ≤ length w
  pub room : size ≤ ROOM
  pub σ_is : (x : ℕ) → x < size → get_or w (SIGMA + x) 0 ≡ f x
  pub ρ_is : (x : ℕ) → x < size → get_or w (RHO + x) 0 ≡ g x
