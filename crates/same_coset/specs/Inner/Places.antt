-- The tables by place from which runs of T are followed.
--
--     place   code    here    holds, for each place in the order of the cusps
--      4096   END     END     the place behind the last one of its cusp, where the table of S was
--     16384   WIDTH   WIDTH   the width of its cusp, where the places of the points were
--     24576   TURN    TURN    the place of the S image of the point there, where the table of R was
--
--   held_turns n w         the table at TURN
--   cusp_at u y            the cusp of the place y
--   steps_on onward q d    as many steps onward as T^q, or as T^-q, makes in a cusp of width d
--   run_place u onward q y  the place of T^q from the point at y, or of T^-q
--   InCusp end d y         y is one of the d places before `end`
--   along_cusp end d y j   the place j steps onward from y, for j up to the width: over the end it goes on at the
--                          beginning
--   Prepared n w           the tables of T and of places are there, for n points
--   held_s n w             the table of S
--   TurnSource s u n w     what TURN is made from, by the tables s of S and u of T: that of S, the points by cusps, and
--                          the place of each
--   EndSource u n w        what END and WIDTH are made from: the points by cusps, their cusps and steps, and the widths
--   TurnsAt s u y w        TURN is right below the place y
--   EndsTo u y w           END and WIDTH are right below the place y
--   EndsFrame w w'         the tables from ORDER on are as they were
--   SymbolPlaces v t w w' n     the tables by place of a symbol's n cosets
use Rattle.std.specs.Prelude.{◌≡◌, Bool, true, false, List, ℕ, ◌+◌, ◌-◌, ◌%◌, ◌≤◌, ◌<◌, ltb, length, get_or, ℤ}
use Rattle.basics.specs.Choice.{pick}
use Rattle.call.specs.Space.{entries}
use Rattle.numbering.specs.Table.{image_at, Permutes}
use Rattle.numbering.specs.Inner.Space.{WORK, ROOM, S_TABLE, WIDTHS, NUMBER, ORDER}
use Rattle.figures.specs.Cusps.{times, cusps}
use Rattle.figures.specs.Inner.Scan.{held_t}
use Rattle.coset.specs.Tables.{index_of, table_s, table_t}
use Rattle.cusp_record.specs.Record.{cusp_width, cusp_of, cusp_steps, cusp_place, cusp_first}
use Rattle.cusp_record.specs.Inner.Fill.{CUSPS, STEPS, cusp_entry}

abbrev pub TURN : ℕ
TURN = 24576

abbrev pub END : ℕ
END = 4096

abbrev pub WIDTH : ℕ
WIDTH = 16384

abbrev pub held_turns : ℕ → List ℕ → List ℕ
held_turns n w = entries TURN n w

abbrev pub held_s : ℕ → List ℕ → List ℕ
held_s n w = entries S_TABLE n w

abbrev pub cusp_at : List ℕ → ℕ → ℕ
cusp_at u y = cusp_of u (cusp_entry u y)

abbrev pub steps_on : Bool → (q d : ℕ) → ℕ
steps_on true q d = q % d
steps_on false q d = d - q % d

unfoldable pub run_place : List ℕ → Bool → (q y : ℕ) → ℕ
run_place u onward q y = cusp_place u (times u (steps_on onward q (cusp_width u (cusp_at u y))) (cusp_entry u y))

pub record InCusp (end d y : ℕ) : Type 0 where
  pub before : y < end
  pub from : end ≤ y + d
  pub wide : d ≤ end
  pub room : end ≤ ROOM

abbrev pub along_cusp : (end d y j : ℕ) → ℕ
along_cusp end d y j = pick (ltb (y + j) end) (y + j) (y + j - d)

pub record Prepared (n : ℕ) (w : List ℕ) : Type 0 where
  pub long : WORK ≤ length w
  pub some : 0 < n
  pub room : n ≤ ROOM
  pub permutes : Permutes (held_t n w)
  pub turn_low : (y : ℕ) → y < n → get_or w (TURN + y) 0 < n
  pub end_is : (y : ℕ) → y < n → get_or w (END + y) 0
      ≡ cusp_first (held_t n w) (cusp_at (held_t n w) y) + cusp_width (held_t n w) (cusp_at (held_t n w) y)
  pub width_is : (y : ℕ) → y < n → get_or w (WIDTH + y) 0 ≡ cusp_width (held_t n w) (cusp_at (held_t n w) y)

pub record TurnSource (s u : List ℕ) (n : ℕ) (w : List ℕ) : Type 0 where
  pub long : WORK ≤ length w
  pub room : n ≤ ROOM
  pub size : length u ≡ n
  pub permutes : Permutes u
  pub S_low : (x : ℕ) → x < n → image_at s x < n
  pub S_is : (x : ℕ) → x < n → get_or w (S_TABLE + x) 0 ≡ image_at s x
  pub order_is : (y : ℕ) → y < n → get_or w (ORDER + y) 0 ≡ cusp_entry u y
  pub number_is : (x : ℕ) → x < n → get_or w (NUMBER + x) 0 ≡ cusp_place u x

pub record EndSource (u : List ℕ) (n : ℕ) (w : List ℕ) : Type 0 where
  pub long : WORK ≤ length w
  pub room : n ≤ ROOM
  pub size : length u ≡ n
  pub permutes : Permutes u
  pub few : length (cusps u) ≤ n
  pub order_is : (y : ℕ) → y < n → get_or w (ORDER + y) 0 ≡ cusp_entry u y
  pub cusp_is : (x : ℕ) → x < n → get_or w (CUSPS + x) 0 ≡ cusp_of u x
  pub steps_are : (x : ℕ) → x < n → get_or w (STEPS + x) 0 ≡ cusp_steps u x
  pub width_is : (k : ℕ) → k < length (cusps u) → get_or w (WIDTHS + k) 0 ≡ cusp_width u k
  pub T_is : held_t n w ≡ u

pub record EndsFrame (w w' : List ℕ) : Type 0 where
  pub same : length w' ≡ length w
  pub above : (i : ℕ) → ORDER ≤ i → get_or w' i 0 ≡ get_or w i 0

pub record TurnsAt (s u : List ℕ) (y : ℕ) (w : List ℕ) : Type 0 where
  pub turn_is : (j : ℕ) → j < y → get_or w (TURN + j) 0 ≡ cusp_place u (image_at s (cusp_entry u j))

pub record EndsTo (u : List ℕ) (y : ℕ) (w : List ℕ) : Type 0 where
  pub end_is : (j : ℕ) → j < y → get_or w (END + j) 0 ≡ cusp_first u (cusp_at u j) + cusp_width u (cusp_at u j)
  pub width_is : (j : ℕ) → j < y → get_or w (WIDTH + j) 0 ≡ cusp_width u (cusp_at u j)

pub record SymbolPlaces (v : ℕ) (t : List ℤ) (w w' : List ℕ) (n : ℕ) : Type 0 where
  pub index : n ≡ index_of v t
  pub same : length w' ≡ length w
  pub prepared : Prepared n w'
  pub T_is : held_t n w' ≡ table_t v t
  pub turns : TurnsAt (table_s v t) (table_t v t) n w'
