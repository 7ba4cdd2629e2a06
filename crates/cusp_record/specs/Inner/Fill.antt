-- How the coset record's cusps and steps get into the work space. `figures` has left there the points by cusps and the
-- widths; each point of that list, place by place, gets its cusp and its steps.
--
--     place   code     here     holds
--         0   STEPS    STEPS    the steps of each coset, below the table of S
--     12288   CUSPS    CUSPS    the cusp of each coset, where the R images of the positions were
--
--   cusp_entry u y          the entry y of the list of all points by cusps
--   ByCusps u n k w         the k cusps of the permutation u of n points: ORDER lists the points by cusps, NUMBER has
--                           the place of each, WIDTHS the widths
--   RecordFrame w w'        w' is w but for CUSPS and STEPS
--   AtCusp u c y            c has the number, the first place and the width of a cusp of u, and y lies from that place
--                           to the cusp's end, where the next begins
--   OnCusp u c y            the same, and y is not the end
--   CuspsEntered u y w      CUSPS and STEPS are right for the points before the place y
--   RecordFilled u n k w w' CUSPS and STEPS hold the columns of cusps and of steps, and the lists and all else are as
--     they were in w
--   SymbolRecord v t w w' n the record of a symbol's n cosets: its tables of S, R and T, its columns of cusps and of
--     steps, its points by cusps
use Rattle.std.specs.Prelude.{◌≡◌, List, ℕ, ◌+◌, ◌-◌, ◌≤◌, ◌<◌, length, get_or, ℤ}
use Rattle.call.specs.Space.{entries}
use Rattle.numbering.specs.Table.{Permutes}
use Rattle.numbering.specs.Inner.Space.{WORK, ROOM, S_TABLE, WIDTHS, NUMBER, ORDER, R_TABLE, T_TABLE}
use Rattle.figures.specs.Cusps.{cusps}
use Rattle.coset.specs.Tables.{index_of, table_s, table_r, table_t}
use Rattle.cusp_record.specs.Record.{cusp_width, cusp_of, cusp_steps, cusp_table, step_table, cusp_order, cusp_place}
use Rattle.cusp_record.specs.Record.{cusp_first}
use Rattle.cusp_record.specs.declared.Cusp.{Cusp}

abbrev pub CUSPS : ℕ
CUSPS = 12288

abbrev pub STEPS : ℕ
STEPS = 0

abbrev pub cusp_entry : List ℕ → ℕ → ℕ
cusp_entry u y = get_or (cusp_order u) y 0

pub record ByCusps (u : List ℕ) (n k : ℕ) (w : List ℕ) : Type 0 where
  pub long : WORK ≤ length w
  pub some : 0 < n
  pub room : n ≤ ROOM
  pub size : length u ≡ n
  pub permutes : Permutes u
  pub order_is : (y : ℕ) → y < n → get_or w (ORDER + y) 0 ≡ cusp_entry u y
  pub number_is : (x : ℕ) → x < n → get_or w (NUMBER + x) 0 ≡ cusp_place u x
  pub count : k ≡ length (cusps u)
  pub few : k ≤ n
  pub width_is : (j : ℕ) → j < k → get_or w (WIDTHS + j) 0 ≡ cusp_width u j

pub record RecordFrame (w w' : List ℕ) : Type 0 where
  pub same : length w' ≡ length w
  pub between : (i : ℕ) → S_TABLE ≤ i → i < CUSPS → get_or w' i 0 ≡ get_or w i 0
  pub above : (i : ℕ) → NUMBER ≤ i → get_or w' i 0 ≡ get_or w i 0

pub record AtCusp (u : List ℕ) (c : Cusp) (y : ℕ) : Type 0 where
  pub low : c.number < length (cusps u)
  pub first_is : c.first ≡ cusp_first u c.number
  pub width_is : c.width ≡ cusp_width u c.number
  pub from : c.first ≤ y
  pub to : y ≤ c.first + c.width

pub record OnCusp (u : List ℕ) (c : Cusp) (y : ℕ) : Type 0 where
  pub at : AtCusp u c y
  pub within : y < c.first + c.width

pub record CuspsEntered (u : List ℕ) (y : ℕ) (w : List ℕ) : Type 0 where
  pub cusps_are : (j : ℕ) → j < y → get_or w (CUSPS + cusp_entry u j) 0 ≡ cusp_of u (cusp_entry u j)
  pub steps_are : (j : ℕ) → j < y → get_or w (STEPS + cusp_entry u j) 0 ≡ cusp_steps u (cusp_entry u j)

pub record RecordFilled (u : List ℕ) (n k : ℕ) (w w' : List ℕ) : Type 0 where
  pub lists : ByCusps u n k w'
  pub cusps_are : entries CUSPS n w' ≡ cusp_table u
  pub steps_are : entries STEPS n w' ≡ step_table u
  pub frame : RecordFrame w w'

pub record SymbolRecord (v : ℕ) (t : List ℤ) (w w' : List ℕ) (n : ℕ) : Type 0 where
  pub index : n ≡ index_of v t
  pub same : length w' ≡ length w
  pub S_is : entries S_TABLE n w' ≡ table_s v t
  pub R_is : entries R_TABLE n w' ≡ table_r v t
  pub T_is : entries T_TABLE n w' ≡ table_t v t
  pub lists : ByCusps (table_t v t) n (length (cusps (table_t v t))) w'
  pub cusps_are : entries CUSPS n w' ≡ cusp_table (table_t v t)
  pub steps_are : entries STEPS n w' ≡ step_table (table_t v t)
