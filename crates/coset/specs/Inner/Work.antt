-- What the functions that fill the work space ask and leave.
--
--   FilledS t v w n     the first n positions have their S images in the table SIGMA, and the tables of the polygon are
--                       there
--   Inside v w          each S image is a position
--   FilledR v w w' n    the first n positions have their R images in the table RHO, made from the S images of w, which
--                       stay
--   Arranged t v w n    the tables of S, R and T of the symbol's n cosets are in their places
use Rattle.std.specs.Prelude.{◌≡◌, List, ℕ, ◌+◌, ◌≤◌, ◌<◌, length, get_or, ℤ}
use Rattle.call.specs.Space.{work_length}
use Rattle.polygon.specs.Cut.{places}
use Rattle.polygon.specs.Step.{step_s, turn_q, origin_of}
use Rattle.polygon.specs.Inner.Tables.{PolygonTables}
use Rattle.numbering.specs.Inner.Space.{SIGMA, RHO}
use Rattle.numbering.specs.Inner.Marks.{TablesOf}
use Rattle.coset.specs.Tables.{step_r}

pub record FilledS (t : List ℤ) (v : ℕ) (w : List ℕ) (n : ℕ) : Type 0 where
  pub tables : PolygonTables t v w
  pub images : (p : ℕ) → p < n → get_or w (SIGMA + p) 0 ≡ step_s v t p

pub record Inside (v : ℕ) (w : List ℕ) : Type 0 where
  pub some : 1 ≤ v
  pub most : v ≤ 1023
  pub long : work_length ≤ length w
  pub low : (p : ℕ) → p < places v → get_or w (SIGMA + p) 0 < places v

pub record FilledR (v : ℕ) (w w' : List ℕ) (n : ℕ) : Type 0 where
  pub same : length w' ≡ length w
  pub images : (p : ℕ) → p < places v → get_or w' (SIGMA + p) 0 ≡ get_or w (SIGMA + p) 0
  pub turns : (p : ℕ) → p < n → get_or w' (RHO + p) 0 ≡ get_or w (SIGMA + turn_q v (turn_q v (get_or w (SIGMA + p) 0))) 0

pub record Arranged (t : List ℤ) (v : ℕ) (w : List ℕ) (n : ℕ) : Type 0 where
  pub long : work_length ≤ length w
  pub tables : TablesOf (step_s v t) (step_r v t) (origin_of v t) (places v) n w
