-- THE ORDER in which open sides are split. Sides are numbered as they come: those of the start from left to right,
-- then, split by split, the left part and the right part. A side is open from when it comes until it is paired, so that
-- the one that has been open longest came first.
--
--   Open, open_side i x     an open side: its number i from the left, and the number x as which it came
--   Order                   an order tells of two open sides whether the first of them is split before the second
--   leftmost                the order of the rule: the side further left before the other
--   longest_open            the order of the wide rule: the side that came before the other, which has been open longer
--   first_by order u l      the one of u and the open sides l that is split before all others; of two that are alike,
--                           the one further left (for a relation that isn't transitive, the one with which a run from
--                           the left ends)
--   open_from i came open   the open sides, from the left: the sides came as the numbers came, open says which are
--                           open, i is the number of the first
--   Chosen                  what is split: none, or this side, by its number from the left
--   chosen_by order came open   what an order chooses: none where no side is open
use Rattle.std.specs.Prelude.{Bool, List, [], ◌∷◌, ℕ, suc, ltb}
use Rattle.basics.specs.Choice.{pick}

pub record Open : Type 0 where
  pub place : ℕ
  pub came : ℕ

abbrev pub open_side : ℕ → ℕ → Open
open_side i x = record { place = i; came = x }

abbrev pub Order : Type 0
Order = Open → Open → Bool

abbrev pub leftmost : Order
leftmost u v = ltb u.place v.place

abbrev pub longest_open : Order
longest_open u v = ltb u.came v.came

abbrev pub first_by : Order → Open → List Open → Open
first_by order u [] = u
first_by order u (v ∷ l) = first_by order (pick (order v u) v u) l

abbrev pub open_from : ℕ → List ℕ → List Bool → List Open
open_from i [] open_yet = []
open_from i (x ∷ came) [] = []
open_from i (x ∷ came) (b ∷ open_yet) = pick b (open_side i x ∷ open_from (suc i) came open_yet)
    (open_from (suc i) came open_yet)

pub data Chosen : Type 0 where
  none : Chosen
  this : ℕ → Chosen

abbrev pub chosen_of : Order → List Open → Chosen
chosen_of order [] = none
chosen_of order (u ∷ l) = this (first_by order u l).place

abbrev pub chosen_by : Order → List ℕ → List Bool → Chosen
chosen_by order came open_yet = chosen_of order (open_from 0 came open_yet)
