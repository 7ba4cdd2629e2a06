-- What is asked where a query gets to its symbol.
--
--   QueryReady f n a b w      a group with a name, a pair that passes 8 and 9, a work space that is long enough
use Rattle.std.specs.Prelude.{List, ℕ, ◌≤◌, length, ℤ}
use Rattle.matrix.specs.Matrix.{of_list}
use Rattle.matrix.specs.Bounds.{Small}
use Rattle.call.specs.Space.{work_length}
use Rattle.right_cosets.specs.Condition.{Unit}
use Rattle.congruence.specs.declared.Family.{Family}
use Rattle.congruence_tables.specs.Inner.Held.{Group}

pub record QueryReady (f : Family) (n : ℕ) (a b : List ℤ) (w : List ℕ) : Type 0 where
  pub group : Group f n
  pub work : work_length ≤ length w
  pub entries_A : Small 1000000 (of_list a)
  pub entries_B : Small 1000000 (of_list b)
  pub unit_A : Unit (of_list a)
  pub unit_B : Unit (of_list b)
