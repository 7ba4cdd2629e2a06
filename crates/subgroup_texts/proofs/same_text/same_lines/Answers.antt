-- `same_lines` meets its contract: its work space is long enough (`same_for_lem`). Assumes nothing.
use mathlib.Core.List.{List}
use Prim.Native.Nat.{ℕ, ◌≤◌}
use native.Mathlib.Omega.{arith}
use lib.ListN.{length, replicate, length-replicate}
use Rattle.call.specs.Space.{work_length}
use Rattle.decimal.proofs.Placing.{puts_as}
use Rattle.subgroup_texts.proofs.SameLines.{same_for_lem}
use Rattle.subgroup_texts.proofs.same_text.same_lines.Goals as goal

-- the program's work space
abbrev fresh : List ℕ
fresh = replicate 32768 0

long : work_length ≤ length fresh
long = omega (arith, length-replicate {A = ℕ} 32768 0)

pub returns : goal.returns
returns c =
    let called = c in
    let s = called.args in
    puts_as (same_for_lem s.v s.t.now s.n s.u.now fresh called.same-answer.ensures long) c.same_line.ensures
