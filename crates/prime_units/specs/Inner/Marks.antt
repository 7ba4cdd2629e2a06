-- Marks of the powers of g modulo q, and of their opposites, in the work space from MARKS on.
--
--   Powered q g x      x is g^i or -g^i modulo q, for some i from 0 on
--   Marking q g w      what is marked is such a power
--   MarkedTo p q w     the numbers below q that p does not divide are marked
--   Unmarked q w       none is
--   OfPrime p q        p is a prime, and q a power of it, from p on
use Rattle.std.specs.Prelude.{◌≡◌, List, true, ℕ, suc, ◌+◌, ◌^◌, ◌≤◌, ◌<◌, get_or, length, ℤ, pos, ◌+ℤ◌, ◌-ℤ◌, ◌*ℤ◌}
use Rattle.std.specs.Int.{◌∣◌}
use Rattle.call.specs.Space.{work_length}
use Rattle.congruence.specs.Index.{is_prime}
use Rattle.congruence.specs.Congruence.{Multiple}

abbrev pub MARKS : ℕ
MARKS = 12288

abbrev pub MARKS_END : ℕ
MARKS_END = 16384

pub data PoweredBy (q : ℕ) (g : ℤ) : ℤ → Type 0 where
  one : (x : ℤ) → Multiple q (x -ℤ pos 1) → PoweredBy q g x
  more : (u x : ℤ) → PoweredBy q g u → Multiple q (x -ℤ u *ℤ g) → PoweredBy q g x
  minus : (u x : ℤ) → PoweredBy q g u → Multiple q (x +ℤ u) → PoweredBy q g x

abbrev pub Powered : (q g x : ℕ) → Type 0
Powered q g x = PoweredBy q (pos g) (pos x)

pub record Marking (q g : ℕ) (w : List ℕ) : Type 0 where
  pub long : work_length ≤ length w
  pub q_some : 1 < q
  pub q_low : q ≤ 4095
  pub g_low : g ≤ q
  pub marked : (x : ℕ) → x ≤ q → 0 < get_or w (MARKS + x) 0 → Powered q g x

pub record MarkedTo (p q : ℕ) (w : List ℕ) : Type 0 where
  pub marks : (x : ℕ) → 0 < x → x < q → (p ∣ x → ⊥) → 0 < get_or w (MARKS + x) 0

pub record Unmarked (q : ℕ) (w : List ℕ) : Type 0 where
  pub long : work_length ≤ length w
  pub none : (x : ℕ) → x ≤ q → get_or w (MARKS + x) 0 ≡ 0

pub record OfPrime (p q : ℕ) : Type 0 where
  pub prime : is_prime p ≡ true
  pub k : ℕ
  pub is : q ≡ p ^ suc k
