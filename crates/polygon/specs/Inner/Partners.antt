-- Partners and generator numbers in the work space.
--
--   PartnersHeld      every free side has its partner
--   NumberedTo        the first i sides have the numbers of their generators, and n of them lead
--   Numbered          every side has its number
use Rattle.std.specs.Prelude.{◌≡◌, List, ℕ, ◌+◌, ◌≤◌, ◌<◌, length, get_or, ℤ}
use Rattle.basics.specs.Count.{count}
use Rattle.pairing.specs.Generator.{partner, pairing_at, is_leader, generator_number}
use Rattle.symbol.specs.declared.Pairing.TheVariants.{Free}
use Rattle.polygon.specs.Inner.Space.{GENERATOR}
use Rattle.pairing.specs.Inner.Work.{PARTNER}

pub record PartnersHeld (t : List ℤ) (v : ℕ) (w : List ℕ) : Type 0 where
  pub partners : (i l : ℕ) → i ≤ v → pairing_at v t i ≡ Free l → get_or w (PARTNER + i) 0 ≡ partner v t i

pub record Numbered (t : List ℤ) (v : ℕ) (w : List ℕ) : Type 0 where
  pub numbers : (i : ℕ) → i ≤ v → get_or w (GENERATOR + i) 0 ≡ generator_number v t i

pub record NumberedTo (t : List ℤ) (v : ℕ) (w : List ℕ) (i n : ℕ) : Type 0 where
  pub long : 32768 ≤ length w
  pub partnered : PartnersHeld t v w
  pub count : n ≡ count (is_leader v t) i
  pub numbers : (j : ℕ) → j < i → get_or w (GENERATOR + j) 0 ≡ generator_number v t j
