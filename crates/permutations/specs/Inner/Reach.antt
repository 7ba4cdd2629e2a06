-- The points that are reached from 0, as the code lists them: a queue, and a mark for each point that is in it.
--
--   QueueHolds n size seen queue   the queue begins with n points below size, no two the same, and the marks tell
--                                  which
--   Entered x n ..                 x came to its end, if it was new
--   VisitedAt σ ρ i n ..           the images of its entry i under σ and ρ came to its end, if they were new
--   Two s r                        both tables hold points, and are of one length
--   AllReached s r seen            the marks tell which points are reached from 0
use Rattle.std.specs.Prelude.{◌≡◌, Bool, false, List, ℕ, ◌≤◌, ◌<◌, length, get_or, take}
use Rattle.numbering.specs.Find.{is_in, ◌∈◌, Once}
use Rattle.numbering.specs.Order.{add, visit, order_of}
use Rattle.permutations.specs.Pair.{image}
use Rattle.permutations.specs.Inner.Seen.{Entries}

pub record QueueHolds (n size : ℕ) (seen : List Bool) (queue : List ℕ) : Type 0 where
  pub seen_long : length seen ≡ 3072
  pub queue_long : length queue ≡ 3072
  pub few : n ≤ size
  pub most : size ≤ 3066
  pub marks : (x : ℕ) → x < 3072 → get_or seen x false ≡ is_in (take n queue) x
  pub low : (x : ℕ) → x ∈ take n queue → x < size
  pub once : Once (take n queue)

pub record Entered (x n size : ℕ) (queue : List ℕ) (seen' : List Bool) (queue' : List ℕ) (k : ℕ) : Type 0 where
  pub listed : QueueHolds k size seen' queue'
  pub is : take k queue' ≡ add (take n queue) x

pub record VisitedAt (σ ρ : ℕ → ℕ) (i n size : ℕ) (queue : List ℕ) (seen' : List Bool) (queue' : List ℕ) (k : ℕ) : Type 0
  where
    pub listed : QueueHolds k size seen' queue'
    pub is : take k queue' ≡ visit σ ρ (take n queue) i

pub record Two (s r : List ℕ) : Type 0 where
  pub S : Entries s
  pub R : Entries r
  pub even : length r ≡ length s
  pub some : 1 ≤ length s

pub record AllReached (s r : List ℕ) (seen : List Bool) : Type 0 where
  pub long : length seen ≡ 3072
  pub marks : (x : ℕ) → x < 3072 → get_or seen x false ≡ is_in (order_of (image s) (image r) 0 (length s)) x
