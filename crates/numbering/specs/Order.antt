-- The numbering (docs/CONVENTIONS.md, 4): the start is 0; then, for each point in order, its S image and next its R
-- image take the next free number if new. The points are numbers below `size`, and σ and ρ are S and R as maps of
-- points.
--     add l x                     l with x behind it if x is new
--     visit σ ρ l i               l after a visit to its entry at i: the S image, and next the R image, are added
--     order_to σ ρ start i        the points that have a number when the first i in order have been visited, by number
--     order_of σ ρ start size     all points that get a number, by number: with `size` points, `size` visits are enough
--     up_to n                      0, 1, .., n - 1: the numbering of the points by their numbers (proofs/Numbered.antt)
--     Maps σ ρ start size         σ and ρ map the points into themselves, and the start is a point
--     Reached σ ρ start x         σ and ρ lead from the start to x
--     Numbering σ ρ start size l  THE THEOREM on the numbering l = order_of σ ρ start size: no repeats, the start
--                                 first, closed under σ and ρ, exactly the points that are reached, at most `size` many
-- `proofs/Order.antt` proves `numbering : Maps σ ρ start size → Numbering σ ρ start size (order_of σ ρ start size)`.
use Rattle.std.specs.Prelude.{◌≡◌, List, [], ◌∷◌, ◌++◌, ℕ, zero, suc, ◌≤◌, ◌<◌, length, get_or, ltb}
use Rattle.numbering.specs.Find.{◌∈◌, is_in, Once}
use Rattle.basics.specs.Choice.{pick}

unfoldable pub add : List ℕ → ℕ → List ℕ
add l x = pick (is_in l x) l (l ++ (x ∷ []))

abbrev pub visit : (σ ρ : ℕ → ℕ) → List ℕ → ℕ → List ℕ
visit σ ρ l i = add (add l (σ (get_or l i 0))) (ρ (get_or l i 0))

unfoldable pub order_to : (σ ρ : ℕ → ℕ) (start : ℕ) → ℕ → List ℕ
order_to σ ρ start zero = start ∷ []
order_to σ ρ start (suc i) =
    let l = order_to σ ρ start i in
    pick (ltb i (length l)) (visit σ ρ l i) l

abbrev pub order_of : (σ ρ : ℕ → ℕ) (start size : ℕ) → List ℕ
order_of σ ρ start size = order_to σ ρ start size

unfoldable pub up_to : ℕ → List ℕ
up_to zero = []
up_to (suc n) = up_to n ++ (n ∷ [])

pub record Maps (σ ρ : ℕ → ℕ) (start size : ℕ) : Type 0 where
  pub start_low : start < size
  pub σ_low : (x : ℕ) → x < size → σ x < size
  pub ρ_low : (x : ℕ) → x < size → ρ x < size

pub data Reached (σ ρ : ℕ → ℕ) (start : ℕ) : ℕ → Type 0 where
  here : Reached σ ρ start start
  by_σ : {x : ℕ} → Reached σ ρ start x → Reached σ ρ start (σ x)
  by_ρ : {x : ℕ} → Reached σ ρ start x → Reached σ ρ start (ρ x)

pub record Numbering (σ ρ : ℕ → ℕ) (start size : ℕ) (order : List ℕ) : Type 0 where
  pub once : Once order
  pub some : 0 < length order
  pub first : get_or order 0 0 ≡ start
  pub σ_closed : (x : ℕ) → x ∈ order → σ x ∈ order
  pub ρ_closed : (x : ℕ) → x ∈ order → ρ x ∈ order
  pub only : (x : ℕ) → x ∈ order → Reached σ ρ start x
  pub all : (x : ℕ) → Reached σ ρ start x → x ∈ order
  pub few : length order ≤ size
  pub low : (x : ℕ) → x ∈ order → x < size
