-- How many letters a step writes, as the code counts them; and what its stores leave.
-- In order: letters (`turn_none`, `turn_one`); a block (`block_is`, `block_count_lem`); a position entered (`entered_by`); the ends
-- of a round (`filled_none`, `filled_more`, `filled_end`).
-- Assumes nothing.
use mathlib.Core.Path.{◌≡◌, refl, sym, ap, ◌∙◌, subst}
use mathlib.Core.Logic.{◌⊎◌, inl, inr}
use mathlib.Core.Bool.{Bool, true, false}
use mathlib.Core.List.{List}
use Prim.Native.Nat.{ℕ, suc, ◌+◌, ◌≤◌, ◌<◌}
use native.Mathlib.Omega.{arith}
use native.Mathlib.Decide.{dec_lt}
use lib.ListN.{length, get_or, set, length-set}
use lib.Seq.{get_or-set_same, get_or-set_other}
use lib.IntN.{ℤ}
use borrow.Author.Tests.{lt-ltb, le-ltb}
use Rattle.basics.specs.Choice.{pick}
use Rattle.matrix.specs.Words.{Letter, S, Q, P}
use Rattle.symbol.specs.Symbol.{IsSymbol}
use Rattle.polygon.specs.Cut.{corners}
use Rattle.coset.specs.Positions.{step_s, turn_q, written, goes}
use Rattle.coset.proofs.Positions.{positions}
use Rattle.walk_runs.specs.Runs.{block_to, block_count}
use Rattle.walk_runs.specs.Inner.Rounds.{POSITION, BEGINNING, ENDING, SUM, rounds_length, end_in, RoundEntered, EndsFilled}
use Rattle.walk_runs.proofs.Symmetry.{same_turn}

module _ (v : ℕ) (t : List ℤ) (p : ℕ) where
  pub turn_none : p < corners v → 0 ≡ length (written v t Q p)
  unfolding written
  turn_none h = rw (lt-ltb p (corners v) h) refl

  pub turn_one : corners v ≤ p → 1 ≡ length (written v t Q p)
  unfolding written
  turn_one h = rw (le-ltb p (corners v) h) refl

pub block_is : (v : ℕ) (t : List ℤ) (x : Letter) (p to : ℕ) → to ≡ goes v t x (step_s v t p) → to ≡ block_to v t x p
unfolding block_to
block_is v t x p to e = e

-- a turn writes as many letters where it has led to, and Q as many as Q⁻¹
pub block_count_lem : {v : ℕ} {t : List ℤ} → IsSymbol v t → (inverse : Bool) (p to n : ℕ) → to ≡ goes v t (pick inverse P Q) (step_s v t p)
    → n ≡ length (written v t S p) + length (written v t Q to) → n ≡ block_count v t (pick inverse P Q) p
unfolding block_count
block_count_lem {v} {t} ok inverse p to n e f =
    omega (arith, f, ap (λ (q : ℕ). length (written v t Q q)) e, there inverse (step_s v t p))
  where
    there : (b : Bool) (q : ℕ) → length (written v t Q (goes v t (pick b P Q) q)) ≡ length (written v t (pick b P Q) q)
    there true q = sym (same_turn v t ok (turn_q v (turn_q v q))) ∙ ap length ((positions ok).back_writes q)
    there false q = ap length ((positions ok).turn_writes q)

-- ---- one position

module _ (r : List ℕ) (x n a s : ℕ) (long : length r ≡ rounds_length) (hx : x < POSITION) (hn : n < 4090) where
  abbrev r1 : List ℕ
  r1 = set r x (n + 1)

  abbrev r2 : List ℕ
  r2 = set r1 (POSITION + n) x

  abbrev r3 : List ℕ
  r3 = set r2 (BEGINNING + n) a

  abbrev r4 : List ℕ
  r4 = set r3 (SUM + (n + 1)) s

  long1 : length r1 ≡ rounds_length
  long1 = length-set r x (n + 1) ∙ long

  long2 : length r2 ≡ rounds_length
  long2 = length-set r1 (POSITION + n) x ∙ long1

  long3 : length r3 ≡ rounds_length
  long3 = length-set r2 (BEGINNING + n) a ∙ long2

  from3 : (j : ℕ) → (j ≡ SUM + (n + 1) → ⊥) → get_or r4 j 0 ≡ get_or r3 j 0
  from3 j h = get_or-set_other r3 (SUM + (n + 1)) j s 0 h

  from2 : (j : ℕ) → (j ≡ SUM + (n + 1) → ⊥) → (j ≡ BEGINNING + n → ⊥) → get_or r4 j 0 ≡ get_or r2 j 0
  from2 j h k = from3 j h ∙ get_or-set_other r2 (BEGINNING + n) j a 0 k

  from1 : (j : ℕ) → (j ≡ SUM + (n + 1) → ⊥) → (j ≡ BEGINNING + n → ⊥) → (j ≡ POSITION + n → ⊥) → get_or r4 j 0 ≡ get_or r1 j 0
  from1 j h k m = from2 j h k ∙ get_or-set_other r1 (POSITION + n) j x 0 m

  kept : (j : ℕ) → (j ≡ SUM + (n + 1) → ⊥) → (j ≡ BEGINNING + n → ⊥) → (j ≡ POSITION + n → ⊥) → (j ≡ x → ⊥) → get_or r4 j 0 ≡ get_or r j 0
  kept j h k m i = from1 j h k m ∙ get_or-set_other r x j (n + 1) 0 i

  pub entered_by : RoundEntered r x n a s r4
  entered_by = record {
    long = length-set r3 (SUM + (n + 1)) s ∙ long3 ∙ sym long;
    place_is = from1 x (λ e. omega arith) (λ e. omega arith) (λ e. omega arith) ∙ get_or-set_same r x (n + 1) 0 (omega (arith, long)) ∙ omega arith;
    place_other = λ p l h. kept p (λ e. omega arith) (λ e. omega arith) (λ e. omega arith) h;
    order_is = from2 (POSITION + n) (λ e. omega arith) (λ e. omega arith) ∙ get_or-set_same r1 (POSITION + n) x 0 (omega (arith, long1));
    order_other = λ y l h. kept (POSITION + y) (λ e. omega arith) (λ e. omega arith) (λ e. h (omega arith)) (λ e. omega arith);
    first_is = from3 (BEGINNING + n) (λ e. omega arith) ∙ get_or-set_same r2 (BEGINNING + n) a 0 (omega (arith, long2));
    first_other = λ y l h. kept (BEGINNING + y) (λ e. omega arith) (λ e. h (omega arith)) (λ e. omega arith) (λ e. omega arith);
    end_other = λ y l. kept (ENDING + y) (λ e. omega arith) (λ e. omega arith) (λ e. omega arith) (λ e. omega arith);
    sum_is = let i : SUM + suc n ≡ SUM + (n + 1) = omega arith in
        ap (λ (j : ℕ). get_or r4 j 0) i ∙ get_or-set_same r3 (SUM + (n + 1)) s 0 (omega (arith, long3));
    sum_other = λ y l h. kept (SUM + y) (λ e. h (omega arith)) (λ e. omega arith) (λ e. omega arith) (λ e. omega arith);
  }

-- ---- ends

pub filled_none : (a n : ℕ) (r : List ℕ) → EndsFilled a n a r r
filled_none a n r = record { long = refl; ends = λ y h l. absurd (omega arith); other = λ j h. refl }

pub filled_more : (a n i : ℕ) {r r' : List ℕ} → a ≤ i → ENDING + i < length r' → EndsFilled a n i r r' → EndsFilled a n (i + 1) r (set r' (ENDING + i) n)
filled_more a n i {r} {r'} h room k = record {
  long = length-set r' (ENDING + i) n ∙ k.long;
  ends = λ y m l. elim (dec_lt y i) [
    | yes z ↦ get_or-set_other r' (ENDING + i) (ENDING + y) n 0 (λ e. omega arith) ∙ k.ends y m z
    | no z ↦ let j : y ≡ i = omega arith in ap (end_in (set r' (ENDING + i) n)) j ∙ get_or-set_same r' (ENDING + i) n 0 room
  ];
  other = λ j m. get_or-set_other r' (ENDING + i) j n 0 (apart j m) ∙ k.other j (less j m);
}
  where
    apart : (j : ℕ) → (j < ENDING + a) ⊎ (ENDING + (i + 1) ≤ j) → j ≡ ENDING + i → ⊥
    apart j (inl m) e = omega arith
    apart j (inr m) e = omega arith

    less : (j : ℕ) → (j < ENDING + a) ⊎ (ENDING + (i + 1) ≤ j) → (j < ENDING + a) ⊎ (ENDING + i ≤ j)
    less j (inl m) = inl m
    less j (inr m) = inr (omega arith)

pub filled_end : {a n i : ℕ} {r r' : List ℕ} → n ≤ i → i ≤ n → EndsFilled a n i r r' → EndsFilled a n n r r'
filled_end {a} {n} {i} {r} {r'} h m k = let e : i ≡ n = omega arith in subst (λ (j : ℕ). EndsFilled a n j r r') e k
