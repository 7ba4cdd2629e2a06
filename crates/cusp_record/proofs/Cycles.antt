-- Laws of a list of cycles, and of many steps of T.
-- Why: the list is made of blocks, one for each cycle, as long as the widths say; and what leads back leads back as often as one likes.
-- In order: the first cycle with a point (`among`); what a block holds (`entry`) and how the blocks add up (`parts`, `rest_next`, `rest_none`); steps by the
-- remainder (`times_rest`) and backward (`times_back`).
-- Assumes nothing.
use mathlib.Core.Path.{◌≡◌, refl, sym, ap, ◌∙◌}
use mathlib.Core.List.{List, [], ◌∷◌, ◌++◌, map}
use Prim.Native.Nat.{ℕ, zero, suc, ◌+◌, ◌-◌, ◌*◌, ◌/◌, ◌%◌, ◌≤◌, ◌<◌}
use native.Mathlib.Nat.{mod-lt, div-add-mod'}
use native.Mathlib.Omega.{arith}
use native.Mathlib.Decide.{dec_lt}
use lib.ListN.{length, get_or, take, drop, get_or-append}
use lib.Seq.{get_or-append-add}
use borrow.Author.Tests.{lt-ltb, le-ltb}
use Rattle.numbering.specs.Find.{find, ◌∈◌}
use Rattle.numbering.specs.Table.{Permutes}
use Rattle.numbering.proofs.Find.{none_below_lem}
use Rattle.figures.specs.Cusps.{times, width, cycle, cycles, sum}
use Rattle.figures.proofs.Cycle.{times_add, times_low, times_one, cycle_length, cycle_at}
use Rattle.cusp_record.specs.Record.{cusp_among}

-- ---- the first cycle with a point: where some cycle has it, the search ends at one
pub record Among (t l : List ℕ) (x : ℕ) : Type 0 where
  pub low : cusp_among t l x < length l
  pub has : x ∈ cycle t (get_or l (cusp_among t l x) 0)

module _ {t l : List ℕ} {c x : ℕ} where
  among_first : x ∈ cycle t c → Among t (c ∷ l) x
  unfolding cusp_among
  among_first i =
      let z : cusp_among t (c ∷ l) x ≡ 0 = rw (lt-ltb (find (cycle t c) x) (length (cycle t c)) i) in
      record { low = rw z (omega arith); has = rw z i }

  among_behind : length (cycle t c) ≤ find (cycle t c) x → Among t l x → Among t (c ∷ l) x
  unfolding cusp_among
  among_behind o a =
      let z : cusp_among t (c ∷ l) x ≡ suc (cusp_among t l x) = rw (le-ltb (find (cycle t c) x) (length (cycle t c)) o) in
      record { low = rw z (omega (arith, a.low)); has = rw z a.has }

pub among : (t l : List ℕ) (x i : ℕ) → i < length l → x ∈ cycle t (get_or l i 0) → Among t l x
among t [] x i h e = none_below_lem h
among t (c ∷ l) x zero h e = among_first e
among t (c ∷ l) x (suc i) h e = elim (dec_lt (find (cycle t c) x) (length (cycle t c))) [
  | yes a ↦ among_first a
  | no a ↦ among_behind (omega arith) (among t l x i (omega arith) e)
]

-- ---- blocks
module _ (t : List ℕ) (c : ℕ) (m : List ℕ) where
  in_block : (j : ℕ) → j < width t c → get_or (cycle t c ++ m) j 0 ≡ times t j c
  in_block j h = get_or-append (cycle t c) m 0 j (omega (arith, cycle_length t c)) ∙ cycle_at t c j h

  past_block : (i j : ℕ) → i ≡ width t c + j → get_or (cycle t c ++ m) i 0 ≡ get_or m j 0
  past_block i j e =
      let z : i ≡ length (cycle t c) + j = omega (arith, cycle_length t c) in
      ap (λ (a : ℕ). get_or (cycle t c ++ m) a 0) z ∙ get_or-append-add (cycle t c) m j 0

pub entry : (t l : List ℕ) (k j : ℕ) → k < length l → j < width t (get_or l k 0)
    → get_or (cycles t l) (sum (take k (map (width t) l)) + j) 0 ≡ times t j (get_or l k 0)
unfolding cycles sum
entry t [] k j h g = none_below_lem h
entry t (c ∷ l) zero j h g =
    let e : 0 + j ≡ j = omega arith in
    ap (λ (i : ℕ). get_or (cycle t c ++ cycles t l) i 0) e ∙ in_block t c (cycles t l) j g
entry t (c ∷ l) (suc k) j h g =
    let s = sum (take k (map (width t) l)) in
    past_block t c (cycles t l) (width t c + s + j) (s + j) (omega arith) ∙ entry t l k j (omega arith) g

pub parts : (l : List ℕ) (k : ℕ) → sum (take k l) + sum (drop k l) ≡ sum l
unfolding sum
parts [] zero = refl
parts [] (suc k) = refl
parts (x ∷ l) zero = omega arith
parts (x ∷ l) (suc k) = omega (arith, parts l k)

pub rest_next : (l : List ℕ) (k : ℕ) → sum (drop k l) ≡ get_or l k 0 + sum (drop (suc k) l)
unfolding sum
rest_next [] zero = refl
rest_next [] (suc k) = refl
rest_next (x ∷ l) zero = refl
rest_next (x ∷ l) (suc k) = rest_next l k

pub rest_none : (l : List ℕ) (k : ℕ) → length l ≤ k → sum (drop k l) ≡ 0
unfolding sum
rest_none [] zero h = refl
rest_none [] (suc k) h = refl
rest_none (x ∷ l) zero h = none_below_lem h
rest_none (x ∷ l) (suc k) h = rest_none l k (omega arith)

-- ---- many steps from a point to which w steps lead back
module _ (t : List ℕ) (w x : ℕ) (back : times t w x ≡ x) where
  rounds : (k : ℕ) → times t (k * w) x ≡ x
  unfolding times
  rounds zero = let z : 0 * w ≡ 0 = omega arith in ap (λ (i : ℕ). times t i x) z
  rounds (suc k) =
      let z : suc k * w ≡ w + k * w = omega arith in
      ap (λ (i : ℕ). times t i x) z ∙ times_add t w (k * w) x ∙ ap (times t (k * w)) back ∙ rounds k

  pub times_rest : (n : ℕ) → times t n x ≡ times t (n % w) x
  times_rest n = ap (λ (i : ℕ). times t i x) (sym (div-add-mod' n w)) ∙ times_add t (n / w * w) (n % w) x ∙ ap (times t (n % w)) (rounds (n / w))

-- the point n steps before x is found onward: n steps from there end a round
pub times_back : {t : List ℕ} (p : Permutes t) {x : ℕ} (h : x < length t) (w n y : ℕ) → 0 < w → times t w x ≡ x → y < length t → times t n y ≡ x
    → y ≡ times t (w - n % w) x
times_back {t} p {x} h w n y some round l e =
    let b = w - n % w in
    let m = mod-lt n {m = w} some in
    let whole : b + n ≡ suc (n / w) * w = omega (arith, div-add-mod' n w) in
    let there : times t n (times t b x) ≡ x = sym (times_add t b n x) ∙ ap (λ (i : ℕ). times t i x) whole ∙ rounds t w x round (suc (n / w)) in
    times_one p n y (times t b x) l (times_low p b x h) (e ∙ sym there)
