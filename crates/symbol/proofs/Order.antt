-- The order of the checks: which refusal a run of them ends with.
--
-- In order: the first refusal of several (`first_refused`, `next_check`, `or_else_assoc`); a check by its test (`refuse_yes`,
-- `refuse_at_lem`, `refuse_first`, `accept_at`); checks 1 and 2; an odd side as its bits; the marks at the start.
-- Assumes nothing.
use Rattle.std.specs.Prelude.{Ok, Err}
use mathlib.Core.Path.{◌≡◌, refl, sym, ◌∙◌, ap}
use mathlib.Core.Bool.{Bool, true, false, not, ◌&&◌}
use mathlib.Core.List.{List}
use Prim.Native.Nat.{ℕ, zero, suc, ◌+◌, ◌*◌, ◌-◌, ◌/◌, ◌%◌, ◌<◌, ◌≤◌}
use native.Mathlib.Omega.{arith}
use lib.Dec.{leb, ltb, eqb, lit<}
use lib.ListN.{length, get_or, replicate, take, drop, length-drop, length-replicate}
use lib.Seq.{take_all}
use borrow.Author.Tests.{lt-ltb, le-ltb, le-leb, lt-leb, eq-eqb, ne_eqb, eqb-true, eqb-false}
use lib.IntN.{ℤ, negsuc}
use mir.Syntax.{w64}
use mir.Val.{SFits, of_z}
use Rattle.basics.specs.Choice.{pick}
use Rattle.basics.specs.Count.{first}
use Rattle.symbol.specs.Table.{pairing_entries}
use Rattle.symbol.specs.Check.{refuse, refuse_at, eq_z, check1, check2, check3, check4, check5, check6, check7, symbol_check}
use Rattle.symbol.specs.Inner.Marks.{Tallied}
use Rattle.call.specs.declared.refusal.Refusal.{Refusal}
use Rattle.call.specs.Refusal.{◌or_else◌, Checked}
use Rattle.call.specs.declared.refusal.Refusal.TheVariants.{BadVertexCount, TableLength}
use Rattle.symbol.proofs.Choice.{eq_z_true, eq_eq_z}
use Rattle.basics.proofs.Choice.{pick_true, pick_false}
use Rattle.basics.proofs.Count.{Clear, first_le, clear_first, first_hit}
use Rattle.symbol.proofs.Signed.{bits_negative}

-- ---- the first refusal of several

pub first_refused : {c : Checked} {f : Refusal} (d : Checked) → c ≡ Err f → (c or_else d) ≡ Err f
first_refused d e = ap (λ (x : Checked). x or_else d) e

pub next_check : {c : Checked} (d : Checked) → c ≡ Ok tt → (c or_else d) ≡ d
next_check d e = ap (λ (x : Checked). x or_else d) e

pub or_else_assoc : (c d e : Checked) → ((c or_else d) or_else e) ≡ (c or_else (d or_else e))
or_else_assoc (Ok tt) d e = refl
or_else_assoc (Err f) d e = refl

-- ---- a check by its test

pub refuse_yes : (b : Bool) (f : Refusal) → b ≡ true → refuse b f ≡ Err f
refuse_yes b f e = pick_true b (Err f) (Ok tt) e

pub refuse_no : (b : Bool) (f : Refusal) → b ≡ false → refuse b f ≡ Ok tt
refuse_no b f e = pick_false b (Err f) (Ok tt) e

pub refuse_at_lem : (test : ℕ → Bool) (n k : ℕ) (f : ℕ → Refusal) → k ≡ first test n → k < n → refuse_at (first test n) n f ≡ Err (f k)
refuse_at_lem test n k f e h = refuse_yes (ltb (first test n) n) (f (first test n)) (lt-ltb (first test n) n (omega arith)) ∙ ap (λ (i : ℕ). Err (f i)) (sym e)

pub accept_at : (test : ℕ → Bool) (n k : ℕ) (f : ℕ → Refusal) → k ≡ first test n → n ≤ k → refuse_at (first test n) n f ≡ Ok tt
accept_at test n k f e h = refuse_no (ltb (first test n) n) (f (first test n)) (le-ltb (first test n) n (omega arith))

-- nothing was found
pub none_found : (test : ℕ → Bool) (n k : ℕ) → k ≡ first test n → n ≤ k → Clear test n
none_found test n k e h = let l = first_le test n in clear_first test n (omega arith)

-- the first place that fails is the refusal's
pub refuse_first : (test : ℕ → Bool) (n k : ℕ) (f : ℕ → Refusal) → k < n → Clear test k → test k ≡ true → refuse_at (first test n) n f ≡ Err (f k)
refuse_first test n k f h c e = refuse_at_lem test n k f (sym (first_hit test k n h c e)) h

-- ---- checks 1 and 2

pub too_few : (v : ℕ) (t : List ℤ) → v < 1 → symbol_check v t ≡ Err BadVertexCount
too_few v t h = first_refused _ (refuse_yes (not (leb 1 v && leb v 1023)) BadVertexCount (ap (λ (b : Bool). not (b && leb v 1023)) (lt-leb 1 v h)))

pub too_many_lem : (v : ℕ) (t : List ℤ) → 1 ≤ v → 1023 < v → symbol_check v t ≡ Err BadVertexCount
too_many_lem v t h k = first_refused _ (refuse_yes (not (leb 1 v && leb v 1023)) BadVertexCount
    (ap (λ (b : Bool). not (leb 1 v && b)) (lt-leb v 1023 k) ∙ and_false (leb 1 v)))
  where
    and_false : (b : Bool) → not (b && false) ≡ true
    and_false true = refl
    and_false false = refl

pub in_number : (v : ℕ) → 1 ≤ v → v ≤ 1023 → check1 v ≡ Ok tt
in_number v h k = refuse_no (not (leb 1 v && leb v 1023)) BadVertexCount (ap not (both (leb 1 v) (leb v 1023) (le-leb 1 v h) (le-leb v 1023 k)))
  where
    both : (a b : Bool) → a ≡ true → b ≡ true → (a && b) ≡ true
    both a b p q = ap (λ (x : Bool). x && b) p ∙ q

pub wrong_length : (v : ℕ) (t : List ℤ) → 1 ≤ v → v ≤ 1023 → (length t ≡ 3 * v + 1 → ⊥) → symbol_check v t ≡ Err (TableLength (length t))
wrong_length v t h k n = next_check _ (in_number v h k)
    ∙ first_refused _ (refuse_yes (not (eqb (length t) (3 * v + 1))) (TableLength (length t)) (ap not (ne_eqb (length t) (3 * v + 1) n)))

pub right_length : (v : ℕ) (t : List ℤ) → length t ≡ 3 * v + 1 → check2 v t ≡ Ok tt
right_length v t e = refuse_no (not (eqb (length t) (3 * v + 1))) (TableLength (length t)) (ap not (eq-eqb (length t) (3 * v + 1) e))

-- what is left after them
abbrev pub from_six : ℕ → List ℤ → Checked
from_six v t = check6 v (pairing_entries v t) or_else check7 v (pairing_entries v t)

abbrev pub from_four : ℕ → List ℤ → Checked
from_four v t = check4 v t or_else check5 v t or_else from_six v t

pub first_two : (v : ℕ) (t : List ℤ) → 1 ≤ v → v ≤ 1023 → length t ≡ 3 * v + 1 → symbol_check v t ≡ (check3 v t or_else from_four v t)
first_two v t h k e = next_check _ (in_number v h k) ∙ next_check _ (right_length v t e)

-- ---- an odd side

-- the code compares the bits with those of -3
pub is_minus_three : (x : ℤ) → SFits w64 x → eqb (of_z w64 x) 18446744073709551613 ≡ eq_z x (negsuc 2)
is_minus_three x f = go (eqb (of_z w64 x) 18446744073709551613) refl (eq_z x (negsuc 2)) refl
  where
    go : (a : Bool) → eqb (of_z w64 x) 18446744073709551613 ≡ a → (b : Bool) → eq_z x (negsuc 2) ≡ b → eqb (of_z w64 x) 18446744073709551613 ≡ eq_z x (negsuc 2)
    go true e b d = e ∙ sym (eq_eq_z x (negsuc 2) (bits_negative x 2 f (lit< tt) (eqb-true (of_z w64 x) 18446744073709551613 e)))
    go false e true d = absurd (eqb-false (of_z w64 x) 18446744073709551613 e (ap (of_z w64) (eq_z_true x (negsuc 2) d)))
    go false e false d = e ∙ sym d

-- ---- the marks at the start

pub get_d_zeros : (n k : ℕ) → get_or {A = ℕ} (replicate n 0) k 0 ≡ 0
get_d_zeros zero k = refl
get_d_zeros (suc n) zero = refl
get_d_zeros (suc n) (suc k) = get_d_zeros n k

pub tallied_none : (v : ℕ) (p : List ℤ) → Tallied v p 0 (replicate 512 0)
tallied_none v p = record {
  long = length-replicate {A = ℕ} 512 0;
  counts = λ l h. ap (λ (b : ℕ). pick (eqb (l % 2) 0) (b % 16) (b / 16)) (get_d_zeros 512 (l / 2)) ∙ none (eqb (l % 2) 0);
}
  where
    none : (b : Bool) → pick b (0 % 16) (0 / 16) ≡ 0
    none true = refl
    none false = refl

-- the part behind the vertex entries, as the code lends it
pub behind : (v : ℕ) (t : List ℤ) → take (length t - 2 * v) (drop (2 * v) t) ≡ pairing_entries v t
behind v t = take_all (length t - 2 * v) (drop (2 * v) t) (omega (arith, length-drop (2 * v) t))
