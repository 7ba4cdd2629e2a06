-- Letters stored one by one.
--
-- In order: stores put together (`stored-++`), the length (`length_stored`), no room at all (`stored_none`), room for all (`stored_all`).
-- Assumes nothing.
use mathlib.Core.Path.{◌≡◌, refl, sym, ◌∙◌, ap}
use mathlib.Core.Bool.{Bool, true, false}
use mathlib.Core.List.{List, [], ◌∷◌, ◌++◌}
use Prim.Native.Nat.{ℕ, suc, ◌+◌, ◌-◌, ◌≤◌, ◌<◌}
use native.Mathlib.Omega.{arith}
use native.Mathlib.Nat.{add-zero, add-suc, suc-add}
use lib.Dec.{ltb}
use lib.ListN.{length, set, length-set}
use lib.Seq.{sets, sets-eq}
use lib.IntN.{ℤ}
use borrow.Author.Tests.{lt-ltb, le-ltb}
use Rattle.basics.specs.Choice.{pick}
use Rattle.basics.proofs.Choice.{pick_true, pick_false}
use Rattle.walk.specs.Inner.Way.{stored, put_from}

module _ (start limit : ℕ) where
  pub stored-++ : (l m : List ℤ) (n : ℕ) (out : List ℤ) → stored start limit n (l ++ m) out ≡ stored start limit (n + length l) m (stored start limit n l out)
  stored-++ [] m n out = ap (λ (k : ℕ). stored start limit k m out) (sym (add-zero n))
  stored-++ (z ∷ l) m n out =
      let out1 = pick (ltb n limit) (set out (start + n) z) out in
      stored-++ l m (suc n) out1
      ∙ ap (λ (k : ℕ). stored start limit k m (stored start limit (suc n) l out1)) (suc-add n (length l) ∙ sym (add-suc n (length l)))

  one_length : (b : Bool) (n : ℕ) (z : ℤ) (out : List ℤ) → length (pick b (set out (start + n) z) out) ≡ length out
  one_length true n z out = length-set out (start + n) z
  one_length false n z out = refl

  pub length_stored : (l : List ℤ) (n : ℕ) (out : List ℤ) → length (stored start limit n l out) ≡ length out
  length_stored [] n out = refl
  length_stored (z ∷ l) n out = length_stored l (suc n) (pick (ltb n limit) (set out (start + n) z) out) ∙ one_length (ltb n limit) n z out

  -- the letter number n, below the limit and not
  pub stored_in_lem : (z : ℤ) (n : ℕ) (out : List ℤ) → n < limit → set out (start + n) z ≡ stored start limit n (z ∷ []) out
  stored_in_lem z n out h = sym (pick_true (ltb n limit) (set out (start + n) z) out (lt-ltb n limit h))

  pub stored_out : (z : ℤ) (n : ℕ) (out : List ℤ) → limit ≤ n → out ≡ stored start limit n (z ∷ []) out
  stored_out z n out h = sym (pick_false (ltb n limit) (set out (start + n) z) out (le-ltb n limit h))

  -- room for all
  pub stored_sets : (l : List ℤ) (n : ℕ) (out : List ℤ) → n + length l ≤ limit → stored start limit n l out ≡ sets out (start + n) l
  stored_sets [] n out h = refl
  stored_sets (z ∷ l) n out h =
      ap (stored start limit (suc n) l) (pick_true (ltb n limit) (set out (start + n) z) out (lt-ltb n limit (omega arith)))
      ∙ stored_sets l (suc n) (set out (start + n) z) (omega arith)
      ∙ ap (λ (k : ℕ). sets (set out (start + n) z) k l) (add-suc start n)

-- no room at all
pub stored_none : (start : ℕ) (l : List ℤ) (n : ℕ) (out : List ℤ) → stored start 0 n l out ≡ out
stored_none start [] n out = refl
stored_none start (z ∷ l) n out =
    ap (stored start 0 (suc n) l) (pick_false (ltb n 0) (set out (start + n) z) out (le-ltb n 0 (omega arith))) ∙ stored_none start l (suc n) out

pub stored_all : (start : ℕ) (l out : List ℤ) → start ≤ length out → length l ≤ length out - start → stored start (length l) 0 l out ≡ put_from start l out
stored_all start l out h k =
    stored_sets start (length l) l 0 out (omega arith) ∙ ap (λ (i : ℕ). sets out i l) (add-zero start) ∙ sets-eq l out start (omega arith)
