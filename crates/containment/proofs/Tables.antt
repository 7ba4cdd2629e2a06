-- A table that was kept at the front of a space, with zeros behind: what is read there is the table's entry, or 0 past its end (`padded`).
-- Assumes nothing.
use mathlib.Core.Path.{◌≡◌, sym, ◌∙◌, ap}
use mathlib.Core.List.{List, ◌++◌}
use Prim.Native.Nat.{ℕ, ◌+◌, ◌-◌}
use native.Mathlib.Omega.{arith}
use native.Mathlib.Decide.{dec_lt}
use lib.ListN.{length, get_or, get_or-append, get_or-eq_default}
use lib.Seq.{get_or-append-add}

module _ (l rest : List ℕ) (none : (j : ℕ) → get_or rest j 0 ≡ 0) where
  pub padded : (y : ℕ) → get_or (l ++ rest) y 0 ≡ get_or l y 0
  padded y = elim (dec_lt y (length l)) [
    | yes h ↦ get_or-append l rest 0 y h
    | no h ↦
        let e : length l + (y - length l) ≡ y = omega arith in
        ap (λ (i : ℕ). get_or (l ++ rest) i 0) (sym e) ∙ get_or-append-add l rest (y - length l) 0 ∙ none (y - length l)
        ∙ sym (get_or-eq_default l 0 (omega arith))
  ]
