-- A TABLE IN WHICH TWO SIDES HAVE NEW LABELS: the sides and the vertices that stay (`kept`, `kept_vertex`), the two that don't (`at_first`, `at_last`), and
-- that the old labels, put back, make the old table (`restored`). Assumes nothing.
use mathlib.Core.Path.{◌≡◌, sym, ◌∙◌, ap}
use mathlib.Core.List.{List}
use Prim.Native.Nat.{ℕ, ◌+◌, ◌*◌, ◌<◌}
use native.Mathlib.Omega.{arith}
use lib.ListN.{length, set, length-set}
use lib.Seq.{get_or-drop, get_or-set_same, get_or-set_other, set-set, set_comm, set-get_or}
use lib.IntN.{ℤ, pos}
use Rattle.matrix.specs.Matrix.{nth}
use Rattle.symbol.specs.Table.{pairing_entry}
use Rattle.partner_exchange.specs.Exchange.{with_label}

entry_is : (v : ℕ) (l : List ℤ) (i : ℕ) → pairing_entry v l i ≡ nth l (2 * v + i)
entry_is v l i = get_or-drop (2 * v) l i (pos 0)

module _ (v : ℕ) (t : List ℤ) (b d : ℕ) (x y : ℤ) where
  abbrev u : List ℤ
  u = with_label v (with_label v t b y) d x

  pub kept_vertex : (i : ℕ) → i < 2 * v → nth u i ≡ nth t i
  kept_vertex i h = get_or-set_other (with_label v t b y) (2 * v + d) i x (pos 0) (λ e. omega arith) ∙ get_or-set_other t (2 * v + b) i y (pos 0) (λ e. omega arith)

  pub kept : (i : ℕ) → (i ≡ b → ⊥) → (i ≡ d → ⊥) → pairing_entry v u i ≡ pairing_entry v t i
  kept i p q =
      entry_is v u i
      ∙ get_or-set_other (with_label v t b y) (2 * v + d) (2 * v + i) x (pos 0) (λ e. q (omega arith))
      ∙ get_or-set_other t (2 * v + b) (2 * v + i) y (pos 0) (λ e. p (omega arith))
      ∙ sym (entry_is v t i)

  pub at_last : 2 * v + d < length t → pairing_entry v u d ≡ x
  at_last h = entry_is v u d ∙ get_or-set_same (with_label v t b y) (2 * v + d) x (pos 0) (omega (arith, length-set t (2 * v + b) y))

  pub at_first : (b ≡ d → ⊥) → 2 * v + b < length t → pairing_entry v u b ≡ y
  at_first p h =
      entry_is v u b
      ∙ get_or-set_other (with_label v t b y) (2 * v + d) (2 * v + b) x (pos 0) (λ e. p (omega arith))
      ∙ get_or-set_same t (2 * v + b) y (pos 0) h

  pub with_label_length : length u ≡ length t
  with_label_length = length-set (with_label v t b y) (2 * v + d) x ∙ length-set t (2 * v + b) y

  -- a label that a side has already
  same_label : (i : ℕ) (z : ℤ) → pairing_entry v t i ≡ z → with_label v t i z ≡ t
  same_label i z e = ap (λ (w : ℤ). set t (2 * v + i) w) (sym e ∙ entry_is v t i) ∙ set-get_or t (2 * v + i) (pos 0)

  pub restored : (b ≡ d → ⊥) → pairing_entry v t b ≡ x → pairing_entry v t d ≡ y → with_label v (with_label v u d y) b x ≡ t
  restored p at_b at-d =
      let B = 2 * v + b in
      let D = 2 * v + d in
      ap (λ (l : List ℤ). set l B x) (set-set (set t B y) D x y)
      ∙ set_comm (set t B y) D B y x (λ e. p (omega arith))
      ∙ ap (λ (l : List ℤ). set l D y) (set-set t B y x ∙ same_label b x at_b)
      ∙ same_label d y at-d

  pub either_first : (b ≡ d → ⊥) → with_label v (with_label v t d x) b y ≡ u
  either_first p = set_comm t (2 * v + d) (2 * v + b) x y (λ e. p (omega arith))
