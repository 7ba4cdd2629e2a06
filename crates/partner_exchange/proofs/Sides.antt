-- THE TWO SIDES OF A LABEL.
--
-- In order: a label of a symbol has two sides, which are the first and the second (`label_sides`); two sides that are all with a label are its first and
-- second (`first_is`, `second_is`), and they are counted as two (`two_counted`).
-- Assumes nothing.
use mathlib.Core.Path.{◌≡◌, refl, sym, ◌∙◌, ap}
use mathlib.Core.Logic.{◌⊎◌, inl, inr}
use mathlib.Core.Bool.{Bool, true, false}
use mathlib.Core.List.{List}
use Prim.Native.Nat.{ℕ, suc, ◌+◌, ◌<◌, ◌≤◌}
use native.Mathlib.Omega.{arith}
use native.Mathlib.Decide.{dec_lt, ℕ_discrete}
use lib.Dec.{ltb}
use lib.IntN.{ℤ, pos, negsuc}
use borrow.Author.Tests.{ltb-true}
use Rattle.matrix.specs.Euclid.{positive}
use Rattle.basics.specs.Count.{first, count}
use Rattle.basics.proofs.Choice.{either, clash, and_left, and_right}
use Rattle.basics.proofs.Count.{Clear, without, without_at, without_other, found, first_hit, another, count_without, count_none}
use Rattle.symbol.specs.Table.{pairing_entries, pairing_entry}
use Rattle.symbol.specs.Check.{eq_z, sides}
use Rattle.symbol.specs.Symbol.{IsSymbol, FreeLabel}
use Rattle.symbol.proofs.Choice.{eq_z_true, eq_eq_z, eq_z_refl}
use Rattle.pairing.specs.Generator.{partner}
use Rattle.partner_exchange.specs.Exchange.{first_side, second_side, is_free_label}
use Rattle.partner_exchange.specs.Theorem.{TwoSides}

-- a test that isn't passed, shown by what passing it would say
pub fails : (b : Bool) → (b ≡ true → ⊥) → b ≡ false
fails b k = elim (either b) [ inl e ↦ absurd (k e) | inr e ↦ e ]

module _ (v : ℕ) (t : List ℤ) (x : ℤ) where
  abbrev has : ℕ → Bool
  has k = eq_z (pairing_entry v t k) x

  -- ---- the sides of a label of a symbol

  positive_free : (z : ℤ) → positive z ≡ true → (z ≡ negsuc 1) ⊎ (z ≡ negsuc 2) ⊎ FreeLabel v t z → FreeLabel v t z
  positive_free z p (inl e) = clash p (ap positive e)
  positive_free z p (inr (inl e)) = clash p (ap positive e)
  positive_free z p (inr (inr f)) = f

  pub label_sides : IsSymbol v t → is_free_label v (pairing_entries v t) x ≡ true → FreeLabel v t x × TwoSides v t x (first_side v t x) (second_side v t x)
  label_sides ok e =
      let a = first_side v t x in
      let p = and_left (positive x) (ltb a (v + 1)) e in
      let f = found has (v + 1) (ltb-true a (v + 1) (and_right (positive x) (ltb a (v + 1)) e)) in
      let low = f.below in
      let is = eq_z_true (pairing_entry v t a) x f.passes in
      let free : FreeLabel v t x = positive_free x p (rw is at (ok.pairings a (omega arith))) in
      let like : ℕ → Bool = λ k. eq_z (pairing_entry v t k) (pairing_entry v t a) in
      let two : count like (v + 1) ≡ 2 = ap (sides v t) is ∙ free.twice in
      let b = another like (v + 1) a two (omega arith) (eq_z_refl (pairing_entry v t a)) in
      let same = eq_z_true (pairing_entry v t (partner v t a)) (pairing_entry v t a) b.passes ∙ is in
      let after : a < partner v t a =
      elim (dec_lt (partner v t a) a) [
        | yes l ↦ clash (eq_eq_z (pairing_entry v t (partner v t a)) x same) (f.clear.none (partner v t a) l)
        | no l ↦ omega (arith, b.differs)
      ] in (
        free,
        record {
          ordered = after;
          within = omega (arith, b.below);
          first = is;
          second = same;
          only = λ i h q. elim (ℕ_discrete i a) [
            | yes z ↦ inl z
            | no z ↦ inr (b.others i (omega arith) (eq_eq_z (pairing_entry v t i) (pairing_entry v t a) (q ∙ sym is)) z)
          ];
        },
      )

  -- ---- two sides that are all with a label

  module _ (a b : ℕ) (s : TwoSides v t x a b) where
    -- a side with the label that is neither
    neither : (i : ℕ) → i ≤ v → (i ≡ a → ⊥) → (i ≡ b → ⊥) → pairing_entry v t i ≡ x → ⊥
    neither i h p q e = elim (s.only i h e) [ inl z ↦ p z | inr z ↦ q z ]

    pub first_is : first_side v t x ≡ a
    first_is =
        let h = s.ordered in
        let k = s.within in
        let clear : Clear has a =
        record {
          none = λ i l. fails (has i) (λ e. neither i (omega arith) (λ z. omega arith) (λ z. omega arith) (eq_z_true (pairing_entry v t i) x e));
        } in
        first_hit has a (v + 1) (omega arith) clear (eq_eq_z (pairing_entry v t a) x s.first)

    partner_is : partner v t a ≡ b
    partner_is =
        let h = s.ordered in
        let k = s.within in
        let like : ℕ → Bool = λ i. eq_z (pairing_entry v t i) (pairing_entry v t a) in
        let clear : Clear (without a like) b =
        record {
          none = λ i l. elim (ℕ_discrete i a) [
            | yes z ↦ ap (without a like) z ∙ without_at a like
            | no z ↦ without_other a like i z
                ∙ fails (like i) (λ e. neither i (omega arith) z (λ y. omega arith) (eq_z_true (pairing_entry v t i) (pairing_entry v t a) e ∙ s.first))
          ];
        } in
        first_hit (without a like) b (v + 1) (omega arith) clear
        (without_other a like b (λ z. omega arith) ∙ eq_eq_z (pairing_entry v t b) (pairing_entry v t a) (s.second ∙ sym s.first))

    pub second_is : second_side v t x ≡ b
    second_is = ap (partner v t) first_is ∙ partner_is

    pub two_counted : sides v t x ≡ 2
    two_counted =
        let h = s.ordered in
        let k = s.within in
        let one = count_without a has (v + 1) (omega arith) (eq_eq_z (pairing_entry v t a) x s.first) in
        let two = count_without b (without a has) (v + 1) (omega arith)
        (without_other a has b (λ z. omega arith) ∙ eq_eq_z (pairing_entry v t b) x s.second) in
        let none = count_none (without b (without a has)) (v + 1)
        (record {
          none = λ i l. elim (ℕ_discrete i b) [
            | yes z ↦ ap (without b (without a has)) z ∙ without_at b (without a has)
            | no z ↦ without_other b (without a has) i z ∙ elim (ℕ_discrete i a) [
              | yes y ↦ ap (without a has) y ∙ without_at a has
              | no y ↦ without_other a has i y ∙ fails (has i) (λ e. neither i (omega arith) y z (eq_z_true (pairing_entry v t i) x e))
            ]
          ];
        }) in
        omega (arith, one, two, none)
