-- Maps that move numbers as others move points, and leave what is no point where it is: products, and equations between them (`up`, `down`).
--
--   Alike n point M N     M moves the numbers below n as N moves the points; N moves nothing else
--
-- Assumes nothing.
use mathlib.Core.Path.{◌≡◌, refl, sym, ◌∙◌, ap}
use Prim.Native.Nat.{ℕ, ◌≤◌, ◌<◌}
use native.Mathlib.Omega.{arith}
use native.Mathlib.Decide.{dec_lt}
use Rattle.congruence_decision.specs.Maps.{NumbersPoints, Moves}

pub record Alike (n : ℕ) (point M N : ℕ → ℕ) : Type 0 where
  pub moves : Moves n point M N
  pub out : (j : ℕ) → n ≤ j → N j ≡ j

module _ {n : ℕ} {point : ℕ → ℕ} where
  pub still : Alike n point (λ y. y) (λ j. j)
  still = record { moves = record { low = λ y h. h; is = λ y h. refl }; out = λ j h. refl }

  -- M first, and then M'
  infixl 20 ◌next◌
  pub ◌next◌ : {M N M' N' : ℕ → ℕ} → Alike n point M N → Alike n point M' N' → Alike n point (λ y. M' (M y)) (λ j. N' (N j))
  ◌next◌ {M} {N} {M'} {N'} a b = record {
    moves = record {
      low = λ y h. b.moves.low (M y) (a.moves.low y h);
      is = λ y h. b.moves.is (M y) (a.moves.low y h) ∙ ap N' (a.moves.is y h);
    };
    out = λ j h. ap N' (a.out j h) ∙ b.out j h;
  }

  pub alike_as : {M N N' : ℕ → ℕ} → ((j : ℕ) → N j ≡ N' j) → Alike n point M N → Alike n point M N'
  alike_as e a = record {
    moves = record { low = a.moves.low; is = λ y h. a.moves.is y h ∙ e (point y) };
    out = λ j h. sym (e j) ∙ a.out j h;
  }

  module _ (r : NumbersPoints n point) {M N M' N' : ℕ → ℕ} (a : Alike n point M N) (b : Alike n point M' N') where
    -- an equation of the numbers is one of all points
    pub up : ((y : ℕ) → y < n → M y ≡ M' y) → (j : ℕ) → N j ≡ N' j
    up e j = elim (dec_lt j n) [
      | yes h ↦
          let y = r.name j in
          let l = r.name_low j h in
          ap N (sym (r.name_is j h)) ∙ sym (a.moves.is y l) ∙ ap point (e y l) ∙ b.moves.is y l ∙ ap N' (r.name_is j h)
      | no h ↦ a.out j (omega arith) ∙ sym (b.out j (omega arith))
    ]

    pub down : ((j : ℕ) → N j ≡ N' j) → (y : ℕ) → y < n → M y ≡ M' y
    down e y h = r.one (M y) (M' y) (a.moves.low y h) (b.moves.low y h) (a.moves.is y h ∙ e (point y) ∙ sym (b.moves.is y h))
