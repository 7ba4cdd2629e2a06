-- There and back the same number of letters is written: by S twice (`there_back`), and by Q and then P (`turn_back`).
-- Assumes nothing.
use mathlib.Core.Path.{◌≡◌, refl, sym, ap, ◌∙◌}
use mathlib.Core.Logic.{inl, inr}
use mathlib.Core.Bool.{Bool, true, false}
use mathlib.Core.List.{List, []}
use Prim.Native.Nat.{ℕ, ◌≤◌}
use native.Mathlib.Omega.{arith}
use native.Mathlib.Decide.{dec_lt}
use lib.Dec.{ltb}
use lib.ListN.{length}
use lib.IntN.{ℤ}
use borrow.Author.Tests.{lt-ltb, le-ltb}
use Rattle.basics.specs.Choice.{pick}
use Rattle.basics.proofs.Choice.{either, clash}
use Rattle.matrix.specs.Words.{S, Q, P}
use Rattle.symbol.specs.Symbol.{IsSymbol}
use Rattle.symbol.specs.Table.{pairing_of}
use Rattle.symbol.specs.declared.Pairing.{Pairing}
use Rattle.symbol.specs.declared.Pairing.TheVariants.{Free}
use Rattle.pairing.specs.Generator.{partner, pairing_at, generator_number}
use Rattle.polygon.specs.Cut.{corners, outer, flip}
use Rattle.polygon.specs.Step.{real, Real, step_s, turn_q, crossed, written, forth, back}
use Rattle.polygon.proofs.Flip.{Cutting, cutting, real_odd}
use Rattle.polygon.proofs.Steps.{Beyond, crosses, even_side_lem, free_side, beyond, written_S}
use Rattle.coset.proofs.Positions.{positions}

module _ (v : ℕ) (t : List ℤ) (ok : IsSymbol v t) where
  pub same_turn : (x : ℕ) → length (written v t P x) ≡ length (written v t Q x)
  unfolding written
  same_turn x = elim (dec_lt x (corners v)) [
    | yes h ↦ rw (lt-ltb x (corners v) h) refl
    | no h ↦ (let l : corners v ≤ x = omega arith in rw (le-ltb x (corners v) l) refl)
  ]

  pub turn_back : (x : ℕ) → length (written v t P (turn_q v x)) ≡ length (written v t Q x)
  turn_back x = same_turn (turn_q v x) ∙ ap length ((positions ok).turn_writes x)

  abbrev C : Cutting v t
  C = cutting v t ok

  stays : (p : ℕ) → real v t p ≡ false → step_s v t p ≡ p
  unfolding step_s
  stays p e = rw e

  one_letter : (b : Bool) (n : ℕ) → length (pick b (back n) (forth n)) ≡ 1
  one_letter true n = refl
  one_letter false n = refl

  -- S writes nothing back over an edge whose both sides are real
  silent_back : (p : ℕ) → Real v t p → Beyond v t (flip v t p) → written v t S (flip v t p) ≡ []
  silent_back p r (crosses a b c) = c
  silent_back p r (even_side_lem i h e k o a b) = clash (real_odd v t p i (sym (C.cut.flips p) ∙ e) r) o
  silent_back p r (free_side i l h e k o m a b) = clash (real_odd v t p i (sym (C.cut.flips p) ∙ e) r) o

  there_by : (p : ℕ) → Real v t p → Beyond v t p → length (written v t S (step_s v t p)) ≡ length (written v t S p)
  there_by p r (crosses a b c) = ap (λ (x : ℕ). length (written v t S x)) b ∙ ap length (silent_back p r (beyond v t ok C (flip v t p) a)) ∙ sym (ap length c)
  there_by p r (even_side_lem i h e k o a b) = ap (λ (x : ℕ). length (written v t S x)) a
  there_by p r (free_side i l h e k o m a b) =
      let j = partner v t i in
      let paired : pairing_at v t j ≡ Free l = ap (pairing_of v) m.same ∙ k in
      ap (λ (x : ℕ). length (written v t S x)) a
      ∙ ap length (written_S v t (flip v t (outer v j)) j (C.cut.flips (outer v j)))
      ∙ ap (λ (x : Pairing). length (crossed x j (partner v t j) (generator_number v t j))) paired
      ∙ one_letter (ltb j (partner v t j)) (generator_number v t j)
      ∙ sym (one_letter (ltb i j) (generator_number v t i))
      ∙ sym (ap length b)

  pub there_back : (p : ℕ) → length (written v t S (step_s v t p)) ≡ length (written v t S p)
  there_back p = elim (either (real v t p)) [
    | inl r ↦ there_by p r (beyond v t ok C p r)
    | inr e ↦ ap (λ (x : ℕ). length (written v t S x)) (stays p e)
  ]
