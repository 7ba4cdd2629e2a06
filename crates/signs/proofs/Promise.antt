-- THE PROMISE OF A STEP WITH ITS SIGN: F(p) x = sign · (what x writes at p) · F(where x leads), an equation (`promise`).
--
-- In order: the sign of a letter (`forth_sign`, `back_sign`); S out over one side and in over another (`by_side`), as it is with an even side, with
-- the first and with the second side of a free pair (`by_even`, `by_first_lem`, `by_second_lem`); the promise for S, Q and Q⁻¹.
--
-- Why: F(p) S = -u M, where M is the frame of the side that is met and u = ±1 the sign of the frame of p, and N S = u' F(p') for the side that S
-- lands under. A generator N S M⁻¹ takes M to N S, and M S to -N. So the sign is u u' where j is written and -u u' where -j is.
-- Assumes nothing.
use mathlib.Core.Path.{◌≡◌, refl, sym, ◌∙◌, ap, subst}
use mathlib.Core.Bool.{Bool, true, false, not}
use mathlib.Core.List.{List, []}
use Prim.Native.Nat.{ℕ, ◌≤◌, ◌<◌}
use native.Mathlib.Omega.{arith}
use native.Mathlib.Decide.{dec_lt}
use lib.Dec.{ltb}
use lib.IntN.{ℤ, pos}
use borrow.Author.Tests.{lt-ltb, le-ltb}
use Rattle.basics.specs.Choice.{pick}
use Rattle.matrix.specs.Matrix.{Mat, ◌⊗◌, neg, adj, det, mat_s, mat_q, mat_p}
use Rattle.matrix.specs.Words.{Letter, S, Q, P, letter}
use Rattle.matrix.proofs.Matrix.{⊗-assoc, ⊗-idl, ⊗-idr, redo, Q_P}
use Rattle.symbol.specs.Table.{pairing_of, carried}
use Rattle.symbol.specs.Symbol.{IsSymbol}
use Rattle.symbol.specs.declared.Pairing.TheVariants.{Even, Free}
use Rattle.pairing.specs.Generator.{partner, pairing_at, generator_number, frame_at, generator, generators}
use Rattle.pairing.specs.Subgroup.{value_of}
use Rattle.pairing.proofs.Facts.{frame_det, generator_det}
use Rattle.polygon.specs.Cut.{outer, places, flip}
use Rattle.polygon.specs.Step.{Real, step_s, turn_q, written, forth, back}
use Rattle.polygon.specs.Walk.{goes}
use Rattle.polygon.proofs.SymbolFacts.{Mate, Number, number_even, number_first, number_second}
use Rattle.polygon.proofs.Flip.{inner, outside, place, Cutting, real_in, turn_face}
use Rattle.polygon.proofs.Steps.{Beyond, crosses, even_side_lem, free_side, beyond}
use Rattle.polygon.proofs.Promise.{carried_own, forth_is, back_is, generator_even, generator_free, silent_Q, silent_P, written_Q, written_P}
use Rattle.polygon.proofs.Promise.{number_face, odd_face, twice_Q}
use Rattle.signs.specs.Sign.{plus, minus, ◌·◌, with_sign}
use Rattle.signs.specs.Step.{left_to_right, frame_sign, flip_sign, crossing_sign, step_sign}
use Rattle.signs.proofs.Sign.{sign_sign, sign_right, sign_back, S_S_is}
use Rattle.signs.proofs.Edge.{turn_S, out_side, in_side}

-- n S m⁻¹ takes m S to -n
carried_S : (n m : Mat) → det m ≡ pos 1 → carried n mat_s m ⊗ (m ⊗ mat_s) ≡ neg n
carried_S n m d = sym (⊗-assoc (carried n mat_s m) m mat_s) ∙ ap (λ (k : Mat). k ⊗ mat_s) (carried_own n mat_s m d) ∙ S_S_is n

three_signs : (a b e : Bool) → not a · (e · b) ≡ a · b · not e
three_signs true true true = refl
three_signs true true false = refl
three_signs true false true = refl
three_signs true false false = refl
three_signs false true true = refl
three_signs false true false = refl
three_signs false false true = refl
three_signs false false false = refl

module _ (v : ℕ) (t : List ℤ) where
  abbrev gens : List Mat
  gens = generators v t

  forth_sign : (i k : ℕ) (s : Bool) → Number v t i k → crossing_sign (forth (generator_number v t i)) s ≡ plus
  forth_sign i k s n = ap (λ (j : ℕ). crossing_sign (forth j) s) n.number

  back_sign : (i k : ℕ) (s : Bool) → Number v t i k → crossing_sign (back (generator_number v t i)) s ≡ minus
  back_sign i k s n = ap (λ (j : ℕ). crossing_sign (back j) s) n.number

  module _ (ok : IsSymbol v t) (C : Cutting v t) where
    abbrev F : ℕ → Mat
    F = C.frame

    abbrev u : ℕ → Bool
    u = frame_sign v

    -- ---- S

    -- out over side i and in over side k, where g takes the one frame to the other
    by_side : (p i k : ℕ) (g : Mat) (e : Bool) → p < places v → i ≤ v → k ≤ v → flip v t p ≡ outer v i
        → g ⊗ (frame_at v t k ⊗ mat_s) ≡ with_sign e (frame_at v t i)
        → F p ⊗ mat_s ≡ with_sign (u p · u (flip v t (outer v k)) · not e) (g ⊗ F (flip v t (outer v k)))
    by_side p i k g e h a b f z =
        let q = flip v t (outer v k) in
        let M = frame_at v t i in
        let N = frame_at v t k in
        let x = g ⊗ F q in
        let m : M ≡ with_sign (e · u q) x =
        sign_back e (g ⊗ (N ⊗ mat_s)) M z
        ∙ ap (λ (y : Mat). with_sign e (g ⊗ y)) (in_side v t ok C k b)
        ∙ ap (with_sign e) (sign_right (u q) g (F q))
        ∙ sign_sign e (u q) x in
        out_side v t ok C p i h a f
        ∙ ap (with_sign (not (u p))) m
        ∙ sign_sign (not (u p)) (e · u q) x
        ∙ ap (λ (s : Bool). with_sign s x) (three_signs (u p) (u q) e)

    -- S from p to q with the letters l
    abbrev Kept : ℕ → ℕ → List ℤ → Type 0
    Kept p q l = F p ⊗ mat_s ≡ with_sign (u p · u q · crossing_sign l (left_to_right v p)) (value_of gens l ⊗ F q)

    kept : (p q : ℕ) (l : List ℤ) (g : Mat) (s : Bool) → crossing_sign l (left_to_right v p) ≡ s → value_of gens l ≡ g
        → F p ⊗ mat_s ≡ with_sign (u p · u q · s) (g ⊗ F q) → Kept p q l
    kept p q l g s a b e = rw (a, b) e

    by_even : (p i : ℕ) → p < places v → i ≤ v → flip v t p ≡ outer v i → pairing_at v t i ≡ Even → Kept p p (forth (generator_number v t i))
    by_even p i h a e k =
        let n = number_even v t i a k in
        let M = frame_at v t i in
        let g = generator v t i in
        let z : flip v t (outer v i) ≡ p = ap (flip v t) (sym e) ∙ C.cut.flips p in
        let own : g ⊗ (M ⊗ mat_s) ≡ neg M = ap (λ (x : Mat). x ⊗ (M ⊗ mat_s)) (generator_even v t i k) ∙ carried_S M M (frame_det v t ok i a) in
        kept p p (forth (generator_number v t i)) g plus (forth_sign i i (left_to_right v p) n) (forth_is v t i i n)
        (subst (λ (x : ℕ). F p ⊗ mat_s ≡ with_sign (u p · u x · plus) (g ⊗ F x)) z (by_side p i i g minus h a a e own))

    by_first_lem : (p i l : ℕ) → p < places v → i ≤ v → flip v t p ≡ outer v i → pairing_at v t i ≡ Free l → Mate v t i → i < partner v t i
        → Kept p (flip v t (outer v (partner v t i))) (back (generator_number v t i))
    by_first_lem p i l h a e k m b =
        let j = partner v t i in
        let n = number_first v t i l a k b in
        let M = frame_at v t i in
        let N = frame_at v t j in
        let g = generator v t i in
        let own : N ⊗ mat_s ≡ g ⊗ M = sym (ap (λ (x : Mat). x ⊗ M) (generator_free v t i l k) ∙ carried_own N mat_s M (frame_det v t ok i a)) in
        kept p (flip v t (outer v j)) (back (generator_number v t i)) (adj g) minus (back_sign i i (left_to_right v p) n) (back_is v t i i n)
        (by_side p i j (adj g) plus h a m.within e (ap (λ (x : Mat). adj g ⊗ x) own ∙ redo g M (generator_det v t ok i a)))

    by_second_lem : (p i l : ℕ) → p < places v → i ≤ v → flip v t p ≡ outer v i → pairing_at v t i ≡ Free l → Mate v t i → partner v t i < i
        → Kept p (flip v t (outer v (partner v t i))) (forth (generator_number v t i))
    by_second_lem p i l h a e k m b =
        let j = partner v t i in
        let n = number_second v t i l k m b in
        let M = frame_at v t i in
        let N = frame_at v t j in
        let g : generator v t j ≡ carried M mat_s N =
        generator_free v t j l (ap (pairing_of v) m.same ∙ k) ∙ ap (λ (x : ℕ). carried (frame_at v t x) mat_s N) m.back in
        let own : generator v t j ⊗ (N ⊗ mat_s) ≡ neg M = ap (λ (x : Mat). x ⊗ (N ⊗ mat_s)) g ∙ carried_S M N (frame_det v t ok j m.within) in
        kept p (flip v t (outer v j)) (forth (generator_number v t i)) (generator v t j) plus (forth_sign i j (left_to_right v p) n) (forth_is v t i j n)
        (by_side p i j (generator v t j) minus h a m.within e own)

    by_free : (p i l : ℕ) → p < places v → i ≤ v → flip v t p ≡ outer v i → pairing_at v t i ≡ Free l → Mate v t i
        → Kept p (flip v t (outer v (partner v t i))) (pick (ltb i (partner v t i)) (back (generator_number v t i)) (forth (generator_number v t i)))
    by_free p i l h a e k m = elim (dec_lt i (partner v t i)) [
      | yes b ↦ rw (lt-ltb i (partner v t i) b) (by_first_lem p i l h a e k m b)
      | no b ↦ rw (le-ltb i (partner v t i) (omega arith)) (by_second_lem p i l h a e k m (let o = m.other in omega arith))
    ]

    abbrev StepS : ℕ → Type 0
    StepS p = F p ⊗ mat_s ≡ with_sign (step_sign v t S p) (value_of gens (written v t S p) ⊗ F (step_s v t p))

    step_S : (p q : ℕ) (l : List ℤ) → step_s v t p ≡ q → written v t S p ≡ l → Kept p q l → StepS p
    unfolding step_sign
    step_S p q l a b e = rw (a, b) e

    promise_S : (p : ℕ) → Real v t p → StepS p
    promise_S p r = go (beyond v t ok C p r)
      where
        low : p < places v
        low = real_in v t ok p r

        go : Beyond v t p → StepS p
        go (crosses a b c) =
            let q = flip v t p in
            step_S p q [] b c (turn_S v t ok C p low ∙ ap (with_sign (flip_sign v t p)) (sym (⊗-idl (F q))))
        go (even_side_lem i h e k o a b) = step_S p p (forth (generator_number v t i)) a b (by_even p i low h e k)
        go (free_side i l h e k o m a b) = step_S p (flip v t (outer v (partner v t i))) _ a b (by_free p i l low h e k m)

    -- ---- Q and Q⁻¹

    promise_Q : (p : ℕ) → Real v t p → F p ⊗ mat_q ≡ value_of gens (written v t Q p) ⊗ F (turn_q v p)
    promise_Q p r = elim (place v p) [
      | inner h ↦ rw (silent_Q v t ok C p h) (C.cut.turn_Q p h ∙ sym (⊗-idl (F (turn_q v p))))
      | outside i e ↦
          rw (written_Q v t ok C p i e, forth_is v t i i (number_face v t ok C p i e r), turn_face v p (omega arith))
          (sym (odd_face v t ok C p i e r).1)
    ]

    promise_P : (p : ℕ) → Real v t p → F p ⊗ mat_p ≡ value_of gens (written v t P p) ⊗ F (turn_q v (turn_q v p))
    promise_P p r = elim (place v p) [
      | inner h ↦ rw (silent_P v t ok C p h) (twice_Q v t ok C p r h ∙ sym (⊗-idl (F (turn_q v (turn_q v p)))))
      | outside i e ↦
          (let o = odd_face v t ok C p i e r in
          let g = generator v t i in
          let f = F p in
          let own : g ⊗ (f ⊗ mat_p) ≡ f =
          sym (⊗-assoc g f mat_p) ∙ ap (λ (m : Mat). m ⊗ mat_p) o.1 ∙ ⊗-assoc f mat_q mat_p ∙ ap (λ (m : Mat). f ⊗ m) Q_P ∙ ⊗-idr f in
          rw (written_P v t ok C p i e, back_is v t i i (number_face v t ok C p i e r), turn_face v p (omega arith), turn_face v p (omega arith))
          (sym (redo g (f ⊗ mat_p) o.0) ∙ ap (λ (m : Mat). adj g ⊗ m) own))
    ]

    pub promise : (x : Letter) (p : ℕ) → Real v t p
        → F p ⊗ letter x ≡ with_sign (step_sign v t x p) (value_of gens (written v t x p) ⊗ F (goes v t x p))
    unfolding step_sign
    promise S p r = promise_S p r
    promise Q p r = promise_Q p r
    promise P p r = promise_P p r
