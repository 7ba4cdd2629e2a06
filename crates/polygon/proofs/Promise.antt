-- The step promise: F(p) x = ± (what x writes at p) F(where x leads), with letters that are generators; and each generator is written somewhere.
--
-- In order: the generators about an edge (`carry`, `carry_back`); generators by the kind of their side, of determinant 1 (`units`); letters as
-- matrices (`forth_is`, `back_is`); the promise for S, Q and P (`promise`); `letters`, `short`; `made`.
--
-- Why: beyond the edge of p lies the outer face of a side, with frame M and M S = ± F(p); so N S M⁻¹ F(p) = ± N S S = ± N.
-- Assumes nothing.
use mathlib.Core.Path.{◌≡◌, refl, sym, ◌∙◌, ap}
use mathlib.Core.Logic.{inl, inr}
use mathlib.Core.Bool.{Bool, true}
use mathlib.Core.List.{List, [], ◌∷◌}
use Prim.Native.Nat.{ℕ, suc, ◌-◌, ◌≤◌, ◌<◌}
use native.Mathlib.Omega.{arith}
use native.Mathlib.Decide.{dec_lt}
use lib.Dec.{ltb}
use lib.ListN.{length, get_or, get_or-eq_default}
use lib.IntN.{ℤ, pos, negsuc}
use borrow.Author.Tests.{lt-ltb, le-ltb, ltb-true}
use Rattle.matrix.specs.Matrix.{Mat, ◌⊗◌, 𝟙, adj, det, mat_s, mat_q, mat_p, ◌≈◌}
use Rattle.matrix.specs.Words.{Letter, S, Q, P, letter}
use Rattle.basics.specs.Choice.{pick}
use Rattle.matrix.proofs.Matrix.{⊗-assoc, ⊗-idl, ⊗-idr, det_𝟙, adj-⊗, redo, Q_P, Q_Q, ≈-sym, ◌∙≈◌, ≈-left}
use Rattle.symbol.specs.Table.{pairing_of, carried}
use Rattle.symbol.specs.Symbol.{IsSymbol}
use Rattle.pairing.specs.Generator.{partner, pairing_at, is_leader_by, is_leader, generator_number, frame_at, generator_by, generator, generators}
use Rattle.pairing.specs.Subgroup.{IsWord, letter_of, value_of}
use Rattle.symbol.specs.declared.Pairing.{Pairing}
use Rattle.symbol.specs.declared.Pairing.TheVariants.{Even, Odd, Free, Bad}
use Rattle.pairing.proofs.Facts.{frame_det, generator_det}
use Rattle.polygon.specs.Cut.{corners, outer, places, flip}
use Rattle.polygon.specs.Step.{odd_at, Real, step_s, turn_q, crossed, at_side, written, forth, back}
use Rattle.polygon.specs.Walk.{goes}
use Rattle.basics.proofs.Choice.{either, clash}
use Rattle.polygon.proofs.SymbolFacts.{Mate, Kind, even, odd, free, kind, Number, Leader, leader, number_leads, number_even, number_odd}
use Rattle.polygon.proofs.SymbolFacts.{number_first, number_second, number_mate, free_mate, odd_in}
use Rattle.polygon.proofs.Framed.{Made}
use Rattle.polygon.proofs.Mediant.{S_twice, turn_back}
use Rattle.polygon.proofs.Flip.{Place, inner, outside, place, Cutting, real_face, real_odd, real_in, turn_face}
use Rattle.polygon.proofs.Steps.{at_corner, at_face, written_S, Beyond, crosses, even_side_lem, free_side, beyond, under_real, mate_real, turn_in}

-- ---- the generators about an edge: n x m⁻¹ takes m to n x

pub carried_own : (n x m : Mat) → det m ≡ pos 1 → carried n x m ⊗ m ≡ n ⊗ x
carried_own n x m d = ⊗-assoc (n ⊗ x) (adj m) m ∙ ap (λ (k : Mat). n ⊗ x ⊗ k) (adj-⊗ m d) ∙ ⊗-idr (n ⊗ x)

-- f is the other side of m
carry : (n m f : Mat) → det m ≡ pos 1 → m ⊗ mat_s ≈ f → n ≈ carried n mat_s m ⊗ f
carry n m f d e =
    ≈-sym (≈-left (carried n mat_s m) (≈-sym e)
    ∙≈ inl (sym (⊗-assoc (carried n mat_s m) m mat_s) ∙ ap (λ (k : Mat). k ⊗ mat_s) (carried_own n mat_s m d))
    ∙≈ S_twice n)

-- g m = ± f
carry_back : (g m f : Mat) → det g ≡ pos 1 → g ⊗ m ≈ f → m ≈ adj g ⊗ f
carry_back g m f d e = inl (sym (redo g m d)) ∙≈ ≈-left (adj g) e

-- ---- letters as matrices

module _ (v : ℕ) (t : List ℤ) where
  one_letter : (z : ℤ) → value_of (generators v t) (z ∷ []) ≡ letter_of (generators v t) z
  one_letter z = ⊗-idr (letter_of (generators v t) z)

  pub forth_is : (i k : ℕ) → Number v t i k → value_of (generators v t) (forth (generator_number v t i)) ≡ generator v t k
  forth_is i k n = ap (λ (j : ℕ). value_of (generators v t) (forth j)) n.number ∙ one_letter (pos (suc n.rank)) ∙ n.is

  pub back_is : (i k : ℕ) → Number v t i k → value_of (generators v t) (back (generator_number v t i)) ≡ adj (generator v t k)
  back_is i k n = ap (λ (j : ℕ). value_of (generators v t) (back j)) n.number ∙ one_letter (negsuc n.rank) ∙ ap adj n.is

  forth_word : (i k : ℕ) → Number v t i k → IsWord (length (generators v t)) (forth (generator_number v t i))
  forth_word i k n = let low = n.low in rw n.number ((omega arith, omega arith), tt)

  back_word : (i k : ℕ) → Number v t i k → IsWord (length (generators v t)) (back (generator_number v t i))
  back_word i k n = let low = n.low in rw n.number ((omega arith, omega arith), tt)

  -- ---- generators by the kind of their side

  pub generator_even : (i : ℕ) → pairing_at v t i ≡ Even → generator v t i ≡ carried (frame_at v t i) mat_s (frame_at v t i)
  generator_even i e = ap (λ (k : Pairing). generator_by k (frame_at v t i) (frame_at v t (partner v t i))) e

  generator_odd : (i : ℕ) → pairing_at v t i ≡ Odd → generator v t i ≡ carried (frame_at v t i) mat_q (frame_at v t i)
  generator_odd i e = ap (λ (k : Pairing). generator_by k (frame_at v t i) (frame_at v t (partner v t i))) e

  pub generator_free : (i l : ℕ) → pairing_at v t i ≡ Free l → generator v t i ≡ carried (frame_at v t (partner v t i)) mat_s (frame_at v t i)
  generator_free i l e = ap (λ (k : Pairing). generator_by k (frame_at v t i) (frame_at v t (partner v t i))) e

  module _ (ok : IsSymbol v t) where
    pub units : (j : ℕ) → det (get_or (generators v t) j 𝟙) ≡ pos 1
    units j = elim (dec_lt j (length (generators v t))) [
      | yes h ↦
          (let k = leader v t j h in
          let n = number_leads v t k.side k.low k.leading in
          let e : n.rank ≡ j = omega (arith, n.number, k.number) in
          ap (λ (x : ℕ). det (get_or (generators v t) x 𝟙)) (sym e) ∙ ap det n.is ∙ generator_det v t ok k.side k.low)
      | no h ↦ ap det (get_or-eq_default (generators v t) 𝟙 (omega arith)) ∙ det_𝟙
    ]

    module _ (C : Cutting v t) where
      -- the inner face of side i, seen from the side
      face_S : (i : ℕ) → i ≤ v → frame_at v t i ⊗ mat_s ≈ C.frame (flip v t (outer v i))
      face_S i h = inl (ap (λ (m : Mat). m ⊗ mat_s) (sym (C.cut.sides i))) ∙≈ C.cut.turn_S (outer v i) (omega arith)

      -- and from within
      out_S : (p i : ℕ) → p < places v → flip v t p ≡ outer v i → C.frame p ⊗ mat_s ≈ frame_at v t i
      out_S p i h e = C.cut.turn_S p h ∙≈ inl (ap C.frame e ∙ C.cut.sides i)

      in_S : (p i : ℕ) → p < places v → flip v t p ≡ outer v i → frame_at v t i ⊗ mat_s ≈ C.frame p
      in_S p i h e = turn_back (C.frame p) (frame_at v t i) (out_S p i h e)

      -- ---- S

      -- what a first side writes, and what a second one
      free_first : (i l : ℕ) → i ≤ v → pairing_at v t i ≡ Free l → Mate v t i → i < partner v t i
          → frame_at v t i ≈ value_of (generators v t) (back (generator_number v t i)) ⊗ C.frame (flip v t (outer v (partner v t i)))
      free_first i l h k m b =
          let j = partner v t i in
          let M = frame_at v t i in
          let N = frame_at v t j in
          rw (back_is i i (number_first v t i l h k b), generator_free i l k)
          (carry_back (carried N mat_s M) M (C.frame (flip v t (outer v j)))
          (sym (ap det (generator_free i l k)) ∙ generator_det v t ok i h)
          (inl (carried_own N mat_s M (frame_det v t ok i h)) ∙≈ face_S j m.within))

      free_second : (i l : ℕ) → i ≤ v → pairing_at v t i ≡ Free l → Mate v t i → partner v t i < i
          → frame_at v t i ≈ value_of (generators v t) (forth (generator_number v t i)) ⊗ C.frame (flip v t (outer v (partner v t i)))
      free_second i l h k m b =
          let j = partner v t i in
          rw (forth_is i j (number_second v t i l k m b), generator_free j l (ap (pairing_of v) m.same ∙ k), m.back)
          (carry (frame_at v t i) (frame_at v t j) (C.frame (flip v t (outer v j))) (frame_det v t ok j m.within) (face_S j m.within))

      free_both : (i l : ℕ) → i ≤ v → pairing_at v t i ≡ Free l → Mate v t i
          → frame_at v t i ≈ value_of (generators v t) (pick (ltb i (partner v t i)) (back (generator_number v t i)) (forth (generator_number v t i))) ⊗ C.frame
          (flip v t (outer v (partner v t i)))
      free_both i l h k m = elim (dec_lt i (partner v t i)) [
        | yes b ↦ rw (lt-ltb i (partner v t i) b) (free_first i l h k m b)
        | no b ↦ rw (le-ltb i (partner v t i) (omega arith)) (free_second i l h k m (let o = m.other in omega arith))
      ]

      promise_S : (p : ℕ) → Real v t p → C.frame p ⊗ mat_s ≈ value_of (generators v t) (written v t S p) ⊗ C.frame (step_s v t p)
      promise_S p r = go (beyond v t ok C p r)
        where
          low : p < places v
          low = real_in v t ok p r

          go : Beyond v t p → C.frame p ⊗ mat_s ≈ value_of (generators v t) (written v t S p) ⊗ C.frame (step_s v t p)
          go (crosses a b c) = rw (b, c) (C.cut.turn_S p low ∙≈ inl (sym (⊗-idl (C.frame (flip v t p)))))
          go (even_side_lem i h e k o a b) =
              rw (a, b, forth_is i i (number_even v t i h k), generator_even i k)
              (out_S p i low e ∙≈ carry (frame_at v t i) (frame_at v t i) (C.frame p) (frame_det v t ok i h) (in_S p i low e))
          go (free_side i l h e k o m a b) = rw (a, b) (out_S p i low e ∙≈ free_both i l h k m)

      -- ---- Q and P

      pub silent_Q : (p : ℕ) → p < corners v → written v t Q p ≡ []
      unfolding written
      silent_Q p h = at_corner v t p (λ i. forth (generator_number v t i)) h

      pub silent_P : (p : ℕ) → p < corners v → written v t P p ≡ []
      unfolding written
      silent_P p h = at_corner v t p (λ i. back (generator_number v t i)) h

      pub written_Q : (p i : ℕ) → p ≡ outer v i → written v t Q p ≡ forth (generator_number v t i)
      unfolding written
      written_Q p i e = at_face v t p i (λ i. forth (generator_number v t i)) e

      pub written_P : (p i : ℕ) → p ≡ outer v i → written v t P p ≡ back (generator_number v t i)
      unfolding written
      written_P p i e = at_face v t p i (λ i. back (generator_number v t i)) e

      odd_pairing : (i : ℕ) → odd_at v t i ≡ true → pairing_at v t i ≡ Odd
      odd_pairing i o = elim (kind v t ok i (odd_in v t ok i o)) [ even k n ↦ clash o n | odd k n ↦ k | free l k n m ↦ clash o n ]

      pub number_face : (p i : ℕ) → p ≡ outer v i → Real v t p → Number v t i i
      number_face p i e r = let o = real_odd v t p i e r in number_odd v t i (odd_in v t ok i o) (odd_pairing i o)

      -- at an odd face with frame m the generator takes m to m Q
      pub odd_face : (p i : ℕ) → p ≡ outer v i → Real v t p → (det (generator v t i) ≡ pos 1) × (generator v t i ⊗ C.frame p ≡ C.frame p ⊗ mat_q)
      odd_face p i e r =
          let o = real_odd v t p i e r in
          let h = odd_in v t ok i o in (
            generator_det v t ok i h,
            rw (e, C.cut.sides i, generator_odd i (odd_pairing i o))
                (carried_own (frame_at v t i) mat_q (frame_at v t i) (frame_det v t ok i h)),
          )

      promise_Q : (p : ℕ) → Real v t p → C.frame p ⊗ mat_q ≈ value_of (generators v t) (written v t Q p) ⊗ C.frame (turn_q v p)
      promise_Q p r = elim (place v p) [
        | inner h ↦ rw (silent_Q p h) (inl (C.cut.turn_Q p h ∙ sym (⊗-idl (C.frame (turn_q v p)))))
        | outside i e ↦ rw (written_Q p i e, forth_is i i (number_face p i e r), turn_face v p (omega arith)) (inl (sym (odd_face p i e r).1))
      ]

      pub twice_Q : (p : ℕ) → Real v t p → p < corners v → C.frame p ⊗ mat_p ≡ C.frame (turn_q v (turn_q v p))
      twice_Q p r h = go (place v (turn_q v p))
        where
          go : Place v (turn_q v p) → C.frame p ⊗ mat_p ≡ C.frame (turn_q v (turn_q v p))
          go (inner k) = ap (λ (m : Mat). C.frame p ⊗ m) (sym Q_Q) ∙ sym (⊗-assoc (C.frame p) mat_q mat_q) ∙ ap (λ (m : Mat). m ⊗ mat_q) (C.cut.turn_Q p h)
              ∙ C.cut.turn_Q (turn_q v p) k
          go (outside i e) = absurd (omega (arith, turn_in v t ok C p h))

      promise_P : (p : ℕ) → Real v t p → C.frame p ⊗ mat_p ≈ value_of (generators v t) (written v t P p) ⊗ C.frame (turn_q v (turn_q v p))
      promise_P p r = elim (place v p) [
        | inner h ↦ rw (silent_P p h) (inl (twice_Q p r h ∙ sym (⊗-idl (C.frame (turn_q v (turn_q v p))))))
        | outside i e ↦
            (let o = odd_face p i e r in
            let g = generator v t i in
            let f = C.frame p in
            let back : g ⊗ (f ⊗ mat_p) ≡ f = sym (⊗-assoc g f mat_p) ∙ ap (λ (m : Mat). m ⊗ mat_p) o.1 ∙ ⊗-assoc f mat_q mat_p ∙ ap (λ (m : Mat). f ⊗ m) Q_P
            ∙ ⊗-idr f in
            rw (written_P p i e, back_is i i (number_face p i e r), turn_face v p (omega arith), turn_face v p (omega arith))
            (carry_back g (f ⊗ mat_p) f o.0 (inl back)))
      ]

      pub promise : (x : Letter) (p : ℕ) → Real v t p → C.frame p ⊗ letter x ≈ value_of (generators v t) (written v t x p) ⊗ C.frame (goes v t x p)
      promise S p r = promise_S p r
      promise Q p r = promise_Q p r
      promise P p r = promise_P p r

      -- ---- what is written is a word of one letter at most

      free_word : (i l : ℕ) → i ≤ v → pairing_at v t i ≡ Free l → Mate v t i
          → IsWord (length (generators v t)) (pick (ltb i (partner v t i)) (back (generator_number v t i)) (forth (generator_number v t i)))
      free_word i l h k m = elim (dec_lt i (partner v t i)) [
        | yes b ↦ rw (lt-ltb i (partner v t i) b) (back_word i i (number_first v t i l h k b))
        | no b ↦ rw (le-ltb i (partner v t i) (omega arith)) (forth_word i (partner v t i) (number_second v t i l k m (let o = m.other in omega arith)))
      ]

      letters_S : (p : ℕ) → Beyond v t p → IsWord (length (generators v t)) (written v t S p)
      letters_S p (crosses a b c) = rw c tt
      letters_S p (even_side_lem i h e k o a b) = rw b (forth_word i i (number_even v t i h k))
      letters_S p (free_side i l h e k o m a b) = rw b (free_word i l h k m)

      pub letters : (x : Letter) (p : ℕ) → Real v t p → IsWord (length (generators v t)) (written v t x p)
      letters S p r = letters_S p (beyond v t ok C p r)
      letters Q p r = elim (place v p) [ inner h ↦ rw (silent_Q p h) tt | outside i e ↦ rw (written_Q p i e) (forth_word i i (number_face p i e r)) ]
      letters P p r = elim (place v p) [ inner h ↦ rw (silent_P p h) tt | outside i e ↦ rw (written_P p i e) (back_word i i (number_face p i e r)) ]

      crossed_short : (k : Pairing) (i n j : ℕ) → length (crossed k i n j) ≤ 1
      crossed_short Even i n j = omega arith
      crossed_short Odd i n j = omega arith
      crossed_short (Free l) i n j = elim (either (ltb i n)) [ inl b ↦ rw b (omega arith) | inr b ↦ rw b (omega arith) ]
      crossed_short Bad i n j = omega arith

      at_short : (q : ℕ) (f : ℕ → List ℤ) → ((i : ℕ) → length (f i) ≤ 1) → length (at_side v q f) ≤ 1
      at_short q f h = elim (either (ltb q (corners v))) [ inl b ↦ rw b (omega arith) | inr b ↦ rw b (h (q - corners v)) ]

      pub short : (x : Letter) (p : ℕ) → length (written v t x p) ≤ 1
      unfolding written
      short S p = at_short (flip v t p) (λ i. crossed (pairing_at v t i) i (partner v t i) (generator_number v t i))
          (λ i. crossed_short (pairing_at v t i) i (partner v t i) (generator_number v t i))
      short Q p = at_short p (λ i. forth (generator_number v t i)) (λ i. omega arith)
      short P p = at_short p (λ i. back (generator_number v t i)) (λ i. omega arith)

      -- ---- every generator is written somewhere

      pub made : (j : ℕ) → j < length (generators v t) → Made (step_s v t) (turn_q v) C.frame (Real v t) (generators v t) (written v t) j
      made j h = go (kind v t ok i low)
        where
          lead : Leader v t j
          lead = leader v t j h

          i : ℕ
          i = lead.side

          low : i ≤ v
          low = lead.low

          leading : is_leader v t i ≡ true
          leading = lead.leading

          number : generator_number v t i ≡ suc j
          number = lead.number

          go : Kind v t i → Made (step_s v t) (turn_q v) C.frame (Real v t) (generators v t) (written v t) j
          go (even k o) = record {
            from = flip v t (outer v i);
            by = S;
            counts = under_real v t ok C i low o;
            writes = written_S v t (flip v t (outer v i)) i (C.cut.flips (outer v i))
                ∙ ap (λ (x : Pairing). crossed x i (partner v t i) (generator_number v t i)) k ∙ ap forth number;
          }
          go (odd k o) = record {
            from = outer v i;
            by = Q;
            counts = real_face v t i ∙ o;
            writes = written_Q (outer v i) i refl ∙ ap forth number;
          }
          go (free l k o m) =
              let n = partner v t i in
              let b : ltb i n ≡ true = sym (ap (λ (x : Pairing). is_leader_by x i n) k) ∙ leading in
              let less = ltb-true i n b in
              let second : crossed (pairing_at v t n) n (partner v t n) (generator_number v t n) ≡ forth (generator_number v t n) =
              ap (λ (x : Pairing). crossed x n (partner v t n) (generator_number v t n)) (ap (pairing_of v) m.same ∙ k)
              ∙ ap (λ (x : Bool). pick x (back (generator_number v t n)) (forth (generator_number v t n))) (ap (ltb n) m.back ∙ le-ltb n i (omega arith)) in
              record {
                from = flip v t (outer v n);
                by = S;
                counts = mate_real v t ok C i l k m o;
                writes = written_S v t (flip v t (outer v n)) n (C.cut.flips (outer v n)) ∙ second
                    ∙ ap forth (number_mate v t n l (ap (pairing_of v) m.same ∙ k) (free_mate v t ok n l m.within (ap (pairing_of v) m.same ∙ k))
                    (let z = m.back in omega arith) ∙ ap (generator_number v t) m.back ∙ number);
              }
