-- The steps S and Q on positions: S is an involution, and both keep real positions real.
--
-- In order: what S does and writes by what lies beyond the edge (`Beyond`, `beyond`, `written_S`); the inner face of a side that is not odd is
-- real (`under_real`); `involution`; `closed`.
-- Assumes nothing.
use mathlib.Core.Path.{◌≡◌, sym, ◌∙◌, ap}
use mathlib.Core.Logic.{inl, inr}
use mathlib.Core.Bool.{true, false}
use mathlib.Core.List.{List, []}
use Prim.Native.Nat.{ℕ, ◌+◌, ◌-◌, ◌≤◌, ◌<◌}
use native.Mathlib.Omega.{arith}
use native.Mathlib.Decide.{dec_lt}
use lib.Dec.{ltb}
use lib.IntN.{ℤ, negsuc}
use borrow.Author.Tests.{lt-ltb, le-ltb}
use Rattle.matrix.specs.Words.{Letter, S, Q, P}
use Rattle.matrix.specs.Action.{Involution}
use Rattle.basics.specs.Choice.{pick}
use Rattle.symbol.specs.Table.{pairing_of}
use Rattle.symbol.specs.Check.{eq_z}
use Rattle.symbol.specs.Symbol.{IsSymbol}
use Rattle.pairing.specs.Generator.{partner, pairing_at, generator_number}
use Rattle.symbol.specs.declared.Pairing.{Pairing}
use Rattle.symbol.specs.declared.Pairing.TheVariants.{Even, Free}
use Rattle.polygon.specs.Cut.{corners, outer, places, flip}
use Rattle.polygon.specs.Step.{odd_at, real, Real, cross_by, across, step_s, turn_q, crossed, at_side, written, forth, back}
use Rattle.polygon.specs.Walk.{goes}
use Rattle.basics.proofs.Choice.{either, clash}
use Rattle.polygon.proofs.SymbolFacts.{Mate, Kind, even, odd, free, kind}
use Rattle.polygon.proofs.Flip.{inner, outside, place, Cutting, real_corner, real_face, real_odd, real_in, turn_face, turn_last, turn_next, which, c0}
use Rattle.polygon.proofs.Flip.{c1, c2}

-- ---- what S does by what lies beyond the edge

module _ (v : ℕ) (t : List ℤ) where
  across_corner : (p q : ℕ) → q < corners v → across v t p q ≡ q
  across_corner p q h = rw (lt-ltb q (corners v) h)

  across_face : (p i : ℕ) → across v t p (outer v i) ≡ cross_by (pairing_at v t i) p (outer v i) (flip v t (outer v (partner v t i)))
  across_face p i =
      let e : outer v i - corners v ≡ i = omega arith in
      rw (le-ltb (outer v i) (corners v) (omega arith), e)

  pub at_corner : (q : ℕ) (f : ℕ → List ℤ) → q < corners v → at_side v q f ≡ []
  at_corner q f h = rw (lt-ltb q (corners v) h)

  pub at_face : (q i : ℕ) (f : ℕ → List ℤ) → q ≡ outer v i → at_side v q f ≡ f i
  at_face q i f e =
      let z : q - corners v ≡ i = omega arith in
      rw (le-ltb q (corners v) (omega arith), z)

  stays : (p : ℕ) → real v t p ≡ false → step_s v t p ≡ p
  unfolding step_s
  stays p e = rw e

  moves : (p : ℕ) → Real v t p → step_s v t p ≡ across v t p (flip v t p)
  unfolding step_s
  moves p e = rw e

  pub written_S : (p i : ℕ) → flip v t p ≡ outer v i → written v t S p ≡ crossed (pairing_at v t i) i (partner v t i) (generator_number v t i)
  unfolding written
  written_S p i e = at_face (flip v t p) i (λ j. crossed (pairing_at v t j) j (partner v t j) (generator_number v t j)) e

  pub silent_S : (p : ℕ) → flip v t p < corners v → written v t S p ≡ []
  unfolding written
  silent_S p h = at_corner (flip v t p) (λ j. crossed (pairing_at v t j) j (partner v t j) (generator_number v t j)) h

  pub step_face : (p i : ℕ) → Real v t p → flip v t p ≡ outer v i
      → step_s v t p ≡ cross_by (pairing_at v t i) p (outer v i) (flip v t (outer v (partner v t i)))
  step_face p i r e = moves p r ∙ ap (across v t p) e ∙ across_face p i

  pub step_inner : (p : ℕ) → Real v t p → flip v t p < corners v → step_s v t p ≡ flip v t p
  step_inner p r h = moves p r ∙ across_corner p (flip v t p) h

-- S out of the real position p: to the other side of the edge, which is real; or through an even side, or a free one
pub data Beyond (v : ℕ) (t : List ℤ) (p : ℕ) : Type 0 where
  crosses : Real v t (flip v t p) → step_s v t p ≡ flip v t p → written v t S p ≡ [] → Beyond v t p
  even_side_lem : (i : ℕ) → i ≤ v → flip v t p ≡ outer v i → pairing_at v t i ≡ Even → odd_at v t i ≡ false → step_s v t p ≡ p
      → written v t S p ≡ forth (generator_number v t i) → Beyond v t p
  free_side : (i l : ℕ) → i ≤ v → flip v t p ≡ outer v i → pairing_at v t i ≡ Free l → odd_at v t i ≡ false → Mate v t i
      → step_s v t p ≡ flip v t (outer v (partner v t i))
      → written v t S p ≡ pick (ltb i (partner v t i)) (back (generator_number v t i)) (forth (generator_number v t i)) → Beyond v t p

module _ (v : ℕ) (t : List ℤ) (ok : IsSymbol v t) (C : Cutting v t) where
  -- a face of the array is the face of a side
  side_in : (p i : ℕ) → p < places v → p ≡ outer v i → i ≤ v
  side_in p i h e = omega arith

  beyond_side : (p i : ℕ) → Real v t p → i ≤ v → flip v t p ≡ outer v i
      → step_s v t p ≡ cross_by (pairing_at v t i) p (outer v i) (flip v t (outer v (partner v t i))) → Kind v t i → Beyond v t p
  beyond_side p i r h e s (even k o) = even_side_lem i h e k o (s ∙ rw k) (written_S v t p i e ∙ rw k)
  beyond_side p i r h e s (odd k o) = crosses (ap (real v t) e ∙ real_face v t i ∙ o) (s ∙ rw k (sym e)) (written_S v t p i e ∙ rw k)
  beyond_side p i r h e s (free l k o m) = free_side i l h e k o m (s ∙ rw k) (written_S v t p i e ∙ rw k)

  pub beyond : (p : ℕ) → Real v t p → Beyond v t p
  beyond p r = elim (place v (flip v t p)) [
    | inner h ↦ crosses (real_corner v t (flip v t p) h) (step_inner v t p r h) (silent_S v t p h)
    | outside i e ↦
        (let h = side_in (flip v t p) i (C.cut.within p (real_in v t ok p r)) e in
        beyond_side p i r h e (step_face v t p i r e) (kind v t ok i h))
  ]

  pub step_across : (p : ℕ) → Real v t p → Real v t (flip v t p) → step_s v t p ≡ flip v t p
  step_across p r r' = go (beyond p r)
    where
      go : Beyond v t p → step_s v t p ≡ flip v t p
      go (crosses a b c) = b
      go (even_side_lem i h e k o a b) = clash (real_odd v t (flip v t p) i e r') o
      go (free_side i l h e k o m a b) = clash (real_odd v t (flip v t p) i e r') o

  -- ---- under a side

  -- with one vertex the other side is odd
  lone : (i : ℕ) → v ≡ 1 → i ≤ v → odd_at v t i ≡ false → Real v t (flip v t (outer v i))
  lone i one h n₀ =
      let q = flip v t (outer v i) in
      let low = C.cut.within (outer v i) (omega arith) in
      let differs = C.cut.differs (outer v i) (omega arith) in
      let k = q - corners v in
      let is : q ≡ outer v k = omega arith in
      let odd_at_lem : (j : ℕ) → odd_at v t j ≡ true → k + i ≡ 1 → (i ≡ j → ⊥) → j ≤ 1 → Real v t q =
      λ j o s n b. let z : k ≡ j = omega arith in ap (real v t) is ∙ real_face v t k ∙ ap (odd_at v t) z ∙ o in
      let sum : k + i ≡ 1 = omega arith in
      let off : (j : ℕ) → odd_at v t j ≡ true → i ≡ j → ⊥ = λ j o e. clash o (sym (ap (odd_at v t) e) ∙ n₀) in
      elim (ok.odd one) [
        | inl e ↦ (let o : odd_at v t 0 ≡ true = ap (λ (x : ℤ). eq_z x (negsuc 2)) e in odd_at_lem 0 o sum (off 0 o) (omega arith))
        | inr e ↦ (let o : odd_at v t 1 ≡ true = ap (λ (x : ℤ). eq_z x (negsuc 2)) e in odd_at_lem 1 o sum (off 1 o) (omega arith))
      ]

  pub under_real : (i : ℕ) → i ≤ v → odd_at v t i ≡ false → Real v t (flip v t (outer v i))
  under_real i h n = elim (C.cut.inside i h)
      [ inl b ↦ real_corner v t (flip v t (outer v i)) b | inr e ↦ lone i e h n ]

  mate_odd : (i l : ℕ) → pairing_at v t i ≡ Free l → Mate v t i → odd_at v t i ≡ false → odd_at v t (partner v t i) ≡ false
  mate_odd i l k m o = ap (λ (x : ℤ). eq_z x (negsuc 2)) m.same ∙ o

  pub mate_real : (i l : ℕ) → pairing_at v t i ≡ Free l → Mate v t i → odd_at v t i ≡ false → Real v t (flip v t (outer v (partner v t i)))
  mate_real i l k m o = under_real (partner v t i) m.within (mate_odd i l k m o)

  -- ---- S twice

  pub involution : Involution (step_s v t)
  involution p = elim (either (real v t p)) [ inr e ↦ (let z = stays v t p e in cc) | inl r ↦ go r (beyond p r) ]
    where
      go : Real v t p → Beyond v t p → step_s v t (step_s v t p) ≡ p
      go r (crosses a b c) = ap (step_s v t) b ∙ step_across (flip v t p) a (ap (real v t) (C.cut.flips p) ∙ r) ∙ C.cut.flips p
      go r (even_side_lem i h e k o a b) = cc
      go r (free_side i l h e k o m a b) =
          let j = partner v t i in
          ap (step_s v t) a
          ∙ step_face v t (flip v t (outer v j)) j (mate_real i l k m o) (C.cut.flips (outer v j))
          ∙ ap (λ (x : Pairing). cross_by x (flip v t (outer v j)) (outer v j) (flip v t (outer v (partner v t j)))) (ap (pairing_of v) m.same ∙ k)
          ∙ ap (λ (x : ℕ). flip v t (outer v x)) m.back
          ∙ ap (flip v t) (sym e) ∙ C.cut.flips p

  -- ---- real positions stay real

  pub closed_S : (p : ℕ) → Real v t p → Real v t (step_s v t p)
  closed_S p r = go (beyond p r)
    where
      go : Beyond v t p → Real v t (step_s v t p)
      go (crosses a b c) = ap (real v t) b ∙ a
      go (even_side_lem i h e k o a b) = ap (real v t) a ∙ r
      go (free_side i l h e k o m a b) = ap (real v t) a ∙ mate_real i l k m o

  pub turn_in : (p : ℕ) → p < corners v → turn_q v p < corners v
  turn_in p h = elim (which p) [
    | c0 e ↦ rw (turn_next v p h (omega arith)) (omega arith)
    | c1 e ↦ rw (turn_next v p h (omega arith)) (omega arith)
    | c2 e ↦ rw (turn_last v p h e) (omega arith)
  ]

  pub closed_Q : (p : ℕ) → Real v t p → Real v t (turn_q v p)
  closed_Q p r = elim (dec_lt p (corners v))
      [ yes h ↦ real_corner v t (turn_q v p) (turn_in p h) | no h ↦ ap (real v t) (turn_face v p (omega arith)) ∙ r ]

  pub closed : (x : Letter) (p : ℕ) → Real v t p → Real v t (goes v t x p)
  closed S p r = closed_S p r
  closed Q p r = closed_Q p r
  closed P p r = closed_Q (turn_q v p) (closed_Q p r)
