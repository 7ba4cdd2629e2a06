-- WHAT AN ALTERNATING WORD WRITES IS REDUCED (`walk_fine`).
--
-- In order: pieces of alternating words; ways that write nothing (`Quiet`), of which only the empty one is alternating and comes back (`no_loop`); what
-- comes behind a written letter (`onward`).
--
-- Why: let a letter be written behind another with nothing between them, and let them clash. Then the way between them comes back to where it began
-- (`meet`), so its value is the identity up to sign, and it is empty, for alternating words are unique. So the two steps are neighbours in an
-- alternating word, and both are S or both are powers of Q: that can't be.
-- Assumes nothing.
use mathlib.Core.Path.{◌≡◌, refl, sym, ◌∙◌, ap, subst}
use mathlib.Core.Logic.{inl, inr}
use mathlib.Core.Bool.{Bool, true, false, ◌&&◌}
use mathlib.Core.List.{List, [], ◌∷◌, ◌++◌, append_assoc}
use Prim.Native.Nat.{ℕ}
use lib.IntN.{ℤ}
use Rattle.basics.specs.Choice.{IsTrue}
use Rattle.basics.proofs.Choice.{either}
use Rattle.matrix.specs.Matrix.{◌⊗◌}
use Rattle.matrix.specs.Words.{Letter, alternate, Alternating}
use Rattle.matrix.specs.Action.{step, run}
use Rattle.matrix.proofs.Matrix.{⊗-idl, ⊗-idr, ◌∙≈◌, ≈-cancel}
use Rattle.matrix.proofs.Uniqueness.{uniqueness}
use Rattle.matrix.proofs.Action.{run-++}
use Rattle.symbol.specs.Symbol.{IsSymbol}
use Rattle.symbol.specs.declared.Pairing.{Pairing}
use Rattle.pairing.specs.Generator.{generators}
use Rattle.pairing.specs.Subgroup.{value_of}
use Rattle.polygon.specs.Step.{Real, step_s, turn_q, written}
use Rattle.polygon.specs.Walk as w
use Rattle.polygon.specs.Walk.{wrote, goes, ends}
use Rattle.polygon.specs.Theorem.{Polygon}
use Rattle.polygon.proofs.Flip.{Cutting}
use Rattle.normal_forms.specs.Reduced.{letter_kind}
use Rattle.normal_forms.proofs.Put.{both, apart, meets, fine}
use Rattle.normal_forms.proofs.Writing.{Writing, nothing, letter, writes, written_plain, meet}

-- ---- pieces

without_first : (x : Letter) (l : List Letter) → Alternating (x ∷ l) → Alternating l
without_first x [] a = tt
without_first x (y ∷ l) a = a.1

beginning : (u l : List Letter) → Alternating (u ++ l) → Alternating u
beginning [] l a = tt
beginning (x ∷ []) l a = tt
beginning (x ∷ y ∷ u) l a = (a.0, beginning (y ∷ u) l a.1)

ending : (u l : List Letter) → Alternating (u ++ l) → Alternating l
ending [] l a = a
ending (x ∷ u) l a = ending u l (without_first x (u ++ l) a)

wrote-++ : {X : Type 0} (σ κ : X → X) (f : Letter → X → List ℤ) (x : X) (u l : List Letter)
    → wrote σ κ f x (u ++ l) ≡ wrote σ κ f x u ++ wrote σ κ f (run σ κ x u) l
wrote-++ σ κ f x [] l = refl
wrote-++ σ κ f x (y ∷ u) l =
    let z = step σ κ y x in
    ap (λ (k : List ℤ). f y x ++ k) (wrote-++ σ κ f z u l) ∙ sym (append_assoc (f y x) (wrote σ κ f z u) (wrote σ κ f (run σ κ z u) l))

module _ (v : ℕ) (t : List ℤ) (ok : IsSymbol v t) (C : Cutting v t) (A : Polygon v t) where
  abbrev kind_of : ℤ → Pairing
  kind_of = letter_kind v t

  -- ---- ways that write nothing

  record Quiet (p : ℕ) (u : List Letter) (q : ℕ) : Type 0 where
    leads : ends v t p u ≡ q
    silent : w.writes v t p u ≡ []

  further : (p : ℕ) (u : List Letter) (q : ℕ) (y : Letter) → Quiet p u q → written v t y q ≡ [] → Quiet p (u ++ (y ∷ [])) (goes v t y q)
  further p u q y k n = record {
    leads = run-++ (step_s v t) (turn_q v) p u (y ∷ []) ∙ ap (goes v t y) k.leads;
    silent = wrote-++ (step_s v t) (turn_q v) (written v t) p u (y ∷ []) ∙ ap (λ (l : List ℤ). l ++ (written v t y (ends v t p u) ++ [])) k.silent
        ∙ ap (λ (j : ℕ). written v t y j ++ []) k.leads ∙ ap (λ (l : List ℤ). l ++ []) n;
  }

  no_loop : (p : ℕ) (u : List Letter) → Real v t p → Alternating u → Quiet p u p → u ≡ []
  no_loop p u r a k =
      let f = A.frame p in
      uniqueness u [] a tt
      (≈-cancel f (A.cut.unit p (A.within p r))
      (A.walks.walk u p r
      ∙≈ inl (ap (λ (l : List ℤ). value_of (generators v t) l ⊗ A.frame (ends v t p u)) k.silent ∙ ⊗-idl (A.frame (ends v t p u))
      ∙ ap A.frame k.leads ∙ sym (⊗-idr f))))

  -- ---- behind a letter

  -- the word may stand behind the letter z
  abbrev behind : ℤ → List ℤ → Bool
  behind z l = meets kind_of z l && fine kind_of l

  -- nothing between the letters z and y, which clash
  between : (x y : Letter) (p q : ℕ) (z z' : ℤ) (u l : List Letter) → Real v t p → Writing v t ok C x p z → Writing v t ok C y q z' → Quiet (goes v t x p) u q
      → Alternating (x ∷ (u ++ (y ∷ l))) → apart kind_of z z' ≡ false → ⊥
  between x y p q z z' u l r a b k alt f =
      let m = meet v t ok C x y p q z z' a b f in
      let home : Quiet (goes v t x p) u (goes v t x p) = record { leads = k.leads ∙ m.0; silent = k.silent } in
      let none = no_loop (goes v t x p) u (A.closed x p r) (beginning u (y ∷ l) (without_first x (u ++ (y ∷ l)) alt)) home in
      let near : IsTrue (alternate x y) = (subst (λ (k : List Letter). Alternating (x ∷ (k ++ (y ∷ l)))) none alt).0 in
      rw m.1 at near

  -- the step x at p wrote z; from there u has led quietly to q, and l is to come
  onward : (l u : List Letter) (x : Letter) (p q : ℕ) (z : ℤ) → Real v t p → Writing v t ok C x p z → Quiet (goes v t x p) u q → Alternating (x ∷ (u ++ l))
      → behind z (w.writes v t q l) ≡ true
  onward [] u x p q z r a k alt = refl
  onward (y ∷ l) u x p q z r a k alt =
      let rq : Real v t q = subst (Real v t) k.leads (A.walks.walk_real u (goes v t x p) (A.closed x p r)) in
      let rest = w.writes v t (goes v t y q) l in
      elim (writes v t ok C y q rq) [
        | nothing n ↦
            ap (λ (m : List ℤ). behind z (m ++ rest)) n
            ∙ onward l (u ++ (y ∷ [])) x p (goes v t y q) z r a (further (goes v t x p) u q y k n) (rw append_assoc alt)
        | letter z' n b ↦
            ap (λ (m : List ℤ). behind z (m ++ rest)) n
            ∙ both {a = apart kind_of z z'} {b = fine kind_of (z' ∷ rest)}
            (elim (either (apart kind_of z z')) [ inl f ↦ f | inr f ↦ absurd (between x y p q z z' u l r a b k alt f) ])
            (both (written_plain v t ok C y q z' b)
            (onward l [] y q (goes v t y q) z' rq b (record { leads = refl; silent = refl }) (ending (x ∷ u) (y ∷ l) alt)))
      ]

  pub walk_fine : (l : List Letter) (q : ℕ) → Real v t q → Alternating l → fine kind_of (w.writes v t q l) ≡ true
  walk_fine [] q r alt = refl
  walk_fine (y ∷ l) q r alt =
      let rest = w.writes v t (goes v t y q) l in
      elim (writes v t ok C y q r) [
        | nothing n ↦ ap (λ (m : List ℤ). fine kind_of (m ++ rest)) n ∙ walk_fine l (goes v t y q) (A.closed y q r) (without_first y l alt)
        | letter z n b ↦
            ap (λ (m : List ℤ). fine kind_of (m ++ rest)) n
            ∙ both (written_plain v t ok C y q z b) (onward l [] y q (goes v t y q) z r b (record { leads = refl; silent = refl }) alt)
      ]
