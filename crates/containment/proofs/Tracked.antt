-- ONE SUBGROUP LIES IN ANOTHER exactly where some map tracks the positions of the one in those of the other: `tracked_lies`, `lies-tracked`,
-- and by what the call decides `tracked_decides`. Two symbols have the same subgroup exactly where their indices are the same and one contains the other:
-- `same_counted`.
-- In order: where a matrix leads from the origin (`home`, `one_position`); a map that tracks takes walks to walks; the position of a matrix goes to the
-- position of that matrix; the index.
-- Why: as many pairs are reached in either order, and as many as there are cosets exactly where the one lies in the other.
-- Assumes nothing.
use mathlib.Core.Path.{◌≡◌, refl, sym, ◌∙◌, ap}
use mathlib.Core.Logic.{◌↔◌, inl, inr}
use mathlib.Core.Bool.{Bool, true, false, ◌&&◌}
use mathlib.Core.List.{List, [], ◌∷◌}
use Prim.Native.Nat.{ℕ}
use native.Mathlib.Omega.{arith}
use lib.Dec.{eqb}
use lib.ListN.{length}
use lib.IntN.{ℤ}
use borrow.Author.Tests.{eq-eqb, ne_eqb, eqb-true}
use Rattle.basics.proofs.Choice.{clash, either, and_left, and_right}
use Rattle.matrix.specs.Matrix.{Mat, ◌⊗◌, 𝟙, adj, mat_s, mat_q}
use Rattle.matrix.specs.Words.{Letter, S, Q, P}
use Rattle.matrix.specs.Euclid.{word_of}
use Rattle.matrix.specs.Action as action
use Rattle.matrix.specs.Theorems.{Acts}
use Rattle.matrix.proofs.Matrix.{det_𝟙, det_one, det_adj, det_letter}
use Rattle.matrix.proofs.Action.{acts}
use Rattle.symbol.specs.Symbol.{IsSymbol}
use Rattle.pairing.specs.Generator.{generators}
use Rattle.pairing.specs.Subgroup.{InH}
use Rattle.polygon.specs.Step.{Real, step_s, turn_q, origin_of}
use Rattle.polygon.specs.Walk.{ends, arrives}
use Rattle.polygon.specs.Theorem.{Polygon}
use Rattle.polygon.proofs.OneCoset.{from_coset, to_coset}
use Rattle.polygon.proofs.Polygon.{polygon}
use Rattle.coset.specs.Tables.{index_of}
use Rattle.coset.proofs.Answer.{symbol_cosets}
use Rattle.right_cosets.specs.Condition.{Unit, Condition}
use Rattle.right_cosets.proofs.Place.{adj_𝟙}
use Rattle.right_cosets.proofs.Tabled.{cosets_as}
use Rattle.right_cosets.proofs.Theorem.{one_table}
use Rattle.containment.specs.Group.{SameGroup, same_tables}
use Rattle.containment.specs.Pairs.{◌and◌}
use Rattle.containment.specs.Contained.{LiesIn}
use Rattle.containment.specs.TwoSymbols.{common_cosets, Contained, contained}
use Rattle.containment.specs.Inner.Following.{Tracks, Tracked}
use Rattle.containment.proofs.Generated.{generated}
use Rattle.containment.proofs.Theorem.{same_symbols}
use Rattle.containment.proofs.TwoSymbols.{common_subgroup, containment, inside_all}

-- ---- one symbol: where a matrix leads from the origin

module _ (v : ℕ) (t : List ℤ) (ok : IsSymbol v t) where
  abbrev g : Polygon v t
  g = polygon v t ok

  acting : Acts (step_s v t) (turn_q v)
  acting = acts (step_s v t) (turn_q v) g.involution g.order_three

  abbrev at : Mat → ℕ
  at m = arrives v t (origin_of v t) m

  at_one : at 𝟙 ≡ origin_of v t
  at_one = acting.identity (origin_of v t)

  at_real : (m : Mat) → Real v t (at m)
  unfolding action.at
  at_real m = g.walks.walk_real (word_of m) (origin_of v t) g.walks.origin

  by_S : (m : Mat) → Unit m → at (m ⊗ mat_s) ≡ step_s v t (at m)
  by_S m u = acting.product (origin_of v t) m mat_s u (det_letter S) ∙ acting.by_S (at m)

  by_Q : (m : Mat) → Unit m → at (m ⊗ mat_q) ≡ turn_q v (at m)
  by_Q m u = acting.product (origin_of v t) m mat_q u (det_letter Q) ∙ acting.by_Q (at m)

  one_position : (l m : Mat) → Unit l → Unit m → (at l ≡ at m) ↔ InH (generators v t) (m ⊗ adj l)
  one_position l m u u' =
      let c = g.cosets l m u u' in
      (λ e. from_coset (generators v t) l m u (c.0 e), λ h. c.1 (to_coset (generators v t) l m u h))

  home : (m : Mat) → Unit m → (at m ≡ origin_of v t) ↔ InH (generators v t) m
  home m u =
      let c = one_position 𝟙 m det_𝟙 u in
      (λ e. rw (adj_𝟙 m) at (c.0 (at_one ∙ sym e)), λ h. sym (c.1 (rw (adj_𝟙 m) h)) ∙ at_one)

-- ---- two symbols

module _ (v : ℕ) (t : List ℤ) (n : ℕ) (u : List ℤ) (ok : IsSymbol v t) (ok' : IsSymbol n u) where
  abbrev g' : Polygon n u
  g' = polygon n u ok'

  -- a map that tracks takes a walk to a walk
  module _ (f : ℕ → ℕ) (h : Tracks v t n u f) where
    walk_tracked : (l : List Letter) (p : ℕ) → Real n u p → f (ends n u p l) ≡ ends v t (f p) l
    walk_tracked [] p r = refl
    walk_tracked (S ∷ l) p r = walk_tracked l (step_s n u p) (g'.closed S p r) ∙ ap (λ (x : ℕ). ends v t x l) (h.by_S p r)
    walk_tracked (Q ∷ l) p r = walk_tracked l (turn_q n p) (g'.closed Q p r) ∙ ap (λ (x : ℕ). ends v t x l) (h.by_Q p r)
    walk_tracked (P ∷ l) p r =
        walk_tracked l (turn_q n (turn_q n p)) (g'.closed P p r)
        ∙ ap (λ (x : ℕ). ends v t x l) (h.by_Q (turn_q n p) (g'.closed Q p r) ∙ ap (turn_q v) (h.by_Q p r))

    at_tracked : (m : Mat) → f (at n u ok' m) ≡ at v t ok m
    unfolding action.at
    at_tracked m = walk_tracked (word_of m) (origin_of n u) g'.walks.origin ∙ ap (λ (x : ℕ). ends v t x (word_of m)) h.origin

    tracked_lies : LiesIn (InH (generators n u)) (InH (generators v t))
    tracked_lies m d i = (home v t ok m d).0 (sym (at_tracked m) ∙ ap f ((home n u ok' m d).1 i) ∙ h.origin)

  -- where the one lies in the other, the position of a matrix goes to the position of that matrix
  module _ (i : LiesIn (InH (generators n u)) (InH (generators v t))) where
    together : (l m : Mat) → Unit l → Unit m → at n u ok' l ≡ at n u ok' m → at v t ok l ≡ at v t ok m
    together l m d e q =
        (one_position v t ok l m d e).1 (i (m ⊗ adj l) (det_one m (adj l) e (det_adj l ∙ d)) ((one_position n u ok' l m d e).0 q))

    abbrev goes : ℕ → ℕ
    goes p = at v t ok (g'.frame p)

    frame_unit : (p : ℕ) → Real n u p → Unit (g'.frame p)
    frame_unit p r = g'.cut.unit p (g'.within p r)

    goes_at : (m : Mat) → Unit m → goes (at n u ok' m) ≡ at v t ok m
    goes_at m d =
        let p = at n u ok' m in
        let r = at_real n u ok' m in
        together (g'.frame p) m (frame_unit p r) d (g'.walks.by_frame p r)

    lies_tracks : Tracks v t n u goes
    lies_tracks = record {
      origin = ap goes (sym (at_one n u ok')) ∙ goes_at 𝟙 det_𝟙 ∙ at_one v t ok;
      by_S = λ p r.
          let m = g'.frame p in
          let d = frame_unit p r in
          ap goes (ap (step_s n u) (sym (g'.walks.by_frame p r)) ∙ sym (by_S n u ok' m d)) ∙ goes_at (m ⊗ mat_s) (det_one m mat_s d (det_letter S))
          ∙ by_S v t ok m d;
      by_Q = λ p r.
          let m = g'.frame p in
          let d = frame_unit p r in
          ap goes (ap (turn_q n) (sym (g'.walks.by_frame p r)) ∙ sym (by_Q n u ok' m d)) ∙ goes_at (m ⊗ mat_q) (det_one m mat_q d (det_letter Q))
          ∙ by_Q v t ok m d;
    }

  pub tracked_decides : (contained n u v t ≡ true) ↔ Tracked v t n u
  tracked_decides =
      let c = (containment n u v t ok' ok).decided in
      let a = inside_all n u v t ok' ok in (
        λ e. record { to = goes (a.1 (c.0 e)); tracks = lies_tracks (a.1 (c.0 e)) },
        λ h. c.1 (a.0 (tracked_lies h.to h.tracks)),
      )

-- ---- the index

-- tests that pass for the same reason are one test
pub as_one : (a b : Bool) → (a ≡ true → b ≡ true) → (b ≡ true → a ≡ true) → a ≡ b
as_one true true f g = refl
as_one true false f g = sym (f refl)
as_one false true f g = g refl
as_one false false f g = refl

both_conditions : (C D : Mat → Type 0) → Condition C → Condition D → Condition (C and D)
both_conditions C D c d = record {
  one = (c.one, d.one);
  product = λ m n h k. (c.product m n h.0 k.0, d.product m n h.1 k.1);
  inverse = λ m h. (c.inverse m h.0, d.inverse m h.1);
  sign = λ m h. (c.sign m h.0, d.sign m h.1);
}

module _ (v : ℕ) (t : List ℤ) (n : ℕ) (u : List ℤ) (ok : IsSymbol v t) (ok' : IsSymbol n u) where
  abbrev C : Mat → Type 0
  C = InH (generators v t)

  abbrev D : Mat → Type 0
  D = InH (generators n u)

  as_many_pairs : length (common_cosets v t n u) ≡ length (common_cosets n u v t)
  as_many_pairs =
      let a = (common_subgroup v t n u ok ok').cosets in
      let b = (common_subgroup n u v t ok' ok).cosets in
      let e : (m : Mat) → (D and C) m ↔ (C and D) m = λ m. (λ h. (h.1, h.0), λ h. (h.1, h.0)) in
      (one_table (C and D) (both_conditions C D (generated (generators v t)) (generated (generators n u))) _ _ _ _ _ _ a (cosets_as e b)).0

  one_index : SameGroup (generators v t) (generators n u) → index_of v t ≡ index_of n u
  one_index e = (one_table D (generated (generators n u)) _ _ _ _ _ _ (cosets_as e (symbol_cosets ok)) (symbol_cosets ok')).0

  -- a subgroup of the same index is the whole
  whole : index_of v t ≡ index_of n u → Contained (generators n u) (generators v t) → Contained (generators v t) (generators n u)
  whole e h = (containment v t n u ok ok').as_many.0 (as_many_pairs ∙ (containment n u v t ok' ok).as_many.1 h ∙ sym e)

  abbrev counted : Bool
  counted = eqb (index_of v t) (index_of n u)

  pub same_counted : same_tables v t n u ≡ (counted && contained n u v t)
  same_counted =
      let o = (same_symbols v t n u ok ok').by_tables in
      let c = (containment n u v t ok' ok).decided in
      as_one (same_tables v t n u) (counted && contained n u v t)
      (λ e.
      let s = o.0 e in
      cc (eq-eqb (index_of v t) (index_of n u) (one_index s), c.1 (λ m h. (s m).1 h)))
      (λ e.
      let i = eqb-true (index_of v t) (index_of n u) (and_left counted (contained n u v t) e) in
      let h = c.0 (and_right counted (contained n u v t) e) in
      o.1 (λ m. (whole i h m, h m)))

  pub same_index : (k m : ℕ) → k ≡ index_of v t → m ≡ index_of n u → k ≡ m → contained n u v t ≡ same_tables v t n u
  same_index k m a b e =
      ap (λ (x : Bool). x && contained n u v t) (sym (eq-eqb (index_of v t) (index_of n u) (sym a ∙ e ∙ b))) ∙ sym same_counted

  pub other_index : (k m : ℕ) → k ≡ index_of v t → m ≡ index_of n u → (k ≡ m → ⊥) → false ≡ same_tables v t n u
  other_index k m a b e =
      ap (λ (x : Bool). x && contained n u v t) (sym (ne_eqb (index_of v t) (index_of n u) (λ z. e (a ∙ z ∙ sym b)))) ∙ sym same_counted
