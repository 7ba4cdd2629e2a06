-- THE THEOREM OF THE SIGNS: every accepted symbol has what specs/Theorem.antt promises (`signs`).
--
-- In order: the promise along any word, wherever it holds for a letter (`along`); the matrix that the walk follows is F⁻¹ m F for the frame F of the
-- start (`followed_is`); a walk that comes home (`found`); a pair (`pair`, `only`); `signs`.
--
-- Why: F⁻¹ m F = s · value(its word) and F · value(the word) = r · written · F, so m F = s r · written · F. Which of its two signs F has doesn't
-- matter: it cancels.
-- Assumes nothing.
use mathlib.Core.Path.{◌≡◌, refl, sym, ◌∙◌, ap}
use mathlib.Core.Logic.{inl}
use mathlib.Core.Bool.{Bool}
use mathlib.Core.List.{List, [], ◌∷◌}
use Prim.Native.Nat.{ℕ}
use lib.IntN.{ℤ, pos}
use Rattle.matrix.specs.Matrix.{Mat, ◌⊗◌, 𝟙, adj, det, ◌≈◌}
use Rattle.matrix.specs.Words.{Letter, letter, value}
use Rattle.matrix.specs.Euclid.{word_of}
use Rattle.matrix.specs.Action.{step, run, at}
use Rattle.matrix.proofs.Matrix.{⊗-assoc, ⊗-idl, ⊗-idr, det_one, det_adj, ⊗-adj, adj-⊗, undo, ◌∙≈◌}
use Rattle.symbol.specs.Symbol.{IsSymbol}
use Rattle.pairing.specs.Generator.{generators}
use Rattle.pairing.specs.Subgroup.{value_of}
use Rattle.polygon.specs.Step.{Real, step_s, turn_q, written, start_of}
use Rattle.polygon.specs.Walk.{wrote, ends, writes, followed, walk_ends, walk_writes}
use Rattle.polygon.proofs.Framed.{word_of-++}
use Rattle.polygon.proofs.Flip.{Cutting, cutting, real_in}
use Rattle.polygon.proofs.Steps.{closed}
use Rattle.polygon.proofs.Start.{upright, round, begin, start_real, start_frame_is}
use Rattle.signs.specs.Sign.{◌·◌, with_sign, matrix_sign}
use Rattle.signs.specs.Step.{step_sign, sign_along, walk_sign, query_sign}
use Rattle.signs.specs.Theorem.{Signs}
use Rattle.signs.proofs.Sign.{sign_sign, sign_left_lem, sign_right, sign_back, conjugate, one_sign}
use Rattle.signs.proofs.Word.{matrix_signs}
use Rattle.signs.proofs.Edge.{edge_frame, turn_S}
use Rattle.signs.proofs.Promise.{promise}

-- ---- along words

module _ {X : Type 0} (σ κ : X → X) (F : X → Mat) (Real : X → Type 0) (gens : List Mat) (w : Letter → X → List ℤ) (s : Letter → X → Bool)
    (closed : (l : Letter) (x : X) → Real x → Real (step σ κ l x))
    (promise : (l : Letter) (x : X) → Real x → F x ⊗ letter l ≡ with_sign (s l x) (value_of gens (w l x) ⊗ F (step σ κ l x))) where
  along : (u : List Letter) (x : X) → Real x → F x ⊗ value u ≡ with_sign (sign_along σ κ s x u) (value_of gens (wrote σ κ w x u) ⊗ F (run σ κ x u))
  along [] x r = ⊗-idr (F x) ∙ sym (⊗-idl (F x))
  along (l ∷ u) x r =
      let y = step σ κ l x in
      let p = value_of gens (w l x) in
      let q = value_of gens (wrote σ κ w y u) in
      let z = F (run σ κ y u) in
      let a = s l x in
      let b = sign_along σ κ s y u in
      sym (⊗-assoc (F x) (letter l) (value u))
      ∙ ap (λ (m : Mat). m ⊗ value u) (promise l x r)
      ∙ sign_left_lem a (p ⊗ F y) (value u)
      ∙ ap (with_sign a) (⊗-assoc p (F y) (value u) ∙ ap (λ (m : Mat). p ⊗ m) (along u y (closed l x r)) ∙ sign_right b p (q ⊗ z))
      ∙ sign_sign a b (p ⊗ (q ⊗ z))
      ∙ ap (with_sign (a · b)) (sym (⊗-assoc p q z) ∙ ap (λ (m : Mat). m ⊗ z) (sym (word_of-++ gens (w l x) (wrote σ κ w y u))))

-- ---- the query

adj_𝟙 : adj 𝟙 ≡ 𝟙
unfolding adj 𝟙
adj_𝟙 = refl

-- a right factor of determinant 1 cancels
cancel : (m n f : Mat) → det f ≡ pos 1 → m ⊗ f ≡ n ⊗ f → m ≡ n
cancel m n f d e = drop m ∙ ap (λ (x : Mat). x ⊗ adj f) e ∙ sym (drop n)
  where
    drop : (x : Mat) → x ≡ x ⊗ f ⊗ adj f
    drop x = sym (⊗-assoc x f (adj f) ∙ ap (λ (k : Mat). x ⊗ k) (⊗-adj f d) ∙ ⊗-idr x)

module _ (v : ℕ) (t : List ℤ) (ok : IsSymbol v t) where
  abbrev C : Cutting v t
  C = cutting v t ok

  abbrev F : ℕ → Mat
  F = C.frame

  abbrev start : ℕ
  start = start_of v t

  abbrev gens : List Mat
  gens = generators v t

  walk : (l : List Letter) (p : ℕ) → Real v t p → F p ⊗ value l ≡ with_sign (walk_sign v t p l) (value_of gens (writes v t p l) ⊗ F (ends v t p l))
  walk = along (step_s v t) (turn_q v) F (Real v t) gens (written v t) (step_sign v t) (closed v t ok C) (promise v t ok C)

  starts : Real v t start
  starts = start_real v t ok C

  start_unit : det (F start) ≡ pos 1
  start_unit = C.cut.unit start (real_in v t ok start starts)

  followed_is : (m : Mat) → adj (F start) ⊗ (m ⊗ F start) ≡ followed v t m
  unfolding followed
  followed_is m = elim (begin v t ok C) [
    | upright a b c ↦
        rw a (conjugate m (start_frame_is v t ok C ∙≈ inl b) ∙ ap (λ (x : Mat). x ⊗ (m ⊗ 𝟙)) adj_𝟙 ∙ ⊗-idl (m ⊗ 𝟙) ∙ ⊗-idr m)
    | round a b c ↦ rw a (conjugate m (start_frame_is v t ok C ∙≈ inl b))
  ]

  det_followed : (m : Mat) → det m ≡ pos 1 → det (followed v t m) ≡ pos 1
  det_followed m d =
      let f = F start in
      ap det (sym (followed_is m)) ∙ det_one (adj f) (m ⊗ f) (det_adj f ∙ start_unit) (det_one m f d start_unit)

  query_is : (m : Mat) → matrix_sign (followed v t m) · walk_sign v t start (word_of (followed v t m)) ≡ query_sign v t m
  unfolding query_sign
  query_is m = refl

  comes_home : (m : Mat) → walk_ends v t m ≡ start → ends v t start (word_of (followed v t m)) ≡ start
  unfolding at
  comes_home m h = h

  found : (m : Mat) → det m ≡ pos 1 → walk_ends v t m ≡ start → m ≡ with_sign (query_sign v t m) (value_of gens (walk_writes v t m))
  found m d h =
      let n = followed v t m in
      let l = word_of n in
      let g = value_of gens (walk_writes v t m) in
      let a = matrix_sign n in
      let b = walk_sign v t start l in
      let f = F start in
      cancel m (with_sign (query_sign v t m) g) f start_unit
      (sym (undo f (m ⊗ f) start_unit)
      ∙ ap (λ (x : Mat). f ⊗ x) (followed_is m ∙ matrix_signs n (det_followed m d))
      ∙ sign_right a f (value l)
      ∙ ap (with_sign a) (walk l start starts ∙ ap (λ (p : ℕ). with_sign b (g ⊗ F p)) (comes_home m h))
      ∙ sign_sign a b (g ⊗ f)
      ∙ ap (λ (c : Bool). with_sign c (g ⊗ f)) (query_is m)
      ∙ sym (sign_left_lem (query_sign v t m) g f))

  pair : (A B : Mat) → det A ≡ pos 1 → det B ≡ pos 1 → walk_ends v t (B ⊗ adj A) ≡ start
      → value_of gens (walk_writes v t (B ⊗ adj A)) ⊗ A ≡ with_sign (query_sign v t (B ⊗ adj A)) B
  pair A B dA dB h =
      let m = B ⊗ adj A in
      let c = query_sign v t m in
      let g = value_of gens (walk_writes v t m) in
      ap (λ (x : Mat). x ⊗ A) (sign_back c m g (found m (det_one B (adj A) dB (det_adj A ∙ dA)) h))
      ∙ sign_left_lem c m A
      ∙ ap (with_sign c) (⊗-assoc B (adj A) A ∙ ap (λ (x : Mat). B ⊗ x) (adj-⊗ A dA) ∙ ⊗-idr B)

  only : (A B : Mat) (s : Bool) → det A ≡ pos 1 → det B ≡ pos 1 → walk_ends v t (B ⊗ adj A) ≡ start
      → value_of gens (walk_writes v t (B ⊗ adj A)) ⊗ A ≡ with_sign s B → s ≡ query_sign v t (B ⊗ adj A)
  only A B s dA dB h e = one_sign s (query_sign v t (B ⊗ adj A)) B dB (sym e ∙ pair A B dA dB h)

  pub signs : Signs v t
  signs = record {
    frame = F;
    cut = C.cut;
    edges = edge_frame v t ok C;
    turn_S = turn_S v t ok C;
    promise = promise v t ok C;
    walk = walk;
    found = found;
    pair = pair;
    only = only;
  }
