-- Laws of two by two matrices, each an identity that the ring solver checks.
--
-- In order: the product (`⊗-assoc`, `⊗-idl`, `⊗-idr`), negatives, determinants, adjugates; the letters S, Q, P and their relations,
-- T and R as words; equality up to sign is an equivalence (`≈-refl`, `≈-sym`, `◌∙≈◌`) that the product respects (`≈-left`, `≈-right`, `≈-both`)
-- and that a left factor of determinant 1 cancels from (`≈-cancel`).
-- Assumes nothing.
use mathlib.Core.Path.{◌≡◌, refl, sym, ◌∙◌, ap}
use mathlib.Core.Logic.{inl, inr}
use mathlib.Core.List.{List, [], ◌∷◌}
use lib.IntN.{ℤ, pos, ◌*ℤ◌}
use Rattle.matrix.specs.Matrix.{Mat, mat, ◌⊗◌, 𝟙, neg, adj, det, mat_s, mat_t, mat_r, mat_q, mat_p, ◌≈◌}
use Rattle.matrix.specs.Words.{Letter, S, Q, P, letter}
use Rattle.matrix.proofs.Integer.{one-*}
use Rattle.matrix.proofs.Ring.{con, ◌⊙◌, ring, lit, const, ◌⊛◌, ∼◌, adjᵉ, block, ring_m, detᵉ, det_val}

-- the entries of a matrix in front of an environment: they are its next block of variables
abbrev pub with : Mat → List ℤ → List ℤ
with m r = m.a ∷ m.b ∷ m.c ∷ m.d ∷ r

-- ---- the product

pub ⊗-assoc : (l m n : Mat) → l ⊗ m ⊗ n ≡ l ⊗ (m ⊗ n)
⊗-assoc l m n = ring_m (with l (with m (with n []))) (block 0 ⊛ block 4 ⊛ block 8) (block 0 ⊛ (block 4 ⊛ block 8)) tt

pub ⊗-idl : (m : Mat) → 𝟙 ⊗ m ≡ m
unfolding 𝟙
⊗-idl m = ring_m (with m []) (const 𝟙 ⊛ block 0) (block 0) tt

pub ⊗-idr : (m : Mat) → m ⊗ 𝟙 ≡ m
unfolding 𝟙
⊗-idr m = ring_m (with m []) (block 0 ⊛ const 𝟙) (block 0) tt

-- ---- negatives

pub neg_neg : (m : Mat) → neg (neg m) ≡ m
neg_neg m = ring_m (with m []) (∼ ∼ block 0) (block 0) tt

pub neg-⊗ : (m n : Mat) → neg m ⊗ n ≡ neg (m ⊗ n)
neg-⊗ m n = ring_m (with m (with n [])) (∼ block 0 ⊛ block 4) (∼ (block 0 ⊛ block 4)) tt

pub ⊗-neg : (m n : Mat) → m ⊗ neg n ≡ neg (m ⊗ n)
⊗-neg m n = ring_m (with m (with n [])) (block 0 ⊛ ∼ block 4) (∼ (block 0 ⊛ block 4)) tt

-- ---- determinants

pub det-⊗ : (m n : Mat) → det (m ⊗ n) ≡ det m *ℤ det n
unfolding det
det-⊗ m n =
    let r = with m (with n []) in
    det_val r (block 0 ⊛ block 4) ∙ ring r (detᵉ (block 0 ⊛ block 4)) (detᵉ (block 0) ⊙ detᵉ (block 4)) tt

pub det_neg : (m : Mat) → det (neg m) ≡ det m
unfolding det
det_neg m = let r = with m [] in det_val r (∼ block 0) ∙ ring r (detᵉ (∼ block 0)) (detᵉ (block 0)) tt

pub det_adj : (m : Mat) → det (adj m) ≡ det m
unfolding det
det_adj m = let r = with m [] in det_val r (adjᵉ (block 0)) ∙ ring r (detᵉ (adjᵉ (block 0))) (detᵉ (block 0)) tt

pub det_𝟙 : det 𝟙 ≡ pos 1
unfolding det 𝟙
det_𝟙 = refl

pub det_letter : (x : Letter) → det (letter x) ≡ pos 1
unfolding det adj mat_s mat_q mat_p
det_letter S = refl
det_letter Q = refl
det_letter P = refl

pub det-≈ : {m n : Mat} → m ≈ n → det m ≡ det n
det-≈ (inl e) = ap det e
det-≈ {n} (inr e) = ap det e ∙ det_neg n

-- matrices of determinant 1 are closed under products
pub det_one : (m n : Mat) → det m ≡ pos 1 → det n ≡ pos 1 → det (m ⊗ n) ≡ pos 1
det_one m n d e = det-⊗ m n ∙ cc (d, e, one-* (pos 1))

-- ---- adjugates

-- the scalar matrix of x
abbrev scalar : ℤ → Mat
scalar x = mat x (pos 0) (pos 0) x

⊗-adj_det : (m : Mat) → m ⊗ adj m ≡ scalar (det m)
unfolding det
⊗-adj_det m = ring_m (with m []) (block 0 ⊛ adjᵉ (block 0)) (lit (detᵉ (block 0)) (con (pos 0)) (con (pos 0)) (detᵉ (block 0))) tt

adj-⊗-det : (m : Mat) → adj m ⊗ m ≡ scalar (det m)
unfolding det
adj-⊗-det m = ring_m (with m []) (adjᵉ (block 0) ⊛ block 0) (lit (detᵉ (block 0)) (con (pos 0)) (con (pos 0)) (detᵉ (block 0))) tt

pub ⊗-adj : (m : Mat) → det m ≡ pos 1 → m ⊗ adj m ≡ 𝟙
unfolding 𝟙
⊗-adj m d = ⊗-adj_det m ∙ ap scalar d

pub adj-⊗ : (m : Mat) → det m ≡ pos 1 → adj m ⊗ m ≡ 𝟙
unfolding 𝟙
adj-⊗ m d = adj-⊗-det m ∙ ap scalar d

pub adj_adj : (m : Mat) → adj (adj m) ≡ m
adj_adj m = ring_m (with m []) (adjᵉ (adjᵉ (block 0))) (block 0) tt

pub adj_product : (m n : Mat) → adj (m ⊗ n) ≡ adj n ⊗ adj m
adj_product m n = ring_m (with m (with n [])) (adjᵉ (block 0 ⊛ block 4)) (adjᵉ (block 4) ⊛ adjᵉ (block 0)) tt

pub adj_neg : (m : Mat) → adj (neg m) ≡ neg (adj m)
adj_neg m = ring_m (with m []) (adjᵉ (∼ block 0)) (∼ adjᵉ (block 0)) tt

-- m (adj m n) = n, and (adj m) (m n) = n
pub undo : (m n : Mat) → det m ≡ pos 1 → m ⊗ (adj m ⊗ n) ≡ n
undo m n d = sym (⊗-assoc m (adj m) n) ∙ ap (λ (x : Mat). x ⊗ n) (⊗-adj m d) ∙ ⊗-idl n

pub redo : (m n : Mat) → det m ≡ pos 1 → adj m ⊗ (m ⊗ n) ≡ n
redo m n d = sym (⊗-assoc (adj m) m n) ∙ ap (λ (x : Mat). x ⊗ n) (adj-⊗ m d) ∙ ⊗-idl n

-- ---- the relations between the letters

pub S_S : mat_s ⊗ mat_s ≡ neg 𝟙
unfolding ◌⊗◌ mat_s neg 𝟙
S_S = refl

pub Q_Q : mat_q ⊗ mat_q ≡ mat_p
unfolding ◌⊗◌ adj mat_q mat_p
Q_Q = refl

pub P_P : mat_p ⊗ mat_p ≡ mat_q
unfolding ◌⊗◌ adj mat_q mat_p
P_P = refl

pub Q_P : mat_q ⊗ mat_p ≡ 𝟙
unfolding ◌⊗◌ adj mat_q mat_p 𝟙
Q_P = refl

pub P_Q : mat_p ⊗ mat_q ≡ 𝟙
unfolding ◌⊗◌ adj mat_q mat_p 𝟙
P_Q = refl

pub T_is : mat_t ≡ mat_p ⊗ mat_s
unfolding ◌⊗◌ adj mat_s mat_t mat_q mat_p
T_is = refl

pub R_is : mat_r ≡ mat_s ⊗ (mat_p ⊗ mat_s)
unfolding ◌⊗◌ adj mat_s mat_t mat_r mat_q mat_p
R_is = refl

-- ---- equality up to sign

pub ≈-refl : {m : Mat} → m ≈ m
≈-refl = inl refl

pub ≈-neg : (m : Mat) → neg m ≈ m
≈-neg m = inr refl

pub ≈-sym : {m n : Mat} → m ≈ n → n ≈ m
≈-sym (inl e) = inl (sym e)
≈-sym {n} (inr e) = inr (cc (e, neg_neg n))

infixl 5 ◌∙≈◌
pub ◌∙≈◌ : {l m n : Mat} → l ≈ m → m ≈ n → l ≈ n
inl e ∙≈ inl f = inl (e ∙ f)
inl e ∙≈ inr f = inr (e ∙ f)
inr e ∙≈ inl f = inr (cc (e, f))
◌∙≈◌ {n} (inr e) (inr f) = inl (cc (e, f, neg_neg n))

pub ≈-left : (l : Mat) {m n : Mat} → m ≈ n → l ⊗ m ≈ l ⊗ n
≈-left l (inl e) = inl (cc (e))
≈-left l {n} (inr e) = inr (cc (e, ⊗-neg l n))

pub ≈-right : (l : Mat) {m n : Mat} → m ≈ n → m ⊗ l ≈ n ⊗ l
≈-right l (inl e) = inl (cc (e))
≈-right l {n} (inr e) = inr (cc (e, neg-⊗ n l))

pub ≈-both : {l l' m m' : Mat} → l ≈ l' → m ≈ m' → l ⊗ m ≈ l' ⊗ m'
≈-both {l'} {m} e f = ≈-right m e ∙≈ ≈-left l' f

pub ≈-adj : {m n : Mat} → m ≈ n → adj m ≈ adj n
≈-adj (inl e) = inl (ap adj e)
≈-adj {n} (inr e) = inr (ap adj e ∙ adj_neg n)

-- a left factor of determinant 1 cancels
pub ≈-cancel : (l : Mat) {m n : Mat} → det l ≡ pos 1 → l ⊗ m ≈ l ⊗ n → m ≈ n
≈-cancel l {m} {n} d e = inl (sym (redo l m d)) ∙≈ ≈-left (adj l) e ∙≈ inl (redo l n d)
