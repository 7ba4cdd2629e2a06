-- A solver for identities of integers and of matrices, by reflection: an identity holds where the polynomial of its difference has
-- no coefficient but 0, which is a test that computes.
--
--   con c, var n, a ⊕ b, a ⊙ b, ⊖ a     expressions; var n is the n-th integer of an environment
--   val r e                             the value of e in the environment r
--   poly e                              the polynomial of e: coefficients with sorted monomials
--   ring r e f tt                       : val r e ≡ val r f
--   lit a b c d, const m, x ⊛ y, ∼ x, adjᵉ x     expressions of matrices; `block n` is the matrix of the variables n to n + 3
--   val_m r x                           the value of x
--   ring_m r x y tt                     : val_m r x ≡ val_m r y
--   detᵉ x, det-val                     the determinant as an expression of integers
--
-- Where a constant matrix stands in an identity, the citing law opens it (`unfolding mat_s`), so that the test computes.
-- Why: `put` adds a term to a polynomial and keeps one term for each monomial, so equal terms meet and cancel.
-- Assumes nothing.
use mathlib.Core.Path.{◌≡◌, refl, sym, ◌∙◌, ap}
use mathlib.Core.Bool.{Bool, true, false, cond, ◌&&◌}
use mathlib.Core.List.{List, [], ◌∷◌}
use Prim.Native.Nat.{ℕ, zero, suc}
use lib.Dec.{T, eqb, ltb, eqb→eq}
use lib.IntN.{ℤ, pos, negsuc, neg_ℤ, ◌+ℤ◌, ◌*ℤ◌, +ℤ_idl, +ℤ_idr, +ℤ_assoc, zero-*ℤ, *ℤ-zero}
use Rattle.matrix.specs.Matrix.{Mat, mat, ◌⊗◌, neg, adj, det}
use Rattle.matrix.proofs.Integer.{*-+-right, *-+-left, neg-*-left, *-assoc, *-one, one-*, +-left_comm, *-left_comm, *-middle, difference}

-- ---- expressions

infixl 6 ◌⊕◌
infixl 7 ◌⊙◌
infix 8 ⊖◌
pub data Exp : Type 0 where
  con : ℤ → Exp
  var : ℕ → Exp
  ◌⊕◌ : Exp → Exp → Exp
  ◌⊙◌ : Exp → Exp → Exp
  ⊖◌ : Exp → Exp

abbrev pub get : List ℤ → ℕ → ℤ
get [] n = pos 0
get (x ∷ r) zero = x
get (x ∷ r) (suc n) = get r n

abbrev pub val : List ℤ → Exp → ℤ
val r (con c) = c
val r (var n) = get r n
val r (e ⊕ f) = val r e +ℤ val r f
val r (e ⊙ f) = val r e *ℤ val r f
val r (⊖ e) = neg_ℤ (val r e)

-- ---- polynomials

-- a coefficient, and a monomial as the sorted list of its variables
pub data Term : Type 0 where
  term : ℤ → List ℕ → Term

-- one variable more
abbrev insert : ℕ → List ℕ → List ℕ
insert v [] = v ∷ []
insert v (w ∷ m) = cond (ltb v w) (v ∷ w ∷ m) (w ∷ insert v m)

abbrev merge : List ℕ → List ℕ → List ℕ
merge [] n = n
merge (v ∷ m) n = insert v (merge m n)

abbrev same : List ℕ → List ℕ → Bool
same [] [] = true
same [] (w ∷ n) = false
same (v ∷ m) [] = false
same (v ∷ m) (w ∷ n) = eqb v w && same m n

-- the term c m added to a polynomial
abbrev put : ℤ → List ℕ → List Term → List Term
put c m [] = term c m ∷ []
put c m (term d n ∷ p) = cond (same m n) (term (c +ℤ d) n ∷ p) (term d n ∷ put c m p)

abbrev plus : List Term → List Term → List Term
plus [] q = q
plus (term c m ∷ p) q = put c m (plus p q)

abbrev scale : ℤ → List ℕ → List Term → List Term
scale c m [] = []
scale c m (term d n ∷ p) = put (c *ℤ d) (merge m n) (scale c m p)

abbrev times : List Term → List Term → List Term
times [] q = []
times (term c m ∷ p) q = plus (scale c m q) (times p q)

abbrev pub poly : Exp → List Term
poly (con c) = term c [] ∷ []
poly (var n) = term (pos 1) (n ∷ []) ∷ []
poly (e ⊕ f) = plus (poly e) (poly f)
poly (e ⊙ f) = times (poly e) (poly f)
poly (⊖ e) = scale (negsuc 0) [] (poly e)

abbrev zero_z : ℤ → Bool
zero_z (pos zero) = true
zero_z (pos (suc n)) = false
zero_z (negsuc n) = false

abbrev pub vanishes : List Term → Bool
vanishes [] = true
vanishes (term c m ∷ p) = zero_z c && vanishes p

-- ---- what they are worth

case : {A : Type 0} (P : A → Type 0) (b : Bool) (x y : A) → (T b → P x) → P y → P (cond b x y)
case P true x y f g = f tt
case P false x y f g = g

both : (a b : Bool) → T (a && b) → T a × T b
both true true t = (tt, tt)
both true false t = absurd t
both false b t = absurd t

same_eq : (m n : List ℕ) → T (same m n) → m ≡ n
same_eq [] [] t = refl
same_eq [] (w ∷ n) t = absurd t
same_eq (v ∷ m) [] t = absurd t
same_eq (v ∷ m) (w ∷ n) t =
    let k = both (eqb v w) (same m n) t in
    let e = eqb→eq v w k.0 in
    let f = same_eq m n k.1 in
    cc

module _ (r : List ℤ) where
  abbrev worth : List ℕ → ℤ
  worth [] = pos 1
  worth (v ∷ m) = get r v *ℤ worth m

  abbrev sum : List Term → ℤ
  sum [] = pos 0
  sum (term c m ∷ p) = c *ℤ worth m +ℤ sum p

  insert_worth : (v : ℕ) (m : List ℕ) → worth (insert v m) ≡ get r v *ℤ worth m
  insert_worth v [] = refl
  insert_worth v (w ∷ m) =
      case (λ (l : List ℕ). worth l ≡ get r v *ℤ (get r w *ℤ worth m)) (ltb v w) (v ∷ w ∷ m) (w ∷ insert v m) (λ t. refl)
      (ap (λ (x : ℤ). get r w *ℤ x) (insert_worth v m) ∙ *-left_comm (get r w) (get r v) (worth m))

  merge_worth : (m n : List ℕ) → worth (merge m n) ≡ worth m *ℤ worth n
  merge_worth [] n = sym (one-* (worth n))
  merge_worth (v ∷ m) n = insert_worth v (merge m n) ∙ ap (λ (x : ℤ). get r v *ℤ x) (merge_worth m n) ∙ sym (*-assoc (get r v) (worth m) (worth n))

  put_sum : (c : ℤ) (m : List ℕ) (p : List Term) → sum (put c m p) ≡ c *ℤ worth m +ℤ sum p
  put_sum c m [] = refl
  put_sum c m (term d n ∷ p) =
      case (λ (q : List Term). sum q ≡ c *ℤ worth m +ℤ (d *ℤ worth n +ℤ sum p)) (same m n) (term (c +ℤ d) n ∷ p) (term d n ∷ put c m p)
      (λ t. ap (λ (x : ℤ). x +ℤ sum p) (*-+-right c d (worth n)) ∙ +ℤ_assoc (c *ℤ worth n) (d *ℤ worth n) (sum p)
      ∙ ap (λ (l : List ℕ). c *ℤ worth l +ℤ (d *ℤ worth n +ℤ sum p)) (sym (same_eq m n t)))
      (ap (λ (x : ℤ). d *ℤ worth n +ℤ x) (put_sum c m p) ∙ +-left_comm (d *ℤ worth n) (c *ℤ worth m) (sum p))

  plus_sum : (p q : List Term) → sum (plus p q) ≡ sum p +ℤ sum q
  plus_sum [] q = sym (+ℤ_idl (sum q))
  plus_sum (term c m ∷ p) q = put_sum c m (plus p q) ∙ ap (λ (x : ℤ). c *ℤ worth m +ℤ x) (plus_sum p q) ∙ sym (+ℤ_assoc (c *ℤ worth m) (sum p) (sum q))

  scale_sum : (c : ℤ) (m : List ℕ) (p : List Term) → sum (scale c m p) ≡ (c *ℤ worth m) *ℤ sum p
  scale_sum c m [] = sym (*ℤ-zero (c *ℤ worth m))
  scale_sum c m (term d n ∷ p) =
      put_sum (c *ℤ d) (merge m n) (scale c m p)
      ∙ ap (λ (x : ℤ). (c *ℤ d) *ℤ x +ℤ sum (scale c m p)) (merge_worth m n)
      ∙ ap (λ (x : ℤ). x +ℤ sum (scale c m p)) (*-middle c d (worth m) (worth n))
      ∙ ap (λ (x : ℤ). (c *ℤ worth m) *ℤ (d *ℤ worth n) +ℤ x) (scale_sum c m p)
      ∙ sym (*-+-left (c *ℤ worth m) (d *ℤ worth n) (sum p))

  times_sum : (p q : List Term) → sum (times p q) ≡ sum p *ℤ sum q
  times_sum [] q = sym (zero-*ℤ (sum q))
  times_sum (term c m ∷ p) q =
      plus_sum (scale c m q) (times p q)
      ∙ ap (λ (x : ℤ). x +ℤ sum (times p q)) (scale_sum c m q)
      ∙ ap (λ (x : ℤ). (c *ℤ worth m) *ℤ sum q +ℤ x) (times_sum p q)
      ∙ sym (*-+-right (c *ℤ worth m) (sum p) (sum q))

  one_term : (x : ℤ) → x *ℤ pos 1 +ℤ pos 0 ≡ x
  one_term x = +ℤ_idr (x *ℤ pos 1) ∙ *-one x

  poly_sum : (e : Exp) → sum (poly e) ≡ val r e
  poly_sum (con c) = one_term c
  poly_sum (var n) = ap (λ (x : ℤ). x +ℤ pos 0) (one-* (get r n *ℤ pos 1)) ∙ one_term (get r n)
  poly_sum (e ⊕ f) = plus_sum (poly e) (poly f) ∙ cc (poly_sum e, poly_sum f)
  poly_sum (e ⊙ f) = times_sum (poly e) (poly f) ∙ cc (poly_sum e, poly_sum f)
  poly_sum (⊖ e) = scale_sum (negsuc 0) [] (poly e) ∙ neg-*-left (pos 1) (sum (poly e)) ∙ ap neg_ℤ (one-* (sum (poly e)) ∙ poly_sum e)

  zero_term : (c : ℤ) (m : List ℕ) → T (zero_z c) → c *ℤ worth m ≡ pos 0
  zero_term (pos zero) m t = zero-*ℤ (worth m)
  zero_term (pos (suc n)) m t = absurd t
  zero_term (negsuc n) m t = absurd t

  vanishes_sum : (p : List Term) → T (vanishes p) → sum p ≡ pos 0
  vanishes_sum [] t = refl
  vanishes_sum (term c m ∷ p) t =
      let k = both (zero_z c) (vanishes p) t in
      ap (λ (x : ℤ). x +ℤ sum p) (zero_term c m k.0) ∙ +ℤ_idl (sum p) ∙ vanishes_sum p k.1

  pub ring : (e f : Exp) → T (vanishes (poly (e ⊕ ⊖ f))) → val r e ≡ val r f
  ring e f t = difference (val r e) (val r f) (sym (poly_sum (e ⊕ ⊖ f)) ∙ vanishes_sum (poly (e ⊕ ⊖ f)) t)

-- ---- matrices

infixl 7 ◌⊛◌
infix 8 ∼◌
pub data MExp : Type 0 where
  lit : Exp → Exp → Exp → Exp → MExp
  const : Mat → MExp
  ◌⊛◌ : MExp → MExp → MExp
  ∼◌ : MExp → MExp
  adjᵉ : MExp → MExp

abbrev pub block : ℕ → MExp
block n = lit (var n) (var (suc n)) (var (suc (suc n))) (var (suc (suc (suc n))))

abbrev pub val_m : List ℤ → MExp → Mat
val_m r (lit a b c d) = mat (val r a) (val r b) (val r c) (val r d)
val_m r (const m) = m
val_m r (x ⊛ y) = val_m r x ⊗ val_m r y
val_m r (∼ x) = neg (val_m r x)
val_m r (adjᵉ x) = adj (val_m r x)

pub record Entries : Type 0 where
  pub a : Exp
  pub b : Exp
  pub c : Exp
  pub d : Exp

abbrev pub entries : MExp → Entries
entries (lit a b c d) = record { a = a; b = b; c = c; d = d }
entries (const m) = record { a = con m.a; b = con m.b; c = con m.c; d = con m.d }
entries (x ⊛ y) =
    let m = entries x in
    let n = entries y in
    record { a = m.a ⊙ n.a ⊕ m.b ⊙ n.c; b = m.a ⊙ n.b ⊕ m.b ⊙ n.d; c = m.c ⊙ n.a ⊕ m.d ⊙ n.c; d = m.c ⊙ n.b ⊕ m.d ⊙ n.d }
entries (∼ x) = let m = entries x in record { a = ⊖ m.a; b = ⊖ m.b; c = ⊖ m.c; d = ⊖ m.d }
entries (adjᵉ x) = let m = entries x in record { a = m.d; b = ⊖ m.b; c = ⊖ m.c; d = m.a }

abbrev pub equal : Exp → Exp → Bool
equal e f = vanishes (poly (e ⊕ ⊖ f))

abbrev pub equal_m : MExp → MExp → Bool
equal_m x y =
    let m = entries x in
    let n = entries y in
    equal m.a n.a && equal m.b n.b && equal m.c n.c && equal m.d n.d

abbrev pub detᵉ : MExp → Exp
detᵉ x = let m = entries x in m.a ⊙ m.d ⊕ ⊖ (m.b ⊙ m.c)

pub mat_eq : {a a' b b' c c' d d' : ℤ} → a ≡ a' → b ≡ b' → c ≡ c' → d ≡ d' → mat a b c d ≡ mat a' b' c' d'
mat_eq p q s t = λ i. mat (p i) (q i) (s i) (t i)

module _ (r : List ℤ) where
  abbrev val_e : Entries → Mat
  val_e m = mat (val r m.a) (val r m.b) (val r m.c) (val r m.d)

  product_is : (m n : Entries) → val_e m ⊗ val_e n ≡ val_e
      (record { a = m.a ⊙ n.a ⊕ m.b ⊙ n.c; b = m.a ⊙ n.b ⊕ m.b ⊙ n.d; c = m.c ⊙ n.a ⊕ m.d ⊙ n.c; d = m.c ⊙ n.b ⊕ m.d ⊙ n.d })
  unfolding ◌⊗◌
  product_is m n = refl

  neg_is : (m : Entries) → neg (val_e m) ≡ val_e (record { a = ⊖ m.a; b = ⊖ m.b; c = ⊖ m.c; d = ⊖ m.d })
  unfolding neg
  neg_is m = refl

  adj_is : (m : Entries) → adj (val_e m) ≡ val_e (record { a = m.d; b = ⊖ m.b; c = ⊖ m.c; d = m.a })
  unfolding adj
  adj_is m = refl

  entries_val : (x : MExp) → val_m r x ≡ val_e (entries x)
  entries_val (lit a b c d) = refl
  entries_val (const m) = refl
  entries_val (x ⊛ y) = cc (entries_val x, entries_val y, product_is (entries x) (entries y))
  entries_val (∼ x) = ap neg (entries_val x) ∙ neg_is (entries x)
  entries_val (adjᵉ x) = ap adj (entries_val x) ∙ adj_is (entries x)

  four : (a b c d : Bool) → T (a && b && c && d) → T a × T b × T c × T d
  four true true true d t = (tt, tt, tt, t)
  four true true false d t = absurd t
  four true false c d t = absurd t
  four false b c d t = absurd t

  pub ring_m : (x y : MExp) → T (equal_m x y) → val_m r x ≡ val_m r y
  ring_m x y t =
      let m = entries x in
      let n = entries y in
      let k = four (equal m.a n.a) (equal m.b n.b) (equal m.c n.c) (equal m.d n.d) t in
      entries_val x
      ∙ mat_eq (ring r m.a n.a k.0) (ring r m.b n.b k.1) (ring r m.c n.c k.2) (ring r m.d n.d k.3)
      ∙ sym (entries_val y)

  pub det_val : (x : MExp) → det (val_m r x) ≡ val r (detᵉ x)
  unfolding det
  det_val x = ap det (entries_val x)
