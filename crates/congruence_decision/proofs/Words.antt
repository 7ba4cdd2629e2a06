-- Words in T and L, and representations of the matrices modulo q.
--
--   Step, by_t byL        the two letters
--   value_of w             the product of the letters of w, from left to right
--   follow x y j w        where the word w leads from j, T being the map x and L the map y
--   Represents x y q      a word whose matrix is the identity modulo q moves nothing: so x and y are a representation of the matrices of
--                         determinant 1 modulo q, T by x and L by y
--
-- In order: maps that are equal point by point; two representations whose maps commute, one after the other (`represents_both`); each matrix of
-- determinant 1 is, modulo n, a word in T and L that leads where it leads; so where T and L represent the matrices modulo n, Γ(n) acts trivially
-- (`trivially`).
-- Assumes nothing.
use mathlib.Core.Path.{◌≡◌, refl, sym, ◌∙◌, ap, subst}
use mathlib.Core.Logic.{inl, inr}
use mathlib.Core.List.{List, [], ◌∷◌, ◌++◌}
use Prim.Native.Nat.{ℕ, zero, suc, ◌+◌, ◌*◌, ◌<◌}
use native.Mathlib.Omega.{arith}
use lib.IntN.{ℤ, pos, negsuc, ◌+ℤ◌, ◌-ℤ◌}
use Rattle.matrix.specs.Matrix.{Mat, ◌⊗◌, 𝟙, neg, adj, mat_s, mat_q, mat_p, ◌≈◌}
use Rattle.matrix.specs.Words.{Letter, S, Q, P, letter, value}
use Rattle.matrix.specs.Euclid.{word_of}
use Rattle.matrix.specs.Action as action
use Rattle.matrix.specs.Theorems.{Acts}
use Rattle.matrix.proofs.Ring.{con, var, ◌⊕◌, ring}
use Rattle.matrix.proofs.Matrix.{⊗-assoc, ⊗-idl, ⊗-idr, ⊗-neg, neg_neg, det_one, det_𝟙, det_neg, S_S, P_P}
use Rattle.matrix.proofs.Existence.{existence}
use Rattle.right_cosets.specs.Condition.{Unit}
use Rattle.congruence.specs.Congruence.{Multiple, Modulo}
use Rattle.congruence.proofs.Multiple.{mult_as, mult_self, mult_zero, mult_part}
use Rattle.congruence.proofs.Modulo.{mod_product, mod_refl, mod_trans, mod_neg}
use Rattle.wohlfahrt.proofs.Powers.{upper, lower, unit_upper, unit_lower, upper-+, upper_zero}
use Rattle.wohlfahrt.proofs.Acting.{Trivially, Wide}
use Rattle.wohlfahrt.proofs.Inverting.{mult_mult}

pub data Step : Type 0 where
  by_t byL : Step

abbrev pub step_matrix : Step → Mat
step_matrix by_t = upper (pos 1)
step_matrix byL = lower (pos 1)

abbrev pub value_of : List Step → Mat
value_of [] = 𝟙
value_of (k ∷ w) = step_matrix k ⊗ value_of w

module _ {X : Type 0} (x y : X → X) where
  abbrev pub step : Step → X → X
  step by_t j = x j
  step byL j = y j

  abbrev pub follow : X → List Step → X
  follow j [] = j
  follow j (k ∷ w) = follow (step k j) w

  abbrev pub Represents : ℕ → Type 0
  Represents q = (w : List Step) → Modulo q (value_of w) 𝟙 → (j : X) → follow j w ≡ j

-- ---- two representations

module _ {X : Type 0} where
  follow_as : {x y x' y' : X → X} → ((j : X) → x j ≡ x' j) → ((j : X) → y j ≡ y' j) → (w : List Step) (j : X) → follow x y j w ≡ follow x' y' j w
  follow_as e f [] j = refl
  follow_as {x} {y} {x'} {y'} e f (by_t ∷ w) j = ap (λ (i : X). follow x y i w) (e j) ∙ follow_as e f w (x' j)
  follow_as {x} {y} {x'} {y'} e f (byL ∷ w) j = ap (λ (i : X). follow x y i w) (f j) ∙ follow_as e f w (y' j)

  pub represents_as : {x y x' y' : X → X} (q : ℕ) → ((j : X) → x j ≡ x' j) → ((j : X) → y j ≡ y' j) → Represents x' y' q → Represents x y q
  represents_as q e f h w m j = follow_as e f w j ∙ h w m j

  unmoved : (w : List Step) (j : X) → follow (λ (i : X). i) (λ (i : X). i) j w ≡ j
  unmoved [] j = refl
  unmoved (by_t ∷ w) j = unmoved w j
  unmoved (byL ∷ w) j = unmoved w j

  pub represents_none : (q : ℕ) → Represents (λ (i : X). i) (λ (i : X). i) q
  represents_none q w m j = unmoved w j

  -- what commutes with x and y commutes with each word
  follow_past : (x y z : X → X) → ((j : X) → x (z j) ≡ z (x j)) → ((j : X) → y (z j) ≡ z (y j)) → (w : List Step) (j : X)
      → follow x y (z j) w ≡ z (follow x y j w)
  follow_past x y z e f [] j = refl
  follow_past x y z e f (by_t ∷ w) j = ap (λ (i : X). follow x y i w) (e j) ∙ follow_past x y z e f w (x j)
  follow_past x y z e f (byL ∷ w) j = ap (λ (i : X). follow x y i w) (f j) ∙ follow_past x y z e f w (y j)

  pub record Commuting (x y x' y' : X → X) : Type 0 where
    pub xx : (j : X) → x (x' j) ≡ x' (x j)
    pub xy : (j : X) → x (y' j) ≡ y' (x j)
    pub yx : (j : X) → y (x' j) ≡ x' (y j)
    pub yy : (j : X) → y (y' j) ≡ y' (y j)

  module _ (x y x' y' : X → X) (c : Commuting x y x' y') where
    follow_both : (w : List Step) (j : X) → follow (λ i. x' (x i)) (λ i. y' (y i)) j w ≡ follow x' y' (follow x y j w) w
    follow_both [] j = refl
    follow_both (by_t ∷ w) j = follow_both w (x' (x j)) ∙ ap (λ (i : X). follow x' y' i w) (follow_past x y x' c.xx c.yx w (x j))
    follow_both (byL ∷ w) j = follow_both w (y' (y j)) ∙ ap (λ (i : X). follow x' y' i w) (follow_past x y y' c.xy c.yy w (y j))

    pub represents_both : (q m : ℕ) → Represents x y q → Represents x' y' m → Represents (λ i. x' (x i)) (λ i. y' (y i)) (q * m)
    represents_both q m h k w e j =
        follow_both w j ∙ ap (λ (i : X). follow x' y' i w) (h w (mod_q e) j) ∙ k w (mod_m e) j
      where
        less : {z : ℤ} → Multiple (q * m) z → Multiple m z
        less h = mult_mult (record { times = pos q; is = refl }) h

        mod_q : {l n : Mat} → Modulo (q * m) l n → Modulo q l n
        mod_q h = record { a_is = mult_part q m h.a_is; b_is = mult_part q m h.b_is; c_is = mult_part q m h.c_is; d_is = mult_part q m h.d_is }

        mod_m : {l n : Mat} → Modulo (q * m) l n → Modulo m l n
        mod_m h = record { a_is = less h.a_is; b_is = less h.b_is; c_is = less h.c_is; d_is = less h.d_is }

-- ---- each matrix is a word modulo n

value-++ : (u w : List Step) → value_of (u ++ w) ≡ value_of u ⊗ value_of w
value-++ [] w = sym (⊗-idl (value_of w))
value-++ (k ∷ u) w = ap (λ (m : Mat). step_matrix k ⊗ m) (value-++ u w) ∙ sym (⊗-assoc (step_matrix k) (value_of u) (value_of w))

S_as : mat_s ≡ upper (negsuc 0) ⊗ lower (pos 1) ⊗ upper (negsuc 0)
unfolding mat_s ◌⊗◌ upper lower
S_as = refl

P_as : mat_p ≡ neg (upper (pos 1) ⊗ mat_s)
unfolding mat_s mat_q mat_p adj neg ◌⊗◌ upper
P_as = refl

module _ {X : Type 0} {σ κ : X → X} (a : Acts σ κ) (k : ℕ) (wide : Wide σ κ (suc k)) where
  abbrev n : ℕ
  n = suc k

  abbrev x : X → X
  x j = action.at σ κ j (upper (pos 1))

  abbrev y : X → X
  y j = action.at σ κ j (lower (pos 1))

  follow-++ : (j : X) (u w : List Step) → follow x y j (u ++ w) ≡ follow x y (follow x y j u) w
  follow-++ j [] w = refl
  follow-++ j (by_t ∷ u) w = follow-++ (x j) u w
  follow-++ j (byL ∷ u) w = follow-++ (y j) u w

  record Spoken (m : Mat) : Type 0 where
    unit : Unit m
    word : List Step
    is : Modulo n (value_of word) m
    leads : (j : X) → follow x y j word ≡ action.at σ κ j m

  spoken-⊗ : (l m : Mat) → Spoken l → Spoken m → Spoken (l ⊗ m)
  spoken-⊗ l m h i = record {
    unit = det_one l m h.unit i.unit;
    word = h.word ++ i.word;
    is = rw (value-++ h.word i.word) (mod_product h.is i.is);
    leads = λ j. follow-++ j h.word i.word ∙ ap (λ (z : X). follow x y z i.word) (h.leads j) ∙ i.leads (action.at σ κ j l)
        ∙ sym (a.product j l m h.unit i.unit);
  }

  spoken_one : Spoken 𝟙
  spoken_one = record { unit = det_𝟙; word = []; is = mod_refl; leads = λ j. sym (a.identity j) }

  spoken_T : Spoken (upper (pos 1))
  spoken_T = record { unit = unit_upper (pos 1); word = by_t ∷ []; is = rw (⊗-idr (upper (pos 1))) mod_refl; leads = λ j. refl }

  spoken_L : Spoken (lower (pos 1))
  spoken_L = record { unit = unit_lower (pos 1); word = byL ∷ []; is = rw (⊗-idr (lower (pos 1))) mod_refl; leads = λ j. refl }

  one_more : (i : ℕ) → i + 1 ≡ suc i
  one_more i = omega arith

  spoken_up : (i : ℕ) → Spoken (upper (pos i))
  spoken_up zero = subst Spoken (sym upper_zero) spoken_one
  spoken_up (suc i) = subst Spoken (sym (upper-+ (pos i) (pos 1)) ∙ ap (λ (z : ℕ). upper (pos z)) (one_more i))
      (spoken-⊗ (upper (pos i)) (upper (pos 1)) (spoken_up i) spoken_T)

  down_is : pos k ≡ negsuc 0 +ℤ pos (suc k)
  down_is = ring (pos k ∷ []) (var 0) (con (negsuc 0) ⊕ (var 0 ⊕ con (pos 1))) tt ∙ ap (λ (z : ℕ). negsuc 0 +ℤ pos z) (one_more k)

  down_mod : Modulo n (upper (pos k)) (upper (negsuc 0))
  unfolding upper
  down_mod = record {
    a_is = mult_zero;
    b_is = mult_as (sym (ap (λ (z : ℤ). z -ℤ negsuc 0) down_is ∙ ring (pos (suc k) ∷ []) (con (negsuc 0) ⊕ var 0 ⊕ con (pos 1)) (var 0) tt)) mult_self;
    c_is = mult_zero;
    d_is = mult_zero;
  }

  -- T⁻¹ is T^k
  spoken_down : Spoken (upper (negsuc 0))
  spoken_down = let h = spoken_up k in record {
    unit = unit_upper (negsuc 0);
    word = h.word;
    is = mod_trans h.is down_mod;
    leads = λ j. h.leads j ∙ ap (action.at σ κ j) (ap upper down_is ∙ upper-+ (negsuc 0) (pos (suc k)))
        ∙ a.product j (upper (negsuc 0)) (upper (pos (suc k))) (unit_upper (negsuc 0)) (unit_upper (pos (suc k)))
        ∙ wide (action.at σ κ j (upper (negsuc 0)));
  }

  spoken_S : Spoken mat_s
  spoken_S = subst Spoken (sym S_as) (spoken-⊗ (upper (negsuc 0) ⊗ lower (pos 1)) (upper (negsuc 0))
      (spoken-⊗ (upper (negsuc 0)) (lower (pos 1)) spoken_down spoken_L) spoken_down)

  spoken_neg : (m : Mat) → Spoken m → Spoken (neg m)
  spoken_neg m h = subst Spoken (ap (λ (z : Mat). m ⊗ z) S_S ∙ ⊗-neg m 𝟙 ∙ ap neg (⊗-idr m))
      (spoken-⊗ m (mat_s ⊗ mat_s) h (spoken-⊗ mat_s mat_s spoken_S spoken_S))

  spoken_P : Spoken mat_p
  spoken_P = subst Spoken (sym P_as) (spoken_neg (upper (pos 1) ⊗ mat_s) (spoken-⊗ (upper (pos 1)) mat_s spoken_T spoken_S))

  spoken_letter : (l : Letter) → Spoken (letter l)
  spoken_letter S = spoken_S
  spoken_letter Q = subst Spoken P_P (spoken-⊗ mat_p mat_p spoken_P spoken_P)
  spoken_letter P = spoken_P

  spoken_word : (w : List Letter) → Spoken (value w)
  spoken_word [] = spoken_one
  spoken_word (l ∷ w) = spoken-⊗ (letter l) (value w) (spoken_letter l) (spoken_word w)

  spoken-≈ : (l m : Mat) → l ≈ m → Spoken l → Spoken m
  spoken-≈ l m (inl e) h = subst Spoken e h
  spoken-≈ l m (inr e) h = subst Spoken (ap neg e ∙ neg_neg m) (spoken_neg l h)

  spoken : (m : Mat) → Unit m → Spoken m
  spoken m u = spoken-≈ (value (word_of m)) m (existence m u).1 (spoken_word (word_of m))

  module _ (rep : Represents x y n) where
    positive : (m : Mat) → Unit m → Modulo n m 𝟙 → (j : X) → action.at σ κ j m ≡ j
    positive m u h j = let s = spoken m u in sym (s.leads j) ∙ rep s.word (mod_trans s.is h) j

    all_trivially : Trivially σ κ n
    all_trivially m u (inl h) j = positive m u h j
    all_trivially m u (inr h) j =
        let h' : Modulo n (neg m) 𝟙 = rw (neg_neg 𝟙) at (mod_neg h) in
        a.sign j m (neg m) (inr (sym (neg_neg m))) ∙ positive (neg m) (det_neg m ∙ u) h' j

pub trivially : {X : Type 0} {σ κ : X → X} (a : Acts σ κ) (n : ℕ) → 0 < n → Wide σ κ n
    → Represents (λ j. action.at σ κ j (upper (pos 1))) (λ j. action.at σ κ j (lower (pos 1))) n → Trivially σ κ n
trivially a zero h wide r = let no : ⊥ = omega arith in absurd no
trivially a (suc k) h wide r = all_trivially a k wide r
