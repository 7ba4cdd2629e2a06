-- ACTION: a set with an involution and a map of order three carries an action of all matrices of determinant 1, on the right.
--
-- In order: one letter before an alternating word (`pre`), which keeps it alternating; any word made alternating (`reduce`); values of
-- words put together (`value-++`); words with the same value up to sign lead to the same place (`run-≈`); the theorem.
--
-- Why: S S, Q Q Q and P's relations are the only ones that `reduce` uses, and they hold of the two maps; by uniqueness
-- two words with one matrix reduce to the same alternating word.
-- Assumes nothing.
use mathlib.Core.Path.{◌≡◌, refl, sym, ◌∙◌, ap}
use mathlib.Core.Logic.{inl, inr}
use mathlib.Core.List.{List, [], ◌∷◌, ◌++◌}
use lib.IntN.{pos}
use Rattle.matrix.specs.Matrix.{Mat, ◌⊗◌, 𝟙, det, mat_s, mat_q, mat_p, ◌≈◌}
use Rattle.matrix.specs.Words.{Letter, S, Q, P, letter, value, Alternating}
use Rattle.matrix.specs.Euclid.{word_of}
use Rattle.matrix.specs.Action.{step, run, at, Involution, OrderThree}
use Rattle.matrix.specs.Theorems.{Acts, Action}
use Rattle.matrix.proofs.Matrix.{⊗-assoc, ⊗-idl, neg-⊗, neg_neg, det_one, S_S, Q_Q, P_P, Q_P, P_Q, ≈-refl, ≈-sym, ◌∙≈◌, ≈-left, ≈-both}
use Rattle.matrix.proofs.Sign.{det_value}
use Rattle.matrix.proofs.Uniqueness.{uniqueness, word_of-≈, other}
use Rattle.matrix.proofs.Existence.{existence}

-- ---- one letter before an alternating word

abbrev pub pre : Letter → List Letter → List Letter
pre S [] = S ∷ []
pre S (S ∷ l) = l
pre S (Q ∷ l) = S ∷ Q ∷ l
pre S (P ∷ l) = S ∷ P ∷ l
pre Q [] = Q ∷ []
pre Q (S ∷ l) = Q ∷ S ∷ l
pre Q (Q ∷ l) = P ∷ l
pre Q (P ∷ l) = l
pre P [] = P ∷ []
pre P (S ∷ l) = P ∷ S ∷ l
pre P (Q ∷ l) = l
pre P (P ∷ l) = Q ∷ l

-- what follows a letter alternates too
rest : (x : Letter) (l : List Letter) → Alternating (x ∷ l) → Alternating l
rest x [] a = tt
rest x (y ∷ l) a = a.1

pub pre_alternating : (x : Letter) (l : List Letter) → Alternating l → Alternating (pre x l)
pre_alternating S [] a = tt
pre_alternating S (S ∷ l) a = rest S l a
pre_alternating S (Q ∷ l) a = (tt, a)
pre_alternating S (P ∷ l) a = (tt, a)
pre_alternating Q [] a = tt
pre_alternating Q (S ∷ l) a = (tt, a)
pre_alternating Q (Q ∷ l) a = (other l).0 a
pre_alternating Q (P ∷ l) a = rest P l a
pre_alternating P [] a = tt
pre_alternating P (S ∷ l) a = (tt, a)
pre_alternating P (Q ∷ l) a = rest Q l a
pre_alternating P (P ∷ l) a = (other l).1 a

pub pre_value : (x : Letter) (l : List Letter) → value (pre x l) ≈ letter x ⊗ value l
pre_value S [] = ≈-refl
pre_value S (S ∷ l) = inr (cc (S_S, ⊗-assoc mat_s mat_s (value l), neg-⊗ 𝟙 (value l), ⊗-idl (value l), neg_neg (value l)))
pre_value S (Q ∷ l) = ≈-refl
pre_value S (P ∷ l) = ≈-refl
pre_value Q [] = ≈-refl
pre_value Q (S ∷ l) = ≈-refl
pre_value Q (Q ∷ l) = inl (cc (Q_Q, ⊗-assoc mat_q mat_q (value l)))
pre_value Q (P ∷ l) = inl (cc (Q_P, ⊗-assoc mat_q mat_p (value l), ⊗-idl (value l)))
pre_value P [] = ≈-refl
pre_value P (S ∷ l) = ≈-refl
pre_value P (Q ∷ l) = inl (cc (P_Q, ⊗-assoc mat_p mat_q (value l), ⊗-idl (value l)))
pre_value P (P ∷ l) = inl (cc (P_P, ⊗-assoc mat_p mat_p (value l)))

-- ---- any word made alternating

abbrev pub reduce : List Letter → List Letter
reduce [] = []
reduce (x ∷ l) = pre x (reduce l)

pub reduce_alternating : (l : List Letter) → Alternating (reduce l)
reduce_alternating [] = tt
reduce_alternating (x ∷ l) = pre_alternating x (reduce l) (reduce_alternating l)

pub reduce_value : (l : List Letter) → value (reduce l) ≈ value l
reduce_value [] = ≈-refl
reduce_value (x ∷ l) = pre_value x (reduce l) ∙≈ ≈-left (letter x) (reduce_value l)

-- ---- words put together

pub value-++ : (u w : List Letter) → value (u ++ w) ≡ value u ⊗ value w
value-++ [] w = sym (⊗-idl (value w))
value-++ (x ∷ u) w = ap (λ (m : Mat). letter x ⊗ m) (value-++ u w) ∙ sym (⊗-assoc (letter x) (value u) (value w))

module _ {X : Type 0} (σ κ : X → X) where
  pub run-++ : (x : X) (u w : List Letter) → run σ κ x (u ++ w) ≡ run σ κ (run σ κ x u) w
  run-++ x [] w = refl
  run-++ x (l ∷ u) w = run-++ (step σ κ l x) u w

  module _ (σσ : Involution σ) (κκκ : OrderThree κ) where
    run_pre : (y : Letter) (x : X) (l : List Letter) → run σ κ x (pre y l) ≡ run σ κ (step σ κ y x) l
    run_pre S x [] = refl
    run_pre S x (S ∷ l) = ap (λ (z : X). run σ κ z l) (sym (σσ x))
    run_pre S x (Q ∷ l) = refl
    run_pre S x (P ∷ l) = refl
    run_pre Q x [] = refl
    run_pre Q x (S ∷ l) = refl
    run_pre Q x (Q ∷ l) = refl
    run_pre Q x (P ∷ l) = ap (λ (z : X). run σ κ z l) (sym (κκκ x))
    run_pre P x [] = refl
    run_pre P x (S ∷ l) = refl
    run_pre P x (Q ∷ l) = ap (λ (z : X). run σ κ z l) (sym (κκκ x))
    run_pre P x (P ∷ l) = ap (λ (z : X). run σ κ (κ z) l) (sym (κκκ x))

    run_reduce : (x : X) (l : List Letter) → run σ κ x (reduce l) ≡ run σ κ x l
    run_reduce x [] = refl
    run_reduce x (y ∷ l) = run_pre y x (reduce l) ∙ run_reduce (step σ κ y x) l

    -- words with one matrix, up to sign, lead to one place
    pub run-≈ : (x : X) (u w : List Letter) → value u ≈ value w → run σ κ x u ≡ run σ κ x w
    run-≈ x u w e =
        let same = uniqueness (reduce u) (reduce w) (reduce_alternating u) (reduce_alternating w) (reduce_value u ∙≈ e ∙≈ ≈-sym (reduce_value w)) in
        sym (run_reduce x u) ∙ ap (run σ κ x) same ∙ run_reduce x w

    -- ---- the theorem

    pub at_word : (x : X) (l : List Letter) → at σ κ x (value l) ≡ run σ κ x l
    unfolding at
    at_word x l = run-≈ x (word_of (value l)) l (existence (value l) (det_value l)).1

    pub at-≈ : (x : X) (m n : Mat) → m ≈ n → at σ κ x m ≡ at σ κ x n
    unfolding at
    at-≈ x m n e = ap (run σ κ x) (word_of-≈ e)

    pub at-⊗ : (x : X) (m n : Mat) → det m ≡ pos 1 → det n ≡ pos 1 → at σ κ x (m ⊗ n) ≡ at σ κ (at σ κ x m) n
    unfolding at
    at-⊗ x m n d e =
        let u = (existence m d).1 in
        let w = (existence n e).1 in
        run-≈ x (word_of (m ⊗ n)) (word_of m ++ word_of n) ((existence (m ⊗ n) (det_one m n d e)).1 ∙≈ ≈-sym (inl (value-++ (word_of m) (word_of n)) ∙≈ ≈-both u w))
        ∙ run-++ x (word_of m) (word_of n)

    pub at_𝟙 : (x : X) → at σ κ x 𝟙 ≡ x
    unfolding at 𝟙
    at_𝟙 x = refl

    pub at_S : (x : X) → at σ κ x mat_s ≡ σ x
    unfolding at mat_s
    at_S x = refl

    pub at_Q : (x : X) → at σ κ x mat_q ≡ κ x
    unfolding at mat_q
    at_Q x = refl

    pub acts : Acts σ κ
    acts = record { identity = at_𝟙; product = at-⊗; sign = at-≈; by_S = at_S; by_Q = at_Q; words = at_word }

pub action : Action
action X σ κ σσ κκκ = acts σ κ σσ κκκ
