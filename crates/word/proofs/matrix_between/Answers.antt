-- `matrix_between` is b a⁻¹, between S⁻¹ and S where the walk starts turned round. Why it fits: entries to 10⁶ give b a⁻¹ entries to
-- 2·10¹², and a factor S at most doubles the bound. Assumes nothing.
use mathlib.Core.Path.{◌≡◌, sym, ◌∙◌, ap, subst}
use mathlib.Core.List.{List}
use Prim.Native.Nat.{◌*◌, ◌-◌, ◌^◌}
use lib.Dec.{lit<, lit≤}
use lib.IntN.{ℤ}
use Rattle.matrix.specs.Matrix.{Mat, ◌⊗◌, adj, mat_s, of_list, to_list}
use Rattle.matrix.specs.Bounds.{Small, ProductFits}
use Rattle.matrix.proofs.Bounds.{small_more, small_adj, small-⊗, room}
use Rattle.coset.proofs.Positions.{positions}
use Rattle.word.proofs.Turned.{S_small}
use Rattle.word.proofs.Finding.{between_room, between_small}
use Rattle.word.proofs.matrix_between.Goals.{After-inverse-back, After-product, After-product-x}
use Rattle.word.proofs.matrix_between.Goals as goal

pub inverse-requires : goal.inverse-requires
inverse-requires c =
    small_more 1000000 (2 ^ 63 - 1) (of_list c.args.a) (lit≤ tt) c.requires.1

pub product-x-requires : goal.product-x-requires
product-x-requires c =
    let s = c in
    subst (λ (l : List ℤ). ProductFits (of_list s.args.b) (of_list l)) (sym c.inverse.ensures)
    (between_room (of_list s.args.a) (of_list s.args.b) s.requires.1 s.requires.2)

-- b a⁻¹
module _ (c : After-product-x) where
  abbrev x : Mat
  x = of_list c.args.b ⊗ adj (of_list c.args.a)

  x_is : of_list c.product-x.result ≡ x
  x_is = ap of_list (c.product-x.ensures ∙ ap (λ (l : List ℤ). to_list (of_list c.args.b ⊗ of_list l)) c.inverse.ensures)

  x_small : Small (2 * (1000000 * 1000000)) x
  x_small = between_small (of_list c.args.a) (of_list c.args.b) c.requires.1 c.requires.2

-- S⁻¹
turned_is : (c : After-inverse-back) → of_list c.inverse-back.result ≡ adj mat_s
turned_is c = ap of_list (c.inverse-back.ensures ∙ ap (λ (l : List ℤ). to_list (adj (of_list l))) c.matrix_s-s.ensures)

-- b a⁻¹ S
right_is : (c : After-product) → of_list c.product.result ≡ x (goal.at.After-product c).After-product-x ⊗ mat_s
right_is c =
    ap of_list (c.product.ensures ∙ ap (λ (l : List ℤ). to_list (of_list c.product-x.result ⊗ of_list l))
    c.matrix_s-s.ensures)
    ∙ ap (λ (m : Mat). m ⊗ mat_s) (x_is (goal.at.After-product c).After-product-x)

pub inverse-back-requires : goal.inverse-back-requires
inverse-back-requires c =
    subst (λ (l : List ℤ). Small (2 ^ 63 - 1) (of_list l)) (sym c.matrix_s-s.ensures) (small_more 1 (2 ^ 63 - 1) mat_s (lit≤ tt) S_small)

pub product-requires : goal.product-requires
product-requires c =
    let x = x_is (goal.at.product-requires c).After-product-x in
    subst (λ (l : List ℤ). ProductFits (of_list c.product-x.result) (of_list l)) (sym c.matrix_s-s.ensures)
    (subst (λ (m : Mat). ProductFits m mat_s) (sym x) (room (2 * (1000000 * 1000000)) 1 _ mat_s (lit< tt) (x_small (goal.at.product-requires c).After-product-x) S_small))

pub product-requires-then-is_turned : goal.product-requires-then-is_turned
product-requires-then-is_turned c =
    let p = c in
    subst (λ (m : Mat). ProductFits m (of_list c.product.result)) (sym (turned_is (goal.at.product-requires-then-is_turned c).After-inverse-back))
    (subst (λ (m : Mat). ProductFits (adj mat_s) m) (sym (right_is (goal.at.product-requires-then-is_turned c).After-product))
    (room 1 (2 * (2 * (1000000 * 1000000) * 1)) (adj mat_s) _ (lit< tt) (small_adj 1 mat_s S_small)
    (small-⊗ (2 * (1000000 * 1000000)) 1 _ mat_s (x_small (goal.at.product-requires-then-is_turned c).After-product-x) S_small)))

pub returns-then-is_turned : goal.returns-then-is_turned
returns-then-is_turned c =
    let s = c in
    c.product-then-is_turned.ensures
    ∙ ap (λ (m : Mat). to_list (m ⊗ of_list c.product.result)) (turned_is (goal.at.returns-then-is_turned c).After-inverse-back)
    ∙ ap (λ (m : Mat). to_list (adj mat_s ⊗ m)) (right_is (goal.at.returns-then-is_turned c).After-product)
    ∙ ap to_list ((positions s.requires.0).followed_round (of_list s.args.b ⊗ adj (of_list s.args.a))
    (sym c.is_turned.ensures ∙ c.if-is_turned.true))

pub returns : goal.returns
returns c =
    let s = c in
    let p = c in
    p.product-x.ensures ∙ ap (λ (l : List ℤ). to_list (of_list s.args.b ⊗ of_list l)) c.inverse.ensures
    ∙ ap to_list ((positions s.requires.0).followed_upright (of_list s.args.b ⊗ adj (of_list s.args.a)) (sym c.is_turned.ensures ∙ c.if-is_turned.false))
