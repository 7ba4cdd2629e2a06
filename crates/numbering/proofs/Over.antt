-- The numbering goes over: where f takes points to points, one to one, and S and R to S and R, it takes the numbering to the numbering.
-- Assumes nothing.
use mathlib.Core.Path.{◌≡◌, refl, sym, ap, ◌∙◌}
use mathlib.Core.List.{List, map}
use Prim.Native.Nat.{ℕ, zero, suc, ◌<◌}
use native.Mathlib.Omega.{arith}
use native.Mathlib.Decide.{dec_lt}
use lib.ListN.{length, get_or, length-map}
use Rattle.numbering.specs.Find.{find}
use Rattle.numbering.specs.Order.{add, visit, order_to, Maps}
use Rattle.numbering.proofs.Find.{get_d_in, find_map}
use Rattle.numbering.proofs.Order.{add_old, add_new, All, add_all, to_more, to_done, to_low}
use Rattle.numbering.proofs.Table.{get_d_map, map_last}

-- f is injective on the points below k
module _ (k : ℕ) (f : ℕ → ℕ) (one : (x y : ℕ) → x < k → y < k → f x ≡ f y → x ≡ y) where
  add_over : (l : List ℕ) (x : ℕ) → All (λ (y : ℕ). y < k) l → x < k → add (map f l) (f x) ≡ map f (add l x)
  add_over l x all p =
      let same = find_map f l x (λ y h. one y x (all.each y h) p) in
      let len = length-map l f in
      elim (dec_lt (find l x) (length l)) [
        | yes h ↦ add_old (map f l) (f x) (omega arith) ∙ ap (map f) (sym (add_old l x h))
        | no h ↦ add_new (map f l) (f x) (omega arith) ∙ sym (map_last f l x) ∙ ap (map f) (sym (add_new l x (omega arith)))
      ]

  module _ (s r σ ρ : ℕ → ℕ) (start : ℕ) (maps : Maps s r start k) (by_s_lem : (x : ℕ) → x < k → f (s x) ≡ σ (f x))
      (by_r_lem : (x : ℕ) → x < k → f (r x) ≡ ρ (f x)) where
    low : (i : ℕ) → All (λ (y : ℕ). y < k) (order_to s r start i)
    low i = record { each = λ y h. to_low s r start k maps i y h }

    visit_over : (l : List ℕ) (i : ℕ) → All (λ (y : ℕ). y < k) l → i < length l → visit σ ρ (map f l) i ≡ map f (visit s r l i)
    visit_over l i all h =
        let x = get_or l i 0 in
        let p = all.each x (get_d_in l i h) in
        rw (get_d_map f l i h, ← by_s_lem x p, ← by_r_lem x p, add_over l (s x) all (maps.σ_low x p))
        (add_over (add l (s x)) (r x) (add_all (λ (y : ℕ). y < k) l (s x) all (maps.σ_low x p)) (maps.ρ_low x p))

    pub to_over : (i : ℕ) → order_to σ ρ (f start) i ≡ map f (order_to s r start i)
    unfolding order_to
    to_over zero = refl
    to_over (suc i) =
        let e = to_over i in
        let l = order_to s r start i in
        let len = length-map l f in
        elim (dec_lt i (length l)) [
          | yes h ↦
              to_more σ ρ (f start) i (rw e (omega arith)) ∙ ap (λ (x : List ℕ). visit σ ρ x i) e
              ∙ visit_over l i (low i) h ∙ ap (map f) (sym (to_more s r start i h))
          | no h ↦ to_done σ ρ (f start) i (rw e (omega arith)) ∙ e ∙ ap (map f) (sym (to_done s r start i (omega arith)))
        ]
