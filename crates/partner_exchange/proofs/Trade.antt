-- ONE EXCHANGE, of two labels with their sides.
--
-- In order: the sides of x and y after it (`Pair`, `only_x`, `only_y`, `straight_x`, `turned_x`, ..); every label is on two sides still (`free_after`), and
-- other numbers are as often there as before (`count_after_lem`); the exchanged table is a symbol (`symbol_after`).
-- Why: after the exchange the sides of x are its old first and y's old second one, and those of y its old first and x's old second one.
-- Assumes nothing.
use mathlib.Core.Path.{◌≡◌, refl, sym, ◌∙◌, ap}
use mathlib.Core.Logic.{◌⊎◌, inl, inr, ◌↔◌}
use mathlib.Core.Bool.{Bool, false}
use mathlib.Core.List.{List}
use Prim.Native.Nat.{ℕ, ◌+◌, ◌*◌, ◌<◌, ◌≤◌}
use native.Mathlib.Omega.{arith}
use native.Mathlib.Decide.{dec_lt, ℕ_discrete}
use lib.ListN.{length}
use lib.IntN.{ℤ, pos, negsuc, nat_abs}
use Rattle.matrix.specs.Matrix.{nth, det}
use Rattle.basics.specs.Count.{count}
use Rattle.basics.proofs.Choice.{either, clash}
use Rattle.basics.proofs.Count.{count_eq}
use Rattle.symbol.specs.Table.{numer, denom, pairing_entries, pairing_entry, side_at, frame}
use Rattle.symbol.specs.Check.{eq_z, sides}
use Rattle.symbol.specs.Symbol.{IsSymbol, FreeLabel, ZeroAt}
use Rattle.symbol.proofs.Choice.{eq_z_true, eq_eq_z}
use Rattle.symbol.proofs.Vertices.{frame_same}
use Rattle.partner_exchange.specs.Exchange.{second_side, with_label, exchanged}
use Rattle.partner_exchange.specs.Theorem.{TwoSides}
use Rattle.partner_exchange.proofs.Sides.{fails, second_is, two_counted}
use Rattle.partner_exchange.proofs.Labelled.{kept_vertex, kept, at_first, at_last, with_label_length}

-- two labels of a symbol, with their sides
pub record Pair (v : ℕ) (t : List ℤ) (x y : ℤ) (a b c d : ℕ) : Type 0 where
  pub symbol : IsSymbol v t
  pub free_x : FreeLabel v t x
  pub free_y : FreeLabel v t y
  pub sides_x : TwoSides v t x a b
  pub sides_y : TwoSides v t y c d
  pub apart : x ≡ y → ⊥

-- the exchange, by the sides
pub exchanged_is : {v : ℕ} {t : List ℤ} {x y : ℤ} {a b c d : ℕ} → Pair v t x y a b c d → exchanged v t x y ≡ with_label v (with_label v t b y) d x
unfolding exchanged
exchanged_is {v} {t} {x} {y} {a} {b} {c} {d} p =
    ap (λ (i : ℕ). with_label v (with_label v t i y) (second_side v t y) x) (second_is v t x a b p.sides_x)
    ∙ ap (λ (i : ℕ). with_label v (with_label v t b y) i x) (second_is v t y c d p.sides_y)

-- two sides that are all with a label, in their order
in_order_is : {v : ℕ} {l : List ℤ} {z : ℤ} {i j : ℕ} → i < j → j ≤ v → pairing_entry v l i ≡ z → pairing_entry v l j ≡ z
    → ((k : ℕ) → k ≤ v → pairing_entry v l k ≡ z → (k ≡ i) ⊎ (k ≡ j)) → TwoSides v l z i j
in_order_is h k e f only = record { ordered = h; within = k; first = e; second = f; only = only }

other_way : (v : ℕ) (l : List ℤ) (z : ℤ) {i j : ℕ} → ((k : ℕ) → k ≤ v → pairing_entry v l k ≡ z → (k ≡ i) ⊎ (k ≡ j))
    → (k : ℕ) → k ≤ v → pairing_entry v l k ≡ z → (k ≡ j) ⊎ (k ≡ i)
other_way v l z only k h e = elim (only k h e) [ inl p ↦ inr p | inr p ↦ inl p ]

-- no label is negative
pub label_natural : {v : ℕ} {t : List ℤ} {x : ℤ} → FreeLabel v t x → (n : ℕ) → negsuc n ≡ x → ⊥
label_natural f n e = let q = e ∙ f.is in let z : ◌≡◌ {A = ℕ} 0 1 = cc in omega arith

module _ (v : ℕ) (t : List ℤ) (x y : ℤ) (a b c d : ℕ) (p : Pair v t x y a b c d) where
  abbrev u : List ℤ
  u = with_label v (with_label v t b y) d x

  -- ---- the sides

  differ : (i j : ℕ) → pairing_entry v t i ≡ x → pairing_entry v t j ≡ y → i ≡ j → ⊥
  differ i j e f z = p.apart (sym e ∙ ap (pairing_entry v t) z ∙ f)

  pub a_d : a ≡ d → ⊥
  a_d = differ a d p.sides_x.first p.sides_y.second

  pub b_c : b ≡ c → ⊥
  b_c = differ b c p.sides_x.second p.sides_y.first

  pub b_d : b ≡ d → ⊥
  b_d = differ b d p.sides_x.second p.sides_y.second

  pub u_a : pairing_entry v u a ≡ x
  u_a = kept v t b d x y a (λ z. omega (arith, p.sides_x.ordered)) a_d ∙ p.sides_x.first

  pub u_c : pairing_entry v u c ≡ y
  u_c = kept v t b d x y c (λ z. b_c (sym z)) (λ z. omega (arith, p.sides_y.ordered)) ∙ p.sides_y.first

  pub u_b : pairing_entry v u b ≡ y
  u_b = at_first v t b d x y b_d (omega (arith, p.symbol.long, p.sides_x.within))

  pub u_d : pairing_entry v u d ≡ x
  u_d = at_last v t b d x y (omega (arith, p.symbol.long, p.sides_y.within))

  only_x : (i : ℕ) → i ≤ v → pairing_entry v u i ≡ x → (i ≡ a) ⊎ (i ≡ d)
  only_x i h e = elim (ℕ_discrete i d) [
    | yes z ↦ inr z
    | no z ↦ elim (ℕ_discrete i b) [
      | yes w ↦ absurd (p.apart (sym e ∙ ap (pairing_entry v u) w ∙ u_b))
      | no w ↦ elim (p.sides_x.only i h (sym (kept v t b d x y i w z) ∙ e)) [ inl q ↦ inl q | inr q ↦ absurd (w q) ]
    ]
  ]

  only_y : (i : ℕ) → i ≤ v → pairing_entry v u i ≡ y → (i ≡ c) ⊎ (i ≡ b)
  only_y i h e = elim (ℕ_discrete i b) [
    | yes z ↦ inr z
    | no z ↦ elim (ℕ_discrete i d) [
      | yes w ↦ absurd (p.apart (sym (sym e ∙ ap (pairing_entry v u) w ∙ u_d)))
      | no w ↦ elim (p.sides_y.only i h (sym (kept v t b d x y i z w) ∙ e)) [ inl q ↦ inl q | inr q ↦ absurd (w q) ]
    ]
  ]

  -- the sides of x and of y, in the one order or the other
  pub straight_x : a < d → TwoSides v u x a d
  straight_x h = in_order_is h p.sides_y.within u_a u_d only_x

  pub turned_x : d < a → TwoSides v u x d a
  turned_x h = in_order_is h (omega (arith, p.sides_x.ordered, p.sides_x.within)) u_d u_a (other_way v u x only_x)

  pub straight_y : c < b → TwoSides v u y c b
  straight_y h = in_order_is h p.sides_x.within u_c u_b only_y

  pub turned_y : b < c → TwoSides v u y b c
  turned_y h = in_order_is h (omega (arith, p.sides_y.ordered, p.sides_y.within)) u_b u_c (other_way v u y only_y)

  -- ---- labels are on two sides still

  -- a number that is neither label stands where it stood
  same_test : (z : ℤ) → (z ≡ x → ⊥) → (z ≡ y → ⊥) → (i : ℕ) → eq_z (pairing_entry v u i) z ≡ eq_z (pairing_entry v t i) z
  same_test z nx ny i =
      let without : (w : ℤ) → (z ≡ w → ⊥) → (l : List ℤ) → pairing_entry v l i ≡ w → eq_z (pairing_entry v l i) z ≡ false =
      λ w n l e. fails (eq_z (pairing_entry v l i) z) (λ q. n (sym (eq_z_true (pairing_entry v l i) z q) ∙ e)) in
      elim (ℕ_discrete i b) [
        | yes q ↦ without y ny u (ap (pairing_entry v u) q ∙ u_b) ∙ sym (without x nx t (ap (pairing_entry v t) q ∙ p.sides_x.second))
        | no q ↦ elim (ℕ_discrete i d) [
          | yes r ↦ without x nx u (ap (pairing_entry v u) r ∙ u_d) ∙ sym (without y ny t (ap (pairing_entry v t) r ∙ p.sides_y.second))
          | no r ↦ ap (λ (w : ℤ). eq_z w z) (kept v t b d x y i q r)
        ]
      ]

  pub count_after_lem : (z : ℤ) → (z ≡ x → ⊥) → (z ≡ y → ⊥) → count (λ (i : ℕ). eq_z (pairing_entry v u i) z) (v + 1)
      ≡ count (λ (i : ℕ). eq_z (pairing_entry v t i) z) (v + 1)
  count_after_lem z nx ny = count_eq (λ (i : ℕ). eq_z (pairing_entry v u i) z) (λ (i : ℕ). eq_z (pairing_entry v t i) z) (v + 1) (λ i h. same_test z nx ny i)

  two_x : sides v u x ≡ 2
  two_x = elim (dec_lt a d) [
    | yes h ↦ two_counted v u x a d (straight_x h)
    | no h ↦ two_counted v u x d a (turned_x (omega (arith, a_d)))
  ]

  two_y : sides v u y ≡ 2
  two_y = elim (dec_lt c b) [
    | yes h ↦ two_counted v u y c b (straight_y h)
    | no h ↦ two_counted v u y b c (turned_y (omega (arith, b_c)))
  ]

  two_after : (z : ℤ) → FreeLabel v t z → sides v u z ≡ 2
  two_after z f = elim (either (eq_z z x)) [
    | inl e ↦ ap (sides v u) (eq_z_true z x e) ∙ two_x
    | inr e ↦ elim (either (eq_z z y)) [
      | inl g ↦ ap (sides v u) (eq_z_true z y g) ∙ two_y
      | inr g ↦ count_after_lem z (unequal z x e) (unequal z y g) ∙ f.twice
    ]
  ]
    where
      unequal : (z w : ℤ) → eq_z z w ≡ false → z ≡ w → ⊥
      unequal z w e q = let k = eq_eq_z z w q in clash k e

  pub free_after : (z : ℤ) → FreeLabel v t z → FreeLabel v u z
  free_after z f = record { label = f.label; is = f.is; low = f.low; high = f.high; twice = two_after z f }

  -- ---- the symbol

  pub same_vertex : (i : ℕ) → i < 2 * v → nth u i ≡ nth t i
  same_vertex i h = kept_vertex v t b d x y i h

  pairing_after : (i : ℕ) → i ≤ v → (pairing_entry v u i ≡ negsuc 1) ⊎ (pairing_entry v u i ≡ negsuc 2) ⊎ FreeLabel v u (pairing_entry v u i)
  pairing_after i h = elim (ℕ_discrete i b) [
    | yes q ↦ inr (inr (rw (ap (pairing_entry v u) q ∙ u_b) (free_after y p.free_y)))
    | no q ↦ elim (ℕ_discrete i d) [
      | yes r ↦ inr (inr (rw (ap (pairing_entry v u) r ∙ u_d) (free_after x p.free_x)))
      | no r ↦
          let e = kept v t b d x y i q r in
          elim (p.symbol.pairings i h) [
            | inl k ↦ inl (e ∙ k)
            | inr k ↦ elim k [
              | inl m ↦ inr (inl (e ∙ m))
              | inr f ↦ inr (inr (rw e (free_after (pairing_entry v t i) f)))
            ]
          ]
    ]
  ]

  -- an odd side stays
  odd_after : (i : ℕ) → pairing_entry v t i ≡ negsuc 2 → pairing_entry v u i ≡ negsuc 2
  odd_after i e =
      kept v t b d x y i (λ q. label_natural p.free_x 2 (sym e ∙ ap (pairing_entry v t) q ∙ p.sides_x.second))
      (λ q. label_natural p.free_y 2 (sym e ∙ ap (pairing_entry v t) q ∙ p.sides_y.second)) ∙ e

  pub symbol_after : IsSymbol v u
  symbol_after =
      let ok = p.symbol in
      let den : (i : ℕ) → i < v → denom u i ≡ denom t i = λ i h. same_vertex (2 * i + 1) (omega arith) in
      let z = ok.zero in
      let low = z.below in
      record {
        some = ok.some;
        most = ok.most;
        long = with_label_length v t b d x y ∙ ok.long;
        numers = λ i h. rw (same_vertex (2 * i) (omega arith)) (ok.numers i h);
        denoms = λ i h. rw (den i h) (ok.denoms i h);
        neighbours = λ i h. ap det (frame_same v u t same_vertex i h) ∙ ok.neighbours i h;
        zero = record {
          at = z.at;
          below = z.below;
          num = same_vertex (2 * z.at) (omega arith) ∙ z.num;
          den = den z.at z.below ∙ z.den;
        };
        pairings = pairing_after;
        odd = λ e. elim (ok.odd e) [ inl k ↦ inl (odd_after 0 k) | inr k ↦ inr (odd_after 1 k) ];
      }
