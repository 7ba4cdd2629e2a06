-- A SECOND AND A THIRD EXCHANGE: after one the sides of the two labels are a pair again (`after`), and each label's first side stands before the
-- other's second one (`Crossed`, `crossed_after`); where that is so, an exchange and another give the table back (`back`), and only there (`forth`).
-- Assumes nothing.
use mathlib.Core.Path.{◌≡◌, sym, ◌∙◌, ap}
use mathlib.Core.List.{List}
use Prim.Native.Nat.{ℕ, ◌+◌, ◌*◌, ◌<◌, ◌≤◌}
use native.Mathlib.Omega.{arith}
use native.Mathlib.Decide.{dec_lt}
use lib.IntN.{ℤ}
use Rattle.symbol.specs.Table.{pairing_entry}
use Rattle.partner_exchange.specs.Exchange.{with_label, exchanged}
use Rattle.partner_exchange.specs.Theorem.{TwoSides}
use Rattle.partner_exchange.proofs.Labelled.{at_first, at_last, with_label_length, restored}
use Rattle.partner_exchange.proofs.Trade.{Pair, exchanged_is, a_d, b_c, b_d, straight_x, turned_x, straight_y, turned_y, free_after, symbol_after}

-- a pair of which each label's first side stands before the other's second one
pub record Crossed (v : ℕ) (t : List ℤ) (x y : ℤ) : Type 0 where
  pub a : ℕ
  pub b : ℕ
  pub c : ℕ
  pub d : ℕ
  pub pair : Pair v t x y a b c d
  pub x_first : a < d
  pub y_first : c < b

module _ (v : ℕ) (t : List ℤ) (x y : ℤ) (a b c d : ℕ) (p : Pair v t x y a b c d) where
  abbrev u : List ℤ
  u = with_label v (with_label v t b y) d x

  once : exchanged v t x y ≡ u
  once = exchanged_is p

  -- the labels with their sides after the exchange
  after : (i j k l : ℕ) → TwoSides v u x i j → TwoSides v u y k l → Pair v u x y i j k l
  after i j k l sx sy = record {
    symbol = symbol_after v t x y a b c d p;
    free_x = free_after v t x y a b c d p x p.free_x;
    free_y = free_after v t x y a b c d p y p.free_y;
    sides_x = sx;
    sides_y = sy;
    apart = p.apart;
  }

  both : a < d → c < b → Pair v u x y a d c b
  both h k = after a d c b (straight_x v t x y a b c d p h) (straight_y v t x y a b c d p k)

  x_turned : d < a → Pair v u x y d a c b
  x_turned h = after d a c b (turned_x v t x y a b c d p h) (straight_y v t x y a b c d p (omega (arith, p.sides_x.ordered, p.sides_y.ordered)))

  y_turned : b < c → Pair v u x y a d b c
  y_turned h = after a d b c (straight_x v t x y a b c d p (omega (arith, p.sides_x.ordered, p.sides_y.ordered))) (turned_y v t x y a b c d p h)

  pub crossed_after : Crossed v u x y
  crossed_after =
      let k = p.sides_x.ordered in
      let l = p.sides_y.ordered in
      elim (dec_lt a d) [
        | yes h ↦ elim (dec_lt c b) [
          | yes m ↦ record { a = a; b = d; c = c; d = b; pair = both h m; x_first = omega arith; y_first = omega arith }
          | no m ↦ record {
            a = a;
            b = d;
            c = b;
            d = c;
            pair = y_turned (omega (arith, b_c v t x y a b c d p));
            x_first = omega (arith, b_c v t x y a b c d p);
            y_first = omega arith;
          }
        ]
        | no h ↦ record {
          a = d;
          b = a;
          c = c;
          d = b;
          pair = x_turned (omega (arith, a_d v t x y a b c d p));
          x_first = omega arith;
          y_first = omega (arith, a_d v t x y a b c d p);
        }
      ]

  pub back : a < d → c < b → exchanged v (exchanged v t x y) x y ≡ t
  back h k =
      ap (λ (l : List ℤ). exchanged v l x y) once ∙ exchanged_is (both h k)
      ∙ restored v t b d x y (b_d v t x y a b c d p) p.sides_x.second p.sides_y.second

  -- a side of u within the table
  inside : (i : ℕ) → i ≤ v → 2 * v + i < 3 * v + 1
  inside i h = omega arith

  pub forth : exchanged v (exchanged v t x y) x y ≡ t → (a < d) × (c < b)
  forth e =
      let k = p.sides_x.ordered in
      let l = p.sides_y.ordered in
      let m = p.sides_x.within in
      let n = p.sides_y.within in
      let long = with_label_length v t b d x y ∙ p.symbol.long in
      let twice : exchanged v u x y ≡ t = ap (λ (r : List ℤ). exchanged v r x y) (sym once) ∙ e in (
        elim (dec_lt a d) [
          | yes h ↦ h
          | no h ↦
              let q : d < a = omega (arith, a_d v t x y a b c d p) in
              let s = sym (exchanged_is (x_turned q)) ∙ twice in
              absurd (p.apart (sym
              (sym (at_first v u a b x y (λ z. omega arith) (omega (arith, long))) ∙ ap (λ (r : List ℤ). pairing_entry v r a) s ∙ p.sides_x.first)))
        ],
        elim (dec_lt c b) [
          | yes h ↦ h
          | no h ↦
              let q : b < c = omega (arith, b_c v t x y a b c d p) in
              let s = sym (exchanged_is (y_turned q)) ∙ twice in
              absurd (p.apart (sym (at_last v u d c x y (omega (arith, long))) ∙ ap (λ (r : List ℤ). pairing_entry v r c) s ∙ p.sides_y.first))
        ],
      )

-- whatever the order of the sides, two more exchanges bring an exchanged table back
pub thrice : (v : ℕ) (t : List ℤ) (x y : ℤ) (a b c d : ℕ) → Pair v t x y a b c d → exchanged v (exchanged v (exchanged v t x y) x y) x y ≡ exchanged v t x y
thrice v t x y a b c d p =
    let u = with_label v (with_label v t b y) d x in
    let q = crossed_after v t x y a b c d p in
    ap (λ (l : List ℤ). exchanged v (exchanged v l x y) x y) (exchanged_is p)
    ∙ back v u x y q.a q.b q.c q.d q.pair q.x_first q.y_first
    ∙ sym (exchanged_is p)
