-- Following positions: the laws of proofs that go up to the last side, down to all triangles, and compare all corners.
-- In order: corner 0 of a triangle (`zero_forced`); one triangle higher (`climb-…`); one
-- triangle more has its images noted (`laid-…`); these are forced (`laid_forced`); corners that agree, and one that doesn't (`carried`, `carried_not`).
-- Assumes nothing.
use mathlib.Core.Path.{◌≡◌, refl, sym, ◌∙◌, ap}
use mathlib.Core.Logic.{◌⊎◌, inl, inr}
use mathlib.Core.Bool.{Bool, true, false}
use mathlib.Core.List.{List, [], ◌∷◌}
use Prim.Native.Nat.{ℕ, zero, suc, ◌+◌, ◌*◌, ◌-◌, ◌/◌, ◌%◌, ◌≤◌, ◌<◌}
use native.Mathlib.Omega.{arith}
use native.Mathlib.Decide.{dec_lt, ℕ_discrete}
use lib.Dec.{ltb, eqb}
use lib.ListN.{length, get_or, set, length-set}
use lib.Seq.{get_or-set_other, get_or-set_same}
use lib.IntN.{ℤ}
use borrow.Author.Tests.{lt-ltb, le-ltb, eq-eqb, ne_eqb, eqb-true}
use borrow.Author.Count.{below_more}
use Rattle.basics.specs.Choice.{pick}
use Rattle.basics.specs.Count.{count}
use Rattle.basics.proofs.Choice.{pick_true, pick_false, clash, either}
use Rattle.matrix.specs.Words.{Letter, S, Q, P}
use Rattle.symbol.specs.Symbol.{IsSymbol}
use Rattle.polygon.specs.Cut.{corners, outer, places, flip}
use Rattle.polygon.specs.Step.{real, Real, step_s, turn_q, turned, start_of, origin_of}
use Rattle.polygon.specs.Walk.{ends}
use Rattle.polygon.specs.Theorem.{Polygon}
use Rattle.polygon.specs.Inner.Tables.{PolygonTables}
use Rattle.polygon.proofs.Polygon.{polygon}
use Rattle.polygon.proofs.Flip.{turn_face, turn_last, turn_next, real_corner, Corner, c0, c1, c2, which, order_three}
use Rattle.polygon.proofs.Steps.{step_inner}
use Rattle.polygon.proofs.Partners.{tables_set}
use Rattle.containment.specs.Inner.Following.{Tracks, StepsOf, under_last, corner_zero, Forces, Climbed, TO, laid_at, laid, image_below, top_image, ImagesLaid}
use Rattle.containment.specs.Inner.Following.{agrees_by, agrees_at, Differs, Agreed, Carries, CarriedTo}

-- ---- corners

-- a corner moves
pub turn_moves : (v p : ℕ) → p < corners v → turn_q v p ≡ p → ⊥
turn_moves v p h e = elim (which p) [
  | c0 z ↦ omega (arith, turn_next v p h (omega arith))
  | c1 z ↦ omega (arith, turn_next v p h (omega arith))
  | c2 z ↦ omega (arith, turn_last v p h z)
]

module _ (v : ℕ) (t : List ℤ) (ok : IsSymbol v t) where
  abbrev g : Polygon v t
  g = polygon v t ok

  pub zero_real : (y c : ℕ) → Real v t y → Real v t (corner_zero v y c)
  zero_real y c r = elim (ℕ_discrete c 0) [
    | yes e ↦ rw (eq-eqb c 0 e) r
    | no e ↦ rw (ne_eqb c 0 e) (elim (ℕ_discrete c 1) [
      | yes d ↦ rw (eq-eqb c 1 d) (g.closed P y r)
      | no d ↦ rw (ne_eqb c 1 d) (g.closed Q y r)
    ])
  ]

  -- what lies under a corner that lies under a corner
  over_back : (p : ℕ) → p < corners v → flip v t p < corners v → step_s v t (flip v t p) ≡ p
  over_back p h k =
      let e = g.cut.flips p in
      step_inner v t (flip v t p) (real_corner v t (flip v t p) k) (rw e h) ∙ e

-- ---- two symbols

module _ (v : ℕ) (t : List ℤ) (n : ℕ) (u : List ℤ) (ok : IsSymbol v t) (ok' : IsSymbol n u) where
  abbrev k' : Polygon n u
  k' = polygon n u ok'

  -- corner 0 of the triangle of p
  zero_forced : (f : ℕ → ℕ) → Tracks v t n u f → (p y : ℕ) → p < corners n → f p ≡ y → f (p - p % 3) ≡ corner_zero v y (p % 3)
  zero_forced f h p y l e =
      let r = real_corner n u p l in
      elim (which p) [
        | c0 z ↦ rw (eq-eqb (p % 3) 0 z) (ap f (omega arith) ∙ e)
        | c1 z ↦ rw (ne_eqb (p % 3) 0 (λ d. omega arith), eq-eqb (p % 3) 1 z)
            (ap f (sym (ap (turn_q n) (turn_next n p l (omega arith)) ∙ turn_last n (p + 1) (omega arith) (omega arith) ∙ omega arith))
            ∙ h.by_Q (turn_q n p) (k'.closed Q p r) ∙ ap (turn_q v) (h.by_Q p r ∙ ap (turn_q v) e))
        | c2 z ↦ rw (ne_eqb (p % 3) 0 (λ d. omega arith), ne_eqb (p % 3) 1 (λ d. omega arith))
            (ap f (sym (turn_last n p l z ∙ omega arith)) ∙ h.by_Q p r ∙ ap (turn_q v) e)
      ]

  -- ---- up

  pub climb_start : (p y z x : ℕ) → p < corners n → Real v t y → z ≡ corner_zero v y (p % 3) → x ≡ flip n u (p - p % 3)
      → Climbed v t n u p y (p - p % 3) z x
  climb_start p y z x l r a e = record {
    low = omega arith;
    zero = omega arith;
    real = rw a (zero_real v t ok y (p % 3) r);
    beyond = e;
    forced = λ f h q. zero_forced f h p y l q ∙ sym a;
  }

  above : (q : ℕ) → q < corners n → q % 3 ≡ 0 → (q + 2 < flip n u q) × ((flip n u q < corners n) ⊎ (flip n u q ≡ outer n n))
  above q l z =
      let e : 3 * (q / 3) ≡ q = omega arith in
      rw e at (k'.cut.above (q / 3) (omega arith))

  module _ {p y q z x : ℕ} (c : Climbed v t n u p y q z x) where
    pub climb_higher : q + 2 < x
    climb_higher = omega (arith, (above q c.low c.zero).0, c.beyond)

    pub climb_more : (a z' x' : ℕ) → x < corners n → a ≡ step_s v t z → z' ≡ corner_zero v a (x % 3) → x' ≡ flip n u (x - x % 3)
        → Climbed v t n u p y (x - x % 3) z' x'
    climb_more a z' x' l b d e = record {
      low = omega arith;
      zero = omega arith;
      real = rw d (zero_real v t ok a (x % 3) (rw b ((polygon v t ok).closed S z c.real)));
      beyond = e;
      forced = λ f h s.
          let r = real_corner n u q c.low in
          zero_forced f h x a l
          (ap f (c.beyond ∙ sym (step_inner n u q r (rw c.beyond at l))) ∙ h.by_S q r ∙ ap (step_s v t) (c.forced f h s) ∙ sym b) ∙ sym d;
    }

    pub climb_end : corners n ≤ x → Forces v t n u p y (under_last n u) z
    climb_end l f h s =
        let e : flip n u q ≡ outer n n = elim (above q c.low c.zero).1 [ inl b ↦ absurd (omega (arith, c.beyond)) | inr b ↦ b ] in
        ap f (sym (ap (flip n u) e) ∙ k'.cut.flips q) ∙ c.forced f h s

  -- ---- down

  module _ {w : List ℕ} {root k : ℕ} (a : ImagesLaid v t n u w root (suc k)) (l : k < n - 1) (y : ℕ) (r : Real v t y) where
    abbrev w' : List ℕ
    w' = laid v w (3 * k) y

    abbrev w₁ : List ℕ
    w₁ = set w (TO + 3 * k) y

    abbrev w₂ : List ℕ
    w₂ = set w₁ (TO + (3 * k + 1)) (turn_q v y)

    few : 3 * k + 2 < 4096
    few = omega (arith, ok'.most)

    long : 32768 ≤ length w
    long = a.tables.long

    long₁ : 32768 ≤ length w₁
    long₁ = omega (arith, length-set w (TO + 3 * k) y, long)

    long₂ : 32768 ≤ length w₂
    long₂ = omega (arith, length-set w₁ (TO + (3 * k + 1)) (turn_q v y), long₁)

    at_2 : laid_at w' (3 * k + 2) ≡ turn_q v (turn_q v y)
    at_2 = get_or-set_same w₂ (TO + (3 * k + 2)) (turn_q v (turn_q v y)) 0 (omega (arith, few, long₂))

    at_1 : laid_at w' (3 * k + 1) ≡ turn_q v y
    at_1 = get_or-set_other w₂ (TO + (3 * k + 2)) (TO + (3 * k + 1)) (turn_q v (turn_q v y)) 0 (λ e. omega arith)
        ∙ get_or-set_same w₁ (TO + (3 * k + 1)) (turn_q v y) 0 (omega (arith, few, long₁))

    at_0 : laid_at w' (3 * k) ≡ y
    at_0 = get_or-set_other w₂ (TO + (3 * k + 2)) (TO + 3 * k) (turn_q v (turn_q v y)) 0 (λ e. omega arith)
        ∙ get_or-set_other w₁ (TO + (3 * k + 1)) (TO + 3 * k) (turn_q v y) 0 (λ e. omega arith)
        ∙ get_or-set_same w (TO + 3 * k) y 0 (omega (arith, few, long))

    kept : (p : ℕ) → 3 * k + 2 < p → laid_at w' p ≡ laid_at w p
    kept p h = get_or-set_other w₂ (TO + (3 * k + 2)) (TO + p) (turn_q v (turn_q v y)) 0 (λ e. omega arith)
        ∙ get_or-set_other w₁ (TO + (3 * k + 1)) (TO + p) (turn_q v y) 0 (λ e. omega arith)
        ∙ get_or-set_other w (TO + 3 * k) (TO + p) y 0 (λ e. omega arith)

    kept_top : (j : ℕ) → k ≤ j → j < n - 1 → top_image v t n u w' root j ≡ top_image v t n u w root j
    kept_top j h m =
        ap (λ (x : ℕ). pick (ltb (flip n u (3 * j)) (corners n)) (step_s v t x) root) (kept (flip n u (3 * j)) (omega (arith, (k'.cut.above j m).0)))

    real_more : (p : ℕ) → 3 * k ≤ p → p < corners n → Real v t (laid_at w' p)
    real_more p h m = elim (ℕ_discrete p (3 * k)) [
      | yes e ↦ rw (e, at_0) r
      | no e ↦ elim (ℕ_discrete p (3 * k + 1)) [
        | yes d ↦ rw (d, at_1) ((polygon v t ok).closed Q y r)
        | no d ↦ elim (ℕ_discrete p (3 * k + 2)) [
          | yes b ↦ rw (b, at_2) ((polygon v t ok).closed P y r)
          | no b ↦ rw (kept p (omega arith)) (a.real p (omega arith) m)
        ]
      ]
    ]

    turns_more : (p : ℕ) → 3 * k ≤ p → p < corners n → laid_at w' (turn_q n p) ≡ turn_q v (laid_at w' p)
    turns_more p h m = elim (ℕ_discrete p (3 * k)) [
      | yes e ↦ ap (laid_at w') (turn_next n p m (λ z. omega arith) ∙ omega arith) ∙ at_1 ∙ ap (turn_q v) (sym at_0 ∙ ap (laid_at w') (sym e))
      | no e ↦ elim (ℕ_discrete p (3 * k + 1)) [
        | yes d ↦ ap (laid_at w') (turn_next n p m (λ z. omega arith) ∙ omega arith) ∙ at_2 ∙ ap (turn_q v) (sym at_1 ∙ ap (laid_at w') (sym d))
        | no d ↦ elim (ℕ_discrete p (3 * k + 2)) [
          | yes b ↦
              (ap (laid_at w') (turn_last n p m (omega arith) ∙ omega arith) ∙ at_0 ∙ sym (order_three v y)
              ∙ ap (turn_q v) (sym at_2 ∙ ap (laid_at w') (sym b)))
          | no b ↦ kept (turn_q n p) (stays p (omega arith) m) ∙ a.turns p (omega arith) m ∙ ap (turn_q v) (sym (kept p (omega arith)))
        ]
      ]
    ]
      where
        stays : (p : ℕ) → 3 * k + 3 ≤ p → p < corners n → 3 * k + 2 < turn_q n p
        stays p h m = elim (which p) [
          | c0 z ↦ rw (turn_next n p m (λ e. omega arith)) (omega arith)
          | c1 z ↦ rw (turn_next n p m (λ e. omega arith)) (omega arith)
          | c2 z ↦ rw (turn_last n p m z) (omega arith)
        ]

    pub laid_more : y ≡ top_image v t n u w root k → ImagesLaid v t n u w' root k
    laid_more e = record {
      tables = tables_set (TO + (3 * k + 2)) (turn_q v (turn_q v y))
          (tables_set (TO + (3 * k + 1)) (turn_q v y)
          (tables_set (TO + 3 * k) y a.tables (omega arith) (omega (arith, few))) (omega arith) (omega (arith, few)))
          (omega arith) (omega (arith, few));
      real = real_more;
      turns = turns_more;
      tops = λ j h m. elim (ℕ_discrete j k) [
        | yes d ↦ ap (λ (x : ℕ). laid_at w' (3 * x)) d ∙ at_0 ∙ e ∙ sym (kept_top k (omega arith) l) ∙ ap (top_image v t n u w' root) (sym d)
        | no d ↦ kept (3 * j) (omega arith) ∙ a.tops j (omega arith) m ∙ sym (kept_top j h m)
      ];
    }

  higher : (j : ℕ) → j < n - 1 → 3 * j + 2 < flip n u (3 * j)
  higher j l = (k'.cut.above j l).0

  pub laid_none : {w : List ℕ} (root k : ℕ) → PolygonTables u n w → k ≡ n - 1 → ImagesLaid v t n u w root k
  laid_none root k g e = record {
    tables = g;
    real = λ p h l. absurd (omega arith);
    turns = λ p h l. absurd (omega arith);
    tops = λ j h l. absurd (omega arith);
  }

  pub below_real : {w : List ℕ} {root k : ℕ} → ImagesLaid v t n u w root (suc k) → Real v t root → (q : ℕ) → 3 * k + 2 < q
      → Real v t (image_below v t n w root q)
  below_real a r q h = elim (dec_lt q (corners n)) [
    | yes l ↦ rw (lt-ltb q (corners n) l) ((polygon v t ok).closed S _ (a.real q (omega arith) l))
    | no l ↦ rw (le-ltb q (corners n) (omega arith)) r
  ]

  -- triangle k - 1 comes next, where q lies beyond its corner 0
  module _ {w : List ℕ} {root k : ℕ} (a : ImagesLaid v t n u w root k) (some : 0 < k) (few' : k ≤ n - 1) (r : Real v t root) (q : ℕ)
      (e : q ≡ flip n u (3 * (k - 1))) where
    next : ImagesLaid v t n u w root (suc (k - 1))
    next = let z : suc (k - 1) ≡ k = omega arith in rw z a

    next_higher : 3 * (k - 1) + 2 < q
    next_higher = rw e (higher (k - 1) (omega arith))

    pub next_noted : q < corners n → Real v t (laid_at w q)
    next_noted h = a.real q (omega (arith, next_higher)) h

    pub next_real : (y : ℕ) → y ≡ image_below v t n w root q → Real v t y
    next_real y d = rw d (below_real next r q next_higher)

    pub next_laid : (y : ℕ) → y ≡ image_below v t n w root q → (w' : List ℕ) → w' ≡ laid v w (3 * (k - 1)) y → ImagesLaid v t n u w' root (k - 1)
    next_laid y d w' z = rw z (laid_more next (omega arith) y (next_real y d) (d ∙ ap (image_below v t n w root) e))

  -- ---- all corners have their images noted, and these are forced

  module _ {w : List ℕ} {root : ℕ} (a : ImagesLaid v t n u w root 0) where
    module _ (f : ℕ → ℕ) (h : Tracks v t n u f) (e : f (under_last n u) ≡ root) where
      -- corner 0 of triangle j, where those above are known
      top_forced : (j : ℕ) → j < n - 1 → ((p : ℕ) → 3 * j + 2 < p → p < corners n → f p ≡ laid_at w p) → f (3 * j) ≡ laid_at w (3 * j)
      top_forced j l known =
          let q = flip n u (3 * j) in
          let ab = k'.cut.above j l in
          elim (dec_lt q (corners n)) [
            | yes b ↦
                ap f (sym (over_back n u ok' (3 * j) (omega arith) b)) ∙ h.by_S q (real_corner n u q b) ∙ ap (step_s v t) (known q ab.0 b)
                ∙ sym (a.tops j (omega arith) l ∙ pick_true (ltb q (corners n)) (step_s v t (laid_at w q)) root (lt-ltb q (corners n) b))
            | no b ↦
                let o : q ≡ outer n n = elim ab.1 [ inl z ↦ absurd (b z) | inr z ↦ z ] in
                ap f (sym (ap (flip n u) (sym o) ∙ k'.cut.flips (3 * j))) ∙ e
                ∙ sym (a.tops j (omega arith) l ∙ pick_false (ltb q (corners n)) (step_s v t (laid_at w q)) root (le-ltb q (corners n) (omega arith)))
          ]

      -- a turn more
      turn_forced : (p : ℕ) → p < corners n → f p ≡ laid_at w p → f (turn_q n p) ≡ laid_at w (turn_q n p)
      turn_forced p l q = h.by_Q p (real_corner n u p l) ∙ ap (turn_q v) q ∙ sym (a.turns p (omega arith) l)

      triangle_forced : (j : ℕ) → j < n - 1 → ((p : ℕ) → 3 * j + 2 < p → p < corners n → f p ≡ laid_at w p) → (p : ℕ) → 3 * j ≤ p → p < corners n
          → f p ≡ laid_at w p
      triangle_forced j l known p b m =
          let z = top_forced j l known in
          let o : f (3 * j + 1) ≡ laid_at w (3 * j + 1) = rw (turn_next n (3 * j) (omega arith) (λ d. omega arith)) at (turn_forced (3 * j) (omega arith) z) in
          let s : f (3 * j + 1 + 1) ≡ laid_at w (3 * j + 1 + 1) =
          rw (turn_next n (3 * j + 1) (omega arith) (λ d. omega arith)) at (turn_forced (3 * j + 1) (omega arith) o) in
          elim (ℕ_discrete p (3 * j)) [
            | yes d ↦ rw d z
            | no d ↦ elim (ℕ_discrete p (3 * j + 1)) [
              | yes d' ↦ rw d' o
              | no d' ↦ elim (ℕ_discrete p (3 * j + 1 + 1)) [
                | yes d'' ↦ rw d'' s
                | no d'' ↦ known p (omega arith) m
              ]
            ]
          ]

      from_triangle : (m j : ℕ) → j + m ≡ n - 1 → (p : ℕ) → 3 * j ≤ p → p < corners n → f p ≡ laid_at w p
      from_triangle zero j q p b l = absurd (omega arith)
      from_triangle (suc m) j q p b l = triangle_forced j (omega arith) (λ p' b' l'. from_triangle m (suc j) (omega arith) p' (omega arith) l') p b l

      pub laid_forced : (p : ℕ) → p < corners n → f p ≡ laid_at w p
      laid_forced p l = from_triangle (n - 1) 0 (omega arith) p (omega arith) l

      -- a corner that doesn't agree
      pub differs_not : Differs v t n u w → ⊥
      differs_not d =
          let p = d.at in
          let z = step_s n u p in
          let y = step_s v t (laid_at w p) in
          let r = real_corner n u p d.low in
          let s : f z ≡ y = h.by_S p r ∙ ap (step_s v t) (laid_forced p d.low) in
          elim (dec_lt z (corners n)) [
            | yes l ↦ clash (rw (lt-ltb z (corners n) l) (eq-eqb (laid_at w z) y (sym (laid_forced z l) ∙ s))) d.differs
            | no l ↦ elim (dec_lt y (corners v)) [
              | yes m ↦ turn_moves v y m
                  (ap (turn_q v) (sym s) ∙ sym (h.by_Q z (k'.closed S p r)) ∙ ap f (turn_face n z (omega arith)) ∙ s)
              | no m ↦ clash (rw (le-ltb z (corners n) (omega arith), le-ltb y (corners v) (omega arith)) refl) d.differs
            ]
          ]

    pub carried_not : {p y : ℕ} → p < corners n → Forces v t n u p y (under_last n u) root → (laid_at w p ≡ y → ⊥) → CarriedTo v t n u p y false
    carried_not {p} {y} l forced no' = record {
      yes = λ e. clash e refl;
      no = λ e f h s. no' (sym (laid_forced f h (forced f h s) p l) ∙ s);
    }

    agrees_inner : (x : ℕ) → agrees_at v t n u w x ≡ true → step_s n u x < corners n → laid_at w (step_s n u x) ≡ step_s v t (laid_at w x)
    agrees_inner x e l = eqb-true (laid_at w (step_s n u x)) (step_s v t (laid_at w x)) (sym (pick_true (ltb (step_s n u x) (corners n)) _ _ (lt-ltb _ _ l)) ∙ e)

    agrees_face : (x : ℕ) → agrees_at v t n u w x ≡ true → corners n ≤ step_s n u x → corners v ≤ step_s v t (laid_at w x)
    agrees_face x e l = elim (dec_lt (step_s v t (laid_at w x)) (corners v)) [
      | yes m ↦ clash e (rw (le-ltb (step_s n u x) (corners n) l, lt-ltb (step_s v t (laid_at w x)) (corners v) m) refl)
      | no m ↦ omega arith
    ]

    pub carried : {p y : ℕ} {b : Bool} → Forces v t n u p y (under_last n u) root → laid_at w p ≡ y → Agreed v t n u w b → CarriedTo v t n u p y b
    carried forced e d = record {
      yes = λ q.
          let all = d.yes q in
          record {
            to = laid_at w;
            start = e;
            turns = λ x l. a.turns x (omega arith) l;
            inner = λ x l m. agrees_inner x (all x l) m;
            faces = λ x l m. agrees_face x (all x l) m;
          };
      no = λ q f h s. differs_not f h (forced f h s) (d.no q);
    }

-- ---- S at a corner, as the code has it

module _ (v : ℕ) (t : List ℤ) (n : ℕ) (u : List ℤ) (w : List ℕ) (p z y : ℕ) (ez : z ≡ step_s n u p) (ey : y ≡ step_s v t (laid_at w p)) where
  by_values : agrees_by v n w z y ≡ agrees_at v t n u w p
  by_values = ap (λ (a : ℕ). agrees_by v n w a y) ez ∙ ap (agrees_by v n w (step_s n u p)) ey

  pub agrees_in : (x : ℕ) → x ≡ laid_at w z → z < corners n → eqb x y ≡ agrees_at v t n u w p
  agrees_in x ex h =
      ap (λ (a : ℕ). eqb a y) ex ∙ sym (pick_true (ltb z (corners n)) (eqb (laid_at w z) y) (pick (ltb y (corners v)) false true) (lt-ltb z (corners n) h))
      ∙ by_values

  outside : (b : Bool) → ltb y (corners v) ≡ b → corners n ≤ z → pick b false true ≡ agrees_at v t n u w p
  outside b e h =
      sym (pick_false (ltb z (corners n)) (eqb (laid_at w z) y) (pick (ltb y (corners v)) false true) (le-ltb z (corners n) h)
      ∙ ap (λ (c : Bool). pick c false true) e) ∙ by_values

  pub agrees_not : corners n ≤ z → y < corners v → false ≡ agrees_at v t n u w p
  agrees_not h k = outside true (lt-ltb y (corners v) k) h

  pub agrees_out : corners n ≤ z → corners v ≤ y → true ≡ agrees_at v t n u w p
  agrees_out h k = outside false (le-ltb y (corners v) k) h

pub length_laid : (v : ℕ) (w : List ℕ) (p y : ℕ) → length (laid v w p y) ≡ length w
length_laid v w p y =
    length-set (set (set w (TO + p) y) (TO + (p + 1)) (turn_q v y)) (TO + (p + 2)) (turn_q v (turn_q v y))
    ∙ length-set (set w (TO + p) y) (TO + (p + 1)) (turn_q v y) ∙ length-set w (TO + p) y

-- ---- counting

pub count_more : (f : ℕ → Bool) (b i k k' : ℕ) → k ≡ b + count f i → k' ≡ k + pick (f i) 1 0 → k' ≡ b + count f (i + 1)
count_more f b i k k' e d = let z : i + 1 ≡ suc i = omega arith in rw z (omega (arith, e, d))

-- ---- a table of steps

pub record StepsTo (v : ℕ) (t : List ℤ) (s : List ℕ) (p : ℕ) : Type 0 where
  pub size : length s ≡ 4096
  pub is : (q : ℕ) → q < p → get_or s q 0 ≡ step_s v t q

pub steps_none : {v : ℕ} {t : List ℤ} {s : List ℕ} → length s ≡ 4096 → StepsTo v t s 0
steps_none e = record { size = e; is = λ q h. absurd (omega arith) }

pub steps_more : {v : ℕ} {t : List ℤ} {s : List ℕ} (p x : ℕ) → StepsTo v t s p → p < 4096 → x ≡ step_s v t p → StepsTo v t (set s p x) (p + 1)
steps_more {v} {t} {s} p x a h e = record {
  size = length-set s p x ∙ a.size;
  is = below_more _ p (λ q l. get_or-set_other s p q x 0 (λ z. omega arith) ∙ a.is q l) (get_or-set_same s p x 0 (omega (arith, a.size)) ∙ e);
}

pub steps_all : {v : ℕ} {t : List ℤ} {s : List ℕ} (p : ℕ) → StepsTo v t s p → places v ≤ p → StepsOf v t s
steps_all p a h = record { size = a.size; is = λ q l. a.is q (omega arith) }
