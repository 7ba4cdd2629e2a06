-- The cycles of a table make the table again.
--     moved_below     a point that is moved, with a point of its cycle below k, goes where the cycles below k lead
--     table_again     the table of the cycles of a table is the table
-- Assumes nothing.
use mathlib.Core.Path.{◌≡◌, refl, sym, ap, subst, ◌∙◌}
use mathlib.Core.Logic.{◌⊎◌, inl, inr}
use mathlib.Core.Bool.{Bool, true, false}
use mathlib.Core.List.{List, [], ◌∷◌, ◌++◌}
use Prim.Native.Nat.{ℕ, zero, suc, ◌-◌, ◌≤◌, ◌<◌}
use native.Mathlib.Decide.{dec_lt, ℕ_discrete}
use native.Mathlib.Omega.{arith}
use lib.Dec.{eqb}
use lib.ListN.{length}
use lib.Seq.{ext_get_or}
use borrow.Author.Tests.{eq-eqb, ne_eqb}
use Rattle.basics.specs.Choice.{pick}
use Rattle.basics.proofs.Choice.{pick_true, pick_false, either}
use Rattle.numbering.specs.Table.{image_at}
use Rattle.figures.specs.Cusps.{cycle}
use Rattle.numbering.specs.Find.{is_in}
use Rattle.cycle_notation.specs.Form.{points_of}
use Rattle.cycle_notation.specs.Table.{behind_in, turned_by, image_by, cycle_table}
use Rattle.cycle_notation.proofs.Stores.{in_head, in_tail, out_tail, not_in_none, length_tabled, get_d_tabled}
use Rattle.cycle_writing.specs.Cycles.{begins_cycle, points_from_one, cycles_below, cycles_of}
use Rattle.cycle_writing.specs.Inner.Short.{ShortTable}
use Rattle.cycle_writing.proofs.Short.{Shape, pair, triple, shape, begins_yes, below_yes, below_no}
use Rattle.cycle_writing.proofs.Points.{out_cons, From, out_none, out_fixed}

-- ---- one cycle

module _ (c : List ℕ) (z : ℕ) where
  in_cycle_lem : is_in c z ≡ true → image_by (c ∷ []) z ≡ turned_by c z
  unfolding image_by
  in_cycle_lem e = pick_true (is_in c z) _ _ e

same : {A : Type 0} (a : ℕ) (x y : A) → pick (eqb a a) x y ≡ x
same a x y = pick_true (eqb a a) x y (eq-eqb a a refl)

other : {A : Type 0} (a b : ℕ) (x y : A) → ¬ (a ≡ b) → pick (eqb a b) x y ≡ y
other a b x y d = pick_false (eqb a b) x y (ne_eqb a b d)

module _ (a b : ℕ) where
  two_first : image_by ((a ∷ b ∷ []) ∷ []) a ≡ b
  unfolding behind_in
  two_first = in_cycle_lem (a ∷ b ∷ []) a (in_head a (b ∷ [])) ∙ same a b _

  two_second : ¬ (a ≡ b) → image_by ((a ∷ b ∷ []) ∷ []) b ≡ a
  unfolding behind_in
  two_second d = in_cycle_lem (a ∷ b ∷ []) b (in_tail a (b ∷ []) b (in_head b [])) ∙ other a b b _ d ∙ same b a b

  module _ (c : ℕ) where
    three_first : image_by ((a ∷ b ∷ c ∷ []) ∷ []) a ≡ b
    unfolding behind_in
    three_first = in_cycle_lem (a ∷ b ∷ c ∷ []) a (in_head a (b ∷ c ∷ [])) ∙ same a b _

    three_second : ¬ (a ≡ b) → image_by ((a ∷ b ∷ c ∷ []) ∷ []) b ≡ c
    unfolding behind_in
    three_second d = in_cycle_lem (a ∷ b ∷ c ∷ []) b (in_tail a (b ∷ c ∷ []) b (in_head b (c ∷ []))) ∙ other a b b _ d ∙ same b c _

    three_third : ¬ (a ≡ c) → ¬ (b ≡ c) → image_by ((a ∷ b ∷ c ∷ []) ∷ []) c ≡ a
    unfolding behind_in
    three_third d d' =
        in_cycle_lem (a ∷ b ∷ c ∷ []) c (in_tail a (b ∷ c ∷ []) c (in_tail b (c ∷ []) c (in_head c [])))
        ∙ other a c b _ d
        ∙ other b c c _ d'
        ∙ same c a c

-- ---- several cycles

image_moved : (cs ds : List (List ℕ)) (z : ℕ) → ¬ (image_by cs z ≡ z) → image_by (cs ++ ds) z ≡ image_by cs z
unfolding image_by
image_moved [] ds z d = absurd (d refl)
image_moved (c ∷ cs) ds z d = go (is_in c z) d (image_moved cs ds z)
  where
    go : (b : Bool) → ¬ (pick b (turned_by c z) (image_by cs z) ≡ z) → (¬ (image_by cs z ≡ z) → image_by (cs ++ ds) z ≡ image_by cs z)
        → pick b (turned_by c z) (image_by (cs ++ ds) z) ≡ pick b (turned_by c z) (image_by cs z)
    go true k ih = refl
    go false k ih = ih k

pub record OutBoth (l m : List ℕ) (z : ℕ) : Type 0 where
  pub left : is_in l z ≡ false
  pub right : is_in m z ≡ false

out_both : (l m : List ℕ) (z : ℕ) → is_in (l ++ m) z ≡ false → OutBoth l m z
out_both [] m z e = record { left = not_in_none z; right = e }
out_both (a ∷ l) m z e =
    let t = out_tail a (l ++ m) z e in
    let b = out_both l m z t.1 in
    record { left = out_cons a l z t.0 b.left; right = b.right }

image_out : (cs ds : List (List ℕ)) (z : ℕ) → is_in (points_of cs) z ≡ false → image_by (cs ++ ds) z ≡ image_by ds z
unfolding image_by points_of
image_out [] ds z e = refl
image_out (c ∷ cs) ds z e = let b = out_both c (points_of cs) z e in pick_false (is_in c z) _ _ b.left ∙ image_out cs ds z b.right

image_still : (cs : List (List ℕ)) (z : ℕ) → is_in (points_of cs) z ≡ false → image_by cs z ≡ z
unfolding image_by points_of
image_still [] z e = refl
image_still (c ∷ cs) z e = let b = out_both c (points_of cs) z e in pick_false (is_in c z) _ _ b.left ∙ image_still cs z b.right

-- ---- the cycles of a permutation

module _ (t : List ℕ) (h : ShortTable t) where
  -- the map, and the number of points
  abbrev f : ℕ → ℕ
  f x = image_at t x

  abbrev n : ℕ
  n = length t

  -- y is a point of the cycle of x
  pub data Among (x y : ℕ) : Type 0 where
    first : y ≡ x → Among x y
    second : y ≡ f x → Among x y
    third : y ≡ f (f x) → Among x y

  -- a cycle leads from each of its points to the image
  turned : (x y : ℕ) → x < n → ¬ (f x ≡ x) → Among x y → image_by (points_from_one (cycle t x) ∷ []) (suc y) ≡ suc (f y)
  turned x y l d w = go (shape t h x l d) w
    where
      at_pair : f (f x) ≡ x → Among x y → image_by ((suc x ∷ suc (f x) ∷ []) ∷ []) (suc y) ≡ suc (f y)
      at_pair e (first q) = rw q (two_first (suc x) (suc (f x)))
      at_pair e (second q) = ap (λ (z : ℕ). image_by ((suc x ∷ suc (f x) ∷ []) ∷ []) (suc z)) q ∙ two_second (suc x) (suc (f x)) (λ z. d (omega arith))
          ∙ ap suc (sym (ap f q ∙ e))
      at_pair e (third q) = let p : y ≡ x = q ∙ e in rw p (two_first (suc x) (suc (f x)))

      at_triple : ¬ (f (f x) ≡ x) → f (f (f x)) ≡ x → Among x y → image_by ((suc x ∷ suc (f x) ∷ suc (f (f x)) ∷ []) ∷ []) (suc y) ≡ suc (f y)
      at_triple ne e (first q) = rw q (three_first (suc x) (suc (f x)) (suc (f (f x))))
      at_triple ne e (second q) =
          ap (λ (z : ℕ). image_by ((suc x ∷ suc (f x) ∷ suc (f (f x)) ∷ []) ∷ []) (suc z)) q
          ∙ three_second (suc x) (suc (f x)) (suc (f (f x))) (λ z. d (omega arith))
          ∙ ap suc (sym (ap f q))
      at_triple ne e (third q) =
          ap (λ (z : ℕ). image_by ((suc x ∷ suc (f x) ∷ suc (f (f x)) ∷ []) ∷ []) (suc z)) q
          ∙ three_third (suc x) (suc (f x)) (suc (f (f x))) (λ z. ne (omega arith)) (λ z. let p : f x ≡ f (f x) = omega arith in ne (ap f p ∙ e))
          ∙ ap suc (sym (ap f q ∙ e))

      go : Shape t x → Among x y → image_by (points_from_one (cycle t x) ∷ []) (suc y) ≡ suc (f y)
      go (pair e c) a = ap (λ (k : List ℕ). image_by (points_from_one k ∷ []) (suc y)) c ∙ at_pair e a
      go (triple ne e c) a = ap (λ (k : List ℕ). image_by (points_from_one k ∷ []) (suc y)) c ∙ at_triple ne e a

  -- the smallest point of the cycle of y is x
  pub record Leads (x y : ℕ) : Type 0 where
    pub among : Among x y
    pub one : x < f x
    pub two : x ≤ f (f x)

  leads_first : (x y : ℕ) → ¬ (f y ≡ y) → From t h x y → y ≡ x → Leads x y
  leads_first x y d g e =
      let a : x ≤ f x = subst (λ (z : ℕ). x ≤ f z) e g.once in
      let b : ¬ (f x ≡ x) = λ q. d (ap f e ∙ q ∙ sym e) in
      record { among = first e; one = omega arith; two = subst (λ (z : ℕ). x ≤ f (f z)) e g.again }

  leads : (x y : ℕ) → y < n → ¬ (f y ≡ y) → From t h x y → (y ≡ x) ⊎ ((f y ≡ x) ⊎ (f (f y) ≡ x)) → Leads x y
  leads x y l d g (inl e) = leads_first x y d g e
  leads x y l d g (inr (inl e)) = go (h.short y l)
    where
      up : x ≤ f x
      up = subst (λ (z : ℕ). x ≤ f z) e g.again

      go : (f (f y) ≡ y) ⊎ (f (f (f y)) ≡ y) → Leads x y
      go (inl b) =
          let p : f x ≡ y = sym (ap f e) ∙ b in
          let q : f (f x) ≡ x = ap f p ∙ e in
          let ne : ¬ (f x ≡ x) = λ z. d (e ∙ sym z ∙ p) in
          record { among = second (sym p); one = omega (arith, up); two = omega arith }
      go (inr b) =
          let p : f (f x) ≡ y = sym (ap (λ (z : ℕ). f (f z)) e) ∙ b in
          let ne : ¬ (f x ≡ x) = λ z. d (e ∙ sym z ∙ sym (ap f z) ∙ p) in
          record { among = third (sym p); one = omega (arith, up); two = omega (arith, g.zeroth) }
  leads x y l d g (inr (inr e)) = go (h.short y l)
    where
      go : (f (f y) ≡ y) ⊎ (f (f (f y)) ≡ y) → Leads x y
      go (inl b) = leads_first x y d g (sym b ∙ e)
      go (inr b) =
          let p : f x ≡ y = sym (ap f e) ∙ b in
          let q : f (f x) ≡ f y = ap f p in
          let ne : ¬ (f x ≡ x) = λ z. d (sym q ∙ ap f z ∙ p) in
          record { among = second (sym p); one = omega (arith, g.zeroth); two = omega (arith, g.once) }

  -- the cycle of y begins below k, or at k or above
  begun : (k y : ℕ) → From t h k y ⊎ ((y < k) ⊎ ((f y < k) ⊎ (f (f y) < k)))
  begun k y = elim (dec_lt y k) [
    | yes a ↦ inr (inl a)
    | no a ↦ elim (dec_lt (f y) k) [
      | yes b ↦ inr (inr (inl b))
      | no b ↦ elim (dec_lt (f (f y)) k) [
        | yes c ↦ inr (inr (inr c))
        | no c ↦ inl (record { zeroth = omega arith; once = omega arith; again = omega arith })
      ]
    ]
  ]

  at_last : (k y : ℕ) → From t h k y → (y < suc k) ⊎ ((f y < suc k) ⊎ (f (f y) < suc k)) → (y ≡ k) ⊎ ((f y ≡ k) ⊎ (f (f y) ≡ k))
  at_last k y g (inl a) = inl (omega (arith, g.zeroth))
  at_last k y g (inr (inl a)) = inr (inl (omega (arith, g.once)))
  at_last k y g (inr (inr a)) = inr (inr (omega (arith, g.again)))

  moved_below : (k y : ℕ) → k ≤ n → y < n → ¬ (f y ≡ y) → (y < k) ⊎ ((f y < k) ⊎ (f (f y) < k)) → image_by (cycles_below t k) (suc y) ≡ suc (f y)
  moved_below zero y m l d (inl a) = absurd (omega arith)
  moved_below zero y m l d (inr (inl a)) = absurd (omega arith)
  moved_below zero y m l d (inr (inr a)) = absurd (omega arith)
  moved_below (suc k) y m l d w = go (begun k y) (either (begins_cycle t k)) (moved_below k y (omega arith) l d)
    where
      stays : image_by (cycles_below t k) (suc y) ≡ suc (f y) → ¬ (image_by (cycles_below t k) (suc y) ≡ suc y)
      stays e q = d (let z : suc (f y) ≡ suc y = sym e ∙ q in omega arith)

      go : From t h k y ⊎ ((y < k) ⊎ ((f y < k) ⊎ (f (f y) < k))) → (begins_cycle t k ≡ true) ⊎ (begins_cycle t k ≡ false)
          → ((y < k) ⊎ ((f y < k) ⊎ (f (f y) < k)) → image_by (cycles_below t k) (suc y) ≡ suc (f y))
          → image_by (cycles_below t (suc k)) (suc y) ≡ suc (f y)
      go (inr a) (inl e) ih =
          ap (λ (cs : List (List ℕ)). image_by cs (suc y)) (below_yes t k e)
          ∙ image_moved (cycles_below t k) (points_from_one (cycle t k) ∷ []) (suc y) (stays (ih a))
          ∙ ih a
      go (inr a) (inr e) ih = ap (λ (cs : List (List ℕ)). image_by cs (suc y)) (below_no t k e) ∙ ih a
      go (inl g) b ih =
          let p = leads k y l d g (at_last k y g w) in
          ap (λ (cs : List (List ℕ)). image_by cs (suc y)) (below_yes t k (begins_yes t h k (omega arith) p.one p.two))
          ∙ image_out (cycles_below t k) (points_from_one (cycle t k) ∷ []) (suc y) (out_none t h k y (omega arith) g)
          ∙ turned k y (omega arith) (λ q. omega (arith, p.one)) p.among

  image_all : (y : ℕ) → y < n → image_by (cycles_below t n) (suc y) ≡ suc (f y)
  image_all y l = elim (ℕ_discrete (f y) y) [
    | yes e ↦ image_still (cycles_below t n) (suc y) (out_fixed t h n y (omega arith) e) ∙ ap suc (sym e)
    | no d ↦ moved_below n y (omega arith) l d (inl l)
  ]

less_one : (x : ℕ) → suc x - 1 ≡ x
less_one x = omega arith

pub table_again : (t : List ℕ) → ShortTable t → cycle_table (length t) (cycles_of t) ≡ t
table_again t h =
    ext_get_or 0 (cycle_table (length t) (cycles_of t)) t long
    (λ i l. let k : i < length t = rw long at l in
    get_d_tabled (λ (j : ℕ). image_by (cycles_of t) (suc j) - 1) (length t) i 0 k
    ∙ ap (λ (z : ℕ). z - 1) (image_all t h i k)
    ∙ less_one (image_at t i))
  where
    long : length (cycle_table (length t) (cycles_of t)) ≡ length t
    long = length_tabled (λ (j : ℕ). image_by (cycles_of t) (suc j) - 1) (length t)
