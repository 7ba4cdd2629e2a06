-- How a round is entered: position by position, until S Q leads to one that has a place.
-- In order: no round yet (`no_rounds`); one position more (`listed_more`, `closed_kept`, `opening_none`, `opening_more`, `position_more`); that is where the
-- round began
-- (`opened`); with its ends entered, there is one round more (`rounds_more`).
-- Why: S Q leads no two positions to one. A position with a place in another round, or later in this one, has one before it that leads to it already.
-- Assumes nothing.
use mathlib.Core.Path.{◌≡◌, refl, sym, ap, ◌∙◌, subst}
use mathlib.Core.Logic.{◌⊎◌, inl, inr}
use mathlib.Core.List.{List}
use Prim.Native.Nat.{ℕ, zero, suc, ◌+◌, ◌-◌, ◌≤◌, ◌<◌}
use native.Mathlib.Omega.{arith}
use native.Mathlib.Decide.{dec_lt, ℕ_discrete}
use lib.Dec.{eqb}
use lib.ListN.{get_or, set, length-set}
use lib.Seq.{get_or-set_same, get_or-set_other}
use lib.IntN.{ℤ}
use borrow.Author.Tests.{eq-eqb, ne_eqb}
use Rattle.basics.specs.Count.{count}
use Rattle.basics.proofs.Count.{without, without_at, without_other, count_without, count_eq}
use Rattle.matrix.specs.Words.{Q}
use Rattle.symbol.specs.Symbol.{IsSymbol}
use Rattle.polygon.specs.Cut.{places}
use Rattle.coset.specs.Positions.{Real}
use Rattle.coset.proofs.Positions.{positions}
use Rattle.walk_runs.specs.Inner.Rounds.{POSITION, ENDING, ENTERED, round_place, position_in, beginning_in, end_in, sum_in, entered_in, forth_to}
use Rattle.walk_runs.specs.Inner.Rounds.{forth_count}
use Rattle.walk_runs.specs.Inner.Rounds.{is_placeless, RoundsListed, Looped, Closed, Opening, RoundOpened, RoundEntered, EndsFilled, HasPlace}
use Rattle.walk_runs.proofs.Blocks.{block_real, block_low}
use Rattle.walk_runs.proofs.Backward.{forth_injective}

pub above : (n : ℕ) → (n ≡ 0 → ⊥) → 0 < n
above zero h = absurd (h refl)
above (suc n) h = omega arith

module _ {v : ℕ} {t : List ℤ} (ok : IsSymbol v t) where
  pub few_places : places v ≤ 4090
  few_places = omega (arith, ok.most)

  pub real_low : (x : ℕ) → Real v t x → x < places v
  real_low x r = (positions ok).polygon.within x r

  -- a position that has no place leaves room for one more
  pub room : {r : List ℕ} {n : ℕ} (x : ℕ) → RoundsListed v t r n → Real v t x → round_place r x ≡ 0 → n < places v
  room {r} {n} x l h e =
      let c = count_without x (is_placeless r) (places v) (real_low x h) (eq-eqb (round_place r x) 0 e) in
      omega (arith, l.few, c)

  pub places_low : {r : List ℕ} {n : ℕ} → RoundsListed v t r n → n ≤ places v
  places_low l = omega (arith, l.few)

  -- ---- one position more

  module _ {r r' : List ℕ} {n x a s : ℕ} (l : RoundsListed v t r n) (h : Real v t x) (e : round_place r x ≡ 0) (k : RoundEntered r x n a s r')
      (sum : s ≡ sum_in r n + forth_count v t x) where
    low_n : n < 4090
    low_n = omega (arith, room x l h e, few_places)

    other : (y : ℕ) → y < n → position_in r y ≡ x → ⊥
    other y b z = omega (arith, l.place y b, ap (round_place r) z, e)

    order_low : (y : ℕ) → y < n → position_in r y < POSITION
    order_low y b = omega (arith, real_low (position_in r y) (l.real y b), few_places)

    same_order : (y : ℕ) → y < n → position_in r' y ≡ position_in r y
    same_order y b = k.order_other y (omega (arith, low_n)) (λ z. omega arith)

    open_count : count (is_placeless r) (places v) ≡ count (is_placeless r') (places v) + 1
    open_count =
        let c = count_without x (is_placeless r) (places v) (real_low x h) (eq-eqb (round_place r x) 0 e) in
        let d = count_eq (without x (is_placeless r)) (is_placeless r') (places v) (λ i b. same i b) in
        omega (arith, c, d)
      where
        same : (i : ℕ) → i < places v → without x (is_placeless r) i ≡ is_placeless r' i
        same i b = elim (ℕ_discrete i x) [
          | yes z ↦ ap (without x (is_placeless r)) z ∙ without_at x (is_placeless r)
              ∙ sym (ap (is_placeless r') z ∙ ne_eqb (round_place r' x) 0 (λ y. omega (arith, k.place_is)))
          | no z ↦ without_other x (is_placeless r) i z ∙ ap (λ (j : ℕ). eqb j 0) (sym (k.place_other i (omega (arith, few_places)) z))
        ]

    pub listed_more : RoundsListed v t r' (suc n)
    listed_more = record {
      long = k.long ∙ l.long;
      real = λ y b. elim (dec_lt y n) [
        | yes z ↦ subst (Real v t) (sym (same_order y z)) (l.real y z)
        | no z ↦ let i : y ≡ n = omega arith in subst (Real v t) (sym (ap (position_in r') i ∙ k.order_is)) h
      ];
      place = λ y b. elim (dec_lt y n) [
        | yes z ↦ ap (round_place r') (same_order y z) ∙ k.place_other (position_in r y) (order_low y z) (other y z) ∙ l.place y z
        | no z ↦ let i : y ≡ n = omega arith in ap (round_place r') (ap (position_in r') i ∙ k.order_is) ∙ k.place_is ∙ ap suc (sym i)
      ];
      below = λ p b c. elim (ℕ_discrete p x) [
        | yes z ↦ omega (arith, ap (round_place r') z, k.place_is)
        | no z ↦ let i = k.place_other p (omega (arith, few_places)) z in omega (arith, i, l.below p b (omega (arith, i)))
      ];
      back = λ p b c. elim (ℕ_discrete p x) [
        | yes z ↦ (let i : round_place r' p - 1 ≡ n = omega (arith, ap (round_place r') z, k.place_is) in ap (position_in r') i ∙ k.order_is ∙ sym z)
        | no z ↦ (let i = k.place_other p (omega (arith, few_places)) z in
            let c' : 0 < round_place r p = omega (arith, i) in
            let m = l.below p b c' in
            ap (λ (j : ℕ). position_in r' (j - 1)) i ∙ same_order (round_place r p - 1) (omega (arith, m, c')) ∙ l.back p b c')
      ];
      sums = λ y b. elim (dec_lt y n) [
        | yes z ↦ k.sum_other (suc y) (omega (arith, low_n)) (λ i. omega arith) ∙ l.sums y z
            ∙ sym (omega (arith, k.sum_other y (omega (arith, low_n)) (λ i. omega arith), ap (forth_count v t) (same_order y z)))
        | no z ↦ (let i : y ≡ n = omega arith in
            omega (
              arith,
              ap (λ (j : ℕ). sum_in r' (suc j)) i,
              k.sum_is,
              sum,
              ap (sum_in r') i,
              k.sum_other n (omega (arith, low_n)) (λ j. omega arith),
              ap (forth_count v t) (ap (position_in r') i ∙ k.order_is),
            ))
      ];
      low = λ y b. elim (ℕ_discrete y (suc n)) [
        | yes z ↦ omega (arith, ap (sum_in r') z, k.sum_is, sum, l.low n (omega arith), block_low (positions ok).polygon Q x)
        | no z ↦ omega (arith, k.sum_other y (omega (arith, low_n)) z, l.low y (omega arith))
      ];
      few = omega (arith, open_count, l.few);
    }

    pub closed_kept : (a' : ℕ) → a' ≤ n → Closed v t r a' → Closed v t r' a'
    closed_kept a' m g y b =
        let o = g y b in
        let f = k.first_other y (omega (arith, low_n)) (λ i. omega arith) in
        let d = k.end_other y (omega (arith, low_n)) in
        record {
          from = omega (arith, f, o.from);
          before = omega (arith, d, o.before);
          within = omega (arith, d, o.within);
          next = λ z i j. ap (forth_to v t) (same_order z (omega (arith, d, o.within))) ∙ o.next z (omega (arith, f)) (omega (arith, d))
              ∙ sym (same_order (suc z) (omega (arith, d, o.within)));
          last = λ z i. ap (forth_to v t) (same_order z (omega (arith, d, o.within))) ∙ o.last z (i ∙ d)
              ∙ sym (ap (position_in r') f ∙ same_order (beginning_in r y) (omega (arith, o.from)));
        }

    pub opening_more : {p : ℕ} → Opening v t r p a n x → Opening v t r' p a (suc n) (forth_to v t x)
    opening_more {p} o = record {
      from = omega (arith, o.from);
      first = λ y i b. elim (dec_lt y n) [
        | yes z ↦ k.first_other y (omega (arith, low_n)) (λ j. omega arith) ∙ o.first y i z
        | no z ↦ let j : y ≡ n = omega arith in ap (beginning_in r') j ∙ k.first_is
      ];
      next = λ y i b. elim (dec_lt (suc y) n) [
        | yes z ↦ ap (forth_to v t) (same_order y (omega arith)) ∙ o.next y i z ∙ sym (same_order (suc y) z)
        | no z ↦ let j : suc y ≡ n = omega arith in ap (forth_to v t) (same_order y (omega arith)) ∙ o.last y i j ∙ sym (ap (position_in r') j ∙ k.order_is)
      ];
      last = λ y i b. let j : y ≡ n = omega arith in ap (forth_to v t) (ap (position_in r') j ∙ k.order_is);
      begins = λ b. elim (dec_lt a n) [
        | yes z ↦ same_order a z ∙ o.begins z
        | no z ↦ let j : a ≡ n = omega (arith, o.from) in ap (position_in r') j ∙ k.order_is ∙ (o.none j).0
      ];
      real = block_real (positions ok).polygon Q x h;
      none = λ i. absurd (omega (arith, o.from));
    }

  pub opening_none : {r : List ℕ} {p : ℕ} (a : ℕ) → Real v t p → round_place r p ≡ 0 → Opening v t r p a a p
  opening_none a h e = record {
    from = omega arith;
    first = λ y i b. absurd (omega arith);
    next = λ y i b. absurd (omega arith);
    last = λ y i b. absurd (omega arith);
    begins = λ b. absurd (omega arith);
    real = h;
    none = λ i. (refl, e);
  }

  -- the three of them, as the loop has them
  pub position_more : {r r' : List ℕ} {n x a s p : ℕ} (to : ℕ) → RoundsListed v t r n → Closed v t r a → Opening v t r p a n x → round_place r x ≡ 0
      → RoundEntered r x n a s r' → s ≡ sum_in r n + forth_count v t x → to ≡ forth_to v t x
      → RoundsListed v t r' (n + 1) × Closed v t r' a × Opening v t r' p a (n + 1) to
  position_more {r' = r'} {n = n} {a = a} {p = p} to l g o e k sum to_is =
      let i : suc n ≡ n + 1 = omega arith in (
        subst (RoundsListed v t r') i (listed_more l o.real e k sum),
        closed_kept l o.real e k sum a o.from g,
        subst (λ (j : ℕ). Opening v t r' p a j to) i (subst (Opening v t r' p a (suc n)) (sym to_is) (opening_more l o.real e k sum o)),
      )

  -- ---- round again

  module _ {r : List ℕ} {p a n x : ℕ} (l : RoundsListed v t r n) (g : Closed v t r a) (o : Opening v t r p a n x) (full : round_place r x ≡ 0 → ⊥) where
    e : 0 < round_place r x
    e = above (round_place r x) full

    some : a < n
    some = elim (dec_lt a n) [
      | yes z ↦ z
      | no z ↦ let j : a ≡ n = omega (arith, o.from) in absurd (omega (arith, (o.none j).1))
    ]

    -- two places with one next position are the same
    once : (y z : ℕ) → y < n → z < n → forth_to v t (position_in r y) ≡ forth_to v t (position_in r z) → y ≡ z
    once y z b c i = omega (arith, l.place y b, l.place z c, ap (round_place r) (forth_injective v t ok (position_in r y) (position_in r z) i))

    abbrev z : ℕ
    z = round_place r x - 1

    z_low : z < n
    z_low = omega (arith, l.below x (real_low x o.real) e)

    z_is : position_in r z ≡ x
    z_is = l.back x (real_low x o.real) e

    -- the last place so far leads to x
    lead : (y : ℕ) → y < n → forth_to v t (position_in r y) ≡ x → y ≡ n - 1
    lead y b i = let s = some in once y (n - 1) b (omega arith) (i ∙ sym (o.last (n - 1) (omega arith) (omega arith)))

    in_earlier : z < a → ⊥
    in_earlier b =
        let f = g z b in
        elim (dec_lt (beginning_in r z) z) [
          | yes c ↦ (let j : suc (z - 1) ≡ z = omega arith in
              let i = lead (z - 1) (omega (arith, z_low)) (f.next (z - 1) (omega arith) (omega (arith, f.before)) ∙ ap (position_in r) j ∙ z_is) in
              omega (arith, i, some))
          | no c ↦ (let j : beginning_in r z ≡ z = omega (arith, f.from) in
              let i = lead (end_in r z - 1) (omega (arith, f.before, f.within, some))
              (f.last (end_in r z - 1) (omega (arith, f.before)) ∙ ap (position_in r) j ∙ z_is) in
              omega (arith, i, some, f.before, f.within))
        ]

    in_later : a < z → ⊥
    in_later b =
        let j : suc (z - 1) ≡ z = omega arith in
        let i = lead (z - 1) (omega (arith, z_low)) (o.next (z - 1) (omega arith) (omega (arith, z_low)) ∙ ap (position_in r) j ∙ z_is) in
        omega (arith, i, z_low)

    at_first : position_in r a ≡ x
    at_first = elim (dec_lt z a) [
      | yes b ↦ absurd (in_earlier b)
      | no b ↦ elim (dec_lt a z) [
        | yes c ↦ absurd (in_later c)
        | no c ↦ let j : a ≡ z = omega arith in ap (position_in r) j ∙ z_is
      ]
    ]

    pub opened : RoundOpened v t r p a n
    opened = record {
      listed = l;
      closed = g;
      some = some;
      first = o.first;
      next = o.next;
      last = λ y i. o.last y (omega (arith, some)) i ∙ sym at_first;
      begins = o.begins some;
    }

  -- ---- the ends of the round

  module _ {r r' : List ℕ} {p a n : ℕ} (o : RoundOpened v t r p a n) (k : EndsFilled a n n r r') where
    abbrev r'' : List ℕ
    r'' = set r' ENTERED n

    low : n ≤ 4090
    low = omega (arith, places_low o.listed, few_places)

    kept : (j : ℕ) → (j < ENDING + a) ⊎ (ENDING + n ≤ j) → (j ≡ ENTERED → ⊥) → get_or r'' j 0 ≡ get_or r j 0
    kept j h m = get_or-set_other r' ENTERED j n 0 m ∙ k.other j h

    now : entered_in r'' ≡ n
    now = get_or-set_same r' ENTERED n 0 (omega (arith, k.long, o.listed.long))

    place_same : (q : ℕ) → q < places v → round_place r'' q ≡ round_place r q
    place_same q b = kept q (inl (omega (arith, few_places))) (λ e. omega (arith, few_places))

    order_same : (y : ℕ) → y < n → position_in r'' y ≡ position_in r y
    order_same y b = kept (POSITION + y) (inl (omega (arith, low))) (λ e. omega (arith, low))

    first_same : (y : ℕ) → y < n → beginning_in r'' y ≡ beginning_in r y
    first_same y b = kept (8192 + y) (inl (omega (arith, low))) (λ e. omega (arith, low))

    sum_same : (y : ℕ) → y ≤ n → sum_in r'' y ≡ sum_in r y
    sum_same y b = kept (16384 + y) (inr (omega (arith, low))) (λ e. omega (arith, low))

    end_same : (y : ℕ) → y < a → end_in r'' y ≡ end_in r y
    end_same y b = kept (ENDING + y) (inl (omega arith)) (λ e. omega (arith, low, o.some))

    end_new : (y : ℕ) → a ≤ y → y < n → end_in r'' y ≡ n
    end_new y m b = get_or-set_other r' ENTERED (ENDING + y) n 0 (λ e. omega (arith, low)) ∙ k.ends y m b

    listed_kept : RoundsListed v t r'' n
    listed_kept = let l = o.listed in record {
      long = length-set r' ENTERED n ∙ k.long ∙ l.long;
      real = λ y b. subst (Real v t) (sym (order_same y b)) (l.real y b);
      place = λ y b. ap (round_place r'') (order_same y b) ∙ place_same (position_in r y) (real_low (position_in r y) (l.real y b)) ∙ l.place y b;
      below = λ q b c. let i = place_same q b in omega (arith, i, l.below q b (omega (arith, i)));
      back = λ q b c. (let i = place_same q b in
          let c' : 0 < round_place r q = omega (arith, i) in
          ap (λ (j : ℕ). position_in r'' (j - 1)) i ∙ order_same (round_place r q - 1) (omega (arith, l.below q b c')) ∙ l.back q b c');
      sums = λ y b. sum_same (suc y) (omega arith) ∙ l.sums y b ∙ sym (omega (arith, sum_same y (omega arith), ap (forth_count v t) (order_same y b)));
      low = λ y b. omega (arith, sum_same y b, l.low y b);
      few = omega (arith, l.few, count_eq (is_placeless r'') (is_placeless r) (places v) (λ i b. ap (λ (j : ℕ). eqb j 0) (place_same i b)));
    }

    old_round : (y : ℕ) → y < a → Looped v t r'' n y
    old_round y b =
        let g = o.closed y b in
        let f = first_same y (omega (arith, o.some)) in
        let d = end_same y b in
        record {
          from = omega (arith, f, g.from);
          before = omega (arith, d, g.before);
          within = omega (arith, d, g.within, o.some);
          next = λ z i j. ap (forth_to v t) (order_same z (omega (arith, d, g.within, o.some))) ∙ g.next z (omega (arith, f)) (omega (arith, d))
              ∙ sym (order_same (suc z) (omega (arith, d, g.within, o.some)));
          last = λ z i. ap (forth_to v t) (order_same z (omega (arith, d, g.within, o.some))) ∙ g.last z (i ∙ d)
              ∙ sym (ap (position_in r'') f ∙ order_same (beginning_in r y) (omega (arith, g.from, o.some)));
        }

    new_round : (y : ℕ) → a ≤ y → y < n → Looped v t r'' n y
    new_round y m b =
        let f = first_same y b ∙ o.first y m b in
        let d = end_new y m b in
        record {
          from = omega (arith, f);
          before = omega (arith, d);
          within = omega (arith, d);
          next = λ z i j. ap (forth_to v t) (order_same z (omega (arith, d))) ∙ o.next z (omega (arith, f)) (omega (arith, d))
              ∙ sym (order_same (suc z) (omega (arith, d)));
          last = λ z i. ap (forth_to v t) (order_same z (omega (arith, d))) ∙ o.last z (i ∙ d) ∙ sym (ap (position_in r'') f ∙ order_same a o.some);
        }

    pub rounds_more : HasPlace v t r'' p
    rounds_more = record {
      rounds = record {
        listed = subst (RoundsListed v t r'') (sym now) listed_kept;
        closed = subst (Closed v t r'') (sym now) (λ y b. elim (dec_lt y a) [ yes z ↦ old_round y z | no z ↦ new_round y (omega arith) b ]);
      };
      entered = omega (
        arith,
        listed_kept.place a o.some,
        ap (round_place r'') (order_same a o.some ∙ o.begins),
      );
    }
