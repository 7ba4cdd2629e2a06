-- THE CHECKS ACCEPT EXACTLY THE SYMBOLS: `accepted`.
--
-- In order: what it is to pass a check; what each check says; the theorem; the numbers of refusals (`check_among`).
-- Assumes nothing.
use Rattle.std.specs.Prelude.{Ok, Err}
use mathlib.Core.Path.{◌≡◌, refl, sym, ◌∙◌, ap}
use mathlib.Core.Logic.{◌⊎◌, inl, inr, ◌↔◌}
use mathlib.Core.Bool.{Bool, true, false, not, ◌&&◌, ◌||◌}
use mathlib.Core.List.{List}
use Prim.Native.Nat.{ℕ, zero, suc, ◌+◌, ◌*◌, ◌/◌, ◌%◌, ◌<◌, ◌≤◌}
use native.Mathlib.Omega.{arith}
use native.Mathlib.Nat.{div-add-mod', mod-lt}
use lib.Dec.{leb, ltb, eqb}
use lib.ListN.{length}
use borrow.Author.Tests.{le-leb, leb-true, lt-ltb, le-ltb, ltb-true, eq-eqb, ne_eqb, eqb-true, not-false}
use lib.IntN.{ℤ, pos, negsuc, nat_abs}
use Rattle.matrix.specs.Matrix.{nth, det}
use Rattle.matrix.specs.Euclid.{positive}
use Rattle.basics.specs.Count.{first}
use Rattle.symbol.specs.Table.{numer, denom, pairing_entries, pairing_entry, side_at, frame, gap, pairing_of}
use Rattle.symbol.specs.Check.{refuse, refuse_at, eq_z, check1, check2, check3, check4, check5, check6, check7, symbol_check, out_of_range, apart}
use Rattle.symbol.specs.Check.{is_zero, sides, unpaired_in, unpaired_by, is_odd, lacks_odd}
use Rattle.symbol.specs.Symbol.{ZeroAt, FreeLabel, IsSymbol, SymbolVerdict}
use Rattle.call.proofs.Apart.{refused_accepted}
use Rattle.call.proofs.Answers.{both_pass}
use Rattle.call.proofs.Numbered.{Among, among_first}
use Rattle.symbol.specs.declared.Side.{Side}
use Rattle.symbol.specs.declared.Pairing.{Pairing}
use Rattle.symbol.specs.declared.Pairing.TheVariants.{Even, Odd, Free, Bad}
use Rattle.call.specs.declared.refusal.Refusal.{Refusal}
use Rattle.call.specs.Refusal.{◌or_else◌, refusal_number, Checked}
use Rattle.call.specs.declared.refusal.Refusal.TheVariants.{BadVertexCount, TableLength, VertexEntry, NotNeighbours, NoZero, BadPairing, NoOddSide}
use Rattle.symbol.proofs.Choice.{eq_z_true, eq_eq_z, positive_true, true_positive}
use Rattle.basics.proofs.Choice.{pick_false, either, clash, and_left, and_right}
use Rattle.basics.proofs.Count.{Clear, Found, first_clear, found, search_first}
use Rattle.symbol.proofs.Pairings.{PairingView, even, odd, free, bad, pairing_view, pairing_free}

-- ---- passing

pub passes : (b : Bool) (f : Refusal) → refuse b f ≡ Ok tt → b ≡ false
passes true f e = refused_accepted e
passes false f e = refl

pub pass : (b : Bool) (f : Refusal) → b ≡ false → refuse b f ≡ Ok tt
pass b f e = pick_false b (Err f) (Ok tt) e

pub passes_at : (test : ℕ → Bool) (n : ℕ) (f : ℕ → Refusal) → refuse_at (first test n) n f ≡ Ok tt → Clear test n
passes_at test n f e = go (search_first test n)
  where
    go : Clear test n ⊎ Found test n → Clear test n
    go (inl c) = c
    go (inr k) = clash (lt-ltb (first test n) n k.below) (passes (ltb (first test n) n) (f (first test n)) e)

pub pass_at : (test : ℕ → Bool) (n : ℕ) (f : ℕ → Refusal) → Clear test n → refuse_at (first test n) n f ≡ Ok tt
pass_at test n f c = pass (ltb (first test n) n) (f (first test n)) (le-ltb (first test n) n (let e = first_clear test n c in omega arith))

false_not : (b : Bool) → b ≡ true → not b ≡ false
false_not b e = ap not e

and_true : (a b : Bool) → a ≡ true → b ≡ true → (a && b) ≡ true
and_true a b p q = ap (λ (x : Bool). x && b) p ∙ q

-- ---- the checks one by one

module _ (v : ℕ) (t : List ℤ) where
  -- 3
  pub in_range : (i : ℕ) → out_of_range t i ≡ false → (nat_abs (nth t i) ≤ 1000000000) × (eqb (i % 2) 0 || positive (nth t i)) ≡ true
  in_range i e =
      let k = not-false (leb (nat_abs (nth t i)) 1000000000 && (eqb (i % 2) 0 || positive (nth t i))) e in (
        leb-true (nat_abs (nth t i)) 1000000000 (and_left (leb (nat_abs (nth t i)) 1000000000) (eqb (i % 2) 0 || positive (nth t i)) k),
        and_right
            (leb (nat_abs (nth t i)) 1000000000) (eqb (i % 2) 0 || positive (nth t i)) k,
      )

  range_in : (i : ℕ) → nat_abs (nth t i) ≤ 1000000000 → (eqb (i % 2) 0 || positive (nth t i)) ≡ true → out_of_range t i ≡ false
  range_in i h e = false_not (leb (nat_abs (nth t i)) 1000000000 && (eqb (i % 2) 0 || positive (nth t i)))
      (and_true (leb (nat_abs (nth t i)) 1000000000) (eqb (i % 2) 0 || positive (nth t i)) (le-leb (nat_abs (nth t i)) 1000000000 h) e)

  -- at an odd place only the second test can hold
  at_odd : (i : ℕ) (b : Bool) → (eqb ((2 * i + 1) % 2) 0 || b) ≡ true → b ≡ true
  at_odd i b e = sym (ap (λ (x : Bool). x || b) (ne_eqb ((2 * i + 1) % 2) 0 (λ z. omega arith))) ∙ e

  or_true : (a b : Bool) → b ≡ true → (a || b) ≡ true
  or_true true b e = refl
  or_true false b e = e

  neighbour : (s : Side) → gap s ≡ det (frame s)
  unfolding det
  neighbour s = refl

  -- 5
  zero_found : not (ltb (first (is_zero t) v) v) ≡ false → ZeroAt v t
  zero_found e =
      let f = found (is_zero t) v (ltb-true (first (is_zero t) v) v (not-false (ltb (first (is_zero t) v) v) e)) in
      let i = first (is_zero t) v in
      record {
        at = i;
        below = f.below;
        num = eq_z_true (numer t i) (pos 0) (and_left (eq_z (numer t i) (pos 0)) (eq_z (denom t i) (pos 1)) f.passes);
        den = eq_z_true (denom t i) (pos 1) (and_right (eq_z (numer t i) (pos 0)) (eq_z (denom t i) (pos 1)) f.passes);
      }

  found_zero : ZeroAt v t → not (ltb (first (is_zero t) v) v) ≡ false
  found_zero z = false_not (ltb (first (is_zero t) v) v) (go (search_first (is_zero t) v))
    where
      passed : is_zero t z.at ≡ true
      passed = and_true (eq_z (numer t z.at) (pos 0)) (eq_z (denom t z.at) (pos 1)) (eq_eq_z (numer t z.at) (pos 0) z.num)
          (eq_eq_z (denom t z.at) (pos 1) z.den)

      go : Clear (is_zero t) v ⊎ Found (is_zero t) v → ltb (first (is_zero t) v) v ≡ true
      go (inl c) = clash passed (c.none z.at z.below)
      go (inr f) = lt-ltb (first (is_zero t) v) v f.below

  -- 6
  abbrev Paired : ℤ → Type 0
  Paired x = (x ≡ negsuc 1) ⊎ (x ≡ negsuc 2) ⊎ FreeLabel v t x

  abbrev lonely : ℤ → Bool
  lonely x = unpaired_by (pairing_of v x) (sides v t x)

  lonely_is : (x : ℤ) (p : Pairing) → pairing_of v x ≡ p → lonely x ≡ unpaired_by p (sides v t x)
  lonely_is x p e = ap (λ (q : Pairing). unpaired_by q (sides v t x)) e

  paired : (x : ℤ) → lonely x ≡ false → Paired x
  paired x e = go (pairing_view v x)
    where
      go : PairingView v x → Paired x
      go (even p q) = inl p
      go (odd p q) = inr (inl p)
      go (free l p h k q) = inr (inr (record {
        label = l;
        is = p;
        low = h;
        high = k;
        twice =
            eqb-true (sides v t x) 2 (not-false (eqb (sides v t x) 2) (sym (lonely_is x (Free l) q) ∙ e));
      }))
      go (bad q) = clash (lonely_is x Bad q) e

  not_lonely : (x : ℤ) → Paired x → lonely x ≡ false
  not_lonely x (inl e) = lonely_is x Even (ap (pairing_of v) e)
  not_lonely x (inr (inl e)) = lonely_is x Odd (ap (pairing_of v) e)
  not_lonely x (inr (inr f)) = lonely_is x (Free f.label) (ap (pairing_of v) f.is ∙ pairing_free v f.label f.low f.high)
      ∙ false_not (eqb (sides v t x) 2) (eq-eqb (sides v t x) 2 f.twice)

  -- 7
  odd_one : (eqb v 1 && not (is_odd (pairing_entries v t) 0 || is_odd (pairing_entries v t) 1)) ≡ false → v ≡ 1 → (pairing_entry v t 0 ≡ negsuc 2)
      ⊎ (pairing_entry v t 1 ≡ negsuc 2)
  odd_one e h = go (either (is_odd (pairing_entries v t) 0)) (either (is_odd (pairing_entries v t) 1))
    where
      some : not (is_odd (pairing_entries v t) 0 || is_odd (pairing_entries v t) 1) ≡ false
      some = sym (ap (λ (b : Bool). b && not (is_odd (pairing_entries v t) 0 || is_odd (pairing_entries v t) 1)) (eq-eqb v 1 h)) ∙ e

      go : (is_odd (pairing_entries v t) 0 ≡ true) ⊎ (is_odd (pairing_entries v t) 0 ≡ false) → (is_odd (pairing_entries v t) 1 ≡ true)
          ⊎ (is_odd (pairing_entries v t) 1 ≡ false) → (pairing_entry v t 0 ≡ negsuc 2) ⊎ (pairing_entry v t 1 ≡ negsuc 2)
      go (inl a) b = inl (eq_z_true (pairing_entry v t 0) (negsuc 2) a)
      go (inr a) (inl b) = inr (eq_z_true (pairing_entry v t 1) (negsuc 2) b)
      go (inr a) (inr b) = clash (not-false (is_odd (pairing_entries v t) 0 || is_odd (pairing_entries v t) 1) some)
          (ap (λ (x : Bool). x || is_odd (pairing_entries v t) 1) a ∙ b)

  one_odd : (v ≡ 1 → (pairing_entry v t 0 ≡ negsuc 2) ⊎ (pairing_entry v t 1 ≡ negsuc 2))
      → (eqb v 1 && not (is_odd (pairing_entries v t) 0 || is_odd (pairing_entries v t) 1)) ≡ false
  one_odd f = go (either (eqb v 1))
    where
      some : (pairing_entry v t 0 ≡ negsuc 2) ⊎ (pairing_entry v t 1 ≡ negsuc 2) → (is_odd (pairing_entries v t) 0 || is_odd (pairing_entries v t) 1) ≡ true
      some (inl a) = ap (λ (x : Bool). x || is_odd (pairing_entries v t) 1) (eq_eq_z (pairing_entry v t 0) (negsuc 2) a)
      some (inr b) = or_true (is_odd (pairing_entries v t) 0) (is_odd (pairing_entries v t) 1) (eq_eq_z (pairing_entry v t 1) (negsuc 2) b)

      go : (eqb v 1 ≡ true) ⊎ (eqb v 1 ≡ false) → (eqb v 1 && not (is_odd (pairing_entries v t) 0 || is_odd (pairing_entries v t) 1)) ≡ false
      go (inl a) = ap (λ (x : Bool). x && not (is_odd (pairing_entries v t) 0 || is_odd (pairing_entries v t) 1)) a
          ∙ false_not (is_odd (pairing_entries v t) 0 || is_odd (pairing_entries v t) 1) (some (f (eqb-true v 1 a)))
      go (inr a) = ap (λ (x : Bool). x && not (is_odd (pairing_entries v t) 0 || is_odd (pairing_entries v t) 1)) a

  -- ---- the theorem

  -- all seven passed
  pub record Passed : Type 0 where
    pub one : check1 v ≡ Ok tt
    pub two : check2 v t ≡ Ok tt
    pub three : check3 v t ≡ Ok tt
    pub four : check4 v t ≡ Ok tt
    pub five : check5 v t ≡ Ok tt
    pub six : check6 v (pairing_entries v t) ≡ Ok tt
    pub seven : check7 v (pairing_entries v t) ≡ Ok tt

  pub passed_all : symbol_check v t ≡ Ok tt → Passed
  passed_all e =
      let c6 = check6 v (pairing_entries v t) or_else check7 v (pairing_entries v t) in
      let c5 = check5 v t or_else c6 in
      let c4 = check4 v t or_else c5 in
      let c3 = check3 v t or_else c4 in
      let c2 = check2 v t or_else c3 in
      let a = both_pass (check1 v) c2 e in
      let b = both_pass (check2 v t) c3 a.1 in
      let c = both_pass (check3 v t) c4 b.1 in
      let d = both_pass (check4 v t) c5 c.1 in
      let f = both_pass (check5 v t) c6 d.1 in
      let g = both_pass (check6 v (pairing_entries v t)) (check7 v (pairing_entries v t)) f.1 in
      record { one = a.0; two = b.0; three = c.0; four = d.0; five = f.0; six = g.0; seven = g.1 }

  pub all_passed : Passed → symbol_check v t ≡ Ok tt
  all_passed p = rw (p.one, p.two, p.three, p.four, p.five, p.six) p.seven

  meaning : Passed → IsSymbol v t
  meaning p =
      let one = not-false (leb 1 v && leb v 1023) (passes (not (leb 1 v && leb v 1023)) BadVertexCount p.one) in
      let three = passes_at (out_of_range t) (2 * v) VertexEntry p.three in
      let four = passes_at (apart v t) (v + 1) NotNeighbours p.four in
      let six = passes_at (unpaired_in v (pairing_entries v t)) (v + 1) BadPairing p.six in
      record {
        some = leb-true 1 v (and_left (leb 1 v) (leb v 1023) one);
        most = leb-true v 1023 (and_right (leb 1 v) (leb v 1023) one);
        long = eqb-true (length t) (3 * v + 1)
            (not-false (eqb (length t) (3 * v + 1)) (passes (not (eqb (length t) (3 * v + 1))) (TableLength (length t)) p.two));
        numers = λ i h. (in_range (2 * i) (three.none (2 * i) (omega arith))).0;
        denoms = λ i h.
            let k = in_range (2 * i + 1) (three.none (2 * i + 1) (omega arith)) in
            let q = positive_true (denom t i) (at_odd i (positive (denom t i)) k.1) in
            (q.0, k.0, q.1);
        neighbours = λ i h. sym (neighbour (side_at v t i))
            ∙ eq_z_true (gap (side_at v t i)) (pos 1) (not-false (eq_z (gap (side_at v t i)) (pos 1)) (four.none i (omega arith)));
        zero = zero_found (passes (not (ltb (first (is_zero t) v) v)) NoZero p.five);
        pairings = λ i h. paired (pairing_entry v t i) (six.none i (omega arith));
        odd = odd_one (passes (eqb v 1 && not (is_odd (pairing_entries v t) 0 || is_odd (pairing_entries v t) 1)) NoOddSide p.seven);
      }

  -- an entry's place is 2 i or 2 i + 1
  pub range_of : IsSymbol v t → (k : ℕ) → k < 2 * v → out_of_range t k ≡ false
  range_of s k h = go (k / 2) (k % 2) (div-add-mod' k 2) (mod-lt k (omega arith))
    where
      go : (i r : ℕ) → i * 2 + r ≡ k → r < 2 → out_of_range t k ≡ false
      go i zero e l =
          let z : 2 * i ≡ k = omega arith in
          range_in k (rw (← z) (s.numers i (omega arith))) (ap (λ (b : Bool). b || positive (nth t k)) (eq-eqb (k % 2) 0 (omega arith)))
      go i (suc zero) e l =
          let z : 2 * i + 1 ≡ k = omega arith in
          let d = s.denoms i (omega arith) in
          range_in k (rw (← z) d.1) (or_true (eqb (k % 2) 0) (positive (nth t k)) (rw (← z) (true_positive (denom t i) d.0 d.2)))
      go i (suc (suc r)) e l = absurd (omega arith)

  passing : IsSymbol v t → Passed
  passing s =
      let a = s.some in
      let b = s.most in
      record {
        one = pass (not (leb 1 v && leb v 1023)) BadVertexCount
            (false_not (leb 1 v && leb v 1023) (and_true (leb 1 v) (leb v 1023) (le-leb 1 v a) (le-leb v 1023 b)));
        two = pass (not (eqb (length t) (3 * v + 1))) (TableLength (length t))
            (false_not (eqb (length t) (3 * v + 1)) (eq-eqb (length t) (3 * v + 1) s.long));
        three = pass_at (out_of_range t) (2 * v) VertexEntry (record { none = range_of s });
        four = pass_at (apart v t) (v + 1) NotNeighbours
            (record {
              none = λ i h. false_not (eq_z (gap (side_at v t i)) (pos 1))
                  (eq_eq_z (gap (side_at v t i)) (pos 1) (neighbour (side_at v t i) ∙ s.neighbours i (omega arith)));
            });
        five = pass (not (ltb (first (is_zero t) v) v)) NoZero (found_zero s.zero);
        six = pass_at (unpaired_in v (pairing_entries v t)) (v + 1) BadPairing
            (record { none = λ i h. not_lonely (pairing_entry v t i) (s.pairings i (omega arith)) });
        seven = pass (eqb v 1 && not (is_odd (pairing_entries v t) 0 || is_odd (pairing_entries v t) 1)) NoOddSide (one_odd s.odd);
      }

pub accepted : (v : ℕ) (t : List ℤ) → (symbol_check v t ≡ Ok tt) ↔ IsSymbol v t
accepted v t = (λ e. meaning v t (passed_all v t e), λ s. all_passed v t (passing v t s))

-- an answer that is the checks' says what it means
pub verdict : (v : ℕ) (t : List ℤ) (r : Checked) → r ≡ symbol_check v t → SymbolVerdict v t r
verdict v t r e = record { returned = e; means = (λ a. (accepted v t).0 (sym e ∙ a), λ s. e ∙ (accepted v t).1 s) }

-- ---- the numbers

pub among_refuse : (low high : ℕ) (b : Bool) (f : Refusal) → low ≤ refusal_number f → refusal_number f ≤ high → Among low high (refuse b f)
among_refuse low high true f h k = (h, k)
among_refuse low high false f h k = tt

-- what the checks refuse has a number from 1 to 7
pub check_among : (v : ℕ) (t : List ℤ) → Among 1 7 (symbol_check v t)
check_among v t =
    let p = pairing_entries v t in
    let c6 = check6 v p or_else check7 v p in
    let c5 = check5 v t or_else c6 in
    let c4 = check4 v t or_else c5 in
    let c3 = check3 v t or_else c4 in
    let c2 = check2 v t or_else c3 in
    let i3 = first (out_of_range t) (2 * v) in
    let i4 = first (apart v t) (v + 1) in
    let i6 = first (unpaired_in v p) (v + 1) in
    among_first 1 7 (check1 v) c2 (among_refuse 1 7 (not (leb 1 v && leb v 1023)) BadVertexCount (omega arith) (omega arith))
    (among_first 1 7 (check2 v t) c3 (among_refuse 1 7 (not (eqb (length t) (3 * v + 1))) (TableLength (length t)) (omega arith) (omega arith))
    (among_first 1 7 (check3 v t) c4 (among_refuse 1 7 (ltb i3 (2 * v)) (VertexEntry i3) (omega arith) (omega arith))
    (among_first 1 7 (check4 v t) c5 (among_refuse 1 7 (ltb i4 (v + 1)) (NotNeighbours i4) (omega arith) (omega arith))
    (among_first 1 7 (check5 v t) c6 (among_refuse 1 7 (not (ltb (first (is_zero t) v) v)) NoZero (omega arith) (omega arith))
    (among_first 1 7 (check6 v p) (check7 v p) (among_refuse 1 7 (ltb i6 (v + 1)) (BadPairing i6) (omega arith) (omega arith))
    (among_refuse 1 7 (lacks_odd v p) NoOddSide (omega arith) (omega arith)))))))
