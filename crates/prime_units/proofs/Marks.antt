-- Marks: powers of g and their opposites; where all units are marked, g and -1 generate them: `spans`.
-- Assumes nothing.
use mathlib.Core.Path.{◌≡◌, sym, ◌∙◌, ap, subst}
use mathlib.Core.List.{List, [], ◌∷◌}
use Prim.Native.Nat.{ℕ, ◌+◌, ◌-◌, ◌*◌, ◌%◌, ◌≤◌, ◌<◌, ◌∣◌}
use native.Mathlib.Omega.{arith}
use native.Mathlib.Decide.{ℕ_discrete}
use native.Mathlib.Nat.{mod-lt, dvd_of_mod-eq-zero}
use lib.ListN.{length, get_or, set, length-set}
use lib.Seq.{get_or-set_other, get_or-set_same}
use lib.Dec.{eqb}
use mathlib.Core.Bool.{false}
use borrow.Author.Tests.{eq-eqb}
use Rattle.numbering.proofs.Find.{true_false}
use lib.IntN.{ℤ, pos, negsuc, neg_ℤ, ◌-ℤ◌, ◌*ℤ◌}
use Rattle.matrix.proofs.Ring.{con, var, ◌⊕◌, ◌⊙◌, ⊖◌}
use Rattle.numbering.specs.Inner.Space.{ChangedWithin}
use Rattle.numbering.proofs.Space.{within_refl, within_set, within_trans}
use Rattle.congruence.specs.Congruence.{Multiple}
use Rattle.congruence.proofs.Multiple.{mult_as, mult_self, mult_zero, residue}
use Rattle.congruence.proofs.Prime.{Least, not_one}
use Rattle.congruence.proofs.Factor.{dvd_mult}
use Rattle.congruence_decision.specs.Units.{Inverses}
use Rattle.congruence_decision.specs.Units.{SignedPower}
use Rattle.congruence_decision.specs.Units as units
use Rattle.congruence_decision.specs.Units.{Generating}
use Rattle.congruence_decision.proofs.Primes.{prime_least, power_part, power_some}
use Rattle.prime_units.specs.Inner.Numbers.{InverseOrNone}
use Rattle.prime_units.proofs.Numbers.{remainder_back, grows}
use Rattle.call.specs.Space.{work_length}
use Prim.Native.Nat.{◌^◌}
use native.Mathlib.Nat.{pow-suc}
use Rattle.wohlfahrt.proofs.Combine.{combine}
use Rattle.wohlfahrt.proofs.Inverting.{mult_mult}
use Rattle.congruence_decision.proofs.Maps.{remainder_mult, unit_some}
use Rattle.prime_units.specs.Inner.Marks.{MARKS, MARKS_END, PoweredBy, one, more, minus, Powered, Marking, MarkedTo, Unmarked, OfPrime}

-- ---- powers

powered_as : (q : ℕ) (g y : ℤ) {x : ℤ} → Multiple q (y -ℤ x) → PoweredBy q g x → PoweredBy q g y
powered_as q g y h (one x m) = one y (combine (x ∷ y ∷ []) (var 1 ⊕ con (negsuc 0))
    (con (pos 1) ⊙ (var 1 ⊕ ⊖ var 0) ⊕ con (pos 1) ⊙ (var 0 ⊕ con (negsuc 0))) tt (h, m))
powered_as q g y h (more u x t m) = more u y t (combine (x ∷ y ∷ u ∷ g ∷ []) (var 1 ⊕ ⊖ (var 2 ⊙ var 3))
    (con (pos 1) ⊙ (var 1 ⊕ ⊖ var 0) ⊕ con (pos 1) ⊙ (var 0 ⊕ ⊖ (var 2 ⊙ var 3))) tt (h, m))
powered_as q g y h (minus u x t m) = minus u y t (combine (x ∷ y ∷ u ∷ []) (var 1 ⊕ var 2)
    (con (pos 1) ⊙ (var 1 ⊕ ⊖ var 0) ⊕ con (pos 1) ⊙ (var 0 ⊕ var 2)) tt (h, m))

pub powered_one : (q g : ℕ) → Powered q g 1
powered_one q g = one (pos 1) mult_zero

pub powered_more : (q g x : ℕ) → Powered q g x → Powered q g (x * g % q)
powered_more q g x t = more (pos x) (pos (x * g % q)) t (remainder_mult q (x * g))

pub powered_minus : (q g x : ℕ) → x ≤ q → Powered q g x → Powered q g (q - x)
powered_minus q g x l t =
    let e : q ≡ q - x + x = omega arith in
    minus (pos x) (pos (q - x)) t (mult_as (ap pos e) mult_self)

-- the inverse goes along
signed_of : (q : ℕ) (g h : ℤ) → Inverses q g h → {u : ℤ} → PoweredBy q g u → (v : ℤ) → Inverses q u v → SignedPower q g h u v
signed_of q g h i (one u m) v k = units.one u v m (combine (u ∷ v ∷ []) (var 1 ⊕ con (negsuc 0))
    (con (pos 1) ⊙ (var 0 ⊙ var 1 ⊕ con (negsuc 0)) ⊕ ⊖ var 1 ⊙ (var 0 ⊕ con (negsuc 0))) tt (k, m))
signed_of q g h i (more a u t m) v k =
    units.more a (v *ℤ g) u v (signed_of q g h i t (v *ℤ g)
    (combine (a ∷ u ∷ v ∷ g ∷ []) (var 0 ⊙ (var 2 ⊙ var 3) ⊕ con (negsuc 0))
    (con (pos 1) ⊙ (var 1 ⊙ var 2 ⊕ con (negsuc 0)) ⊕ ⊖ var 2 ⊙ (var 1 ⊕ ⊖ (var 0 ⊙ var 3))) tt (k, m))) m
    (combine (v ∷ g ∷ h ∷ []) (var 0 ⊕ ⊖ (var 0 ⊙ var 1 ⊙ var 2)) (⊖ var 0 ⊙ (var 1 ⊙ var 2 ⊕ con (negsuc 0))) tt i)
signed_of q g h i (minus a u t m) v k =
    units.minus a (neg_ℤ v) u v (signed_of q g h i t (neg_ℤ v)
    (combine (a ∷ u ∷ v ∷ []) (var 0 ⊙ ⊖ var 2 ⊕ con (negsuc 0)) (con (pos 1) ⊙ (var 1 ⊙ var 2 ⊕ con (negsuc 0)) ⊕ ⊖ var 2 ⊙ (var 1 ⊕ var 0)) tt
    (k, m))) m
    (combine (v ∷ []) (var 0 ⊕ ⊖ var 0) (con (pos 1) ⊙ con (pos 0)) tt mult_zero)

-- ---- marks

pub marking_more : {q g : ℕ} {w : List ℕ} → Marking q g w → (x : ℕ) → x ≤ q → Powered q g x → Marking q g (set w (MARKS + x) 1)
marking_more {q} {g} {w} k x l t = record {
  long = omega (arith, k.long, length-set w (MARKS + x) 1);
  q_some = k.q_some;
  q_low = k.q_low;
  g_low = k.g_low;
  marked = λ y b p. elim (ℕ_discrete y x) [
    | yes e ↦ subst (λ (z : ℕ). Powered q g z) (sym e) t
    | no e ↦ k.marked y b (omega (arith, p, get_or-set_other w (MARKS + x) (MARKS + y) 1 0 (λ z. omega arith)))
  ];
}

pub marked_within : {q g : ℕ} {w : List ℕ} → Marking q g w → (x : ℕ) → x ≤ q → ChangedWithin MARKS MARKS_END w (set w (MARKS + x) 1)
marked_within {q} {g} {w} k x l = within_set (MARKS + x) 1 (within_refl MARKS MARKS_END w) (omega arith) (omega (arith, k.q_low))

-- ---- all are marked

pub record Through (p q u : ℕ) (w : List ℕ) : Type 0 where
  pub some : 0 < u
  pub marks : (x : ℕ) → 0 < x → x < u → (p ∣ x → ⊥) → 0 < get_or w (MARKS + x) 0

pub through_start : (p q : ℕ) (w : List ℕ) → Through p q 1 w
through_start p q w = record { some = omega arith; marks = λ x a b c. let no' : ⊥ = omega arith in absurd no' }

pub through_more : {p q u : ℕ} {w : List ℕ} → Through p q u w → ((p ∣ u → ⊥) → 0 < get_or w (MARKS + u) 0) → Through p q (u + 1) w
through_more {p} {q} {u} {w} t h = record {
  some = omega arith;
  marks = λ x a b c. elim (ℕ_discrete x u) [
    | yes e ↦ subst (λ (z : ℕ). 0 < get_or w (MARKS + z) 0) (sym e) (h (λ d. c (subst (λ (z : ℕ). p ∣ z) (sym e) d)))
    | no e ↦ t.marks x a (omega arith) c
  ];
}

pub through_end : {p q u : ℕ} {w : List ℕ} → Through p q u w → q ≤ u → MarkedTo p q w
through_end t h = record { marks = λ x a b c. t.marks x a (omega arith) c }

-- ---- the theorem

pub spans : {p q g h : ℕ} {w : List ℕ} → Least p p → Multiple p (pos q) → Inverses q (pos g) (pos h) → Marking q g w → MarkedTo p q w → (u v : ℤ)
    → Inverses q u v → SignedPower q (pos g) (pos h) u v
spans {p} {q} {g} {h} {w} prime part i k m u v iu =
    let z = residue q (omega (arith, k.q_some)) u in
    let x = z.is in
    let near = z.differs in
    let clear : p ∣ x → ⊥ = λ d. not_one p prime.big
    (combine (u ∷ v ∷ (pos x) ∷ []) (con (pos 1)) (con (negsuc 0) ⊙ (var 0 ⊙ var 1 ⊕ con (negsuc 0)) ⊕ (var 1 ⊙ (var 0 ⊕ ⊖ var 2) ⊕ var 1 ⊙ var 2)) tt
    (mult_mult part iu, (mult_mult part near, dvd_mult d))) in
    let some : 0 < x = elim (ℕ_discrete x 0) [
      | yes e ↦ absurd (clear (dvd_of_mod-eq-zero p (ap (λ (y : ℕ). y % p) e ∙ zero_mod)))
      | no e ↦ omega arith
    ] in
    signed_of q (pos g) (pos h) i (powered_as q (pos g) u near (k.marked x (omega (arith, z.low)) (m.marks x some z.low clear))) v iu
  where
    zero_mod : 0 % p ≡ 0
    zero_mod = native.Mathlib.Nat.mod-eq_of_lt (omega (arith, prime.big))

pub record Running (q g : ℕ) (w₀ w : List ℕ) (x : ℕ) : Type 0 where
  pub marking : Marking q g w
  pub frame : ChangedWithin MARKS MARKS_END w₀ w
  pub low : x ≤ q
  pub power : Powered q g x

pub running_start : {q g : ℕ} {w : List ℕ} → Marking q g w → Running q g w w 1
running_start {q} {g} {w} k = record { marking = k; frame = within_refl MARKS MARKS_END w; low = omega (arith, k.q_some); power = powered_one q g }

pub running_next : {q g x : ℕ} {w₀ w w1 w2 : List ℕ} → Running q g w₀ w x → ChangedWithin MARKS MARKS_END w w1 → Marking q g w2 → ChangedWithin MARKS
    MARKS_END w1 w2 → Running q g w₀ w2 (x * g % q)
running_next {q} {g} {x} r a k b = record {
  marking = k;
  frame = within_trans (within_trans r.frame a) b;
  low = omega (arith, mod-lt (x * g) {m = q} (omega (arith, k.q_some)));
  power = powered_more q g x r.power;
}

pub some_mark : (x : ℕ) → eqb x 0 ≡ false → 0 < x
some_mark x e = elim (ℕ_discrete x 0) [ yes z ↦ true_false (eq-eqb x 0 z) e | no z ↦ omega arith ]

pub record Clearing (q : ℕ) (w₀ w : List ℕ) (j : ℕ) : Type 0 where
  pub long : work_length ≤ length w
  pub q_low : q ≤ 4095
  pub low : j ≤ q + 1
  pub none : (x : ℕ) → x < j → get_or w (MARKS + x) 0 ≡ 0
  pub frame : ChangedWithin MARKS MARKS_END w₀ w

pub clearing_start : {q : ℕ} {w : List ℕ} → q ≤ 4095 → work_length ≤ length w → Clearing q w w 0
clearing_start {q} {w} l k = record {
  long = k;
  q_low = l;
  low = omega arith;
  none = λ x b. let no' : ⊥ = omega arith in absurd no';
  frame = within_refl MARKS MARKS_END w;
}

pub clearing_more : {q j : ℕ} {w₀ w : List ℕ} → Clearing q w₀ w j → j ≤ q → Clearing q w₀ (set w (MARKS + j) 0) (j + 1)
clearing_more {q} {j} {w₀} {w} c l = record {
  long = omega (arith, c.long, length-set w (MARKS + j) 0);
  q_low = c.q_low;
  low = omega arith;
  none = λ x b. elim (ℕ_discrete x j) [
    | yes e ↦ subst (λ (z : ℕ). get_or (set w (MARKS + j) 0) (MARKS + z) 0 ≡ 0) (sym e)
        (get_or-set_same w (MARKS + j) 0 0 (omega (arith, c.long, c.q_low)))
    | no e ↦ get_or-set_other w (MARKS + j) (MARKS + x) 0 0 (λ z. omega arith) ∙ c.none x (omega arith)
  ];
  frame = within_set (MARKS + j) 0 c.frame (omega arith) (omega (arith, c.q_low));
}

pub clearing_end : {q j : ℕ} {w₀ w : List ℕ} → Clearing q w₀ w j → q < j → Unmarked q w
clearing_end c l = record { long = c.long; none = λ x b. c.none x (omega arith) }

pub marking_start : {q g : ℕ} {w : List ℕ} → Unmarked q w → 1 < q → q ≤ 4095 → g ≤ q → Marking q g w
marking_start u a b c = record {
  long = u.long;
  q_some = a;
  q_low = b;
  g_low = c;
  marked = λ x l h. let no' : ⊥ = omega
      (arith, h, u.none x l) in absurd no';
}

pub of_some : {p q : ℕ} → OfPrime p q → 1 < q
of_some {p} {q} o =
    let prime = prime_least p o.prime in
    let s = power_some p o.k (omega (arith, prime.big)) in
    omega (arith, o.is, pow-suc p o.k, grows (p ^ o.k) p s prime.big)

one_remainder : (q : ℕ) → 1 < q → 1 % q ≡ 1
one_remainder q h = native.Mathlib.Nat.mod-eq_of_lt h

pub good_unit : {p q g h : ℕ} {w : List ℕ} → OfPrime p q → g ≤ q → InverseOrNone q g h → 0 < h → Marking q g w → MarkedTo p q w → Generating q g h
good_unit {p} {q} {g} {h} o gl i s k m =
    let unit : Inverses q (pos g) (pos h) = remainder_back q (g * h) 1 (i.is s ∙ sym (one_remainder q (of_some o))) in
    record {
      pair = record {
        g_some = unit_some q g (pos h) (of_some o) unit;
        g_low = gl;
        h_some = s;
        h_low = i.low;
        inverses = unit;
      };
      spans = spans (prime_least p o.prime) (subst (λ (z : ℕ). Multiple p (pos z)) (sym o.is) (power_part p o.k)) unit k m;
    }

pub record Trying (q : ℕ) (w₀ w : List ℕ) (g : ℕ) : Type 0 where
  pub long : work_length ≤ length w
  pub some : 0 < g
  pub frame : ChangedWithin MARKS MARKS_END w₀ w

pub trying_start : {q : ℕ} {w : List ℕ} → work_length ≤ length w → Trying q w w 1
trying_start {q} {w} k = record { long = k; some = omega arith; frame = within_refl MARKS MARKS_END w }

pub trying_more : {q g : ℕ} {w₀ w w1 : List ℕ} → Trying q w₀ w g → ChangedWithin MARKS MARKS_END w w1 → Trying q w₀ w1 (g + 1)
trying_more t f = record { long = omega (arith, t.long, f.same); some = omega arith; frame = within_trans t.frame f }
