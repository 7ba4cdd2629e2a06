-- From the parts to the whole: where each prime power of n has its representation, and T^e commutes with what it should, Γ(n) acts trivially: `whole`.
--
--   Crosses e        T^e commutes with L^z for each z with e z = 0 modulo n
--   PartHolds e q    T^e and L^e represent the matrices modulo q; and T^e crosses
--   Piece m          m rest = n, and E is 1 modulo m and 0 modulo rest
--
-- Why: a piece m is a prime power q times a smaller piece m', E is the sum of their exponents, and two representations that commute are one of the product.
-- Assumes nothing.
use mathlib.Core.Path.{◌≡◌, refl, sym, ◌∙◌, ap}
use mathlib.Core.List.{[], ◌∷◌}
use Prim.Native.Nat.{ℕ, zero, suc, ◌*◌, ◌^◌, ◌≤◌, ◌<◌, ◌∣◌}
use native.Mathlib.Omega.{arith}
use native.Mathlib.Decide.{ℕ_discrete}
use lib.IntN.{ℤ, pos, negsuc, ◌+ℤ◌, ◌-ℤ◌, ◌*ℤ◌}
use Rattle.matrix.specs.Action as action
use Rattle.matrix.specs.Theorems.{Acts}
use Rattle.matrix.proofs.Ring.{con, var, ◌⊕◌, ◌⊙◌, ⊖◌, ring}
use Rattle.congruence.specs.Congruence.{Multiple}
use Rattle.congruence.specs.Index.{least_divisor}
use Rattle.congruence.proofs.Multiple.{mult_zero}
use Rattle.congruence.proofs.Prime.{Least, Inverse}
use Rattle.congruence.proofs.Factor.{lowest_is, lowest_prime}
use Rattle.wohlfahrt.proofs.Combine.{combine}
use Rattle.wohlfahrt.proofs.Powers.{upper, lower}
use Rattle.wohlfahrt.proofs.Acting.{Trivially, Wide, at_upper-+, still_upper, still_lower}
use Rattle.wohlfahrt.proofs.Inverting.{mult_mult, mult_left, mult_times}
use Rattle.congruence_decision.proofs.Primes.{prime_true, coprime, strip, power_less, one_times}
use Rattle.congruence_decision.proofs.Words.{Represents, represents_as, represents_none, represents_both, trivially}
use Rattle.congruence_decision.proofs.Relations.{passes}
use Rattle.congruence_decision.proofs.Part.{Part, part_q, part_y, at_lower-+, upper_swap, lower_swap, same_lower, powers_L}

module _ {X : Type 0} {σ κ : X → X} (ac : Acts σ κ) (n : ℕ) where
  abbrev up : ℤ → X → X
  up z j = action.at σ κ j (upper z)

  abbrev low : ℤ → X → X
  low z j = action.at σ κ j (lower z)

  abbrev pub Crosses : ℤ → Type 0
  Crosses e = (z : ℤ) → Multiple n (e *ℤ z) → (j : X)
      → action.at σ κ (action.at σ κ j (upper e)) (lower z) ≡ action.at σ κ (action.at σ κ j (lower z)) (upper e)

  pub record PartHolds (e : ℤ) (q : ℕ) : Type 0 where
    pub represents : Represents (λ j. action.at σ κ j (upper e)) (λ j. action.at σ κ j (lower e)) q
    pub crosses : Crosses e

  record Piece (m : ℕ) : Type 0 where
    rest : ℕ
    E : ℤ
    whole : m * rest ≡ n
    one : Multiple m (E -ℤ pos 1)
    zero : Multiple rest E

  module _ (wide : Wide σ κ n) where
    -- T^e commutes with L^(1 - e): so it crosses
    pub crosses_by : (e : ℤ) → ((j : X) → part_y σ κ (pos 1 -ℤ e) (pos 1) (up e j) ≡ up e (part_y σ κ (pos 1 -ℤ e) (pos 1) j)) → 0 < n → Crosses e
    crosses_by e c some z h j =
        let d = pos 1 -ℤ e in
        same_lower ac n wide z (d *ℤ z) (combine (e ∷ z ∷ []) (var 1 ⊕ ⊖ ((con (pos 1) ⊕ ⊖ var 0) ⊙ var 1)) (con (pos 1) ⊙ (var 0 ⊙ var 1)) tt h) (up e j)
        ∙ passes n some (part_y σ κ d) (part_y σ κ d) (powers_L ac n wide d) (powers_L ac n wide d) (λ i. up e i) (pos 1) c z j
        ∙ ap (λ (i : X). up e i) (same_lower ac n wide (d *ℤ (pos 1 *ℤ z)) z
        (combine (e ∷ z ∷ []) ((con (pos 1) ⊕ ⊖ var 0) ⊙ (con (pos 1) ⊙ var 1) ⊕ ⊖ var 1) (con (negsuc 0) ⊙ (var 0 ⊙ var 1)) tt h) j)

    module _ (each : (b : Part n) → PartHolds b.e (part_q b)) where
      -- ---- a piece as a prime power and a smaller piece

      module _ {m : ℕ} (P : Piece m) (p k m' : ℕ) (prime : Least p p) (is : p ^ suc k * m' ≡ m) (clear : p ∣ m' → ⊥) where
        abbrev q : ℕ
        q = p ^ suc k

        inverse : Inverse q (pos m')
        inverse = coprime p prime k m' clear

        abbrev x : ℤ
        x = pos m' *ℤ inverse.by

        x_zero : Multiple m' x
        x_zero = record { times = inverse.by; is = ring (pos m' ∷ inverse.by ∷ []) (var 0 ⊙ var 1) (var 1 ⊙ var 0) tt }

        -- 1 - x is 0 modulo q
        y_zero : Multiple q (pos 1 -ℤ x)
        y_zero = combine (x ∷ []) (con (pos 1) ⊕ ⊖ var 0) (con (negsuc 0) ⊙ (var 0 ⊕ con (negsuc 0))) tt inverse.is

        q_one : Multiple q (P.E -ℤ pos 1)
        q_one = mult_mult (rw is at (mult_left q m')) P.one

        m'_one : Multiple m' (P.E -ℤ pos 1)
        m'_one = mult_mult (record { times = pos q; is = ap pos (sym is) }) P.one

        whole_q : q * (m' * P.rest) ≡ n
        whole_q = regroup q m' P.rest m is ∙ P.whole
          where
            regroup : (a b c d : ℕ) → a * b ≡ d → a * (b * c) ≡ d * c
            regroup a b c d e = omega arith ∙ ap (λ (z : ℕ). z * c) e

        whole_m : m' * (q * P.rest) ≡ n
        whole_m = turn q m' P.rest ∙ whole_q
          where
            turn : (a b c : ℕ) → b * (a * c) ≡ a * (b * c)
            turn a b c = omega arith

        new : Part n
        new = record {
          p = p;
          k = k;
          rest = m' * P.rest;
          e = P.E *ℤ x;
          prime = prime_true p prime;
          whole = whole_q;
          one = combine (P.E ∷ x ∷ []) (var 0 ⊙ var 1 ⊕ con (negsuc 0)) (var 1 ⊙ (var 0 ⊕ con (negsuc 0)) ⊕ con (pos 1) ⊙ (var 1 ⊕ con (negsuc 0))) tt
              (q_one, inverse.is);
          zero = combine (P.E ∷ x ∷ []) (var 0 ⊙ var 1) (con (pos 1) ⊙ (var 1 ⊙ var 0)) tt (mult_times x_zero P.zero);
        }

        smaller : Piece m'
        smaller = record {
          rest = q * P.rest;
          E = P.E *ℤ (pos 1 -ℤ x);
          whole = whole_m;
          one = combine (P.E ∷ x ∷ []) (var 0 ⊙ (con (pos 1) ⊕ ⊖ var 1) ⊕ con (negsuc 0)) (con (pos 1) ⊙ (var 0 ⊕ con (negsuc 0)) ⊕ ⊖ var 0 ⊙ var 1) tt
              (m'_one, x_zero);
          zero = combine (P.E ∷ x ∷ []) (var 0 ⊙ (con (pos 1) ⊕ ⊖ var 1)) (con (pos 1) ⊙ ((con (pos 1) ⊕ ⊖ var 1) ⊙ var 0)) tt (mult_times y_zero P.zero);
        }

        abbrev e : ℤ
        e = P.E *ℤ x

        abbrev f : ℤ
        f = P.E *ℤ (pos 1 -ℤ x)

        sum : P.E ≡ e +ℤ f
        sum = ring (P.E ∷ x ∷ []) (var 0) (var 0 ⊙ var 1 ⊕ var 0 ⊙ (con (pos 1) ⊕ ⊖ var 1)) tt

        apart : Multiple n (e *ℤ f)
        apart = combine (P.E ∷ x ∷ []) (var 0 ⊙ var 1 ⊙ (var 0 ⊙ (con (pos 1) ⊕ ⊖ var 1))) (var 0 ⊙ ((con (pos 1) ⊕ ⊖ var 1) ⊙ (var 1 ⊙ var 0))) tt
            (rw whole_q at (mult_times y_zero (mult_times x_zero P.zero)))

        together : PartHolds f m' → PartHolds P.E m
        unfolding new
        together h =
            let b = each new in
            let split-up : (j : X) → up P.E j ≡ up f (up e j) = λ j. ap (λ (z : ℤ). up z j) sum ∙ at_upper-+ ac e f j in
            let split_low : (j : X) → low P.E j ≡ low f (low e j) = λ j. ap (λ (z : ℤ). low z j) sum ∙ at_lower-+ ac e f j in
            record {
              represents = represents_as m split-up split_low (rw is at (represents_both (λ j. up e j) (λ j. low e j) (λ j. up f j) (λ j. low f j)
                  (record {
                    xx = λ j. upper_swap ac f e j;
                    xy = λ j. sym (b.crosses f apart j);
                    yx = λ j. h.crosses e (combine (e ∷ f ∷ []) (var 1 ⊙ var 0) (con (pos 1) ⊙ (var 0 ⊙ var 1)) tt apart) j;
                    yy = λ j. lower_swap ac f e j;
                  })
                  q m' b.represents h.represents));
              crosses = λ z d j.
                  ap (λ (i : X). low z i) (split-up j)
                  ∙ h.crosses z (combine (P.E ∷ x ∷ z ∷ []) (var 0 ⊙ (con (pos 1) ⊕ ⊖ var 1) ⊙ var 2) ((con (pos 1) ⊕ ⊖ var 1) ⊙ (var 0 ⊙ var 2)) tt d)
                  (up e j)
                  ∙ ap (λ (i : X). up f i) (b.crosses z (combine (P.E ∷ x ∷ z ∷ []) (var 0 ⊙ var 1 ⊙ var 2) (var 1 ⊙ (var 0 ⊙ var 2)) tt d) j)
                  ∙ sym (split-up (low z j));
            }

      -- ---- all pieces

      no_piece : (P : Piece 1) → PartHolds P.E 1
      no_piece P =
          let w : P.rest ≡ n = omega arith ∙ P.whole in
          let E-zero : Multiple n P.E = rw w at P.zero in
          let u = still_upper ac n wide P.E E-zero in
          let l = still_lower ac n wide P.E E-zero in
          record {
            represents = represents_as 1 u l (represents_none 1);
            crosses = λ z d j. ap (λ (i : X). low z i) (u j) ∙ sym (u (low z j));
          }

      abbrev Below : ℕ → Type 0
      Below m = (m' : ℕ) → m' < m → 0 < m' → (P' : Piece m') → PartHolds P'.E m'

      by_power : (m : ℕ) → 0 < m → (p : ℕ) → Least m p → (P : Piece m) → (i m' : ℕ) → p ^ i * m' ≡ m → (p ∣ m' → ⊥) → Below m → PartHolds P.E m
      unfolding smaller
      by_power m some p low P zero m' is clear rec = absurd (clear (rw (sym (one_times p m') ∙ is) low.divisor))
      by_power m some p low P (suc k) m' is clear rec =
          let prime = lowest_prime low in
          let less = power_less p k m' m prime.big some is in
          together P p k m' prime is clear (rec m' less.0 less.1 (smaller P p k m' prime is clear))

      pieces : (f m : ℕ) → m ≤ f → 0 < m → (P : Piece m) → PartHolds P.E m
      pieces zero m h some P = let no : ⊥ = omega arith in absurd no
      pieces (suc f) m h some P = elim (ℕ_discrete m 1) [
        | yes e ↦ only m e P
        | no e ↦
            let low = lowest_is m (omega arith) in
            let s = strip m (least_divisor m) m low.big (omega arith) some in
            by_power m some (least_divisor m) low P s.power s.rest s.is s.clear (λ m' l o P'. pieces f m' (omega arith) o P')
      ]
        where
          only : (m : ℕ) → m ≡ 1 → (P : Piece m) → PartHolds P.E m
          only m e P = let z : (P : Piece 1) → PartHolds P.E 1 = no_piece in (rw (sym e) at z) P

      pub whole : 0 < n → Trivially σ κ n
      whole some = trivially ac n some wide (pieces n n (omega arith) some (record {
        rest = 1;
        E = pos 1;
        whole = omega arith;
        one = mult_zero;
        zero = record { times = pos 1; is = refl };
      })).represents
