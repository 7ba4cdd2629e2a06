-- The power of a prime in the level, and T^(a e) at one point by a share of the prime in its width.
--
--   PrimePart p k n      n is p^(k + 1) times a number that p doesn't divide
--
-- In order: the part of a prime, one only (`one_power`); the prime's largest power in a width is its power in the level (`level_part`), and a prime that
-- divides the level divides a width (`prime_met`); T^(a e) is the same by the exponent of a part and by a share (`shared`).
-- Assumes nothing.
use mathlib.Core.Path.{◌≡◌, sym, ◌∙◌, ap}
use mathlib.Core.Logic.{◌⊎◌, inl, inr}
use mathlib.Core.Bool.{true}
use mathlib.Core.List.{List, [], ◌∷◌}
use Prim.Native.Nat.{ℕ, zero, suc, ◌+◌, ◌-◌, ◌*◌, ◌^◌, ◌%◌, ◌≤◌, ◌<◌, ◌∣◌}
use native.Mathlib.Omega.{arith}
use native.Mathlib.Decide.{dec_lt, ℕ_discrete}
use native.Mathlib.Nat.{pow-suc, le_of_dvd, dvd_of_mod-eq-zero, mod-eq-zero_of_dvd}
use lib.ListN.{length, length-map}
use lib.IntN.{ℤ, pos, negsuc, nat_abs, ◌-ℤ◌, ◌*ℤ◌}
use Rattle.matrix.specs.Matrix.{Mat}
use Rattle.matrix.specs.Action as action
use Rattle.matrix.proofs.Integer.{abs-*}
use Rattle.matrix.proofs.Ring.{con, var, ◌⊕◌, ◌⊙◌, ⊖◌, ring}
use Rattle.numbering.specs.Table.{◌then_table◌}
use Rattle.permutations.specs.Pair.{image}
use Rattle.figures.specs.Cusps.{times, width, cusps}
use Rattle.right_cosets.specs.Cosets.{CosetsOf}
use Rattle.cusp_record.specs.Record.{cusp_point, cusp_of, cusp_width}
use Rattle.cusp_record.proofs.Record.{point_low, cusp_at_lem, columns}
use Rattle.congruence.specs.Congruence.{Multiple}
use Rattle.congruence.specs.Index.{is_prime}
use Rattle.congruence.proofs.Multiple.{mult_as, mult_self}
use Rattle.congruence.proofs.Prime.{Least, not_one}
use Rattle.congruence.proofs.Factor.{dvd_mult, mult_dvd}
use Rattle.wohlfahrt.specs.IsCongruence.{table_level}
use Rattle.wohlfahrt.proofs.Combine.{combine}
use Rattle.wohlfahrt.proofs.Powers.{upper}
use Rattle.wohlfahrt.proofs.Acting.{at_upper-+, fixed_mult}
use Rattle.wohlfahrt.proofs.Inverting.{mult_mult, mult_left, mult_times}
use Rattle.wohlfahrt.proofs.Points.{point_q, acting, size_T, permutes_T, times_is, width_fixes, level_is, level_some, width_divides}
use Rattle.congruence_decision.specs.Maps.{point_width, NumbersPoints, Share, Divides}
use Rattle.congruence_decision.proofs.Primes.{prime_least, power_part, power_some, coprime, divides_other, coprime_power, coprime_turned}
use Rattle.congruence_decision.proofs.Primes.{Stripped, strip, one_times}
use Rattle.congruence_decision.proofs.Part.{Part, part_q, part_x}
use Rattle.congruence_decision.proofs.Converse.{join}

pub record PrimePart (p k n : ℕ) : Type 0 where
  pub rest : ℕ
  pub whole : p ^ suc k * rest ≡ n
  pub clear : p ∣ rest → ⊥

unfoldable pub part_of : (p k n : ℕ) → is_prime p ≡ true → PrimePart p k n → Part n
part_of p k n h P =
    let i = coprime p (prime_least p h) k P.rest P.clear in
    record {
      p = p;
      k = k;
      rest = P.rest;
      e = pos P.rest *ℤ i.by;
      prime = h;
      whole = P.whole;
      one = i.is;
      zero = record { times = i.by; is = ring (pos P.rest ∷ i.by ∷ []) (var 0 ⊙ var 1) (var 1 ⊙ var 0) tt };
    }

pub part_clear : {n : ℕ} (b : Part n) → b.p ∣ b.rest → ⊥
part_clear b d = not_one b.p (prime_least b.p b.prime).big (combine (b.e ∷ []) (con (pos 1))
    (con (pos 1) ⊙ var 0 ⊕ con (negsuc 0) ⊙ (var 0 ⊕ con (negsuc 0))) tt
    (mult_mult (dvd_mult d) b.zero, mult_mult (power_part b.p b.k) b.one))

-- what has a multiple from 1 on is from 1 on
some_left : (w m : ℕ) → 0 < m → Multiple w (pos m) → 0 < w
some_left w m h k = elim (dec_lt 0 w) [
  | yes l ↦ l
  | no l ↦
      let z : w ≡ 0 = omega arith in
      let e : m ≡ nat_abs k.times * w = ap nat_abs k.is ∙ abs-* k.times (pos w) in
      let f : nat_abs k.times * w ≡ 0 = rw z (omega arith) in
      let no : ⊥ = omega arith in absurd no
]

-- ---- one part only

antisym : (x y : ℕ) → 0 < x → 0 < y → Multiple x (pos y) → Multiple y (pos x) → x ≡ y
antisym x y h k a b = omega (arith, le_of_dvd {m = x} {n = y} k (mult_dvd x y a), le_of_dvd {m = y} {n = x} h (mult_dvd y x b))

module _ (p : ℕ) (prime : Least p p) where
  -- what divides q c, and is a power of p that doesn't divide c, divides q
  power_other : (i c : ℕ) → (p ∣ c → ⊥) → (q : ℕ) → Multiple (p ^ i) (pos (q * c)) → Multiple (p ^ i) (pos q)
  power_other i c clear q h = divides_other (p ^ i) (pos c) (pos q) (coprime_power p prime i c clear)
      (mult_as (ring (pos q ∷ pos c ∷ []) (var 0 ⊙ var 1) (var 1 ⊙ var 0) tt) h)

  -- what divides p^k c, and isn't divided by p, divides c
  clear_other : (k co : ℕ) → (p ∣ co → ⊥) → (c : ℕ) → Multiple co (pos (p ^ k * c)) → Multiple co (pos c)
  clear_other k co clear c h = divides_other co (pos (p ^ k)) (pos c) (coprime_turned p prime k co clear) h

  some : (i : ℕ) → 0 < p ^ i
  some i = power_some p i (omega (arith, prime.big))

  pub one_power : (n a b r r' : ℕ) → p ^ a * r ≡ n → (p ∣ r → ⊥) → p ^ b * r' ≡ n → (p ∣ r' → ⊥) → p ^ a ≡ p ^ b
  one_power n a b r r' e c e' c' = antisym (p ^ a) (p ^ b) (some a) (some b)
      (power_other a r' c' (p ^ b) (rw (e ∙ sym e') at (mult_left (p ^ a) r)))
      (power_other b r c (p ^ a) (rw (e' ∙ sym e) at (mult_left (p ^ b) r')))

  power_more : (i d : ℕ) → Multiple (p ^ i) (pos (p ^ (d + i)))
  power_more i zero = let z : 0 + i ≡ i = omega arith in rw z mult_self
  power_more i (suc d) =
      let z : suc d + i ≡ suc (d + i) = omega arith in
      rw (z, pow-suc p (d + i)) (mult_mult (power_more i d) (mult_left (p ^ (d + i)) p))

  pub power_dvd : (i k : ℕ) → i ≤ k → Multiple (p ^ i) (pos (p ^ k))
  power_dvd i k h = let z : (k - i) + i ≡ k = omega arith in rw z at (power_more i (k - i))

-- ---- the level

module _ {C : Mat → Type 0} {n : ℕ} {s r : List ℕ} (c : CosetsOf C n s r) {point : ℕ → ℕ} (names : NumbersPoints n point) where
  abbrev N : ℕ
  N = table_level s r

  abbrev u : List ℕ
  u = s then_table r

  pub width_N : (y : ℕ) → y < n → Multiple (point_width s r (point y)) (pos N)
  width_N y h = dvd_mult (width_divides c (point y) (names.low y h))

  -- what each point's width divides, N divides
  N_divides : (m : ℕ) → ((y : ℕ) → y < n → point_width s r (point y) ∣ m) → N ∣ m
  N_divides m h = (level_is c).least m (λ i l.
      let k : i < length (cusps u) = rw (length-map (cusps u) (width u)) at l in
      let j = cusp_point u i in
      let jl : j < n = omega (arith, size_T c, point_low (permutes_T c) i k) in
      let e : cusp_of u j ≡ i = sym (cusp_at_lem (permutes_T c) j (omega (arith, size_T c))) ∙ (columns (permutes_T c)).cusp_of_is i k in
      let w : point_width s r (point (names.name j)) ≡ cusp_width u i = ap (λ (z : ℕ). cusp_width u (cusp_of u z)) (names.name_is j jl) ∙ ap (cusp_width u) e in
      rw w at (h (names.name j) (names.name_low j jl)))

  module _ (p : ℕ) (h : is_prime p ≡ true) where
    prime : Least p p
    prime = prime_least p h

    stripped : Stripped p N
    stripped = strip N p N prime.big (omega arith) (level_some c)

    abbrev rest : ℕ
    rest = stripped.rest

    -- a width w = p^i co: co divides the rest of the level
    co_rest : (i co w : ℕ) → p ^ i * co ≡ w → (p ∣ co → ⊥) → Multiple w (pos N) → Multiple co (pos rest)
    co_rest i co w e clear m = clear_other p prime stripped.power co clear rest
        (rw (sym stripped.is) at (mult_mult (record { times = pos (p ^ i); is = ap pos (sym e) }) m))

    some_width : (y : ℕ) → y < n → 0 < point_width s r (point y)
    some_width y l = some_left (point_width s r (point y)) N (level_some c) (width_N y l)

    pub level_part : (k : ℕ) → Divides n s r point (p ^ suc k) → ((i y : ℕ) → y < n → p ^ i ∣ point_width s r (point y) → i ≤ suc k) → PrimePart p k N
    level_part k met most =
        let q = p ^ suc k in
        let i = coprime p prime k rest stripped.clear in
        let e = pos rest *ℤ i.by in
        let e-zero : Multiple rest e = record { times = i.by; is = ring (pos rest ∷ i.by ∷ []) (var 0 ⊙ var 1) (var 1 ⊙ var 0) tt } in
        let rest-N : Multiple rest (pos N) = record { times = pos (p ^ stripped.power); is = ap pos (sym stripped.is) } in
        let q-N : Multiple q (pos N) = mult_mult (dvd_mult met.divides) (width_N met.number met.low) in
        let there : Multiple (q * rest) (pos N) = join q rest e i.is e-zero q-N rest-N in
        let back : N ∣ q * rest = N_divides (q * rest) (λ y l.
        let w = point_width s r (point y) in
        let t = strip w p w prime.big (omega arith) (some_width y l) in
        let low = most t.power y l (mult_dvd (p ^ t.power) w (rw t.is at (mult_left (p ^ t.power) t.rest))) in
        mult_dvd w (q * rest) (rw t.is at (mult_times (power_dvd p prime t.power (suc k) low)
        (co_rest t.power t.rest w t.is t.clear (width_N y l))))) in
        record {
          rest = rest;
          whole = antisym (q * rest) N (some_left (q * rest) N (level_some c) there) (level_some c) there (dvd_mult back);
          clear = stripped.clear;
        }

    -- a prime that divides no width doesn't divide the level
    met_or_not : (m : ℕ) → m ≤ n → Divides n s r point p ⊎ ((y : ℕ) → y < m → p ∣ point_width s r (point y) → ⊥)
    met_or_not zero l = inr (λ y k d. let no : ⊥ = omega arith in no)
    met_or_not (suc m) l = elim (ℕ_discrete (point_width s r (point m) % p) 0) [
      | yes e ↦ inl (record { number = m; low = omega arith; divides = dvd_of_mod-eq-zero p e })
      | no e ↦ elim (met_or_not m (omega arith)) [
        | inl d ↦ inl d
        | inr f ↦ inr (λ y k d. elim (ℕ_discrete y m) [ yes z ↦ e (mod-eq-zero_of_dvd p (rw z at d)) | no z ↦ f y (omega arith) d ])
      ]
    ]

    pub prime_met : p ∣ N → Divides n s r point p
    prime_met d = elim (met_or_not n (omega arith)) [
      | inl m ↦ m
      | inr f ↦
          let back : N ∣ rest = N_divides rest (λ y l. let w = point_width s r (point y) in
          mult_dvd w rest (co_rest 0 w w (one_times p w) (f y l) (width_N y l))) in
          absurd (stripped.clear (mult_dvd p rest (mult_mult (dvd_mult d) (dvd_mult back))))
    ]

  -- ---- T^(a e) at one point

  pub shared : (b : Part N) (y : ℕ) → y < n → (e : ℕ) → Share b.p (point_width s r (point y)) e → (a : ℕ)
      → times u (a * e) (point y) ≡ part_x (image s) (point_q s r) b.e (pos a) (point y)
  shared b y l e h a =
      let p = b.p in
      let prime = prime_least p b.prime in
      let j = point y in
      let jl = names.low y l in
      let w = point_width s r j in
      let pa = p ^ h.i in
      let co = h.rest in
      let N-is : Multiple w (pos (part_q b * b.rest)) = rw b.whole (width_N y l) in
      let pa-w : Multiple pa (pos w) = rw h.is at (mult_left pa co) in
      let co-w : Multiple co (pos w) = record { times = pos pa; is = ap pos (sym h.is) } in
      let one : Multiple pa (b.e -ℤ pos 1) = mult_mult (power_other p prime h.i b.rest (part_clear b) (part_q b) (mult_mult pa-w N-is)) b.one in
      let none : Multiple co b.e = mult_mult (clear_other p prime (suc b.k) co h.clear b.rest (mult_mult co-w N-is)) b.zero in
      let z = b.e *ℤ pos a -ℤ pos (a * e) in
      let still : Multiple w z = rw h.is at (join pa co (pos e) h.one h.none {z = z}
      (combine (b.e ∷ pos a ∷ pos e ∷ []) (var 0 ⊙ var 1 ⊕ ⊖ (var 1 ⊙ var 2)) (var 1 ⊙ (var 0 ⊕ con (negsuc 0)) ⊕ ⊖ var 1 ⊙ (var 2 ⊕ con (negsuc 0))) tt
      (one, h.one))
      (combine (b.e ∷ pos a ∷ pos e ∷ []) (var 0 ⊙ var 1 ⊕ ⊖ (var 1 ⊙ var 2)) (var 1 ⊙ var 0 ⊕ ⊖ var 1 ⊙ var 2) tt (none, h.none))) in
      sym (times_is c (a * e) j jl)
      ∙ ap (λ (i : ℕ). action.at (image s) (point_q s r) i (upper (pos (a * e)))) (sym (fixed_mult (acting c) j w (width_fixes c j jl) z still))
      ∙ sym (at_upper-+ (acting c) z (pos (a * e)) j)
      ∙ ap (λ (v : ℤ). action.at (image s) (point_q s r) j (upper v))
      (ring (b.e ∷ pos a ∷ pos (a * e) ∷ []) (var 0 ⊙ var 1 ⊕ ⊖ var 2 ⊕ var 2) (var 0 ⊙ var 1) tt)
