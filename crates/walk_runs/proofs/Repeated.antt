-- A map with a counter, repeated: by the quotient and the remainder of the number of steps by the length of a round.
-- In order: steps added (`stepped_add`, `counted_add`), and a bound (`counted_low`); rounds (`rounds`, `rounds_count`, `by_rest`, `count_rest`); by places
-- (`place_is`, `count_is`), and back (`onward_in`, `before_after`).
-- Assumes nothing.
use mathlib.Core.Path.{◌≡◌, sym, ap, ◌∙◌}
use Prim.Native.Nat.{ℕ, zero, suc, ◌+◌, ◌-◌, ◌*◌, ◌/◌, ◌%◌, ◌≤◌, ◌<◌}
use native.Mathlib.Nat.{mod-lt, div-add-mod'}
use native.Mathlib.Omega.{arith}
use native.Mathlib.Decide.{dec_lt, dec_le}
use borrow.Author.Tests.{lt-ltb, le-ltb, le-leb, lt-leb}
use Rattle.walk_runs.specs.Runs.{stepped, counted, Round, round_onward, backward, between, place_after, place_before, count_after}

module _ {X : Type 0} (f : X → X) (c : X → ℕ) where
  pub stepped_add : (m n : ℕ) (x : X) → stepped f (m + n) x ≡ stepped f n (stepped f m x)
  stepped_add zero n x = let z : 0 + n ≡ n = omega arith in ap (λ (i : ℕ). stepped f i x) z
  stepped_add (suc m) n x = let z : suc m + n ≡ suc (m + n) = omega arith in ap (λ (i : ℕ). stepped f i x) z ∙ stepped_add m n (f x)

  pub counted_add : (m n : ℕ) (x : X) → counted f c (m + n) x ≡ counted f c m x + counted f c n (stepped f m x)
  counted_add zero n x = let z : 0 + n ≡ n = omega arith in ap (λ (i : ℕ). counted f c i x) z ∙ omega arith
  counted_add (suc m) n x =
      let z : suc m + n ≡ suc (m + n) = omega arith in
      ap (λ (i : ℕ). counted f c i x) z ∙ omega (arith, counted_add m n (f x))

  pub counted_low : ((x : X) → c x ≤ 2) → (k : ℕ) (x : X) → counted f c k x ≤ 2 * k
  counted_low h zero x = omega arith
  counted_low h (suc k) x = omega (arith, h x, counted_low h k (f x))

  -- ---- a round
  module _ (w : ℕ) (x : X) (back : stepped f w x ≡ x) where
    pub rounds : (k : ℕ) → stepped f (k * w) x ≡ x
    rounds zero = let z : 0 * w ≡ 0 = omega arith in ap (λ (i : ℕ). stepped f i x) z
    rounds (suc k) =
        let z : suc k * w ≡ w + k * w = omega arith in
        ap (λ (i : ℕ). stepped f i x) z ∙ stepped_add w (k * w) x ∙ ap (stepped f (k * w)) back ∙ rounds k

    pub rounds_count : (k : ℕ) → counted f c (k * w) x ≡ k * counted f c w x
    rounds_count zero = let z : 0 * w ≡ 0 = omega arith in ap (λ (i : ℕ). counted f c i x) z ∙ omega arith
    rounds_count (suc k) =
        let z : suc k * w ≡ w + k * w = omega arith in
        ap (λ (i : ℕ). counted f c i x) z ∙ counted_add w (k * w) x ∙ ap (λ (y : X). counted f c w x + counted f c (k * w) y) back
        ∙ omega (arith, rounds_count k)

    pub by_rest : (n : ℕ) → stepped f n x ≡ stepped f (n % w) x
    by_rest n = ap (λ (i : ℕ). stepped f i x) (sym (div-add-mod' n w)) ∙ stepped_add (n / w * w) (n % w) x ∙ ap (stepped f (n % w)) (rounds (n / w))

    pub count_rest : (n : ℕ) → counted f c n x ≡ n / w * counted f c w x + counted f c (n % w) x
    count_rest n =
        ap (λ (i : ℕ). counted f c i x) (sym (div-add-mod' n w)) ∙ counted_add (n / w * w) (n % w) x
        ∙ ap (λ (y : X). counted f c (n / w * w) x + counted f c (n % w) y) (rounds (n / w))
        ∙ ap (λ (i : ℕ). i + counted f c (n % w) x) (rounds_count (n / w))

  -- ---- by places
  module _ {order : ℕ → X} {sum : ℕ → ℕ} {a b : ℕ} (r : Round f c order sum a b) where
    -- before the end
    record Within (y j : ℕ) : Type 0 where
      ends_at : stepped f j (order y) ≡ order (y + j)
      sums_to : sum (y + j) ≡ sum y + counted f c j (order y)

    within : (j y : ℕ) → a ≤ y → y + j < b → Within y j
    within zero y l h = let z : y + 0 ≡ y = omega arith in record { ends_at = ap order (sym z); sums_to = ap sum z ∙ omega arith }
    within (suc j) y l h =
        let z : y + suc j ≡ suc y + j = omega arith in
        let n = r.next y l (omega arith) in
        let i = within j (suc y) (omega arith) (omega arith) in
        record {
          ends_at = ap (stepped f j) n ∙ i.ends_at ∙ ap order (sym z);
          sums_to = ap sum z ∙ i.sums_to ∙ ap (λ (x : X). sum (suc y) + counted f c j x) (sym n) ∙ omega (arith, r.sums y l (omega arith));
        }

    -- to the end, which is the beginning
    record Over (y : ℕ) : Type 0 where
      ends_at : stepped f (b - y) (order y) ≡ order a
      sums_to : sum b ≡ sum y + counted f c (b - y) (order y)

    over : (y : ℕ) → a ≤ y → y < b → Over y
    over y l h =
        let j = b - y - 1 in
        let i = within j y l (omega arith) in
        let z : b - y ≡ j + 1 = omega arith in
        let e : suc (y + j) ≡ b = omega arith in
        let there = i.ends_at in
        record {
          ends_at = ap (λ (n : ℕ). stepped f n (order y)) z ∙ stepped_add j 1 (order y) ∙ ap f there ∙ r.last (y + j) e;
          sums_to = ap sum (sym e) ∙ r.sums (y + j) (omega arith) (omega arith) ∙ ap (λ (x : X). sum (y + j) + c x) (sym there)
              ∙ omega (arith, i.sums_to, counted_add j 1 (order y), ap (λ (n : ℕ). counted f c n (order y)) z);
        }

    module _ (y : ℕ) (l : a ≤ y) (h : y < b) where
      -- fewer steps than a round
      record Less (j : ℕ) : Type 0 where
        ends_at : stepped f j (order y) ≡ order (round_onward a b y j)
        counts : counted f c j (order y) ≡ between sum a b y j

      less : (j : ℕ) → j ≤ b - a → Less j
      less j m = elim (dec_lt (y + j) b) [
        | yes k ↦ (let i = within j y l k in record {
          ends_at = rw (lt-ltb (y + j) b k) i.ends_at;
          counts = rw (lt-ltb (y + j) b k) (omega (arith, i.sums_to));
        })
        | no k ↦ (let o = over y l h in
            let n = y + j - b in
            let z : j ≡ b - y + n = omega arith in
            let e : y + j - (b - a) ≡ a + n = omega (arith, r.some) in
            elim (dec_lt (a + n) b) [
              | yes q ↦ (let i = within n a (omega arith) q in
                  let le : b ≤ y + j = omega arith in
                  record {
                    ends_at = rw (le-ltb (y + j) b le) (ap (λ (d : ℕ). stepped f d (order y)) z ∙ stepped_add (b - y) n (order y) ∙ ap (stepped f n)
                        o.ends_at ∙ i.ends_at ∙ ap order (sym e));
                    counts = rw (le-ltb (y + j) b le)
                        (ap (λ (d : ℕ). counted f c d (order y)) z ∙ counted_add (b - y) n (order y)
                        ∙ ap (λ (x : X). counted f c (b - y) (order y) + counted f c n x) o.ends_at
                        ∙ omega (arith, o.sums_to, i.sums_to, ap sum e));
                  })
              | no q ↦ absurd (omega (arith, r.some))
            ])
      ]

      round_back : stepped f (b - a) (order y) ≡ order y
      round_back =
          let i = less (b - a) (omega arith) in
          let le : b ≤ y + (b - a) = omega (arith, r.some) in
          let e : y + (b - a) - (b - a) ≡ y = omega arith in
          i.ends_at ∙ rw (le-ltb (y + (b - a)) b le) (ap order e)

      round_count : counted f c (b - a) (order y) ≡ sum b - sum a
      round_count =
          let i = less (b - a) (omega arith) in
          let le : b ≤ y + (b - a) = omega (arith, r.some) in
          let e : y + (b - a) - (b - a) ≡ y = omega arith in
          let up = within (y - a) a (omega arith) (omega arith) in
          let o = over y l h in
          let back : a + (y - a) ≡ y = omega arith in
          i.counts ∙ rw (le-ltb (y + (b - a)) b le) (omega (arith, ap sum e, o.sums_to, up.sums_to, ap sum back))

      pub place_is : (k : ℕ) → stepped f k (order y) ≡ order (place_after a b y k)
      place_is k =
          let m = mod-lt k {m = b - a} (omega (arith, r.some)) in
          by_rest (b - a) (order y) round_back k ∙ (less (k % (b - a)) (omega arith)).ends_at

      pub count_is : (k : ℕ) → counted f c k (order y) ≡ count_after sum a b y k
      count_is k =
          let m = mod-lt k {m = b - a} (omega (arith, r.some)) in
          count_rest (b - a) (order y) round_back k
          ∙ ap (λ (i : ℕ). k / (b - a) * i + counted f c (k % (b - a)) (order y)) round_count
          ∙ ap (λ (i : ℕ). k / (b - a) * (sum b - sum a) + i) (less (k % (b - a)) (omega arith)).counts

-- ---- and back

module _ (a b y : ℕ) (l : a ≤ y) (h : y < b) where
  pub onward_in : (j : ℕ) → j < b - a → round_onward a b y j < b
  onward_in j m = elim (dec_lt (y + j) b) [
    | yes k ↦ rw (lt-ltb (y + j) b k) k
    | no k ↦ (let le : b ≤ y + j = omega arith in rw (le-ltb (y + j) b le) (omega arith))
  ]

  record Behind (j : ℕ) : Type 0 where
    from : a ≤ backward a b y j
    before : backward a b y j < b
    again : round_onward a b (backward a b y j) j ≡ y

  behind : (j : ℕ) → j < b - a → Behind j
  behind j m = elim (dec_le (a + j) y) [
    | yes k ↦ (let e = le-leb (a + j) y k in
        let lt : y - j + j < b = omega arith in
        record {
          from = rw e (omega arith);
          before = rw e (omega arith);
          again = rw (e, lt-ltb (y - j + j) b lt) (omega arith);
        })
    | no k ↦ (let e = lt-leb (a + j) y (omega arith) in
        let le : b ≤ y + (b - a) - j + j = omega arith in
        record {
          from = rw e (omega arith);
          before = rw e (omega arith);
          again = rw (e, le-ltb (y + (b - a) - j + j) b le) (omega arith);
        })
  ]

  pub record Back (k : ℕ) : Type 0 where
    pub from : a ≤ place_before a b y k
    pub before : place_before a b y k < b
    pub again : place_after a b (place_before a b y k) k ≡ y

  pub before_after : (k : ℕ) → Back k
  before_after k =
      let m = mod-lt k {m = b - a} (omega arith) in
      let i = behind (k % (b - a)) m in
      record { from = i.from; before = i.before; again = i.again }
