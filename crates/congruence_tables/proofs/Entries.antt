-- Entries in the work space: the pair of an entry, the row of Γ0 beside it, and an entry whose pair joins a list of pairs (`enters`, `entry_old`, `entry_new`).
-- Why an entry is read as it was written (`entry_is`): of Γ the numbers are below 64, so that 64 a + b tells a and b.
-- In order: the pair of an entry; a row beside it; a pair joins; `enter`; what functions need by the family.
-- Assumes nothing.
use mathlib.Core.Path.{◌≡◌, refl, sym, ◌∙◌, ap}
use mathlib.Core.Logic.{◌≢◌}
use mathlib.Core.List.{List}
use Prim.Native.Nat.{ℕ, ◌+◌, ◌*◌, ◌/◌, ◌%◌, ◌≤◌, ◌<◌}
use native.Mathlib.Omega.{arith}
use native.Mathlib.Nat.{div-add-mod'}
use lib.ListN.{length, get_or, set, length-set}
use lib.Seq.{get_or-set_same, get_or-set_other}
use Rattle.call.specs.Space.{work_length}
use Rattle.numbering.specs.Find.{find}
use Rattle.numbering.specs.Order.{add}
use Rattle.buckets.specs.Inner.Pairs.{FORMER, LATTER, bucket_of, EnterPair, PairEntered}
use Rattle.buckets.proofs.Chain.{first_of as first_digit, second_of as second_digit, holds_kept}
use Rattle.congruence.specs.declared.Family.{Family}
use Rattle.congruence.specs.Inner.Common.{Modulus}
use Rattle.congruence.specs.declared.Family.TheVariants as family
use Rattle.congruence_tables.specs.declared.residues.Residues.{Residues}
use Rattle.congruence_tables.specs.Inner.Residues.{EntryOf, AllEqual, first_of, second_of, row_code, multiplier_of}
use Rattle.congruence_tables.proofs.Signs.{entry_small}
use Rattle.congruence_tables.proofs.Keys.{LowOf, low_second}
use Rattle.congruence_tables.proofs.Level.{gamma_low}
use Rattle.congruence_tables.specs.Inner.Held.{ROW_C, ROW_D, PART, MULTIPLIER, residues_at, Group, ColumnsFor, ColumnsMade, ColumnsReady, Keys}
use Rattle.congruence_tables.specs.Inner.Held.{with_row, Enters, EntersAs}

-- ---- the pair of an entry

pub entry_low : (f : Family) (n : ℕ) (x : Residues) → Group f n → EntryOf f n x → LowOf f x
entry_low family.Gamma0 n x g h = let s = entry_small family.Gamma0 n x g.modulus h in omega (arith, s.b_most)
entry_low family.Gamma1 n x g h = let s = entry_small family.Gamma1 n x g.modulus h in omega (arith, s.d_most)
entry_low family.Gamma n x g h =
    let few = gamma_low n g.modulus.some g.few in
    let low = h.low in
    record { b_low = omega (arith, low.b_low); c_low = omega (arith, low.c_low); d_low = omega (arith, low.d_low) }

parts : (p : ℕ) → p ≡ 64 * (p / 64) + p % 64
parts p = omega (arith, div-add-mod' p 64)

key_first : (f : Family) (w : List ℕ) (j : ℕ) → get_or w (FORMER + j) 0 ≡ first_of f (residues_at f w j)
key_first family.Gamma0 w j = refl
key_first family.Gamma1 w j = refl
key_first family.Gamma w j = parts (get_or w (FORMER + j) 0)

key_second : (f : Family) (w : List ℕ) (j : ℕ) → get_or w (LATTER + j) 0 ≡ second_of f (residues_at f w j)
key_second family.Gamma0 w j = refl
key_second family.Gamma1 w j = refl
key_second family.Gamma w j = parts (get_or w (LATTER + j) 0)

module _ (f : Family) (n : ℕ) {w : List ℕ} {count : ℕ} {l : List ℕ} (h : Keys f n w count l) where
  pub code_at : (j : ℕ) → j < count → get_or l j 0 ≡ row_code f (residues_at f w j)
  code_at j i =
      sym (div-add-mod' (get_or l j 0) 4096) ∙ ap (λ (z : ℕ). z * 4096 + get_or l j 0 % 4096) (sym (h.first j i) ∙ key_first f w j)
      ∙ ap (λ (z : ℕ). first_of f (residues_at f w j) * 4096 + z) (sym (h.second j i) ∙ key_second f w j)

all_equal : (x y : Residues) → AllEqual x y → x ≡ y
all_equal x y z = rw (z.a_is, z.b_is, z.c_is, z.d_is)

-- the row beside the pair
abbrev RowAt : Family → List ℕ → ℕ → Residues → Type 0
RowAt family.Gamma0 w j x = (get_or w (ROW_C + j) 0 ≡ x.c) × (get_or w (ROW_D + j) 0 ≡ x.d)
RowAt family.Gamma1 w j x = Unit {0}
RowAt family.Gamma w j x = Unit {0}

quotient : (a b p : ℕ) → b < 64 → p ≡ 64 * a + b → p / 64 ≡ a
quotient a b p h e = let i : p ≡ a * 64 + b = omega arith in ap (λ (z : ℕ). z / 64) i ∙ first_digit 64 a b h

rest : (a b p : ℕ) → b < 64 → p ≡ 64 * a + b → p % 64 ≡ b
rest a b p h e = let i : p ≡ a * 64 + b = omega arith in ap (λ (z : ℕ). z % 64) i ∙ second_digit 64 a b h

-- an entry is read as it was written
entry_is : (f : Family) (n : ℕ) (w : List ℕ) (j : ℕ) (x : Residues) → EntryOf f n x → LowOf f x → get_or w (FORMER + j) 0 ≡ first_of f x
    → get_or w (LATTER + j) 0 ≡ second_of f x → RowAt f w j x → residues_at f w j ≡ x
entry_is family.Gamma0 n w j x h low e d r = all_equal (residues_at family.Gamma0 w j) x (record { a_is = e; b_is = d; c_is = r.0; d_is = r.1 })
entry_is family.Gamma1 n w j x h low e d r =
    all_equal (residues_at family.Gamma1 w j) x (record { a_is = sym h.above.a_is; b_is = sym h.above.b_is; c_is = e; d_is = d })
entry_is family.Gamma n w j x h low e d r = all_equal (residues_at family.Gamma w j) x (record {
  a_is = quotient x.a x.b (get_or w (FORMER + j) 0) low.b_low e;
  b_is = rest x.a x.b (get_or w (FORMER + j) 0) low.b_low e;
  c_is = quotient x.c x.d (get_or w (LATTER + j) 0) low.d_low d;
  d_is = rest x.c x.d (get_or w (LATTER + j) 0) low.d_low d;
})

entry_kept : (f : Family) (w w' : List ℕ) (j : ℕ) → get_or w' (FORMER + j) 0 ≡ get_or w (FORMER + j) 0 → get_or w' (LATTER + j) 0 ≡ get_or w (LATTER + j) 0
    → get_or w' (ROW_C + j) 0 ≡ get_or w (ROW_C + j) 0 → get_or w' (ROW_D + j) 0 ≡ get_or w (ROW_D + j) 0 → residues_at f w' j ≡ residues_at f w j
entry_kept family.Gamma0 w w' j a b c d = rw (a, b, c, d)
entry_kept family.Gamma1 w w' j a b c d = rw (a, b)
entry_kept family.Gamma w w' j a b c d = rw (a, b)

pub columns_kept : (f : Family) (n : ℕ) (w w' : List ℕ) → ((p : ℕ) → PART ≤ p → get_or w' p 0 ≡ get_or w p 0) → ColumnsFor f n w → ColumnsFor f n w'
columns_kept family.Gamma0 n w w' kept h = λ c l.
    let a = h c l in
    record {
      by = a.by;
      common = a.common;
      part_is = kept (PART + c) (omega arith) ∙ a.part_is;
      multiplier_is = kept (MULTIPLIER + c) (omega arith) ∙ a.multiplier_is;
    }
columns_kept family.Gamma1 n w w' kept h = tt
columns_kept family.Gamma n w w' kept h = tt

-- ---- a row beside the pair

module _ (w : List ℕ) (i : ℕ) (x : Residues) where
  pub row_length : (f : Family) → length (with_row f w i x) ≡ length w
  row_length family.Gamma0 = length-set (set w (ROW_C + i) x.c) (ROW_D + i) x.d ∙ length-set w (ROW_C + i) x.c
  row_length family.Gamma1 = refl
  row_length family.Gamma = refl

  pub row_other : (f : Family) (p : ℕ) → p ≢ ROW_C + i → p ≢ ROW_D + i → get_or (with_row f w i x) p 0 ≡ get_or w p 0
  row_other family.Gamma0 p a b = get_or-set_other (set w (ROW_C + i) x.c) (ROW_D + i) p x.d 0 b ∙ get_or-set_other w (ROW_C + i) p x.c 0 a
  row_other family.Gamma1 p a b = refl
  row_other family.Gamma p a b = refl

  row_at : (f : Family) → work_length ≤ length w → i < 4096 → RowAt f (with_row f w i x) i x
  row_at family.Gamma0 long room = (
    get_or-set_other (set w (ROW_C + i) x.c) (ROW_D + i) (ROW_C + i) x.d 0 (λ e. omega arith) ∙ get_or-set_same w (ROW_C + i) x.c 0 (omega arith),
    get_or-set_same (set w (ROW_C + i) x.c) (ROW_D + i) x.d 0 (omega (arith, length-set w (ROW_C + i) x.c)),
  )
  row_at family.Gamma1 long room = tt
  row_at family.Gamma long room = tt

row_moved : (f : Family) (w w' : List ℕ) (i : ℕ) (x : Residues) → get_or w' (ROW_C + i) 0 ≡ get_or w (ROW_C + i) 0 → get_or w' (ROW_D + i) 0 ≡ get_or w (ROW_D + i) 0
    → RowAt f w i x → RowAt f w' i x
row_moved family.Gamma0 w w' i x c d r = (c ∙ r.0, d ∙ r.1)
row_moved family.Gamma1 w w' i x c d r = tt
row_moved family.Gamma w w' i x c d r = tt

-- ---- an entry's pair joins a list of pairs

module _ {f : Family} {n : ℕ} (grp : Group f n) {w : List ℕ} {count : ℕ} {l : List ℕ} (h : Keys f n w count l) (few : count ≤ 3066)
    {x : Residues} (entry : EntryOf f n x) where
  pub enters : Enters f n w count x
  enters = record {
    modulus = grp.modulus;
    long = h.long;
    fits = omega arith;
    small = entry_small f n x grp.modulus entry;
    low = low_second f x (entry_low f n x grp entry);
    pairs = l;
    keys = h;
  }

  module _ {w' : List ℕ} {place count' : ℕ} (e : EntersAs f n w count x w' place count') where
    abbrev w1 : List ℕ
    w1 = with_row f w count x

    abbrev l' : List ℕ
    l' = add l (row_code f x)

    row_laid : Keys f n w1 count l
    row_laid = holds_kept w1 (row_length w count x f) h (λ p a b. row_other w count x f p (λ z. omega arith) (λ z. omega arith))

    pub keys_are : Keys f n w' count' l'
    keys_are = e.joined.holds 4096 l (low_second f x (entry_low f n x grp entry)) row_laid

    pub place_in : place ≡ find l' (row_code f x)
    place_in = e.joined.place_is 4096 l (low_second f x (entry_low f n x grp entry)) row_laid

    pub joined_same : length w' ≡ length w
    joined_same = e.joined.same ∙ row_length w count x f

    pub joined_above : (p : ℕ) → PART ≤ p → get_or w' p 0 ≡ get_or w p 0
    joined_above p a = e.joined.above p (omega arith) ∙ row_other w count x f p (λ z. omega arith) (λ z. omega arith)

    -- an earlier entry, where the list of pairs begins as it did
    pub entry_old : (j : ℕ) → j < count → j < count' → get_or l' j 0 ≡ get_or l j 0 → residues_at f w' j ≡ residues_at f w j
    entry_old j i i' same = entry_kept f w w' j
        (keys_are.first j i' ∙ ap (λ (z : ℕ). z / 4096) same ∙ sym (h.first j i))
        (keys_are.second j i' ∙ ap (λ (z : ℕ). z % 4096) same ∙ sym (h.second j i))
        (e.joined.below (ROW_C + j) (omega arith) ∙ row_other w count x f (ROW_C + j) (λ z. omega arith) (λ z. omega arith))
        (e.joined.above (ROW_D + j) (omega arith) ∙ row_other w count x f (ROW_D + j) (λ z. omega arith) (λ z. omega arith))

    -- the new one
    pub entry_new : count < count' → get_or l' count 0 ≡ row_code f x → residues_at f w' count ≡ x
    entry_new i same =
        let low = low_second f x (entry_low f n x grp entry) in
        entry_is f n w' count x entry (entry_low f n x grp entry)
        (keys_are.first count i ∙ ap (λ (z : ℕ). z / 4096) same ∙ first_digit 4096 (first_of f x) (second_of f x) low)
        (keys_are.second count i ∙ ap (λ (z : ℕ). z % 4096) same ∙ second_digit 4096 (first_of f x) (second_of f x) low)
        (row_moved f w1 w' count x (e.joined.below (ROW_C + count) (omega arith)) (e.joined.above (ROW_D + count) (omega arith))
        (row_at w count x f h.long (omega arith)))

-- ---- `enter`: what it asks of the buckets, and what it answers

multiplier_small : (f : Family) (n : ℕ) → Modulus n → multiplier_of f n ≤ 65536
multiplier_small family.Gamma0 n a = omega arith
multiplier_small family.Gamma1 n a = omega (arith, a.most)
multiplier_small family.Gamma n a = omega arith

module _ {f : Family} {n : ℕ} {w : List ℕ} {count : ℕ} {x : Residues} (a : Enters f n w count x) {w1 : List ℕ} (laid : w1 ≡ with_row f w count x)
    {m p q : ℕ} (em : m ≡ multiplier_of f n) (ep : p ≡ first_of f x) (eq : q ≡ second_of f x) where
  pub pair_enters : EnterPair m w1 p q count
  pair_enters = rw (laid, em, ep, eq) (record {
    multiplier = multiplier_small f n a.modulus;
    fits = a.fits;
    some = record {
      modulus = 4096;
      list = a.pairs;
      below = a.low;
      holds = holds_kept (with_row f w count x) (row_length w count x f) a.keys
          (λ i h k. row_other w count x f i (λ z. omega (arith, a.fits)) (λ z. omega (arith, a.fits)));
    };
  })

  pub pair_entered : {w' : List ℕ} {place count' : ℕ} → PairEntered (bucket_of m) w1 p q count w' place count' → EntersAs f n w count x w' place count'
  pair_entered e = record { joined = rw (laid, em, ep, eq) at e }

-- ---- by the family: `load`, `lay` and `prepare`

module _ {f : Family} (w : List ℕ) (j : ℕ) {p q : ℕ} (ep : p ≡ get_or w (FORMER + j) 0) (eq : q ≡ get_or w (LATTER + j) 0) where
  pub loaded_0 : f ≡ family.Gamma0 → {c d : ℕ} → c ≡ get_or w (ROW_C + j) 0 → d ≡ get_or w (ROW_D + j) 0
      → ◌≡◌ {A = Residues} (record { a = p; b = q; c = c; d = d }) (residues_at f w j)
  loaded_0 e ec ed = rw (e, ep, eq, ec, ed)

  pub loaded_1 : f ≡ family.Gamma1 → ◌≡◌ {A = Residues} (record { a = 0; b = 0; c = p; d = q }) (residues_at f w j)
  loaded_1 e = rw (e, ep, eq)

  pub loaded_2 : f ≡ family.Gamma → ◌≡◌ {A = Residues} (record { a = p / 64; b = p % 64; c = q / 64; d = q % 64 }) (residues_at f w j)
  loaded_2 e = rw (e, ep, eq)

module _ {f : Family} (w : List ℕ) (i : ℕ) (x : Residues) where
  pub laid_0 : f ≡ family.Gamma0 → set (set w (ROW_C + i) x.c) (ROW_D + i) x.d ≡ with_row f w i x
  laid_0 e = rw e

pub prepared_0 : {f : Family} {n : ℕ} {w w' : List ℕ} → f ≡ family.Gamma0 → ColumnsMade n w w' → ColumnsReady f n w w'
prepared_0 e a = rw e (record { same = a.same; below = a.below; columns = a.columns })

pub prepared_1 : {f : Family} (n : ℕ) (w : List ℕ) → f ≡ family.Gamma1 → ColumnsReady f n w w
prepared_1 n w e = rw e (record { same = refl; below = λ p h. refl; columns = tt })

pub prepared_2 : {f : Family} (n : ℕ) (w : List ℕ) → f ≡ family.Gamma → ColumnsReady f n w w
prepared_2 n w e = rw e (record { same = refl; below = λ p h. refl; columns = tt })
