-- Laws for the functions that fill the table of generator numbers.
--
-- In order: numbers: the start, a leading side, a side that follows, the end; what they leave alone; one side, as the code has it; the
-- tables together, and beside a number stored elsewhere (`tables_set`).
-- Assumes nothing.
use mathlib.Core.Path.{◌≡◌, refl, sym, ◌∙◌, ap}
use mathlib.Core.Bool.{Bool, true, false}
use mathlib.Core.List.{List}
use Prim.Native.Nat.{ℕ, suc, ◌+◌, ◌≤◌, ◌<◌}
use native.Mathlib.Omega.{arith}
use native.Mathlib.Numerals.{add-one}
use lib.Dec.{ltb}
use lib.ListN.{length, get_or, set, length-set}
use lib.Seq.{get_or-set_same, get_or-set_other}
use lib.IntN.{ℤ}
use borrow.Author.Tests.{ltb-false}
use borrow.Author.Count.{below_more}
use Rattle.basics.specs.Choice.{pick}
use Rattle.basics.specs.Count.{count}
use Rattle.symbol.specs.Table.{pairing_entries}
use Rattle.pairing.specs.Inner.Work as pairing
use Rattle.symbol.specs.Symbol.{IsSymbol}
use Rattle.pairing.specs.Generator.{partner, pairing_at, is_leader, is_leader_by, generator_number}
use Rattle.symbol.specs.declared.Pairing.{Pairing}
use Rattle.symbol.specs.declared.Pairing.TheVariants.{Free}
use Rattle.polygon.specs.Cut.{places}
use Rattle.polygon.specs.Inner.Space.{GENERATOR, Above}
use Rattle.pairing.specs.Inner.Work.{PARTNER}
use Rattle.polygon.specs.Inner.Scanning.{CutLeft}
use Rattle.polygon.specs.Inner.Partners.{PartnersHeld, NumberedTo, Numbered}
use Rattle.polygon.specs.Inner.Tables.{PolygonTables}
use Rattle.polygon.proofs.Space.{table_above, still}
use Rattle.basics.proofs.Choice.{clash}
use Rattle.polygon.proofs.SymbolFacts.{count_most, Kind, even, odd, free, kind, number_mate}

module _ (t : List ℤ) (v : ℕ) (ok : IsSymbol v t) where
  module _ (w : List ℕ) (i n : ℕ) (p : NumberedTo t v w i n) (h : i ≤ v) where
    -- the number x is stored for side i
    numbered_more : (x : ℕ) (c : ℕ) → x ≡ generator_number v t i → c ≡ count (is_leader v t) (suc i) → NumberedTo t v (set w (GENERATOR + i) x) (i + 1) c
    numbered_more x c e f = record {
      long = still (length-set w (GENERATOR + i) x) p.long;
      partnered = record {
        partners = λ j l b k. get_or-set_other w (GENERATOR + i) (PARTNER + j) x 0 (let m = ok.most in λ z. omega arith)
            ∙ p.partnered.partners j l b k;
      };
      count = f ∙ ap (count (is_leader v t)) (sym (add-one i));
      numbers = below_more _ i (λ j b. get_or-set_other w (GENERATOR + i) (GENERATOR + j) x 0 (λ z. omega arith) ∙ p.numbers j b)
          (get_or-set_same w (GENERATOR + i) x 0 (let m = ok.most in omega (arith, p.long)) ∙ e);
    }

    pub numbered_leads : is_leader v t i ≡ true → NumberedTo t v (set w (GENERATOR + i) (n + 1)) (i + 1) (n + 1)
    numbered_leads e = numbered_more (n + 1) (n + 1)
        (ap (λ (k : ℕ). k + 1) p.count ∙ ap (λ (b : Bool). count (is_leader v t) (pick b i (partner v t i)) + 1) (sym e))
        (ap (λ (k : ℕ). k + 1) p.count ∙ ap (λ (b : Bool). count (is_leader v t) i + pick b 1 0) (sym e))

    -- a side that doesn't lead is the second of a pair
    pub follows : is_leader v t i ≡ false → (partner v t i < i) × (generator_number v t i ≡ generator_number v t (partner v t i))
        × (get_or w (PARTNER + i) 0 ≡ partner v t i)
    follows e = go (kind v t ok i h)
      where
        go : Kind v t i → (partner v t i < i) × (generator_number v t i ≡ generator_number v t (partner v t i)) × (get_or w (PARTNER + i) 0 ≡ partner v t i)
        go (even k o) = clash (ap (λ (x : Pairing). is_leader_by x i (partner v t i)) k) e
        go (odd k o) = clash (ap (λ (x : Pairing). is_leader_by x i (partner v t i)) k) e
        go (free l k o m) =
            let j = partner v t i in
            let b : ltb i j ≡ false = sym (ap (λ (x : Pairing). is_leader_by x i j) k) ∙ e in
            let c = ltb-false i j b in
            let d : j < i = let z = m.other in omega arith in (
              d,
              number_mate v t i l k m d,
              p.partnered.partners i l h k,
            )

    pub numbered_follows : (k : ℕ) → is_leader v t i ≡ false → k ≡ get_or w (PARTNER + i) 0
        → NumberedTo t v (set w (GENERATOR + i) (get_or w (GENERATOR + k) 0)) (i + 1) n
    numbered_follows k e f =
        let g = follows e in
        let z : k ≡ partner v t i = f ∙ g.2 in
        numbered_more (get_or w (GENERATOR + k) 0) n (ap (λ (x : ℕ). get_or w (GENERATOR + x) 0) z ∙ p.numbers (partner v t i) g.0 ∙ sym g.1)
        (p.count ∙ let y : count (is_leader v t) i ≡ count (is_leader v t) i + 0 = omega arith in
        y ∙ ap (λ (b : Bool). count (is_leader v t) i + pick b 1 0) (sym e))

-- ---- what they leave alone

pub above_refl : (w : List ℕ) → Above w w
above_refl w = record { same = refl; below = λ k h. refl }

pub above_trans : (a b c : List ℕ) → Above a b → Above b c → Above a c
above_trans a b c f g = record { same = g.same ∙ f.same; below = λ k h. g.below k h ∙ f.below k h }

pub above_set : (a b : List ℕ) (i x : ℕ) → Above a b → 28672 ≤ i → Above a (set b i x)
above_set a b i x f h = record { same = length-set b i x ∙ f.same; below = λ k l. get_or-set_other b i k x 0 (λ e. omega arith) ∙ f.below k l }

-- ---- one side, as the code has it

pub leads_by : (v : ℕ) (t : List ℤ) (i : ℕ) (k : Pairing) → pairing_at v t i ≡ k → is_leader_by k i (partner v t i) ≡ is_leader v t i
leads_by v t i k e = rw e

pub leads_free : (v : ℕ) (t : List ℤ) (w : List ℕ) (i l k : ℕ) → PartnersHeld t v w → i ≤ v → pairing_at v t i ≡ Free l → k ≡ get_or w (PARTNER + i) 0
    → ltb i k ≡ is_leader v t i
leads_free v t w i l k p h e f = ap (ltb i) (f ∙ p.partners i l h e) ∙ leads_by v t i (Free l) e

pub number_count : (t : List ℤ) (v : ℕ) (w : List ℕ) (i n : ℕ) → NumberedTo t v w i n → n ≤ i
number_count t v w i n p = rw p.count (count_most (is_leader v t) i)

-- ---- the tables together

pub partnered_in : {t : List ℤ} {v : ℕ} {w : List ℕ} → pairing.Partnered v (pairing_entries v t) w → PartnersHeld t v w
partnered_in q = record { partners = q.partners }

pub tables_built : {t : List ℤ} {v : ℕ} {w w' : List ℕ} {under : ℕ} → IsSymbol v t → 32768 ≤ length w → PartnersHeld t v w → Numbered t v w
    → CutLeft t v w w' under → PolygonTables t v w'
tables_built ok long p n c = record {
  symbol = ok;
  long = still c.frame.same long;
  flips = c.flips;
  partnered = record { partners = λ i l h e. c.frame.high (PARTNER + i) (omega arith) ∙ p.partners i l h e };
  numbered = record { numbers = λ i h. c.frame.high (GENERATOR + i) (omega arith) ∙ n.numbers i h };
}

pub tables_set : {t : List ℤ} {v : ℕ} {w : List ℕ} (k x : ℕ) → PolygonTables t v w → 8192 ≤ k → k < 28672 → PolygonTables t v (set w k x)
tables_set {t} {v} {w} k x g low high =
    let most = g.symbol.most in
    record {
      symbol = g.symbol;
      long = still (length-set w k x) g.long;
      flips = table_above 4096 (places v) w k x (omega arith) ∙ g.flips;
      partnered = record { partners = λ i l h e. get_or-set_other w k (30720 + i) x 0 (λ z. omega arith) ∙ g.partnered.partners i l h e };
      numbered = record { numbers = λ i h. get_or-set_other w k (31744 + i) x 0 (λ z. omega arith) ∙ g.numbered.numbers i h };
    }
