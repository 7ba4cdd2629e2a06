-- Laws for the functions that fill the work space.
--
-- In order: which places are positions, and that the others stay (`corner_real`, `odd_real`, `face_still`); the S images (`moved-…`), the
-- R images (`turned-…`); what `numbering` asks for (`filled`).
-- Assumes nothing.
use mathlib.Core.Path.{◌≡◌, refl, sym, ◌∙◌, ap}
use mathlib.Core.Logic.{inl, inr}
use mathlib.Core.Bool.{Bool, true, false, ◌||◌}
use mathlib.Core.List.{List}
use Prim.Native.Nat.{ℕ, ◌+◌, ◌-◌, ◌*◌, ◌%◌, ◌≤◌, ◌<◌}
use native.Mathlib.Omega.{arith}
use native.Mathlib.Decide.{dec_lt}
use native.Mathlib.Numerals.{add-one}
use lib.Dec.{ltb, eqb}
use lib.ListN.{length, get_or, set, length-set}
use lib.Seq.{get_or-set_same, get_or-set_other, get_or-drop}
use lib.IntN.{ℤ, pos}
use borrow.Author.Tests.{lt-ltb, le-ltb, ltb-true}
use borrow.Author.Count.{below_more}
use Rattle.basics.specs.Choice.{pick}
use Rattle.matrix.specs.Matrix.{nth}
use Rattle.call.specs.Space.{work_length}
use Rattle.symbol.specs.Table.{pairing_entry, pairing_of}
use Rattle.symbol.specs.Symbol.{IsSymbol}
use Rattle.pairing.specs.Generator.{pairing_at}
use Rattle.symbol.specs.declared.Pairing.{Pairing}
use Rattle.symbol.specs.declared.Pairing.TheVariants.{Even, Odd, Free, Bad}
use Rattle.basics.proofs.Choice.{either}
use Rattle.polygon.specs.Cut.{corners, places, flip_of}
use Rattle.polygon.specs.Step.{odd_at, real, Real, step_s, turn_q, turned, start_of, origin_of}
use Rattle.polygon.specs.Theorem.{Polygon}
use Rattle.polygon.specs.Inner.Partners.{PartnersHeld, Numbered}
use Rattle.polygon.specs.Inner.Tables.{PolygonTables}
use Rattle.polygon.proofs.Space.{still}
use Rattle.polygon.proofs.Partners.{tables_set}
use Rattle.polygon.proofs.Polygon.{polygon}
use Rattle.polygon.proofs.SymbolFacts.{Kind, even, odd, free, kind}
use Rattle.numbering.specs.Inner.Space.{SIGMA, RHO}
use Rattle.numbering.specs.Inner.Marks.{MapsFilled}
use Rattle.coset.specs.Tables.{step_r}
use Rattle.coset.specs.Inner.Work.{FilledS, Inside, FilledR}
use Rattle.coset.proofs.Theorem.{maps}

-- ---- which places are positions

abbrev odd_by : Pairing → Bool
odd_by Even = false
odd_by Odd = true
odd_by (Free l) = false
odd_by Bad = false

odd_is : (v : ℕ) (t : List ℤ) → IsSymbol v t → (i : ℕ) → i ≤ v → odd_at v t i ≡ odd_by (pairing_at v t i)
odd_is v t ok i h = go (kind v t ok i h)
  where
    go : Kind v t i → odd_at v t i ≡ odd_by (pairing_at v t i)
    go (even e o) = o ∙ sym (ap odd_by e)
    go (odd e o) = o ∙ sym (ap odd_by e)
    go (free l e o m) = o ∙ sym (ap odd_by e)

pub corner_real : (v : ℕ) (t : List ℤ) (p : ℕ) → p < corners v → Real v t p
unfolding real
corner_real v t p h = ap (λ (b : Bool). b || odd_at v t (p - corners v)) (lt-ltb p (corners v) h)

-- an outer face is a position exactly where its side is odd
face_real : (v : ℕ) (t : List ℤ) → IsSymbol v t → (p : ℕ) → corners v ≤ p → p < places v → real v t p ≡ odd_by (pairing_at v t (p - corners v))
unfolding real
face_real v t ok p h k =
    ap (λ (b : Bool). b || odd_at v t (p - corners v)) (le-ltb p (corners v) h) ∙ odd_is v t ok (p - corners v) (omega arith)

-- the entry that the code reads there
pub face_entry : (v : ℕ) (t : List ℤ) (p : ℕ) → nth t (2 * v + (p - corners v)) ≡ pairing_entry v t (p - corners v)
face_entry v t p = sym (get_or-drop (2 * v) t (p - corners v) (pos 0))

module _ (v : ℕ) (t : List ℤ) (ok : IsSymbol v t) (p : ℕ) (h : corners v ≤ p) (k : p < places v) where
  pub odd_real : pairing_at v t (p - corners v) ≡ Odd → Real v t p
  odd_real e = face_real v t ok p h k ∙ ap odd_by e

  pub face_still : (q : Pairing) → pairing_at v t (p - corners v) ≡ q → odd_by q ≡ false → p ≡ step_s v t p
  unfolding step_s
  face_still q e f = let z : real v t p ≡ false = face_real v t ok p h k ∙ ap odd_by e ∙ f in rw z

-- ---- the position that stands for H

module _ (v : ℕ) (t : List ℤ) where
  pub origin_turned : (start : ℕ) → start ≡ start_of v t → turned v t ≡ true → step_s v t start ≡ origin_of v t
  unfolding origin_of
  origin_turned start e f = rw f (ap (step_s v t) e)

  pub origin_start : turned v t ≡ false → start_of v t ≡ origin_of v t
  unfolding origin_of
  origin_start f = rw f

-- ---- S images

pub image_low : {t : List ℤ} {v : ℕ} {w : List ℕ} (p : ℕ) → PolygonTables t v w → p < places v → step_s v t p < places v
image_low {t} {v} p g h = (maps v t (polygon v t g.symbol)).σ_low p h

pub moved_none : {t : List ℤ} {v : ℕ} {w : List ℕ} → PolygonTables t v w → FilledS t v w 0
moved_none g = record { tables = g; images = λ p h. absurd (omega arith) }

pub moved_more : {t : List ℤ} {v : ℕ} {w : List ℕ} (p q : ℕ) → FilledS t v w p → p < places v → q ≡ step_s v t p → FilledS t v (set w (SIGMA + p) q) (p + 1)
moved_more {t} {v} {w} p q m h e =
    let most = m.tables.symbol.most in
    let long = m.tables.long in
    record {
      tables = tables_set (SIGMA + p) q m.tables (omega arith) (omega arith);
      images = below_more _ p (λ j b. get_or-set_other w (SIGMA + p) (SIGMA + j) q 0 (λ z. omega arith) ∙ m.images j b)
          (get_or-set_same w (SIGMA + p) q 0 (omega arith) ∙ e);
    }

pub moved_all : {t : List ℤ} {v : ℕ} {w : List ℕ} (p : ℕ) → FilledS t v w p → p ≡ places v → FilledS t v w (places v)
moved_all p m e = rw (sym e) m

-- ---- R images

pub turn_low : (v a : ℕ) → 1 ≤ v → a < places v → turn_q v a < places v
unfolding turn_q
turn_low v a some h = elim (either (ltb a (corners v))) [
  | inl e ↦ (let b = ltb-true a (corners v) e in rw e (elim (either (eqb (a % 3) 2)) [ inl f ↦ rw f (omega arith) | inr f ↦ rw f (omega arith) ]))
  | inr e ↦ rw e h
]

pub turned_none : (v : ℕ) (w : List ℕ) → FilledR v w w 0
turned_none v w = record { same = refl; images = λ p h. refl; turns = λ p h. absurd (omega arith) }

module _ {v : ℕ} {w₀ w : List ℕ} {p : ℕ} (inside : Inside v w₀) (g : FilledR v w₀ w p) (h : p < places v) (a b c : ℕ) (e : a ≡ get_or w (SIGMA + p) 0)
    (f : b ≡ turn_q v a) (k : c ≡ turn_q v b) where
  a_is : a ≡ get_or w₀ (SIGMA + p) 0
  a_is = e ∙ g.images p h

  c_is : c ≡ turn_q v (turn_q v (get_or w₀ (SIGMA + p) 0))
  c_is = k ∙ ap (turn_q v) (f ∙ ap (turn_q v) a_is)

  pub c_low : c < places v
  c_low = rw c_is (turn_low v (turn_q v (get_or w₀ (SIGMA + p) 0)) inside.some (turn_low v (get_or w₀ (SIGMA + p) 0) inside.some (inside.low p h)))

  pub turned_more : FilledR v w₀ (set w (RHO + p) (get_or w (SIGMA + c) 0)) (p + 1)
  turned_more =
      let most = inside.most in
      let long = inside.long in
      let same = g.same in
      let x = get_or w (SIGMA + c) 0 in
      record {
        same = length-set w (RHO + p) x ∙ g.same;
        images = λ j b. get_or-set_other w (RHO + p) (SIGMA + j) x 0 (λ z. omega arith) ∙ g.images j b;
        turns = below_more _ p (λ j b. get_or-set_other w (RHO + p) (RHO + j) x 0 (λ z. omega arith) ∙ g.turns j b)
            (get_or-set_same w (RHO + p) x 0 (omega arith) ∙ g.images c c_low ∙ ap (λ (y : ℕ). get_or w₀ (SIGMA + y) 0) c_is);
      }

pub turned_all : {v : ℕ} {w₀ w : List ℕ} (p : ℕ) → FilledR v w₀ w p → p ≡ places v → FilledR v w₀ w (places v)
turned_all p g e = rw (sym e) g

-- ---- what `numbering` asks for, and leaves

pub inside : {t : List ℤ} {v : ℕ} {w : List ℕ} → FilledS t v w (places v) → Inside v w
inside {t} {v} {w} m = record {
  some = m.tables.symbol.some;
  most = m.tables.symbol.most;
  long = m.tables.long;
  low = λ p h. rw (m.images p h) (image_low p m.tables h);
}

pub filled : {t : List ℤ} {v : ℕ} {w w' : List ℕ} → FilledS t v w (places v) → FilledR v w w' (places v) → MapsFilled (step_s v t) (step_r v t) (places v) w'
unfolding step_r
filled {t} {v} {w} {w'} m g =
    let most = m.tables.symbol.most in
    let some = m.tables.symbol.some in
    record {
      long = still g.same m.tables.long;
      room = omega arith;
      σ_is = λ p h. g.images p h ∙ m.images p h;
      ρ_is = λ p h.
          let a = turn_low v (turn_q v (step_s v t p)) some (turn_low v (step_s v t p) some (image_low p m.tables h)) in
          g.turns p h ∙ ap (λ (x : ℕ). get_or w (SIGMA + turn_q v (turn_q v x)) 0) (m.images p h) ∙ m.images (turn_q v (turn_q v (step_s v t p))) a;
    }
