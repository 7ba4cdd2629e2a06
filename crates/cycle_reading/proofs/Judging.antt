-- What the code says of a whole text: by its two readers behind the index, or by what stands where the index should be.
--     behind-through, behind-lost                what is said of the text by its two readers
--     index-low, index-high, index-between       a number of any length by its value up to 3,067
--     verdict-out, verdict-end, verdict-mark     no index: a number out of range, the text's end, another piece
--     out-low, out-high, index-here              the number that the code reads at the front
-- Assumes nothing.
use mathlib.Core.Path.{◌≡◌, refl, sym, ap, subst, ◌∙◌}
use mathlib.Core.Bool.{Bool, true, false, not, ◌&&◌}
use mathlib.Core.List.{List, [], ◌∷◌}
use Prim.Native.Nat.{ℕ, ◌+◌, ◌≤◌, ◌<◌, min}
use native.Mathlib.Omega.{arith}
use lib.Dec.{eqb, leb}
use lib.ListN.{length, get_or, drop}
use borrow.Author.Tests.{lt-leb, le-leb, ne_eqb}
use Rattle.basics.specs.Choice.{pick}
use Rattle.basics.proofs.Choice.{pick_true, pick_false}
use Rattle.cycle_notation.specs.Piece.{CyclePiece, number, blank, opening, closing, comma, semicolon, another, mark, PlacedPiece, digit_byte, run_value}
use Rattle.cycle_notation.specs.Piece.{cycle_pieces, without_offsets}
use Rattle.cycle_notation.specs.Form.{in_range}
use Rattle.cycle_notation.specs.Verdict.{Read, Verdict, index_out, leaves}
use Rattle.cycle_notation.specs.Inner.Reader.{State, front, dead, indexed, read_all, read_outcome, is_dead, lost, bad_index, either_read, verdict_of}
use Rattle.cycle_notation.proofs.Back.{run_dead}
use Rattle.cycle_reading.specs.declared.Digits.{Digits}
use Rattle.std.specs.Prelude.{Result, Ok, Err, Option, None}
use Rattle.call.specs.Refusal.{Filled}
use Rattle.call.specs.declared.refusal.Refusal.TheVariants.{PointCount, BadCycles}
use Rattle.cycle_reading.specs.Inner.Hand.{pieces_left, DigitsRead}
use Rattle.cycle_reading.specs.Inner.Alone.{Alone, fails, through, alone_of, either, AloneRead, died}
use Rattle.cycle_reading.specs.Inner.Front.{FrontSame, verdict_behind, answered, VerdictRead}
use Rattle.cycle_reading.proofs.Left.{number_left, mark_left, run_inside}
use Rattle.cycle_reading.proofs.Loop.{none_left}
use Rattle.cycle_reading.proofs.Fronts.{verdict_alone}
use Rattle.cycle_reading.proofs.Both.{lost_later, later, later_left}

clash : {X : Type 0} → ◌≡◌ {A = ℕ} 0 1 → X
clash e = absurd (omega arith)

fails_same : {a b : ℕ} → ◌≡◌ {A = Result (Unit {0}) ℕ} (Err a) (Err b) → a ≡ b
fails_same e = cc

-- ---- the two readers, one after the other

module _ (n : ℕ) (s r : List ℕ) (a : Alone) where
  pub behind_through : AloneRead a (Ok tt) s r → VerdictRead (verdict_behind n a) (Ok n) s r
  behind_through h = go a h
    where
      go : (a : Alone) → AloneRead a (Ok tt) s r → VerdictRead (verdict_behind n a) (Ok n) s r
      go (through sc rc) h = record { returned = refl; kept = h.kept }
      go (fails y) h = let q = h.returned in clash (cc)

  pub behind_lost : (place : ℕ) → AloneRead a (Err place) s r → VerdictRead (verdict_behind n a) (Err (BadCycles place)) s r
  behind_lost place h = go a h
    where
      go : (a : Alone) → AloneRead a (Err place) s r → VerdictRead (verdict_behind n a) (Err (BadCycles place)) s r
      go (through sc rc) h = let q = h.returned in clash (cc)
      go (fails y) h = record { returned = ap (λ (p : ℕ). Err (BadCycles p)) (fails_same h.returned); kept = tt }

-- ---- a number of any length

module _ (m v : ℕ) (v_is : v ≡ min m 3067) where
  pub index_low : v < 1 → in_range m ≡ false
  index_low l = ap (λ (b : Bool). b && leb m 3066) (lt-leb 1 m (omega arith))

  pub index_high : 3066 < v → in_range m ≡ false
  index_high l = go (leb 1 m) ∙ lt-leb m 3066 (omega arith)
    where
      go : (b : Bool) → (b && leb m 3066) ≡ leb m 3066
      go true = refl
      go false = sym (lt-leb m 3066 (omega arith))

  pub index_between : 1 ≤ v → v ≤ 3066 → (m ≡ v) × (in_range v ≡ true)
  index_between l h = (omega arith, ap (λ (b : Bool). b && leb v 3066) (le-leb 1 v l) ∙ le-leb v 3066 h)

-- ---- no index

answered_as : (t : List ℕ) (v : Verdict) (s r : List ℕ) → verdict_of t ≡ v → VerdictRead v (answered v) s r → VerdictRead (verdict_of t) (answered v) s r
answered_as t v s r e h = subst (λ (w : Verdict). VerdictRead w (answered v) s r) (sym e) h

module _ (t : List ℕ) (at : ℕ) (f : FrontSame t at) (s r : List ℕ) where
  -- both readers are lost at a place, or at the text's end
  none_reads : (place : ℕ) → bad_index (without_offsets (pieces_left t at)) ≡ false
      → ((semi : Bool) → read_outcome (read_all semi front (without_offsets (pieces_left t at))) ≡ None)
      → ((semi : Bool) → died semi front (pieces_left t at) (length t) ≡ place) → verdict_of t ≡ leaves place
  unfolding verdict_of cycle_pieces pieces_left
  none_reads place b o d =
      pick_false (bad_index (without_offsets (pieces_left t 0))) _ _ (f.bad ∙ b)
      ∙ ap (λ (x : Option Read). either_read x (read_outcome (read_all false front (without_offsets (pieces_left t 0)))) (lost front front (pieces_left t 0) (length t)))
      (ap read_outcome (f.runs true) ∙ o true)
      ∙ ap (λ (x : Option Read). either_read None x (lost front front (pieces_left t 0) (length t))) (ap read_outcome (f.runs false) ∙ o false)
      ∙ ap leaves (lost_later t (pieces_left t 0) 0 front front refl (omega arith)
      ∙ ap (λ (k : ℕ). later k (died false front (pieces_left t 0) (length t))) (f.dies true (length t) ∙ d true)
      ∙ ap (later place) (f.dies false (length t) ∙ d false)
      ∙ later_left place place (omega arith))

  pub verdict_out : (n to : ℕ) → pieces_left t at ≡ record { at = at; piece = number n } ∷ pieces_left t to → in_range n ≡ false
      → VerdictRead (verdict_of t) (Err PointCount) s r
  unfolding verdict_of cycle_pieces pieces_left without_offsets bad_index
  verdict_out n to here i =
      answered_as t index_out s r
      (pick_true (bad_index (without_offsets (pieces_left t 0))) _ _
      (f.bad ∙ ap (λ (ps : List PlacedPiece). bad_index (without_offsets ps)) here ∙ ap not i))
      (record { returned = refl; kept = tt })

  pub verdict_end : at ≡ length t → VerdictRead (verdict_of t) (Err (BadCycles at)) s r
  unfolding read_all without_offsets bad_index died
  verdict_end e =
      let here : pieces_left t at ≡ [] = none_left t at e in
      answered_as t (leaves at) s r
      (none_reads at (ap (λ (ps : List PlacedPiece). bad_index (without_offsets ps)) here)
      (λ semi. ap (λ (ps : List PlacedPiece). read_outcome (read_all semi front (without_offsets ps))) here)
      (λ semi. ap (λ (ps : List PlacedPiece). died semi front ps (length t)) here ∙ sym e))
      (record { returned = refl; kept = tt })

-- a piece that is neither a number nor a blank
module _ (b : ℕ) (other : ¬ (b ≡ 32)) where
  abbrev marked : (v w x y z : Bool) → CyclePiece
  marked v w x y z = pick v blank (pick w opening (pick x closing (pick y comma (pick z semicolon another))))

  mark_is : mark b ≡ marked false (eqb b 40) (eqb b 41) (eqb b 44) (eqb b 59)
  mark_is = ap (λ (v : Bool). marked v (eqb b 40) (eqb b 41) (eqb b 44) (eqb b 59)) (ne_eqb b 32 other)

  mark_lost : indexed (mark b) ≡ dead
  mark_lost = ap indexed mark_is ∙ go (eqb b 40) (eqb b 41) (eqb b 44) (eqb b 59)
    where
      go : (w x y z : Bool) → indexed (marked false w x y z) ≡ dead
      go true x y z = refl
      go false true y z = refl
      go false false true z = refl
      go false false false true = refl
      go false false false false = refl

  mark_good : (ps : List CyclePiece) → bad_index (mark b ∷ ps) ≡ false
  unfolding bad_index
  mark_good ps = ap (λ (p : CyclePiece). bad_index (p ∷ ps)) mark_is ∙ go (eqb b 40) (eqb b 41) (eqb b 44) (eqb b 59)
    where
      go : (w x y z : Bool) → bad_index (marked false w x y z ∷ ps) ≡ false
      go true x y z = refl
      go false true y z = refl
      go false false true z = refl
      go false false false true = refl
      go false false false false = refl

module _ (t : List ℕ) (at : ℕ) (f : FrontSame t at) (l : at < length t) (s r : List ℕ) where
  pub verdict_mark : ¬ (get_or t at 0 ≡ 32) → digit_byte (get_or t at 0) ≡ false → VerdictRead (verdict_of t) (Err (BadCycles at)) s r
  unfolding read_all without_offsets died
  verdict_mark other d =
      let here : pieces_left t at ≡ record { at = at; piece = mark (get_or t at 0) } ∷ pieces_left t (at + 1) = mark_left t at l d in
      answered_as t (leaves at) s r
      (none_reads t at f s r at
      (ap (λ (ps : List PlacedPiece). bad_index (without_offsets ps)) here ∙ mark_good (get_or t at 0) other (without_offsets (pieces_left t (at + 1))))
      (λ semi. ap (λ (ps : List PlacedPiece). read_outcome (read_all semi front (without_offsets ps))) here
      ∙ ap (λ (q : State). read_outcome (read_all semi q (without_offsets (pieces_left t (at + 1))))) (mark_lost (get_or t at 0) other)
      ∙ ap read_outcome (run_dead semi (without_offsets (pieces_left t (at + 1)))))
      (λ semi. ap (λ (ps : List PlacedPiece). died semi front ps (length t)) here
      ∙ ap (λ (q : State). pick (is_dead q) at (died semi q (pieces_left t (at + 1)) (length t))) (mark_lost (get_or t at 0) other)))
      (record { returned = refl; kept = tt })

-- ---- the number at the front, as the code reads it

module _ (t : List ℕ) (at : ℕ) (f : FrontSame t at) (l : at < length t) (e : digit_byte (get_or t at 0) ≡ true) (d : Digits) (D : DigitsRead t at d)
    (s r : List ℕ) where
  abbrev value : ℕ
  value = run_value 0 (drop at t)

  here_is : pieces_left t at ≡ record { at = at; piece = number value } ∷ pieces_left t d.to
  here_is = number_left t at l e ∙ ap (λ (k : ℕ). record { at = at; piece = number value } ∷ pieces_left t k) (sym D.to_is)

  pub out_low : d.value < 1 → VerdictRead (verdict_of t) (Err PointCount) s r
  out_low h = verdict_out t at f s r value d.to here_is (index_low value d.value D.value_is h)

  pub out_high : 3066 < d.value → VerdictRead (verdict_of t) (Err PointCount) s r
  out_high h = verdict_out t at f s r value d.to here_is (index_high value d.value D.value_is h)

  pub to_inside : d.to ≤ length t
  to_inside = omega (arith, D.to_is, run_inside t at (omega arith))

  pub index_here : 1 ≤ d.value → d.value ≤ 3066 → (o : Filled)
      → VerdictRead (verdict_behind d.value (either (alone_of true d.value t d.to) (alone_of false d.value t d.to))) o s r → VerdictRead (verdict_of t) o s r
  index_here h k o v =
      let b = index_between value d.value D.value_is h k in
      subst (λ (w : Verdict). VerdictRead w o s r)
      (sym (verdict_alone t at d.to d.value f (here_is ∙ ap (λ (m : ℕ). record { at = at; piece = number m } ∷ pieces_left t d.to) b.0) b.1)) v
