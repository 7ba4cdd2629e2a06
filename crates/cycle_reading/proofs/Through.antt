-- The reader through one permutation is the reader through the text, up to where the permutation is over.
-- Assumes nothing.
use mathlib.Core.Path.{◌≡◌, refl, sym, ap, subst, ◌∙◌}
use mathlib.Core.Bool.{Bool, true, false}
use mathlib.Core.List.{List, [], ◌∷◌}
use Prim.Native.Nat.{ℕ, ◌+◌, ◌≤◌, ◌<◌}
use native.Mathlib.Omega.{arith}
use native.Mathlib.Decide.{dec_lt}
use lib.ListN.{length, get_or, drop, drop_of_length-le}
use Rattle.basics.specs.Choice.{pick}
use Rattle.basics.proofs.Choice.{pick_false, clash}
use Rattle.cycle_notation.specs.Piece.{CyclePiece, number, blank, opening, closing, comma, semicolon, another, PlacedPiece, digit_byte}
use Rattle.cycle_notation.specs.Piece.{cycle_pieces_from, without_offsets}
use Rattle.cycle_notation.specs.Form.{free}
use Rattle.cycle_notation.specs.Inner.Reader.{Phase, start, opened, empty, point, wanted, closed, PartTurn, on, over, stop, turn_of, State, dead, WithinPart}
use Rattle.cycle_notation.specs.Inner.Reader.{after, read_piece, read_all, is_dead, may_end}
use Rattle.cycle_notation.proofs.Along.{Steps}
use Rattle.cycle_notation.proofs.Back.{run_dead}
use Rattle.cycle_reading.specs.Inner.Hand.{pieces_left, digit_run}
use Rattle.cycle_reading.specs.Inner.PartRun.{PartOut, lost, passed, ended, part_run}
use Rattle.cycle_reading.specs.Inner.Alone.{died}
use Rattle.cycle_reading.proofs.Left.{number_left, mark_left, digits_more, run_inside}
use Rattle.cycle_reading.proofs.Loop.{run_turn, run_after}

-- ---- the pieces from an offset on

abbrev is_number : CyclePiece → Bool
is_number (number x) = true
is_number blank = false
is_number opening = false
is_number closing = false
is_number comma = false
is_number semicolon = false
is_number another = false

-- a piece has the offset where it begins, and a mark is one byte
pub record Next (t : List ℕ) (o : ℕ) (p : PlacedPiece) (ps : List PlacedPiece) : Type 0 where
  pub to : ℕ
  pub at_is : p.at ≡ o
  pub rest : ps ≡ pieces_left t to
  pub one : is_number p.piece ≡ false → to ≡ o + 1
  pub onward : o < to
  pub inside : to ≤ length t

module _ {A : Type 0} where
  head_same : {x y : A} {l m : List A} → x ∷ l ≡ y ∷ m → x ≡ y
  head_same e = cc

  tail_same : {x y : A} {l m : List A} → x ∷ l ≡ y ∷ m → l ≡ m
  tail_same e = cc

  none_some : {x : A} {l : List A} {X : Type 0} → [] ≡ x ∷ l → X
  none_some e = let z : ◌≡◌ {A = ℕ} 0 1 = cc in absurd (omega arith)

pub next_of : (t : List ℕ) (o : ℕ) (p : PlacedPiece) (ps : List PlacedPiece) → pieces_left t o ≡ p ∷ ps → Next t o p ps
unfolding pieces_left cycle_pieces_from
next_of t o p ps e = elim (dec_lt o (length t)) [
  | yes l ↦ go l (digit_byte (get_or t o 0)) refl
  | no l ↦ none_some (sym (ap (cycle_pieces_from o false) (drop_of_length-le t {i = o} (omega arith))) ∙ e)
]
  where
    go : o < length t → (d : Bool) → digit_byte (get_or t o 0) ≡ d → Next t o p ps
    go l true f =
        let z = sym (number_left t o l f) ∙ e in record {
          to = o + digit_run (drop o t);
          at_is = ap (λ (k : PlacedPiece). k.at) (sym (head_same z));
          rest = sym (tail_same z);
          one = λ g. clash (ap (λ (k : PlacedPiece). is_number k.piece) (sym (head_same z))) g;
          onward = omega (arith, digits_more t o l f);
          inside = run_inside t o (omega arith);
        }
    go l false f =
        let z = sym (mark_left t o l f) ∙ e in record {
          to = o + 1;
          at_is = ap (λ (k : PlacedPiece). k.at) (sym (head_same z));
          rest = sym (tail_same z);
          one = λ g. refl;
          onward = omega arith;
          inside = omega arith;
        }

not_over : {X : Type 0} (b : Bool) (ph : Phase) (seen cur : List ℕ) (done : List (List ℕ)) → pick b (on ph seen cur done) stop ≡ over → X
not_over true ph seen cur done e = let z : ◌≡◌ {A = ℕ} 0 1 = cc in absurd (omega arith)
not_over false ph seen cur done e = let z : ◌≡◌ {A = ℕ} 0 1 = cc in absurd (omega arith)

-- only a mark is behind a permutation
over_mark : (semi : Bool) (n : ℕ) (seen cur : List ℕ) (done : List (List ℕ)) (ph : Phase) (q : CyclePiece) → turn_of semi n seen cur done ph q ≡ over
    → is_number q ≡ false
over_mark semi n seen cur done ph blank e = refl
over_mark semi n seen cur done ph opening e = refl
over_mark semi n seen cur done ph closing e = refl
over_mark semi n seen cur done ph comma e = refl
over_mark semi n seen cur done ph semicolon e = refl
over_mark semi n seen cur done ph another e = refl
over_mark semi n seen cur done start (number x) e = let z : ◌≡◌ {A = ℕ} 0 1 = cc in absurd (omega arith)
over_mark semi n seen cur done empty (number x) e = let z : ◌≡◌ {A = ℕ} 0 1 = cc in absurd (omega arith)
over_mark semi n seen cur done point (number x) e = let z : ◌≡◌ {A = ℕ} 0 1 = cc in absurd (omega arith)
over_mark semi n seen cur done closed (number x) e = let z : ◌≡◌ {A = ℕ} 0 1 = cc in absurd (omega arith)
over_mark semi n seen cur done opened (number x) e = not_over (free n seen x) _ _ _ _ e
over_mark semi n seen cur done wanted (number x) e = not_over (free n seen x) _ _ _ _ e

-- ---- the reader through the text

module _ (semi : Bool) (n : ℕ) (within : WithinPart) (then : List (List ℕ) → State) (law : Steps semi n within then)
    (alive : (ph : Phase) (seen cur : List ℕ) (done : List (List ℕ)) → is_dead (within ph seen cur done) ≡ false) (t : List ℕ) (len : ℕ) where
  -- what the permutation's reader says is what the text's does
  pub data Says (q : State) (ps : List PlacedPiece) : PartOut → Type 0 where
    says_lost : {at : ℕ} → read_all semi q (without_offsets ps) ≡ dead → died semi q ps len ≡ at → Says q ps (lost at)
    says_passed : {at : ℕ} {done : List (List ℕ)} → read_all semi q (without_offsets ps) ≡ read_all semi (then done) (without_offsets (pieces_left t (at + 1)))
        → died semi q ps len ≡ pick (is_dead (then done)) at (died semi (then done) (pieces_left t (at + 1)) len) → Says q ps (passed at done)
    says_ended : {b : Bool} {done : List (List ℕ)} (ph : Phase) (seen cur : List ℕ) → read_all semi q (without_offsets ps) ≡ within ph seen cur done → may_end ph
        ≡ b
        → died semi q ps len ≡ len → Says q ps (ended b done)

  -- one piece more in front
  before : (q q' : State) (p : PlacedPiece) (ps : List PlacedPiece) (out : PartOut) → read_piece semi q p.piece ≡ q' → is_dead q' ≡ false → Says q' ps out
      → Says q (p ∷ ps) out
  unfolding read_all without_offsets died
  before q q' p ps out e a (says_lost r d) = says_lost (ap (λ (k : State). read_all semi k (without_offsets ps)) e ∙ r) (dies ∙ d)
    where
      dies : died semi q (p ∷ ps) len ≡ died semi q' ps len
      dies = ap (λ (k : State). pick (is_dead k) p.at (died semi k ps len)) e ∙ pick_false (is_dead q') _ _ a
  before q q' p ps out e a (says_passed r d) = says_passed (ap (λ (k : State). read_all semi k (without_offsets ps)) e ∙ r) (dies ∙ d)
    where
      dies : died semi q (p ∷ ps) len ≡ died semi q' ps len
      dies = ap (λ (k : State). pick (is_dead k) p.at (died semi k ps len)) e ∙ pick_false (is_dead q') _ _ a
  before q q' p ps out e a (says_ended ph seen cur r w d) = says_ended ph seen cur (ap (λ (k : State). read_all semi k (without_offsets ps)) e ∙ r) w (dies ∙ d)
    where
      dies : died semi q (p ∷ ps) len ≡ died semi q' ps len
      dies = ap (λ (k : State). pick (is_dead k) p.at (died semi k ps len)) e ∙ pick_false (is_dead q') _ _ a

  one_turn : (ph : Phase) (seen cur : List ℕ) (done : List (List ℕ)) (p : PlacedPiece) (ps : List PlacedPiece) (o : ℕ) → Next t o p ps
      → ((ph' : Phase) (seen' cur' : List ℕ) (done' : List (List ℕ)) → Says (within ph' seen' cur' done') ps (part_run semi n ph' seen' cur' done' ps))
      → (u : PartTurn) → turn_of semi n seen cur done ph p.piece ≡ u → Says (within ph seen cur done) (p ∷ ps) (run_after semi n done p.at ps u)
  unfolding read_all without_offsets died
  one_turn ph seen cur done p ps o x ih (on ph' seen' cur' done') e =
      before (within ph seen cur done) (within ph' seen' cur' done') p ps _
      (law.steps ph seen cur done p.piece ∙ ap (after within (then done)) e) (alive ph' seen' cur' done') (ih ph' seen' cur' done')
  one_turn ph seen cur done p ps o x ih over e =
      let s : read_piece semi (within ph seen cur done) p.piece ≡ then done = law.steps ph seen cur done p.piece ∙ ap (after within (then done)) e in
      let r : ps ≡ pieces_left t (p.at + 1) = x.rest
      ∙ ap (pieces_left t) (x.one (over_mark semi n seen cur done ph p.piece e) ∙ ap (λ (k : ℕ). k + 1) (sym x.at_is)) in
      says_passed
      (ap (λ (k : State). read_all semi k (without_offsets ps)) s ∙ ap (λ (l : List PlacedPiece). read_all semi (then done) (without_offsets l)) r)
      (ap (λ (k : State). pick (is_dead k) p.at (died semi k ps len)) s
      ∙ ap (λ (l : List PlacedPiece). pick (is_dead (then done)) p.at (died semi (then done) l len)) r)
  one_turn ph seen cur done p ps o x ih stop e =
      let s : read_piece semi (within ph seen cur done) p.piece ≡ dead = law.steps ph seen cur done p.piece ∙ ap (after within (then done)) e in
      says_lost (ap (λ (k : State). read_all semi k (without_offsets ps)) s ∙ run_dead semi (without_offsets ps))
      (ap (λ (k : State). pick (is_dead k) p.at (died semi k ps len)) s)

  pub says : (ps : List PlacedPiece) (o : ℕ) → pieces_left t o ≡ ps → (ph : Phase) (seen cur : List ℕ) (done : List (List ℕ))
      → Says (within ph seen cur done) ps (part_run semi n ph seen cur done ps)
  unfolding part_run read_all without_offsets died
  says [] o e ph seen cur done = says_ended ph seen cur refl refl refl
  says (p ∷ ps) o e ph seen cur done =
      let x = next_of t o p ps e in
      let u = turn_of semi n seen cur done ph p.piece in
      subst (λ (out : PartOut). Says (within ph seen cur done) (p ∷ ps) out)
      (sym (run_turn semi n ph seen cur done p ps (turn_of semi n seen cur done ph p.piece) refl))
      (one_turn ph seen cur done p ps o x (says ps x.to (sym x.rest)) (turn_of semi n seen cur done ph p.piece) refl)
