-- Where the first text of a text ends, case by case as the code finds it, and that this lies in the text.
--     Within n o                      the place o is at most n, where there is one
--     place_inside, bad-inside        a piece begins within the text: the piece k; the first that is no number
--     end_none                        the text has no piece
--     end-any, end-behind, end-all    its first piece is v: any count will do; more pieces than wanted; no more
--     part-bad, part_sound            a piece that is no number; pieces that are all numbers
--     end-inside, part-inside         the end lies in the text
-- Assumes nothing.
use Rattle.std.specs.Prelude.{Err, Some, None, Option}
use mathlib.Core.Path.{◌≡◌, refl, sym, ap, ◌∙◌}
use mathlib.Core.Bool.{Bool, true, false, not}
use mathlib.Core.List.{List, [], ◌∷◌}
use Prim.Native.Nat.{ℕ, zero, suc, ◌+◌, ◌≤◌, ◌<◌}
use native.Mathlib.Omega.{arith}
use lib.Dec.{ltb}
use lib.IntN.{ℤ}
use lib.ListN.{length}
use borrow.Author.Tests.{lt-ltb, le-ltb}
use Rattle.basics.specs.Choice.{pick}
use Rattle.text.specs.Blank.{is_blank}
use Rattle.text.specs.Piece.{Piece, begins, piece_at, pieces_from, pieces, first_bad, numbers, place_at}
use Rattle.text.specs.Reading.{wanted}
use Rattle.text.specs.Inner.Inside.{left, PieceRead, survey_of, bad_or_count}
use Rattle.text.specs.declared.Format.{Format}
use Rattle.text.proofs.Answers.{any_count, that_count}
use Rattle.text.proofs.Clash.{clash}
use Rattle.text.proofs.Walks.{walked_start}
use Rattle.text.specs.Part.{cut_behind, first_end, unless_bad, part_end}

-- ---- a piece begins within the text

place_front : (p : Piece) (ps : List Piece) (n : ℕ) → p.at ≤ n → ((k : ℕ) → place_at ps k ≤ n) → (k : ℕ) → place_at (p ∷ ps) k ≤ n
unfolding place_at
place_front p ps n h l zero = h
place_front p ps n h l (suc k) = l k

place_chosen : (b : Bool) (p : Piece) (ps : List Piece) (n : ℕ) → p.at ≤ n → ((k : ℕ) → place_at ps k ≤ n) → (k : ℕ) → place_at (pick b (p ∷ ps) ps) k ≤ n
place_chosen true p ps n h l k = place_front p ps n h l k
place_chosen false p ps n h l k = l k

place_from : (t : List ℕ) (at : ℕ) (inside : Bool) (n : ℕ) → at + length t ≤ n → (k : ℕ) → place_at (pieces_from at inside t) k ≤ n
unfolding pieces_from place_at
place_from [] at inside n h k = omega arith
place_from (b ∷ t) at inside n h k =
    place_chosen (begins inside b) (piece_at at (b ∷ t)) (pieces_from (suc at) (not (is_blank b)) t) n (omega arith)
    (place_from t (suc at) (not (is_blank b)) n (omega arith)) k

pub place_inside : (t : List ℕ) (k : ℕ) → place_at (pieces t) k ≤ length t
unfolding pieces
place_inside t k = place_from t 0 false (length t) (omega arith) k

-- the first that is no number
abbrev pub Within : ℕ → Option ℕ → Type 0
Within n o = (p : ℕ) → o ≡ Some p → p ≤ n

bad_front : (at : ℕ) (says : Option ℤ) (ps : List Piece) (n : ℕ) → at ≤ n → Within n (first_bad ps) → Within n (first_bad (record { at = at; says = says } ∷ ps))
unfolding first_bad
bad_front at None ps n h l p e = let f : at ≡ p = cc in omega arith
bad_front at (Some v) ps n h l p e = l p e

bad_chosen : (b : Bool) (at : ℕ) (says : Option ℤ) (ps : List Piece) (n : ℕ) → at ≤ n → Within n (first_bad ps)
    → Within n (first_bad (pick b (record { at = at; says = says } ∷ ps) ps))
bad_chosen true at says ps n h l = bad_front at says ps n h l
bad_chosen false at says ps n h l = l

bad_from : (t : List ℕ) (at : ℕ) (inside : Bool) (n : ℕ) → at + length t ≤ n → Within n (first_bad (pieces_from at inside t))
unfolding pieces_from first_bad
bad_from [] at inside n h p e = clash (cc)
bad_from (b ∷ t) at inside n h p e =
    bad_chosen (begins inside b) at (piece_at at (b ∷ t)).says (pieces_from (suc at) (not (is_blank b)) t) n (omega arith)
    (bad_from t (suc at) (not (is_blank b)) n (omega arith)) p e

pub bad_inside : (t : List ℕ) (p : ℕ) → first_bad (pieces t) ≡ Some p → p ≤ length t
unfolding pieces
bad_inside t p e = bad_from t 0 false (length t) (omega arith) p e

-- ---- the first text

module _ (f : Format) (t : List ℕ) where
  abbrev end_of : ℕ
  end_of = first_end f (numbers (pieces t)) (length t) (pieces t)

  pub end_none : left t 0 ≡ [] → length t ≡ end_of
  unfolding numbers
  end_none e = sym (ap (λ (ns : List ℤ). first_end f ns (length t) (pieces t)) (ap numbers ((walked_start t).rest ∙ e)))

  module _ {v : ℤ} {at to : ℕ} (s : PieceRead t 0 v at to) where
    -- v is the first of the numbers
    by_first_lem : (w : Option ℕ) → wanted f v ≡ w → end_of ≡ cut_behind w (length t) (pieces t)
    unfolding numbers
    by_first_lem w e =
        ap (λ (ns : List ℤ). first_end f ns (length t) (pieces t)) (ap numbers ((walked_start t).rest ∙ s.here))
        ∙ ap (λ (o : Option ℕ). cut_behind o (length t) (pieces t)) e

    pub end_any : None ≡ (wanted f v) → length t ≡ end_of
    end_any e = sym (by_first_lem None (any_count (wanted f v) e))

    module _ (k : ℕ) (e : Some k ≡ (wanted f v)) where
      these : end_of ≡ cut_behind (Some k) (length t) (pieces t)
      these = by_first_lem (Some k) (that_count (wanted f v) k e)

      pub end_behind : k < length (pieces t) → place_at (pieces t) k ≡ end_of
      end_behind h = sym (these ∙ ap (λ (b : Bool). pick b (place_at (pieces t) k) (length t)) (lt-ltb k (length (pieces t)) h))

      pub end_all : length (pieces t) ≤ k → length t ≡ end_of
      end_all h = sym (these ∙ ap (λ (b : Bool). pick b (place_at (pieces t) k) (length t)) (le-ltb k (length (pieces t)) h))

-- ---- the whole text

bad_at : (o : Option ℕ) (c at n e : ℕ) → Err at ≡ bad_or_count o c → n ≡ unless_bad o n e
bad_at None c at n e h = clash (cc)
bad_at (Some p) c at n e h = refl

module _ (f : Format) (t : List ℕ) where
  pub part_bad : (at : ℕ) → Err at ≡ survey_of (pieces t) → length t ≡ part_end f t
  unfolding part_end
  part_bad at h = bad_at (first_bad (pieces t)) (length (pieces t)) at (length t) (end_of f t) h

  pub part_sound : first_bad (pieces t) ≡ None → end_of f t ≡ part_end f t
  unfolding part_end
  part_sound h = sym (ap (λ (o : Option ℕ). unless_bad o (length t) (end_of f t)) h)

-- ---- the end lies in the text

behind_inside : (t : List ℕ) (o : Option ℕ) → cut_behind o (length t) (pieces t) ≤ length t
behind_inside t None = omega arith
behind_inside t (Some w) = go (ltb w (length (pieces t)))
  where
    go : (b : Bool) → pick b (place_at (pieces t) w) (length t) ≤ length t
    go true = place_inside t w
    go false = omega arith

pub end_inside : (f : Format) (t : List ℕ) (ns : List ℤ) → first_end f ns (length t) (pieces t) ≤ length t
end_inside f t [] = omega arith
end_inside f t (v ∷ ns) = behind_inside t (wanted f v)

pub part_inside : (f : Format) (t : List ℕ) → part_end f t ≤ length t
unfolding part_end
part_inside f t = go (first_bad (pieces t))
  where
    go : (o : Option ℕ) → unless_bad o (length t) (end_of f t) ≤ length t
    go (Some p) = omega arith
    go None = end_inside f t (numbers (pieces t))
