-- The answer of `read`, case by case as the code finds it.
--     any-count, that-count               the code's answer on the count wanted
--     first-none, some-piece              the text has no piece; it has one
--     first_any, first-few, first-many, first-just    its first piece is v: any count will do; too few; too many; just as many
--     survey_all                          the code's answer on the pieces: all are numbers
--     read-long, read-bad, read-counted   a text too long; a piece that is no number; pieces that are all numbers
--     nineteen, eleven                    the numbers of the refusals
-- Assumes nothing.
use Rattle.std.specs.Prelude.{Ok, Err, Some, None, Option}
use mathlib.Core.Path.{◌≡◌, refl, sym, ap, ◌∙◌}
use mathlib.Core.List.{List, []}
use Prim.Native.Nat.{ℕ, ◌≤◌, ◌<◌}
use native.Mathlib.Omega.{arith}
use lib.IntN.{ℤ}
use lib.ListN.{length}
use borrow.Author.Tests.{lt-ltb, le-ltb}
use Rattle.call.specs.declared.refusal.Refusal.TheVariants.{BadText}
use Rattle.text.specs.Piece.{Piece, pieces, first_bad, numbers, place_at}
use Rattle.text.specs.Reading.{wanted, wanted_or1, handed, count_place, first_place, or_else, place19, answer, reading_of}
use Rattle.text.specs.Laws.{Nineteen, Eleven}
use Rattle.text.specs.Inner.Inside.{left, PieceRead, survey_of, bad_or_count, counted_of}
use Rattle.text.specs.declared.Format.{Format}
use Rattle.text.proofs.Walks.{walked_start}
use Rattle.text.proofs.Clash.{clash}

pub any_count : (o : Option ℕ) → None ≡ o → o ≡ None
any_count o e = sym e

pub that_count : (o : Option ℕ) (k : ℕ) → Some k ≡ o → o ≡ Some k
that_count o k e = sym e

module _ (f : Format) (t : List ℕ) (room : ℕ) where
  pub first_none : left t 0 ≡ [] → Err (BadText (length t)) ≡ counted_of f t room
  unfolding numbers first_place answer
  first_none e = rw ((walked_start t).rest ∙ e)

  module _ {v : ℤ} {at to : ℕ} (s : PieceRead t 0 v at to) where
    pub some_piece : 1 ≤ length (pieces t)
    some_piece = omega (arith, ap length ((walked_start t).rest ∙ s.here))

    -- v is the first of the numbers
    by_first_lem : (w : Option ℕ) → wanted f v ≡ w → counted_of f t room ≡ answer (count_place w (length t) (pieces t)) (wanted_or1 w) room
    unfolding numbers first_place handed
    by_first_lem w e =
        ap (λ (ns : List ℤ). answer (first_place f ns (length t) (pieces t)) (handed f ns) room) (ap numbers ((walked_start t).rest ∙ s.here))
        ∙ ap (λ (o : Option ℕ). answer (count_place o (length t) (pieces t)) (wanted_or1 o) room) e

    pub first_any : None ≡ (wanted f v) → answer None 1 room ≡ counted_of f t room
    unfolding count_place
    first_any e = sym (by_first_lem None (any_count (wanted f v) e))

    module _ (k : ℕ) (e : Some k ≡ (wanted f v)) where
      these : counted_of f t room ≡ answer (count_place (Some k) (length t) (pieces t)) k room
      these = by_first_lem (Some k) (that_count (wanted f v) k e)

      pub first_few : length (pieces t) < k → Err (BadText (length t)) ≡ counted_of f t room
      unfolding count_place answer
      first_few h = sym (these ∙ rw (lt-ltb (length (pieces t)) k h))

      pub first_many : k < length (pieces t) → Err (BadText (place_at (pieces t) k)) ≡ counted_of f t room
      unfolding count_place answer
      first_many h = sym (these ∙ rw (le-ltb (length (pieces t)) k (omega arith), lt-ltb k (length (pieces t)) h))

      pub first_just : k ≡ length (pieces t) → answer None k room ≡ counted_of f t room
      unfolding count_place
      first_just h = sym (these ∙ rw (le-ltb (length (pieces t)) k (omega arith), le-ltb k (length (pieces t)) (omega arith)))

-- what the survey tells
all_good : (o : Option ℕ) (n k : ℕ) → Ok k ≡ bad_or_count o n → (o ≡ None) × (n ≡ k)
all_good None n k e = (refl, cc)
all_good (Some at) n k e = clash (cc)

pub survey_all : (ps : List Piece) (k : ℕ) → Ok k ≡ survey_of ps → (first_bad ps ≡ None) × (length ps ≡ k)
survey_all ps k e = all_good (first_bad ps) (length ps) k e

pub bad_at : (o : Option ℕ) (n at : ℕ) → Err at ≡ bad_or_count o n → o ≡ Some at
bad_at None n at e = clash (cc)
bad_at (Some k) n at e = cc

module _ (f : Format) (t : List ℕ) (room : ℕ) where
  pub read_long : 65536 < length t → Err (BadText 65536) ≡ reading_of f t room
  unfolding reading_of place19 answer
  read_long h = rw (lt-ltb 65536 (length t) h)

  module _ (h : length t ≤ 65536) where
    by_pieces : (o : Option ℕ) → first_bad (pieces t) ≡ o
        → reading_of f t room ≡ answer (or_else o (first_place f (numbers (pieces t)) (length t) (pieces t))) (handed f (numbers (pieces t))) room
    unfolding reading_of place19
    by_pieces o e = rw (le-ltb 65536 (length t) h, e)

    pub read_bad : (at : ℕ) → Err at ≡ survey_of (pieces t) → Err (BadText at) ≡ reading_of f t room
    unfolding answer
    read_bad at e = sym (by_pieces (Some at) (bad_at (first_bad (pieces t)) (length (pieces t)) at e))

    pub read_counted : first_bad (pieces t) ≡ None → counted_of f t room ≡ reading_of f t room
    read_counted e = sym (by_pieces None e)

-- the numbers of the refusals
pub nineteen : Nineteen
unfolding reading_of answer
nineteen f t room p e = rw e

pub eleven : Eleven
unfolding reading_of answer
eleven f t room e h = rw (e, lt-ltb room (handed f (numbers (pieces t))) h)
