-- The pieces of a text, from an offset on.
--     pieces-blank, pieces-within, pieces-begin    one byte more: blank; within a piece; the first of one
--     skip_pieces    blanks in front change no piece
--     run_pieces     within a piece, the next pieces are those after its run
--     left_end       no byte but blanks is left: no piece
--     step_inside    a piece ends within the text
--     one_run        a text with no blank byte is one piece
--     run_first      a run of bytes that aren't blank and a blank byte in front: a piece, and then the others
--     piece-bad, piece_is    the first piece is no number, or a number, and the next ones are those after its run
-- Assumes nothing.
use Rattle.std.specs.Prelude.{Some, None, Option}
use mathlib.Core.Path.{◌≡◌, refl, sym, ap, ◌∙◌}
use mathlib.Core.Bool.{Bool, true, false}
use mathlib.Core.List.{List, [], ◌∷◌, ◌++◌}
use lib.IntN.{ℤ}
use Prim.Native.Nat.{ℕ, suc, ◌+◌, ◌-◌, ◌≤◌, ◌<◌}
use native.Mathlib.Nat.{add-zero, add-suc, suc-add}
use native.Mathlib.Omega.{arith}
use lib.ListN.{length, get_or, drop, take, length-drop, drop_of_length-le}
use lib.Seq.{drop-cons, drop-drop, get_or-drop}
use Rattle.text.specs.Blank.{is_blank, until_blank, unbroken}
use Rattle.text.specs.Piece.{piece_at, pieces_from, pieces}
use Rattle.text.specs.Inner.Inside.{stretch, left, Stuck, PieceRead}
use Rattle.text.specs.Number.{integer_from}
use Rattle.text.proofs.Blanks.{as_kind, stretch_yes, stretch_no, stretch_le, after_stretch, take_stretch}
use Rattle.text.proofs.Clash.{clash}

none_of : (o : Option ℤ) → None ≡ o → o ≡ None
none_of o e = sym e

some_of : (o : Option ℤ) (n : ℤ) → Some n ≡ o → o ≡ Some n
some_of o n e = sym e

-- one byte
module _ (b : ℕ) (t : List ℕ) (at : ℕ) where
  pub pieces_blank : (inside : Bool) → is_blank b ≡ true → pieces_from at inside (b ∷ t) ≡ pieces_from (suc at) false t
  unfolding pieces_from
  pieces_blank true e = rw (pieces_from, e)
  pieces_blank false e = rw (pieces_from, e)

  pub pieces_within : is_blank b ≡ false → pieces_from at true (b ∷ t) ≡ pieces_from (suc at) true t
  unfolding pieces_from
  pieces_within e = rw (pieces_from, e)

  pub pieces_begin : is_blank b ≡ false → pieces_from at false (b ∷ t) ≡ piece_at at (b ∷ t) ∷ pieces_from (suc at) true t
  unfolding pieces_from
  pieces_begin e = rw (pieces_from, e)

-- blanks in front
pub skip_pieces : (t : List ℕ) (at : ℕ) → pieces_from at false t ≡ pieces_from (at + stretch true t) false (drop (stretch true t) t)
unfolding pieces_from stretch
skip_pieces [] at = refl
skip_pieces (b ∷ t) at = go (is_blank b) refl (skip_pieces t (suc at))
  where
    go : (x : Bool) → is_blank b ≡ x → pieces_from (suc at) false t ≡ pieces_from (suc at + stretch true t) false (drop (stretch true t) t)
        → pieces_from at false (b ∷ t) ≡ pieces_from (at + stretch true (b ∷ t)) false (drop (stretch true (b ∷ t)) (b ∷ t))
    go true e ih = rw (stretch_yes true b t (as_kind true e), pieces_blank b t at false e, ih, suc-add, add-suc)
    go false e ih = rw (stretch_no true b t (as_kind true e), add-zero)

-- the rest of a piece; a blank byte ends it at once
run_none : (b : ℕ) (t : List ℕ) (at : ℕ) → is_blank b ≡ true
    → pieces_from at true (b ∷ t) ≡ pieces_from (at + stretch false (b ∷ t)) false (drop (stretch false (b ∷ t)) (b ∷ t))
run_none b t at e = pieces_blank b t at true e ∙ sym (pieces_blank b t at false e) ∙ rw (stretch_no false b t (as_kind false e), add-zero)

pub run_pieces : (t : List ℕ) (at : ℕ) → pieces_from at true t ≡ pieces_from (at + stretch false t) false (drop (stretch false t) t)
unfolding pieces_from stretch
run_pieces [] at = refl
run_pieces (b ∷ t) at = go (is_blank b) refl (run_pieces t (suc at))
  where
    go : (x : Bool) → is_blank b ≡ x → pieces_from (suc at) true t ≡ pieces_from (suc at + stretch false t) false (drop (stretch false t) t)
        → pieces_from at true (b ∷ t) ≡ pieces_from (at + stretch false (b ∷ t)) false (drop (stretch false (b ∷ t)) (b ∷ t))
    go true e ih = run_none b t at e
    go false e ih = rw (stretch_yes false b t (as_kind false e), pieces_within b t at e, ih, suc-add, add-suc)

-- no blank byte
unbroken_parts : (b : ℕ) (t : List ℕ) → unbroken (b ∷ t) ≡ true → (is_blank b ≡ false) × (unbroken t ≡ true)
unfolding unbroken
unbroken_parts b t h = go (is_blank b) refl
  where
    go : (x : Bool) → is_blank b ≡ x → (is_blank b ≡ false) × (unbroken t ≡ true)
    go true e = let q : false ≡ true = rw (unbroken, e) at h in clash (cc)
    go false e = (e, rw (unbroken, e) at h)

unbroken_run : (t : List ℕ) → unbroken t ≡ true → until_blank t ≡ t
unfolding until_blank
unbroken_run [] h = refl
unbroken_run (b ∷ t) h = let u = unbroken_parts b t h in rw (until_blank, u.0) (ap (λ (r : List ℕ). b ∷ r) (unbroken_run t u.1))

unbroken_within : (t : List ℕ) (at : ℕ) → unbroken t ≡ true → pieces_from at true t ≡ []
unfolding pieces_from
unbroken_within [] at h = refl
unbroken_within (b ∷ t) at h = let u = unbroken_parts b t h in pieces_within b t at u.0 ∙ unbroken_within t (suc at) u.1

pub one_run : (b : ℕ) (t : List ℕ) → unbroken (b ∷ t) ≡ true → pieces (b ∷ t) ≡ record { at = 0; says = integer_from (b ∷ t) } ∷ []
unfolding pieces
one_run b t h =
    let u = unbroken_parts b t h in
    pieces_begin b t 0 u.0 ∙ rw (unbroken_run (b ∷ t) h, unbroken_within t 1 u.1)

-- a blank byte ends the run before it
run_ends : (w : List ℕ) (b : ℕ) (t : List ℕ) → unbroken w ≡ true → is_blank b ≡ true → until_blank (w ++ (b ∷ t)) ≡ w
unfolding until_blank
run_ends [] b t h e = rw (until_blank, e)
run_ends (c ∷ w) b t h e = let u = unbroken_parts c w h in rw (until_blank, u.0) (ap (λ (r : List ℕ). c ∷ r) (run_ends w b t u.1 e))

within_ends : (w : List ℕ) (b : ℕ) (t : List ℕ) (at : ℕ) → unbroken w ≡ true → is_blank b ≡ true
    → pieces_from at true (w ++ (b ∷ t)) ≡ pieces_from (suc (at + length w)) false t
within_ends [] b t at h e = pieces_blank b t at true e ∙ ap (λ (k : ℕ). pieces_from (suc k) false t) (omega arith)
within_ends (c ∷ w) b t at h e =
    let u = unbroken_parts c w h in
    pieces_within c (w ++ (b ∷ t)) at u.0 ∙ within_ends w b t (suc at) u.1 e ∙ ap (λ (k : ℕ). pieces_from (suc k) false t) (omega arith)

pub run_first : (w : List ℕ) (b : ℕ) (t : List ℕ) (at : ℕ) → 0 < length w → unbroken w ≡ true → is_blank b ≡ true
    → pieces_from at false (w ++ (b ∷ t)) ≡ record { at = at; says = integer_from w } ∷ pieces_from (suc (at + length w)) false t
run_first [] b t at l h e = absurd (omega arith)
run_first (c ∷ w) b t at l h e =
    let u = unbroken_parts c w h in
    pieces_begin c (w ++ (b ∷ t)) at u.0
    ∙ rw (run_ends (c ∷ w) b t h e, within_ends w b t (suc at) u.1 e)
    (ap (λ (k : ℕ). record { at = at; says = integer_from (c ∷ w) } ∷ pieces_from (suc k) false t) (omega arith))

module _ (t : List ℕ) (from at : ℕ) (le : from ≤ length t) (is : at ≡ from + stretch true (drop from t)) where
  skipped : left t from ≡ left t at
  unfolding left
  skipped = skip_pieces (drop from t) from ∙ rw (is, ← drop-drop)

  pub left_end : length t ≤ at → left t from ≡ []
  unfolding left pieces_from
  left_end h = skipped ∙ rw (drop_of_length-le t h)

  module _ (lt : at < length t) (to : ℕ) (ends : to ≡ at + stretch false (drop at t)) where
    begins_at : is_blank (get_or t at 0) ≡ false
    begins_at = rw (is, ← get_or-drop) (after_stretch (drop from t) (omega (arith, length-drop from t)))

    longer : stretch false (drop at t) ≡ suc (stretch false (drop (suc at) t))
    longer = rw (drop-cons t at 0 lt) (stretch_yes false (get_or t at 0) (drop (suc at) t) (as_kind false begins_at))

    -- the code lends the piece as this part of the text
    part_run_lem : take (to - at) (drop at t) ≡ until_blank (drop at t)
    part_run_lem = let e : to - at ≡ stretch false (drop at t) = omega arith in rw e (take_stretch (drop at t))

    after_run : pieces_from (suc at) true (drop (suc at) t) ≡ left t to
    unfolding left
    after_run =
        let e : to ≡ suc at + stretch false (drop (suc at) t) = omega (arith, longer) in
        run_pieces (drop (suc at) t) (suc at) ∙ rw (e, ← drop-drop)

    first_piece : left t at ≡ piece_at at (drop at t) ∷ pieces_from (suc at) true (drop (suc at) t)
    unfolding left
    first_piece = rw (drop-cons t at 0 lt) (pieces_begin (get_or t at 0) (drop (suc at) t) at begins_at)

    left_step : left t from ≡ record { at = at; says = integer_from (take (to - at) (drop at t)) } ∷ left t to
    left_step = skipped ∙ rw (part_run_lem, ← after_run) first_piece

    pub step_inside : to ≤ length t
    step_inside = omega (arith, stretch_le false (drop at t), length-drop at t)

    -- the code's two answers at a piece
    pub piece_bad : None ≡ (integer_from (take (to - at) (drop at t))) → Stuck t from at
    piece_bad e = record { after = left t to; here = left_step ∙ rw (none_of (integer_from (take (to - at) (drop at t))) e) }

    pub piece_is : (n : ℤ) → Some n ≡ (integer_from (take (to - at) (drop at t))) → PieceRead t from n at to
    piece_is n e = record {
      here = left_step ∙ rw (some_of (integer_from (take (to - at) (drop at t))) n e);
      onward = omega (arith, longer);
      inside = step_inside;
    }
