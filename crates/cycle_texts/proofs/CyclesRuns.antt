-- The run of digits at the end of a text.
--     split_run             a text is what stands before the run, and the run
--     all_head, all_tail    all bytes are digits: the first, and the others
--     run_digits            the run has digits only
--     without-whole, without-digits    a text that ends in no digit has no run; one of digits only is the run
--     pieces_split          the pieces of a longer text: those before the run, and those from the run on
--     rest_of_run, grows    a run alone begins one piece; with more behind it it says at least as much
-- Assumes nothing.
use mathlib.Core.Path.{◌≡◌, refl, sym, ap, ◌∙◌}
use mathlib.Core.Bool.{Bool, true, false, ◌&&◌}
use mathlib.Core.List.{List, [], ◌∷◌, ◌++◌}
use Prim.Native.Nat.{ℕ, suc, ◌+◌, ◌-◌, ◌*◌, ◌≤◌}
use native.Mathlib.Omega.{arith}
use native.Mathlib.Nat.{add-zero}
use lib.ListN.{length}
use Rattle.basics.specs.Choice.{pick}
use Rattle.basics.proofs.Choice.{pick_true, pick_false, and_left, and_right, clash}
use Rattle.cycle_notation.specs.Piece.{PlacedPiece, number, mark, digit_byte, run_value, cycle_pieces_from, cycle_pieces}
use Rattle.cycle_reading.proofs.Left.{value_yes, value_no, begins_number, goes_on, is_mark}
use Rattle.cycle_texts.specs.Cut.{all_digits, without_run, last_run}

pub split_run : (t : List ℕ) → without_run t ++ last_run t ≡ t
unfolding without_run last_run
split_run [] = refl
split_run (b ∷ t) = go (all_digits (b ∷ t)) (split_run t)
  where
    go : (d : Bool) → without_run t ++ last_run t ≡ t → pick d [] (b ∷ without_run t) ++ pick d (b ∷ t) (last_run t) ≡ b ∷ t
    go true ih = refl
    go false ih = ap (λ (l : List ℕ). b ∷ l) ih

pub run_digits : (t : List ℕ) → all_digits (last_run t) ≡ true
unfolding all_digits last_run
run_digits [] = refl
run_digits (b ∷ t) = go (digit_byte b && all_digits t) refl (run_digits t)
  where
    go : (d : Bool) → (digit_byte b && all_digits t) ≡ d → all_digits (last_run t) ≡ true → all_digits (pick d (b ∷ t) (last_run t)) ≡ true
    go true e ih = e
    go false e ih = ih

-- ---- by the first byte

module _ (b : ℕ) (t : List ℕ) where
  pub all_head : all_digits (b ∷ t) ≡ true → digit_byte b ≡ true
  unfolding all_digits
  all_head e = and_left (digit_byte b) (all_digits t) e

  pub all_tail : all_digits (b ∷ t) ≡ true → all_digits t ≡ true
  unfolding all_digits
  all_tail e = and_right (digit_byte b) (all_digits t) e

  not_all : digit_byte b ≡ true → all_digits (b ∷ t) ≡ false → all_digits t ≡ false
  unfolding all_digits
  not_all d e = sym (ap (λ (x : Bool). x && all_digits t) d) ∙ e

  without_yes : all_digits (b ∷ t) ≡ true → without_run (b ∷ t) ≡ []
  unfolding without_run
  without_yes e = pick_true (all_digits (b ∷ t)) _ _ e

  without_no : all_digits (b ∷ t) ≡ false → without_run (b ∷ t) ≡ b ∷ without_run t
  unfolding without_run
  without_no e = pick_false (all_digits (b ∷ t)) _ _ e

  run_yes : all_digits (b ∷ t) ≡ true → last_run (b ∷ t) ≡ b ∷ t
  unfolding last_run
  run_yes e = pick_true (all_digits (b ∷ t)) _ _ e

  run_no : all_digits (b ∷ t) ≡ false → last_run (b ∷ t) ≡ last_run t
  unfolding last_run
  run_no e = pick_false (all_digits (b ∷ t)) _ _ e

-- ---- the value of a run that ends inside

value_cut : (t u : List ℕ) (m : ℕ) → all_digits t ≡ false → run_value m (t ++ u) ≡ run_value m (without_run t)
unfolding all_digits
value_cut [] u m e = clash refl e
value_cut (b ∷ t) u m e = go (digit_byte b) refl (λ k h. value_cut t u k h)
  where
    go : (d : Bool) → digit_byte b ≡ d → ((k : ℕ) → all_digits t ≡ false → run_value k (t ++ u) ≡ run_value k (without_run t))
        → run_value m (b ∷ (t ++ u)) ≡ run_value m (without_run (b ∷ t))
    go true d ih =
        value_yes b (t ++ u) m d ∙ ih (m * 10 + (b - 48)) (not_all b t d e)
        ∙ sym (value_yes b (without_run t) m d) ∙ ap (run_value m) (sym (without_no b t e))
    go false d ih = value_no b (t ++ u) m d ∙ sym (value_no b (without_run t) m d) ∙ ap (run_value m) (sym (without_no b t e))

-- ---- the pieces

abbrev behind_run : (t u : List ℕ) (at : ℕ) → List PlacedPiece
behind_run t u at = cycle_pieces_from (at + length (without_run t)) false (last_run t ++ u)

shifted : (t u : List ℕ) (at : ℕ) (b : ℕ) → all_digits (b ∷ t) ≡ false → behind_run t u (suc at) ≡ behind_run (b ∷ t) u at
shifted t u at b e =
    let n : suc at + length (without_run t) ≡ at + length (without_run (b ∷ t)) = omega (arith, ap length (without_no b t e)) in
    ap (λ (k : ℕ). cycle_pieces_from k false (last_run t ++ u)) n
    ∙ ap (λ (l : List ℕ). cycle_pieces_from (at + length (without_run (b ∷ t))) false (l ++ u)) (sym (run_no b t e))

pub pieces_from_lem : (t u : List ℕ) (at : ℕ) (inside : Bool) → (inside ≡ true → all_digits t ≡ false)
    → cycle_pieces_from at inside (t ++ u) ≡ cycle_pieces_from at inside (without_run t) ++ behind_run t u at
unfolding without_run last_run all_digits cycle_pieces_from
pieces_from_lem [] u at true h = clash refl (h refl)
pieces_from_lem [] u at false h = ap (λ (k : ℕ). cycle_pieces_from k false u) (sym (add-zero at))
pieces_from_lem (b ∷ t) u at inside h = go (all_digits (b ∷ t)) refl (λ i k. pieces_from_lem t u (suc at) i k)
  where
    whole : (i : Bool) → (i ≡ true → all_digits (b ∷ t) ≡ false) → all_digits (b ∷ t) ≡ true
        → cycle_pieces_from at i (b ∷ (t ++ u)) ≡ cycle_pieces_from at i (without_run (b ∷ t)) ++ behind_run (b ∷ t) u at
    whole true k e = clash e (k refl)
    whole false k e =
        let n : at + length (without_run (b ∷ t)) ≡ at = omega (arith, ap length (without_yes b t e)) in
        let same : behind_run (b ∷ t) u at ≡ cycle_pieces_from at false (b ∷ (t ++ u)) =
        ap (λ (k : ℕ). cycle_pieces_from k false (last_run (b ∷ t) ++ u)) n ∙ ap (λ (l : List ℕ). cycle_pieces_from at false (l ++ u)) (run_yes b t e) in
        sym same ∙ sym (ap (λ (l : List ℕ). cycle_pieces_from at false l ++ behind_run (b ∷ t) u at) (without_yes b t e))

    step : (d : Bool) → digit_byte b ≡ d → (i : Bool) → all_digits (b ∷ t) ≡ false
        → ((j : Bool) → (j ≡ true → all_digits t ≡ false) → cycle_pieces_from (suc at) j (t ++ u)
        ≡ cycle_pieces_from (suc at) j (without_run t) ++ behind_run t u (suc at))
        → cycle_pieces_from at i (b ∷ (t ++ u)) ≡ cycle_pieces_from at i (b ∷ without_run t) ++ behind_run t u (suc at)
    step true d true e ih =
        goes_on b (t ++ u) at d ∙ ih true (λ _. not_all b t d e)
        ∙ ap (λ (l : List PlacedPiece). l ++ behind_run t u (suc at)) (sym (goes_on b (without_run t) at d))
    step true d false e ih =
        let v : run_value 0 (b ∷ (t ++ u)) ≡ run_value 0 (b ∷ without_run t) = value_cut (b ∷ t) u 0 e ∙ ap (run_value 0) (without_no b t e) in
        begins_number b (t ++ u) at d
        ∙ ap (λ (l : List PlacedPiece). record { at = at; piece = number (run_value 0 (b ∷ (t ++ u))) } ∷ l) (ih true (λ _. not_all b t d e))
        ∙ ap (λ (k : ℕ). record { at = at; piece = number k } ∷ (cycle_pieces_from (suc at) true (without_run t) ++ behind_run t u (suc at))) v
        ∙ ap (λ (l : List PlacedPiece). l ++ behind_run t u (suc at)) (sym (begins_number b (without_run t) at d))
    step false d i e ih =
        is_mark b (t ++ u) at i d
        ∙ ap (λ (l : List PlacedPiece). record { at = at; piece = mark b } ∷ l) (ih false (λ k. clash k refl))
        ∙ ap (λ (l : List PlacedPiece). l ++ behind_run t u (suc at)) (sym (is_mark b (without_run t) at i d))

    go : (a : Bool) → all_digits (b ∷ t) ≡ a
        → ((j : Bool) → (j ≡ true → all_digits t ≡ false) → cycle_pieces_from (suc at) j (t ++ u)
        ≡ cycle_pieces_from (suc at) j (without_run t) ++ behind_run t u (suc at))
        → cycle_pieces_from at inside (b ∷ (t ++ u)) ≡ cycle_pieces_from at inside (without_run (b ∷ t)) ++ behind_run (b ∷ t) u at
    go true e ih = whole inside h e
    go false e ih =
        step (digit_byte b) refl inside e ih
        ∙ ap (λ (l : List PlacedPiece). cycle_pieces_from at inside (b ∷ without_run t) ++ l) (shifted t u at b e)
        ∙ ap (λ (l : List ℕ). cycle_pieces_from at inside l ++ behind_run (b ∷ t) u at) (sym (without_no b t e))

pub pieces_split : (t u : List ℕ)
    → cycle_pieces (t ++ u) ≡ cycle_pieces (without_run t) ++ cycle_pieces_from (length (without_run t)) false (last_run t ++ u)
unfolding cycle_pieces
pieces_split t u =
    let n : 0 + length (without_run t) ≡ length (without_run t) = omega arith in
    pieces_from_lem t u 0 false (λ k. clash k refl)
    ∙ ap (λ (k : ℕ). cycle_pieces_from 0 false (without_run t) ++ cycle_pieces_from k false (last_run t ++ u)) n

-- ---- the run alone

pub rest_of_run : (t : List ℕ) (at : ℕ) → all_digits t ≡ true → cycle_pieces_from at true t ≡ []
unfolding cycle_pieces_from
rest_of_run [] at e = refl
rest_of_run (b ∷ t) at e = goes_on b t at (all_head b t e) ∙ rest_of_run t (suc at) (all_tail b t e)

at_least : (u : List ℕ) (m : ℕ) → m ≤ run_value m u
unfolding run_value
at_least [] m = omega arith
at_least (b ∷ u) m = go (digit_byte b) refl (λ k. at_least u k)
  where
    go : (d : Bool) → digit_byte b ≡ d → ((k : ℕ) → k ≤ run_value k u) → m ≤ run_value m (b ∷ u)
    go true d ih = omega (arith, value_yes b u m d, ih (m * 10 + (b - 48)))
    go false d ih = omega (arith, value_no b u m d)

pub grows : (t u : List ℕ) (m : ℕ) → all_digits t ≡ true → run_value m t ≤ run_value m (t ++ u)
unfolding run_value
grows [] u m e = at_least u m
grows (b ∷ t) u m e =
    let d = all_head b t e in
    omega (arith, value_yes b t m d, value_yes b (t ++ u) m d, grows t u (m * 10 + (b - 48)) (all_tail b t e))

-- ---- one byte more at the end

and_no : (x : Bool) → (x && false) ≡ false
and_no true = refl
and_no false = refl

and_yes : (x : Bool) → (x && true) ≡ x
and_yes true = refl
and_yes false = refl

all_more : (a : List ℕ) (b : ℕ) → all_digits (a ++ (b ∷ [])) ≡ (all_digits a && digit_byte b)
unfolding all_digits
all_more [] b = and_yes (digit_byte b)
all_more (c ∷ a) b = ap (λ (x : Bool). digit_byte c && x) (all_more a b) ∙ assoc (digit_byte c) (all_digits a) (digit_byte b)
  where
    assoc : (x y z : Bool) → (x && (y && z)) ≡ ((x && y) && z)
    assoc true y z = refl
    assoc false y z = refl

-- a digit at the end belongs to the run
pub digit_more : (a : List ℕ) (b : ℕ) → digit_byte b ≡ true → without_run (a ++ (b ∷ [])) ≡ without_run a
unfolding without_run all_digits
digit_more [] b d = without_yes b [] (all_more [] b ∙ d)
digit_more (c ∷ a) b d =
    let same : all_digits ((c ∷ a) ++ (b ∷ [])) ≡ all_digits (c ∷ a) =
    all_more (c ∷ a) b ∙ ap (λ (x : Bool). all_digits (c ∷ a) && x) d ∙ and_yes (all_digits (c ∷ a)) in
    ap (λ (x : Bool). pick x [] (c ∷ without_run (a ++ (b ∷ [])))) same
    ∙ ap (λ (l : List ℕ). pick (all_digits (c ∷ a)) [] (c ∷ l)) (digit_more a b d)

-- with another byte at the end there is no run
pub other_more : (a : List ℕ) (b : ℕ) → digit_byte b ≡ false → without_run (a ++ (b ∷ [])) ≡ a ++ (b ∷ [])
unfolding without_run
other_more a b d = go a (none a)
  where
    none : (l : List ℕ) → all_digits (l ++ (b ∷ [])) ≡ false
    none l = all_more l b ∙ ap (λ (x : Bool). all_digits l && x) d ∙ and_no (all_digits l)

    go : (l : List ℕ) → all_digits (l ++ (b ∷ [])) ≡ false → without_run (l ++ (b ∷ [])) ≡ l ++ (b ∷ [])
    go [] e = without_no b [] e
    go (c ∷ l) e = without_no c (l ++ (b ∷ [])) e ∙ ap (λ (k : List ℕ). c ∷ k) (go l (none l))
