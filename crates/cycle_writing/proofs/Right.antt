-- The bytes of cycles are of the form, with these cycles.
--     cycles_written         cycles one after another, none of them without points
--     permutation_written    a permutation beside a semicolon
--     whole_reading          the index, one blank, two permutations and a semicolon between them
-- The cycles are `g x ∷ h x` for the x of a list: none is without points.
-- Assumes nothing.
use mathlib.Core.Path.{◌≡◌, refl, sym, ap, subst, ◌∙◌}
use mathlib.Core.Bool.{true, false}
use mathlib.Core.List.{List, [], ◌∷◌, ◌++◌, map, append_assoc, append-nil}
use Prim.Native.Nat.{ℕ}
use Rattle.decimal.specs.Decimal.{digits}
use Rattle.cycle_notation.specs.Piece.{CyclePiece, number, blank, opening, closing, comma, cycle_pieces_from, without_offsets}
use Rattle.cycle_notation.specs.Form.{Blanks, here, past, More, last, further, Cycles, end, gap, cycle, Written, cycles, identity, Reading}
use Rattle.cycle_writing.specs.Bytes.{behind_commas, cycle_bytes, cycles_bytes, permutation_bytes}
use Rattle.cycle_writing.proofs.Pieces.{pieces_of, mark_first, number_first}

-- the pieces behind the first point of a cycle
abbrev behind_first : List ℕ → List CyclePiece → List CyclePiece
behind_first [] ps = closing ∷ ps
behind_first (x ∷ xs) ps = comma ∷ number x ∷ behind_first xs ps

more_points : (xs : List ℕ) (ps : List CyclePiece) → More (behind_first xs ps) xs ps
more_points [] ps = last
more_points (x ∷ xs) ps = further (more_points xs ps)

points_pieces : (xs : List ℕ) (x : ℕ) (t : List ℕ) → pieces_of false (digits x ++ (behind_commas xs ++ (41 ∷ t))) ≡ number x ∷ behind_first xs (pieces_of false t)
unfolding behind_commas
points_pieces [] x t = number_first x 41 t refl
points_pieces (y ∷ xs) x t =
    number_first x 44 ((digits y ++ behind_commas xs) ++ (41 ∷ t)) refl
    ∙ ap (λ (l : List ℕ). number x ∷ comma ∷ pieces_of false l) (append_assoc (digits y) (behind_commas xs) (41 ∷ t))
    ∙ ap (λ (l : List CyclePiece). number x ∷ comma ∷ l) (points_pieces xs y t)

cycle_pieces_lem : (x : ℕ) (xs u : List ℕ) → pieces_of false (cycle_bytes (x ∷ xs) ++ u) ≡ opening ∷ number x ∷ behind_first xs (pieces_of false u)
unfolding cycle_bytes
cycle_pieces_lem x xs u =
    mark_first false 40 ((digits x ++ (behind_commas xs ++ (41 ∷ []))) ++ u) refl
    ∙ ap (λ (l : List ℕ). opening ∷ pieces_of false l)
    (append_assoc (digits x) (behind_commas xs ++ (41 ∷ [])) u ∙ ap (λ (l : List ℕ). digits x ++ l) (append_assoc (behind_commas xs) (41 ∷ []) u))
    ∙ ap (λ (l : List CyclePiece). opening ∷ l) (points_pieces xs x u)

module _ (g : ℕ → ℕ) (h : ℕ → List ℕ) where
  -- the cycles
  abbrev pub these : List ℕ → List (List ℕ)
  these xs = map (λ (x : ℕ). g x ∷ h x) xs

  pub cycles_written : (xs u : List ℕ) → Cycles (pieces_of false (cycles_bytes (these xs) ++ u)) (these xs) (pieces_of false u)
  unfolding cycles_bytes
  cycles_written [] u = end
  cycles_written (x ∷ xs) u =
      subst (λ (ps : List CyclePiece). Cycles ps (these (x ∷ xs)) (pieces_of false u))
      (sym (ap (pieces_of false) (append_assoc (cycle_bytes (g x ∷ h x)) (cycles_bytes (these xs)) u) ∙ cycle_pieces_lem (g x) (h x) (cycles_bytes (these xs) ++ u)))
      (cycle (more_points (h x) (pieces_of false (cycles_bytes (these xs) ++ u))) (cycles_written xs u))

  pub permutation_written : (xs u : List ℕ) → Written true (pieces_of false (permutation_bytes (these xs) ++ u)) (these xs) (pieces_of false u)
  unfolding permutation_bytes cycle_bytes
  permutation_written [] u =
      subst (λ (ps : List CyclePiece). Written true ps [] (pieces_of false u))
      (sym (mark_first false 40 (41 ∷ u) refl ∙ ap (λ (l : List CyclePiece). opening ∷ l) (mark_first false 41 u refl)))
      (identity here here)
  permutation_written (x ∷ xs) u = cycles tt (cycles_written (x ∷ xs) u)

blank_first : {ps rest : List CyclePiece} {cs : List (List ℕ)} → Written true ps cs rest → Written true (blank ∷ ps) cs rest
blank_first (cycles e c) = cycles e (gap c)
blank_first (identity b m) = identity (past b) m

module _ (n : ℕ) (g k : ℕ → ℕ) (h l : ℕ → List ℕ) (xs ys : List ℕ) where
  -- the text
  abbrev pub whole : List ℕ
  whole = digits n ++ (32 ∷ (permutation_bytes (these g h xs) ++ (59 ∷ permutation_bytes (these k l ys))))

  pub whole_reading : Reading true (pieces_of false whole) n (these g h xs) (these k l ys)
  unfolding cycle_pieces_from without_offsets
  whole_reading = record {
    behind_n = blank ∷ pieces_of false (permutation_bytes (these g h xs) ++ (59 ∷ permutation_bytes (these k l ys)));
    of_R = pieces_of false (permutation_bytes (these k l ys));
    n_is = subst
        (λ (ps : List CyclePiece). Blanks ps (number n ∷ blank ∷ pieces_of false (permutation_bytes (these g h xs) ++ (59 ∷ permutation_bytes (these k l ys)))))
        (sym (number_first n 32 (permutation_bytes (these g h xs) ++ (59 ∷ permutation_bytes (these k l ys))) refl)) here;
    S_is = subst
        (λ (ps : List CyclePiece). Written true (blank ∷ pieces_of false (permutation_bytes (these g h xs) ++ (59 ∷ permutation_bytes (these k l ys))))
        (these g h xs) ps)
        (mark_first false 59 (permutation_bytes (these k l ys)) refl)
        (blank_first (permutation_written g h xs (59 ∷ permutation_bytes (these k l ys))));
    R_is = subst (λ (t : List ℕ). Written true (pieces_of false t) (these k l ys) []) (append-nil (permutation_bytes (these k l ys)))
        (permutation_written k l ys []);
  }
