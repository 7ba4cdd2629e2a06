-- Rows of k numbers in a table, one after another.
--     two_stores       two stores side by side are a row of two
--     row_as           a row of equal numbers
--     two_rows         two rows of two are a row of four
--     rows-length, rows_more    the first i rows: their length, and one row more
-- Assumes nothing.
use mathlib.Core.Path.{◌≡◌, sym, ◌∙◌, ap}
use mathlib.Core.List.{List, [], ◌∷◌, ◌++◌, append_assoc}
use Prim.Native.Nat.{ℕ, zero, suc, ◌+◌, ◌*◌, ◌≤◌}
use native.Mathlib.Omega.{arith}
use lib.ListN.{length, set, take, drop, length-append}
use lib.Seq.{sets-eq, take_at, drop_at, drop-drop, length-take-le}
use lib.IntN.{ℤ}
use Rattle.sheets.specs.Inner.Pairs.{row_at}

pub two_stores : (lines : List ℤ) (i : ℕ) (a b : ℤ) → 2 * i + 2 ≤ length lines → set (set lines (2 * i) a) (2 * i + 1) b ≡ row_at 2 i (a ∷ b ∷ []) lines
two_stores lines i a b h = let next : 2 * i + 1 ≡ suc (2 * i) = omega arith in rw next (sets-eq (a ∷ b ∷ []) lines (2 * i) h)

pub row_as : (i : ℕ) (lines : List ℤ) {a b a' b' : ℤ} → a ≡ a' → b ≡ b' → row_at 2 i (a ∷ b ∷ []) lines ≡ row_at 2 i (a' ∷ b' ∷ []) lines
row_as i lines e f = cc (e, f)

pub two_rows : (i : ℕ) (x y lines : List ℤ) → length x ≡ 2 → 4 * i + 4 ≤ length lines
    → row_at 2 (2 * i + 1) y (row_at 2 (2 * i) x lines) ≡ row_at 4 i (x ++ y) lines
two_rows i x y lines l h =
    let at : 2 * (2 * i) ≡ 4 * i = omega arith in
    let last : 2 * (2 * i) + 2 + 2 ≡ 4 * i + 4 = omega arith in
    let front = take (2 * (2 * i)) lines ++ x in
    let rest = drop (2 * (2 * i) + 2) lines in
    let long : length front ≡ 2 * (2 * i + 1) =
    length-append (take (2 * (2 * i)) lines) x ∙ omega (arith, length-take-le (2 * (2 * i)) lines (omega arith), l) in
    let behind : drop (2 * (2 * i + 1) + 2) (front ++ rest) ≡ drop (4 * i + 4) lines =
    sym (drop-drop 2 (2 * (2 * i + 1)) (front ++ rest)) ∙ ap (drop 2) (drop_at front rest (2 * (2 * i + 1)) long) ∙ drop-drop 2 (2 * (2 * i) + 2) lines
    ∙ ap (λ (k : ℕ). drop k lines) last in
    ap (λ (a : List ℤ). a ++ y ++ drop (2 * (2 * i + 1) + 2) (front ++ rest)) (take_at front rest (2 * (2 * i + 1)) long)
    ∙ ap (λ (b : List ℤ). front ++ y ++ b) behind
    ∙ ap (λ (a : List ℤ). a ++ drop (4 * i + 4) lines)
    (append_assoc (take (2 * (2 * i)) lines) x y ∙ ap (λ (n : ℕ). take n lines ++ (x ++ y)) at)

module _ (k : ℕ) (row : ℕ → List ℤ) (long : (i : ℕ) → length (row i) ≡ k) (front : ℕ → List ℤ) (none : front 0 ≡ [])
    (next : (i : ℕ) → front (suc i) ≡ front i ++ row i) where
  pub rows_length : (i : ℕ) → length (front i) ≡ k * i
  rows_length zero = ap length none ∙ omega arith
  rows_length (suc i) = let e = rows_length i in ap length (next i) ∙ length-append (front i) (row i) ∙ omega (arith, long i)

  pub rows_more : (i : ℕ) (lines lines' : List ℤ) → lines' ≡ front i ++ drop (k * i) lines → row_at k i (row i) lines' ≡ front (suc i) ++ drop (k * suc i) lines
  rows_more i lines lines' e =
      let rest = drop (k * i) lines in
      let sum : k * i + k ≡ k * suc i = omega arith in
      let before = ap (take (k * i)) e ∙ take_at (front i) rest (k * i) (rows_length i) in
      let behind =
      ap (drop (k * i + k)) e ∙ sym (drop-drop k (k * i) (front i ++ rest)) ∙ ap (drop k) (drop_at (front i) rest (k * i) (rows_length i))
      ∙ drop-drop k (k * i) lines ∙ ap (λ (j : ℕ). drop j lines) sum in
      ap (λ (x : List ℤ). x ++ row i ++ drop (k * i + k) lines') before ∙ ap (λ (x : List ℤ). front i ++ row i ++ x) behind
      ∙ ap (λ (x : List ℤ). x ++ drop (k * suc i) lines) (sym (next i))
