-- Lines of the table, put one after another as the code does it.
--     refused-line, word_bytes, word-used     a line, by the numbers that the code reads in it
--     signs_apart                  the test of the sign
--     Printing                     the state of the loop: `printing_none` and `printing_more` are its start and a turn
-- Assumes nothing.
use mathlib.Core.Path.{◌≡◌, refl, sym, ap, ◌∙◌, subst}
use mathlib.Core.Bool.{Bool, true, false, not}
use mathlib.Core.List.{List, [], ◌∷◌}
use Prim.Native.Nat.{ℕ, suc, ◌+◌, ◌*◌, ◌≤◌}
use native.Mathlib.Omega.{arith}
use lib.IntN.{ℤ, pos, negsuc, nat_abs}
use lib.Signed.{lt_z, le_z}
use lib.ListN.{length}
use borrow.Author.Tests.{eq-eqb, ne_eqb, le-ltb, le-leb}
use Rattle.basics.proofs.Choice.{pick_true, pick_false}
use Rattle.matrix.specs.Matrix.{nth}
use Rattle.decimal.specs.Ascii.{ascii}
use Rattle.text.specs.Line.{natural, line}
use Rattle.decimal.specs.Writing.{Puts}
use Rattle.decimal.proofs.Placing.{puts_as, puts_none, puts_then, puts_same}
use Rattle.query_text.specs.Reply.{word_head}
use Rattle.sheets.specs.Sheet.{line_in}
use Rattle.query_text.specs.Inner.SheetTable.{is_word, named_word, printed_row, used, printed_rows, used_to}

sign_back : (s b : Bool) → b ≡ not s → s ≡ not b
sign_back true b e = ap not (sym e)
sign_back false b e = ap not (sym e)

module _ (l letters : List ℤ) where
  abbrev as_word : List ℕ
  as_word = line (word_head (not (lt_z (nth l 3) (pos 0)))) (named_word l letters)

  abbrev as_refusal : List ℕ
  as_refusal = line (ascii "refused") (natural (nat_abs (nth l 0)) ∷ natural (nat_abs (nth l 1)) ∷ [])

  pub refused_line : (number place : ℕ) → number ≡ nat_abs (nth l 0) → place ≡ nat_abs (nth l 1) → (number ≡ 0 → ⊥)
      → line (ascii "refused") (natural number ∷ natural place ∷ []) ≡ printed_row l letters
  unfolding printed_row
  refused_line number place e f h =
      ap (λ (n : ℕ). line (ascii "refused") (natural n ∷ natural place ∷ [])) e
      ∙ ap (λ (p : ℕ). line (ascii "refused") (natural (nat_abs (nth l 0)) ∷ natural p ∷ [])) f
      ∙ sym (pick_false (is_word l) as_word as_refusal (ne_eqb (nat_abs (nth l 0)) 0 (λ z. h (e ∙ z))))

  module _ {number : ℕ} (e : number ≡ nat_abs (nth l 0)) (z : number ≡ 0) {word : List ℤ} (w : word ≡ named_word l letters) where
    zero_first : is_word l ≡ true
    zero_first = eq-eqb (nat_abs (nth l 0)) 0 (sym e ∙ z)

    pub word_bytes : (s : Bool) → lt_z (nth l 3) (pos 0) ≡ not s → line (word_head s) word ≡ printed_row l letters
    unfolding printed_row
    word_bytes s h =
        ap (line (word_head s)) w
        ∙ ap (λ (b : Bool). line (word_head b) (named_word l letters)) (sign_back s (lt_z (nth l 3) (pos 0)) h)
        ∙ sym (pick_true (is_word l) as_word as_refusal zero_first)

    pub word_used : used l letters ≡ length word
    unfolding used
    word_used = pick_true (is_word l) (length (named_word l letters)) 0 zero_first ∙ ap length (sym w)

-- the test that the code makes on the sign
pub signs_apart : (z : ℤ) → lt_z z (pos 0) ≡ not (le_z (pos 0) z)
signs_apart (pos n) = rw (le-ltb n 0 (omega arith), le-leb 0 n (omega arith))
signs_apart (negsuc n) = refl

-- ---- the loop

pub record Printing (lines letters : List ℤ) (i end : ℕ) (out₀ out : List ℕ) : Type 0 where
  pub puts : Puts (printed_rows lines letters i) 0 end out₀ out
  pub most : end ≤ 7 * used_to lines letters i + 50 * i
  pub same : length out ≡ length out₀

pub printing_none : (lines letters : List ℤ) (out : List ℕ) → Printing lines letters 0 0 out out
unfolding printed_rows used_to
printing_none lines letters out = record { puts = puts_none 0 out; most = omega arith; same = refl }

pub printing_more : {lines letters : List ℤ} {i end : ℕ} {out₀ out : List ℕ} {part : List ℤ} {end' : ℕ} {out' : List ℕ} → Printing lines letters i end out₀ out
    → part ≡ line_in lines i → Puts (printed_row part letters) end end' out out' → end' ≤ end + (7 * used part letters + 50) → end' ≤ length out
    → (j : ℕ) → j ≡ suc i → Printing lines letters j end' out₀ out'
unfolding printed_rows used_to
printing_more {lines} {letters} {i} {end} {out₀} {out} {part} {end'} {out'} s e p more room j k =
    subst (λ (m : ℕ). Printing lines letters m end' out₀ out') (sym k) (record {
      puts = puts_then s.puts (puts_as (ap (λ (l : List ℤ). printed_row l letters) e) p) (omega arith);
      most = omega (arith, s.most, ap (λ (l : List ℤ). used l letters) e);
      same = puts_same p (omega (arith, p.end_is)) ∙ s.same;
    })
