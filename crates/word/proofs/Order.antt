-- The claim for whatever a query answers (`claim`), what it leaves in the word space (`query_left`), and
-- what it leaves where it gets to its walk (`asked_fills`). The order of its refusals is in proofs/Refused.antt.
-- Assumes nothing.
use Rattle.std.specs.Prelude.{Ok, Err}
use mathlib.Core.Path.{◌≡◌, refl, sym, ◌∙◌, ap, subst}
use mathlib.Core.Bool.{Bool}
use mathlib.Core.List.{List, ◌∷◌}
use Prim.Native.Nat.{ℕ, ◌≤◌}
use native.Mathlib.Omega.{arith}
use lib.ListN.{length}
use lib.IntN.{ℤ}
use Rattle.matrix.specs.Matrix.{of_list}
use Rattle.matrix.specs.Bounds.{Small}
use Rattle.call.specs.Space.{work_length, zeros}
use Rattle.basics.specs.Count.{first}
use Rattle.call.specs.Call.{Step, Asks, Clears, length_check, verdict, if_accepted}
use Rattle.call.specs.Inner.Fills.{Fills}
use Rattle.call.proofs.Laws.{room_long}
use Rattle.symbol.specs.Check.{symbol_check}
use Rattle.symbol.specs.Symbol.{IsSymbol}
use Rattle.symbol.proofs.Accepted.{accepted, check_among}
use Rattle.basics.proofs.Count.{first_clear, clear_first, first_le}
use Rattle.call.specs.Refusal.{◌or_else◌, Checked, Answer, outcome}
use Rattle.call.specs.declared.refusal.Refusal.{Refusal}
use Rattle.word.specs.Answer.{large, matrices_check, closes, placed, found_word, found_sign, word_if, found_if, found_checks, query_of, word_left}
use Rattle.word.specs.Claim.{ValidQuery, Answered, Claim}
use Rattle.word.specs.declared.FoundWord.{FoundWord}
use Rattle.word.proofs.Pair.{small_clear, clear_small, unit_is, is_unit}
use Rattle.word.proofs.Claim.{answered}
use Rattle.word.proofs.Finding.{walk_run}
use Rattle.word.proofs.Refused.{Passed, passed_by, pair_passes, pair_among, reached, Before, before_ten, gets_asked, gets_short}

-- the tests that were passed, as the determinants and the walk ask for them
pub passed_small : (a b : List ℤ) → 8 ≤ first (large a b) 8 → Small 1000000 (of_list a) × Small 1000000 (of_list b)
passed_small a b h =
    let k = first_le (large a b) 8 in
    let z : first (large a b) 8 ≡ 8 = omega arith in
    clear_small a b (clear_first (large a b) 8 z)

pub asked : {v : ℕ} {t : List ℤ} {w : List ℕ} (a b : List ℤ) → IsSymbol v t → work_length ≤ length w → Passed a b → ValidQuery v t a b w
asked a b ok k p =
    let s = passed_small a b p.entries in
    record { symbol = ok; work = k; entries_A = s.0; entries_B = s.1; unit_A = unit_is a p.A; unit_B = unit_is b p.B }

pub asked_passed : {v : ℕ} {t : List ℤ} {w : List ℕ} (a b : List ℤ) → ValidQuery v t a b w → Passed a b
asked_passed a b q =
    let entries = first_clear (large a b) 8 (small_clear a b q.entries_A q.entries_B) in
    record { entries = omega (arith, entries); A = is_unit a q.unit_A; B = is_unit b q.unit_B }

-- ---- an answer from a verdict: its refusal, and what it leaves

module _ (start n : ℕ) (sign : Bool) where
  pub refusal_if : (c : Checked) → outcome (word_if start n sign c) ≡ c
  refusal_if (Ok tt) = refl
  refusal_if (Err f) = refl

  pub left_if : (c : Checked) (l out : List ℤ) → if_accepted c (placed start l out) out ≡ word_left (word_if start n sign c) l out
  left_if (Ok tt) l out = refl
  left_if (Err f) l out = refl

-- the steps of a query, from the spaces w and out to w' and out'
abbrev pub query_run : (v : ℕ) (t a b : List ℤ) (w w' : List ℕ) (out out' : List ℤ) (start : ℕ) → List Step
query_run v t a b w w' out out' start =
    Asks (symbol_check v t) ∷ Asks (matrices_check a b) ∷ Asks (length_check work_length (length w)) ∷ Clears w w'
    ∷ walk_run (closes v t (of_list a) (of_list b)) (found_word v t (of_list a) (of_list b)) out out' start

pub query_left : (v : ℕ) (t a b : List ℤ) (w w' : List ℕ) (out out' : List ℤ) (start : ℕ) {r : Answer FoundWord} → Fills (query_run v t a b w w' out out' start)
    (found_if v t a b start) r
    → out' ≡ word_left r (found_word v t (of_list a) (of_list b)) out
query_left v t a b w w' out out' start g =
    let l = found_word v t (of_list a) (of_list b) in
    g.leaves.1.0 ∙ left_if start (length l) (found_sign v t (of_list a) (of_list b)) (verdict (query_run v t a b w w' out out' start)) l out
    ∙ ap (λ (x : Answer FoundWord). word_left x l out) (sym g.answer)

-- ---- the claim

module _ (v : ℕ) (t a b : List ℤ) (w : List ℕ) (room start : ℕ) where
  abbrev n : ℕ
  n = length (found_word v t (of_list a) (of_list b))

  abbrev sign : Bool
  sign = found_sign v t (of_list a) (of_list b)

  abbrev found : Checked
  found = verdict (found_checks v t a b start room)

  -- a query that gets to its walk answers what the walk finds
  pub asked_found : ValidQuery v t a b w → found_if v t a b start found ≡ query_of v t a b (length w) room start
  asked_found q =
      ap (word_if start n sign)
      (sym (reached (symbol_check v t) (matrices_check a b) found w ((accepted v t).1 q.symbol) (sym (pair_passes a b (asked_passed a b q))) q.work))

-- a query that gets to its walk fills the word space as the walk does, and clears the work space
pub asked_fills : (v : ℕ) (t a b : List ℤ) (w w' : List ℕ) (out out' : List ℤ) (start : ℕ) {r : Answer FoundWord} → ValidQuery v t a b w
    → Fills (query_run v t a b w w' out out' start) (found_if v t a b start) r
    → Fills (walk_run (closes v t (of_list a) (of_list b)) (found_word v t (of_list a) (of_list b)) out out' start) (found_if v t a b start) r ×
    (w' ≡ zeros (length w))
asked_fills v t a b w w' out out' start q g =
    let c = verdict (found_checks v t a b start (length out)) in
    let space = length_check work_length (length w) in
    let ok = (accepted v t).1 q.symbol in
    let pair = sym (pair_passes a b (asked_passed a b q)) in
    let is = reached (symbol_check v t) (matrices_check a b) c w ok pair q.work in
    let front =
    ap (λ (x : Checked). (x or_else matrices_check a b) or_else space) ok ∙ ap (λ (x : Checked). x or_else space) pair
    ∙ room_long work_length (length w) q.work in (
      record {
        answer = g.answer ∙ ap (found_if v t a b start) is;
        leaves = (g.leaves.1.0 ∙ ap (λ (x : Checked). if_accepted x (placed start (found_word v t (of_list a) (of_list b)) out) out) is, tt);
      },
      g.leaves.0 ∙ ap (λ (x : Checked). if_accepted x (zeros (length w)) w) front,
    )

pub claim : {v : ℕ} {t a b : List ℤ} {w : List ℕ} {out : List ℤ} {start : ℕ} {r : Answer FoundWord} {out' : List ℤ} → r ≡ query_of v t a b (length w) (length out) start
    → out' ≡ word_left r (found_word v t (of_list a) (of_list b)) out → Claim v t a b w out start r out'
claim {v} {t} {a} {b} {w} {out} {start} {r} {out'} e f = record {
  asked = gets_asked (symbol_check v t) (matrices_check a b) found w valid of_symbol of_pair start n sign e;
  short = gets_short (symbol_check v t) (matrices_check a b) found w valid of_symbol of_pair start n sign e;
  answered = by_walk;
}
  where
    n : ℕ
    n = length (found_word v t (of_list a) (of_list b))

    sign : Bool
    sign = found_sign v t (of_list a) (of_list b)

    found : Checked
    found = verdict (found_checks v t a b start (length out))

    valid : symbol_check v t ≡ Ok tt → matrices_check a b ≡ Ok tt → work_length ≤ length w → ValidQuery v t a b w
    valid s p k = asked a b ((accepted v t).0 s) k (passed_by a b p)

    of_symbol : (g : Refusal) → symbol_check v t ≡ Err g → Before g
    of_symbol = before_ten 1 7 (symbol_check v t) (omega arith) (omega arith) (check_among v t)

    of_pair : (g : Refusal) → matrices_check a b ≡ Err g → Before g
    of_pair = before_ten 8 9 (matrices_check a b) (omega arith) (omega arith) (pair_among a b)

    by_walk : ValidQuery v t a b w
        → Answered v t (of_list a) (of_list b) (found_word v t (of_list a) (of_list b)) (found_sign v t (of_list a) (of_list b)) out start r out'
    by_walk q =
        let l = found_word v t (of_list a) (of_list b) in
        let s = found_sign v t (of_list a) (of_list b) in
        let z : r ≡ found_if v t a b start (verdict (found_checks v t a b start (length out))) = e ∙ sym (asked_found v t a b w (length out) start q) in
        subst (λ (o : List ℤ). Answered v t (of_list a) (of_list b) l s out start r o) (sym f)
        (subst (λ (x : Answer FoundWord). Answered v t (of_list a) (of_list b) l s out start x (word_left x l out)) (sym z)
        (answered q.symbol a b q.unit_A q.unit_B out start))
