-- One pair of a sheet: where the symbol is accepted and the work space long enough, its answer is the single query's (`single`), and what it leaves is
-- what that leaves (`pair_left`); its entries are those of its part of the slice (`part_A`, `part_B`); and its line fits (`pair_fits`), since the numbers
-- and places of refusals are small (`SmallRefusal`, `pair_small`).
-- Assumes nothing.
use Rattle.std.specs.Prelude.{Ok, Err}
use mathlib.Core.Path.{◌≡◌, refl, sym, ◌∙◌, ap, subst}
use mathlib.Core.Bool.{Bool, true, false, not}
use mathlib.Core.List.{List, ◌∷◌}
use Prim.Native.Nat.{ℕ, ◌+◌, ◌-◌, ◌^◌, ◌≤◌, ◌<◌}
use native.Mathlib.Omega.{arith}
use lib.Dec.{leb, ltb}
use lib.ListN.{length, take, drop}
use lib.Seq.{get_or-take, get_or-drop}
use lib.IntN.{ℤ, pos}
use borrow.Author.Tests.{leb-true, not-false}
use Rattle.matrix.specs.Matrix.{nth, of_list}
use Rattle.basics.specs.Count.{first}
use Rattle.basics.proofs.Choice.{and_left, and_right}
use Rattle.basics.proofs.Count.{first_le}
use Rattle.call.specs.Space.{work_length}
use Rattle.call.specs.Refusal.{◌or_else◌, refusal_number, refusal_place, Checked, Answer}
use Rattle.call.specs.declared.refusal.Refusal.TheVariants.{MatrixEntry, BadDeterminant, NoWord, TooShort}
use Rattle.call.specs.declared.refusal.Refusal.{Refusal}
use Rattle.call.proofs.Answers.{both_pass, then_next}
use Rattle.call.specs.Call.{Step, Asks, verdict, length_check}
use Rattle.call.specs.Inner.Fills.{Fills}
use Rattle.call.proofs.Laws.{room_long}
use Rattle.symbol.specs.Check.{refuse, refuse_at, symbol_check}
use Rattle.symbol.specs.Symbol.{IsSymbol}
use Rattle.symbol.proofs.Accepted.{accepted, passes}
use Rattle.word.specs.Answer.{four, large, unit, matrices_check, closes, found_word, found_sign, word_fits, word_if, found_if, found_checks, query_of}
use Rattle.word.specs.Answer.{word_left, word_at}
use Rattle.word.specs.declared.FoundWord.{FoundWord}
use Rattle.word.proofs.Finding.{walk_run}
use Rattle.word.proofs.Refused.{passed_by}
use Rattle.word.proofs.Order.{left_if}
use Rattle.sheets.specs.Inner.Pairs.{pair_of, Fitting}
use Rattle.sheets.proofs.Long.{letters_most}

-- ---- the answer

pub single : {v : ℕ} {t : List ℤ} → IsSymbol v t → (work : ℕ) → work_length ≤ work → (a b : List ℤ) (room start : ℕ)
    → pair_of v t a b room start ≡ query_of v t a b work room start
single {v} {t} ok work h a b room start =
    let found = verdict (found_checks v t a b start room) in
    let space = length_check work_length work in
    ap (found_if v t a b start)
    (ap (λ (c : Checked). matrices_check a b or_else c) (then_next space found (room_long work_length work h))
    ∙ then_next (symbol_check v t) (matrices_check a b or_else space or_else found) ((accepted v t).1 ok))

-- the steps of a pair, from the word space `out` to out'
abbrev pub pair_run : (v : ℕ) (t a b out out' : List ℤ) (start : ℕ) → List Step
pair_run v t a b out out' start = Asks (matrices_check a b) ∷ walk_run (closes v t (of_list a) (of_list b)) (found_word v t (of_list a) (of_list b)) out out' start

-- by other names of the matrices
pub pair_as : (v : ℕ) (t : List ℤ) {a b a' b' : List ℤ} → a ≡ a' → b ≡ b' → {out out' : List ℤ} {start : ℕ} {r : Answer FoundWord}
    → Fills (pair_run v t a b out out' start) (found_if v t a b start) r → Fills (pair_run v t a' b' out out' start) (found_if v t a' b' start) r
pair_as v t {a} {b} {a'} {b'} e f {out} {out'} {start} {r} g =
    subst (λ (y : List ℤ). Fills (pair_run v t a' y out out' start) (found_if v t a' y start) r) f
    (subst (λ (x : List ℤ). Fills (pair_run v t x b out out' start) (found_if v t x b start) r) e g)

pub pair_left : (v : ℕ) (t a b out out' : List ℤ) (start : ℕ) {r : Answer FoundWord} → Fills (pair_run v t a b out out' start) (found_if v t a b start) r
    → out' ≡ word_left r (found_word v t (of_list a) (of_list b)) out
pair_left v t a b out out' start g =
    let l = found_word v t (of_list a) (of_list b) in
    g.leaves.0 ∙ left_if start (length l) (found_sign v t (of_list a) (of_list b)) (verdict (pair_run v t a b out out' start)) l out
    ∙ ap (λ (x : Answer FoundWord). word_left x l out) (sym g.answer)

-- ---- the entries

part_at : (p : List ℤ) (k i : ℕ) → i < 8 → nth (take 8 (drop k p)) i ≡ nth p (k + i)
part_at p k i h = get_or-take 8 (drop k p) i (pos 0) h ∙ get_or-drop k p i (pos 0)

part_four : (p : List ℤ) (k i : ℕ) → i ≤ 4 → four (take 8 (drop k p)) i ≡ four p (k + i)
unfolding four
part_four p k i h =
    let e : k + (i + 1) ≡ k + i + 1 = omega arith in
    let f : k + (i + 2) ≡ k + i + 2 = omega arith in
    let g : k + (i + 3) ≡ k + i + 3 = omega arith in
    cc (
      part_at p k i (omega arith),
      part_at p k (i + 1) (omega arith) ∙ ap (nth p) e,
      part_at p k (i + 2) (omega arith) ∙ ap (nth p) f,
      part_at p k (i + 3) (omega arith) ∙ ap (nth p) g,
    )

pub part_A : (p : List ℤ) (k : ℕ) → four (take 8 (drop k p)) 0 ≡ four p k
part_A p k = part_four p k 0 (omega arith) ∙ ap (four p) (omega arith)

pub part_B : (p : List ℤ) (k : ℕ) → four (take 8 (drop k p)) 4 ≡ four p (k + 4)
part_B p k = part_four p k 4 (omega arith)

-- ---- the line fits

abbrev pub SmallRefusal : Checked → Type 0
SmallRefusal (Ok tt) = Unit {0}
SmallRefusal (Err f) = (refusal_number f < 2 ^ 63) × (refusal_place f < 2 ^ 63)

small_refuse : (b : Bool) (f : Refusal) → refusal_number f < 2 ^ 63 → refusal_place f < 2 ^ 63 → SmallRefusal (refuse b f)
small_refuse true f h k = (h, k)
small_refuse false f h k = tt

small_first : (c d : Checked) → SmallRefusal c → (c ≡ Ok tt → SmallRefusal d) → SmallRefusal (c or_else d)
small_first (Ok tt) d h k = k refl
small_first (Err f) d h k = h

module _ (a b : List ℤ) where
  abbrev i : ℕ
  i = first (large a b) 8

  abbrev nine_A : Checked
  nine_A = refuse (not (unit a)) (BadDeterminant 0)

  abbrev nine_B : Checked
  nine_B = refuse (not (unit b)) (BadDeterminant 1)

  pub pair_small : SmallRefusal (matrices_check a b)
  pair_small =
      small_first (refuse_at i 8 MatrixEntry) (nine_A or_else nine_B)
      (small_refuse (ltb i 8) (MatrixEntry i) (omega arith) (omega (arith, first_le (large a b) 8)))
      (λ e. small_first nine_A nine_B (small_refuse (not (unit a)) (BadDeterminant 0) (omega arith) (omega arith))
      (λ f. small_refuse (not (unit b)) (BadDeterminant 1) (omega arith) (omega arith)))

fitting_if : (start n : ℕ) (sign : Bool) (c : Checked) → SmallRefusal c → (c ≡ Ok tt → start + n < 2 ^ 63) → Fitting (word_if start n sign c)
fitting_if start n sign (Ok tt) h k = record {
  word = λ start' n' sign' e. let u : word_at start' n' sign' ≡ word_at start n sign = cc in
      omega (arith, k refl, ap (λ (x : FoundWord). x.start) u, ap (λ (x : FoundWord). x.letters) u);
  refused = λ f e. let z : ◌≡◌ {A = ℕ} 0 1 = cc in absurd (omega arith);
}
fitting_if start n sign (Err f) h k = record {
  word = λ start n sign e. let z : ◌≡◌ {A = ℕ} 0 1 = cc in absurd (omega arith);
  refused = λ g e. let z : f ≡ g = cc in (rw (← z) h.0, rw (← z) h.1);
}

module _ {v : ℕ} {t : List ℤ} (ok : IsSymbol v t) (a b : List ℤ) (room start : ℕ) (h : room < 2 ^ 63) where
  abbrev n : ℕ
  n = length (found_word v t (of_list a) (of_list b))

  abbrev none : Checked
  none = refuse (not (closes v t (of_list a) (of_list b))) NoWord

  abbrev space : Checked
  space = refuse (not (word_fits start n room)) (TooShort n)

  in_room : (matrices_check a b or_else none or_else space or_else (Ok tt)) ≡ Ok tt → start + n < 2 ^ 63
  in_room e =
      let p = both_pass (matrices_check a b) (none or_else space or_else (Ok tt)) e in
      let q = both_pass none (space or_else (Ok tt)) p.1 in
      let f = not-false (word_fits start n room) (passes (not (word_fits start n room)) (TooShort n) (both_pass space (Ok tt) q.1).0) in
      omega (
        arith,
        leb-true start room (and_left (leb start room) (leb n (room - start)) f),
        leb-true n (room - start) (and_right (leb start room) (leb n (room - start)) f),
      )

  pub pair_fits : Fitting (pair_of v t a b room start)
  pair_fits =
      fitting_if start n (found_sign v t (of_list a) (of_list b)) (matrices_check a b or_else none or_else space or_else (Ok tt))
      (small_first (matrices_check a b) (none or_else space or_else (Ok tt)) (pair_small a b)
      (λ e. small_first none (space or_else (Ok tt)) (small_refuse (not (closes v t (of_list a) (of_list b))) NoWord (omega arith) (omega arith))
      (λ f. small_first space (Ok tt)
      (small_refuse (not (word_fits start n room)) (TooShort n) (omega arith) (omega (arith, letters_most ok a b (passed_by a b e)))) (λ g. tt))))
      in_room
