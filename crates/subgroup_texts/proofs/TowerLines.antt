-- The bytes.
--     passes_line, refused_line     the line for an answer
--     numbers_line                  the line for the numbers of a text
--     by_reading_lem                the bytes for a text, by what it gives
--     print_means                   what the bytes mean
-- Assumes nothing.
use Rattle.std.specs.Prelude.{Ok, Err}
use mathlib.Core.Path.{◌≡◌, sym, ap, subst, ◌∙◌}
use mathlib.Core.Bool.{Bool}
use mathlib.Core.List.{List, [], ◌∷◌}
use Prim.Native.Nat.{ℕ, ◌-◌, ◌≤◌}
use native.Mathlib.Omega.{arith}
use lib.IntN.{ℤ}
use lib.ListN.{length, take, drop, length-drop}
use lib.Seq.{take_all}
use Rattle.call.specs.Refusal.{answer_number, answer_place, Checked, Filled}
use Rattle.call.specs.declared.refusal.Refusal.{Refusal}
use Rattle.call.specs.Space.{work_length}
use Rattle.text.specs.Piece.{pieces, numbers}
use Rattle.text.specs.Reading.{by_reading}
use Rattle.text.specs.Line.{spaced, line, refusal_line}
use Rattle.call.specs.Call.{Step, Asks}
use Rattle.call.specs.Inner.Fills.{Fills}
use Rattle.towers.specs.Meaning.{TowerSays}
use Rattle.towers.specs.Tower.{symbols_check, named_check}
use Rattle.towers.specs.Answer.{count_check, claim_steps, tower_checks}
use Rattle.towers.proofs.Says.{verdict_is, with_space, answer_says}
use Rattle.subgroup_texts.specs.TowerAnswer.{tower_line, tower_reading, entries_in, behind_count, tower_answer, tower_bytes, TowerPrintMeans}

pub passes_line : (a : Checked) → a ≡ Ok tt → 112 ∷ 97 ∷ 115 ∷ 115 ∷ 101 ∷ 115 ∷ 10 ∷ [] ≡ tower_line a
unfolding line spaced
passes_line a e = sym (ap tower_line e)

pub refused_line : (a : Checked) (f : Refusal) → a ≡ Err f → refusal_line f ≡ tower_line a
refused_line a f e = sym (ap tower_line e)

-- the numbers behind the count, as the code lends them
behind : (ns : List ℤ) → take (length ns - 1) (drop 1 ns) ≡ behind_count ns
behind ns = take_all (length ns - 1) (drop 1 ns) (omega (arith, length-drop 1 ns))

-- the steps of the call, whose work space held w and then w'
abbrev tower_steps : (n : ℕ) (t : List ℤ) (w w' : List ℕ) → List Step
tower_steps n t w w' = Asks (count_check n) ∷ Asks (symbols_check n t n) ∷ Asks (named_check n t) ∷ claim_steps n t w w'

pub numbers_line : (ns : List ℤ) {c : ℕ} → c ≡ entries_in ns → (w w' : List ℕ) {a : Checked}
    → Fills (tower_steps c (take (length ns - 1) (drop 1 ns)) w w') (λ (x : Checked). x) a → work_length ≤ length w
    → tower_line a ≡ tower_line (tower_answer ns)
numbers_line ns {c} e w w' is h =
    let table = take (length ns - 1) (drop 1 ns) in
    ap tower_line (is.answer
    ∙ verdict_is c table w w'
    ∙ with_space c table (length w) h
    ∙ ap (λ (n : ℕ). tower_checks n table) e
    ∙ ap (tower_checks (entries_in ns)) (behind ns))

-- the bytes by what a text gives
abbrev bytes_by : Filled → List ℤ → List ℕ
bytes_by = by_reading (λ (ns : List ℤ). tower_line (tower_answer ns)) refusal_line

pub by_reading_lem : (longer : Bool) (t : List ℕ) (r : Filled) → r ≡ tower_reading longer t → bytes_by r (numbers (pieces t)) ≡ tower_bytes longer t
unfolding tower_bytes
by_reading_lem longer t r e = ap (λ (x : Filled). bytes_by x (numbers (pieces t))) e

said : (n : ℕ) (t : List ℤ) → let a = tower_checks n t in TowerSays n t work_length (answer_number a) (answer_place a)
said n t =
    let is = with_space n t work_length (omega arith) in
    subst (λ (c : Checked). TowerSays n t work_length (answer_number c) (answer_place c)) is (answer_says n t work_length)

pub print_means : (longer : Bool) (t bytes : List ℕ) → bytes ≡ tower_bytes longer t → TowerPrintMeans longer t bytes
unfolding tower_bytes
print_means longer t bytes e k g =
    let ns = take k (numbers (pieces t)) in
    record { line = e ∙ ap (λ (x : Filled). bytes_by x (numbers (pieces t))) g; says = said (entries_in ns) (behind_count ns) }
