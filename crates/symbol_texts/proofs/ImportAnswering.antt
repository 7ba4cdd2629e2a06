-- Laws of what is answered and left.
--     front_is                          what stands at the front of the result space is the symbol's table
--     own_spaces                        what is refused where no space is too short
--     lines_are, symbol_is, front_made  the lines of an import in the program's spaces; where a symbol was made, what it is and where its table stands
--     few_numbers, enough_numbers       what the numbers of a text ask for
--     numbers_by                        what is left of the numbers by the answer of `read_input`
--     read_refused                      what is asked where `read_tables` refuses
--     tables_none, tables_some, tables_as    no tables are read; two tables; the same in other words
--     lines_as                          the lines for what is asked, in other words
-- Assumes nothing.
use Rattle.std.specs.Prelude.{Ok, Err}
use mathlib.Core.Path.{◌≡◌, refl, sym, ap, subst, ◌∙◌}
use mathlib.Core.Bool.{Bool}
use mathlib.Core.List.{List, ◌++◌}
use Prim.Native.Nat.{ℕ, ◌+◌, ◌-◌, ◌*◌, ◌/◌, ◌≤◌, ◌<◌}
use native.Mathlib.Omega.{arith}
use lib.IntN.{ℤ}
use lib.ListN.{length, take, drop, length-append, length-drop}
use lib.Seq.{take_at}
use borrow.Author.Tests.{lt-ltb, le-ltb}
use Rattle.call.specs.Refusal.{◌or_else◌, Checked, Filled}
use Rattle.call.specs.declared.refusal.Refusal.TheVariants.{PointCount}
use Rattle.call.specs.declared.refusal.Refusal.{Refusal}
use Rattle.call.proofs.Apart.{refused_made}
use Rattle.call.specs.Space.{work_length}
use Rattle.call.specs.Call.{length_check, at_front, if_accepted}
use Rattle.call.specs.Inner.Fills.{Fills, made_if}
use Rattle.call.proofs.Laws.{room_long}
use Rattle.text.specs.Piece.{pieces, numbers}
use Rattle.text.specs.Reading.{input_of}
use Rattle.text.specs.Inner.Inside.{left_by}
use Rattle.import_symbol.specs.Answer.{check16, ruled_table}
use Rattle.permutations.specs.Check.{pair_check}
use Rattle.import_rule.specs.Order.{Order}
use Rattle.import_rule.specs.Symbol.{Ruled, ruled_by}
use Rattle.import_call.specs.Import.{needed_vertices, needed_length, SymbolOfPair}
use Rattle.permutations.proofs.Accepted.{accepted}
use Rattle.import_call.proofs.Means.{symbol_steps, import_verdict, accepted_means}
use Rattle.import_call.proofs.Told.{told_made}
use Rattle.import_call.proofs.Answering.{admitted}
use Rattle.symbol_texts.specs.ImportAnswer.{points_from, Request, tables, refused, tables_in, import_format, request_of, lines_by}
use Rattle.symbol_texts.specs.ImportAnswer.{import_lines, lines_for, imported_by}
use Rattle.symbol_texts.specs.Inner.ImportSpaces.{filled, numbers_left, tables_read, TablesRead}

pub front_is : (k : ℕ) (t out out' : List ℤ) → out' ≡ t ++ drop k out → length out' ≡ length out → k ≤ length out → take k out' ≡ t
front_is k t out out' e l h =
    let n : length t + length (drop k out) ≡ length out = sym (length-append t (drop k out)) ∙ ap length (sym e) ∙ l in
    ap (take k) e ∙ take_at t (drop k out) k (omega (arith, n, length-drop k out))

-- where no space is too short, the check and 16 alone can refuse
pub own_spaces : (c g : Checked) (work needed room : ℕ) → work ≡ work_length → (c ≡ Ok tt → needed ≤ room)
    → (c or_else length_check work_length work or_else length_check needed room or_else g or_else (Ok tt)) ≡ (c or_else g)
own_spaces (Err f) g work needed room h k = refl
own_spaces (Ok tt) g work needed room h k =
    ap (λ (x : Checked). x or_else length_check needed room or_else g or_else (Ok tt)) (room_long work_length work (omega (arith, h)))
    ∙ ap (λ (x : Checked). x or_else g or_else (Ok tt)) (room_long needed room (k refl)) ∙ same g
  where
    same : (x : Checked) → (x or_else (Ok tt)) ≡ x
    same (Ok tt) = refl
    same (Err f) = refl

-- an import in the program's own spaces
module _ (order : Order) (s r w w' : List ℕ) (o o' : List ℤ) (work : length w ≡ work_length) (room : length o ≡ 3070) {a : Filled}
    (g : Fills (admitted (pair_check s r) w (needed_vertices r) w' (symbol_steps order s r o o')) (made_if (needed_vertices r)) a) where
  abbrev G : Ruled
  G = ruled_by order s r

  verdict_is : import_verdict order s r w o ≡ (pair_check s r or_else check16 G)
  verdict_is =
      own_spaces (pair_check s r) (check16 G) (length w) (needed_length r) (length o) work
      (λ e. let p = (accepted s r).0 e in omega (arith, room, p.most, p.even))

  pub lines_are : lines_by a (ruled_table G) ≡ import_lines order s r
  unfolding import_lines
  lines_are = ap (λ (x : Filled). lines_by x (ruled_table G)) (g.answer ∙ ap (made_if (needed_vertices r)) verdict_is)

  module _ {v : ℕ} (d : a ≡ Ok v) where
    told : (import_verdict order s r w o ≡ Ok tt) × (v ≡ needed_vertices r)
    told = told_made (import_verdict order s r w o) g.answer d

    pub symbol_is : SymbolOfPair s r v (ruled_table G)
    symbol_is = subst (λ (k : ℕ). SymbolOfPair s r k (ruled_table G)) (sym told.1) (accepted_means order s r w o told.0)

    pub front_made : take (3 * v + 1) o' ≡ ruled_table G
    front_made =
        ap (take (3 * v + 1)) (g.leaves.1.0 ∙ ap (λ (x : Checked). if_accepted x (at_front (ruled_table G) o) o) told.0)
        ∙ take_at (ruled_table G) (drop (length (ruled_table G)) o) (3 * v + 1) symbol_is.precisely.symbol.long

pub few_numbers : (ns : List ℤ) → length ns < 3 → refused PointCount ≡ tables_in ns
unfolding tables_in
few_numbers ns h = rw (lt-ltb (length ns) 3 h)

pub enough_numbers : (ns : List ℤ) → 3 ≤ length ns
    → tables (points_from 1 ((length ns - 1) / 2) ns) (points_from ((length ns - 1) / 2 + 1) ((length ns - 1) / 2) ns) ≡ tables_in ns
unfolding tables_in
enough_numbers ns h = rw (le-ltb (length ns) 3 h) refl

module _ (longer : Bool) (text : List ℕ) where
  pub numbers_by : (r : Filled) → r ≡ input_of longer import_format text 6133 → (ns : List ℤ) → left_by r (numbers (pieces text)) ns ≡ numbers_left longer text ns
  unfolding numbers_left
  numbers_by r e ns = ap (λ (x : Filled). left_by x (numbers (pieces text)) ns) e

  pub lines_as : (order : Order) {a : Request} → a ≡ request_of longer text → lines_for order a ≡ imported_by order longer text
  unfolding imported_by
  lines_as order e = ap (lines_for order) e

-- ---- the tables that are read

made_same : {m n : ℕ} → ◌≡◌ {A = Filled} (Ok m) (Ok n) → m ≡ n
made_same e = cc

pub read_refused : (a : Request) (f : Refusal) → Err f ≡ tables_read a → refused f ≡ a
read_refused (tables s r) f e = refused_made e
read_refused (refused g) f e = ap refused (same e)
  where
    same : ◌≡◌ {A = Filled} (Err f) (Err g) → f ≡ g
    same q = cc

pub tables_none : (f : Refusal) (s r : List ℕ) → TablesRead (refused f) s r (Err f) s r
tables_none f s r = record { answered = refl; for_S = refl; for_R = refl; most = λ n e. refused_made e; fronts = λ n e. refused_made e }

pub tables_some : (n : ℕ) (S R s r s' r' : List ℕ) → length S ≡ n → n ≤ 3066 → s' ≡ filled S s → r' ≡ filled R r → take n s' ≡ S → take n r' ≡ R
    → TablesRead (tables S R) s r (Ok n) s' r'
tables_some n S R s r s' r' l h p q u v = record {
  answered = ap Ok (sym l);
  for_S = p;
  for_R = q;
  most = λ m e. omega (arith, made_same e);
  fronts = λ m e. ap (λ (k : ℕ). tables (take k s') (take k r')) (sym (made_same e)) ∙ ap (λ (x : List ℕ). tables x (take n r')) u ∙ ap (tables S) v;
}

pub tables_as : {a b : Request} {s r s' r' : List ℕ} {x : Filled} → a ≡ b → TablesRead a s r x s' r' → TablesRead b s r x s' r'
tables_as {a} {b} {s} {r} {s'} {r'} {x} e l = rw (← e) l
