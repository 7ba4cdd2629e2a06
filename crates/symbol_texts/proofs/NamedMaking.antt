-- The symbol of a group is made under the order that `order_for` names: a first call that is refused with 16 leaves spaces of the same lengths, so the second
-- call has room too.
--     symbol_first, symbol_wide   the two ways out
--     lines_are                   the lines of the answer
-- Assumes nothing.
use Rattle.std.specs.Prelude.{Ok}
use mathlib.Core.Path.{◌≡◌, sym, ap, subst, ◌∙◌}
use mathlib.Core.Bool.{Bool, true, false}
use mathlib.Core.List.{List}
use Prim.Native.Nat.{ℕ, ◌+◌, ◌*◌}
use native.Mathlib.Omega.{arith}
use lib.IntN.{ℤ}
use lib.ListN.{length, take, drop}
use lib.Seq.{take_at}
use Rattle.basics.specs.Choice.{pick}
use Rattle.call.specs.Refusal.{◌or_else◌, Checked, Filled}
use Rattle.call.specs.Space.{work_length}
use Rattle.call.specs.Call.{at_front, if_accepted}
use Rattle.call.specs.Inner.Fills.{Fills, made_if}
use Rattle.congruence.specs.Cosets.{family_s, family_r}
use Rattle.import_rule.specs.Order.{Order, leftmost, longest_open}
use Rattle.import_symbol.specs.Answer.{check16, ruled_table}
use Rattle.import_call.specs.Import.{needed_vertices, needed_length}
use Rattle.import_call.proofs.Means.{symbol_steps}
use Rattle.import_call.proofs.Told.{told_made}
use Rattle.import_call.proofs.Answering.{admitted}
use Rattle.symbol_texts.specs.ImportAnswer.{lines_by}
use Rattle.symbol_texts.proofs.ImportAnswering.{own_spaces}
use Rattle.named_groups.specs.Group.{family_of, group_check}
use Rattle.named_groups.specs.Answer.{named_rule, NamedSymbol}
use Rattle.named_groups.proofs.Checked.{check_named, group_of}
use Rattle.named_groups.proofs.Tables.{passport}
use Rattle.named_groups.proofs.Answers.{symbol_verdict, symbol_accepted}
use Rattle.symbol_texts.specs.NamedAnswer.{made_by, is_over, order_for, group_lines}
use Rattle.symbol_texts.specs.Inner.Front.{SymbolFront}

module _ (k n : ℕ) where
  abbrev vertices : ℕ
  vertices = needed_vertices (family_r (family_of k) n)

  -- an answer in spaces of the program's lengths
  module _ (order : Order) (w w' : List ℕ) (t t' : List ℤ) (long : length w ≡ work_length) (room : length t ≡ 3070) {a : Filled}
      (g : Fills (admitted (group_check k n) w vertices w' (symbol_steps order (family_s (family_of k) n) (family_r (family_of k) n) t t')) (made_if vertices) a) where
    abbrev table : List ℤ
    table = ruled_table (named_rule order k n)

    verdict_is : symbol_verdict order k n w t ≡ (group_check k n or_else check16 (named_rule order k n))
    verdict_is =
        own_spaces (group_check k n) (check16 (named_rule order k n)) (length w) (needed_length (family_r (family_of k) n)) (length t) long
        (λ e. let p = passport (family_of k) n (group_of k n (check_named k n e)) in omega (arith, room, p.most, p.even))

    made_in : a ≡ made_by order k n
    made_in = g.answer ∙ ap (made_if vertices) verdict_is

    module _ (v : ℕ) (d : a ≡ Ok v) where
      told : (symbol_verdict order k n w t ≡ Ok tt) × (v ≡ vertices)
      told = told_made (symbol_verdict order k n w t) g.answer d

      symbol_is : NamedSymbol (family_of k) n v table
      symbol_is = subst (λ (m : ℕ). NamedSymbol (family_of k) n m table) (sym told.1) (symbol_accepted order k n w t told.0)

      front_is : take (3 * v + 1) t' ≡ table
      front_is =
          ap (take (3 * v + 1)) (g.leaves.1.0 ∙ ap (λ (x : Checked). if_accepted x (at_front table t) t) told.0)
          ∙ take_at table (drop (length table) t) (3 * v + 1) symbol_is.symbol.long

    left : order ≡ order_for k n → (a ≡ made_by (order_for k n) k n) × SymbolFront k n a t'
    left e = (
      made_in ∙ ap (λ (o : Order). made_by o k n) e,
      record {
        symbol = λ v d. subst (λ (o : Order). NamedSymbol (family_of k) n v (ruled_table (named_rule o k n))) e (symbol_is v d);
        front = λ v d. front_is v d ∙ ap (λ (o : Order). ruled_table (named_rule o k n)) e;
      },
    )

  order_is : (a : Filled) (b : Bool) → a ≡ made_by leftmost k n → is_over a ≡ b → pick b longest_open leftmost ≡ order_for k n
  order_is a b p q = ap (λ (x : Bool). pick x longest_open leftmost) (sym q ∙ ap is_over p)

  module _ (w w' : List ℕ) (t t' : List ℤ) (long : length w ≡ work_length) (room : length t ≡ 3070) (a : Filled)
      (g : Fills (admitted (group_check k n) w vertices w' (symbol_steps leftmost (family_s (family_of k) n) (family_r (family_of k) n) t t'))
      (made_if vertices) a) where
    pub symbol_first : is_over a ≡ false → (a ≡ made_by (order_for k n) k n) × SymbolFront k n a t'
    symbol_first over = left leftmost w w' t t' long room g (order_is a false (made_in leftmost w w' t t' long room g) over)

    pub symbol_wide : is_over a ≡ true → length w' ≡ length w → length t' ≡ length t → (w2 : List ℕ) (t2 : List ℤ) (a2 : Filled)
        → Fills (admitted (group_check k n) w' vertices w2 (symbol_steps longest_open (family_s (family_of k) n) (family_r (family_of k) n) t' t2))
        (made_if vertices) a2
        → (a2 ≡ made_by (order_for k n) k n) × SymbolFront k n a2 t2
    symbol_wide over same same' w2 t2 a2 g2 =
        left longest_open w' w2 t' t2 (same ∙ long) (same' ∙ room) g2 (order_is a true (made_in leftmost w w' t t' long room g) over)

-- ---- its lines

pub lines_are : (k n : ℕ) (a b : Filled) → a ≡ made_by (order_for k n) k n → a ≡ b → lines_by b (ruled_table (named_rule (order_for k n) k n)) ≡ group_lines k n
unfolding group_lines
lines_are k n a b e d = ap (λ (x : Filled). lines_by x (ruled_table (named_rule (order_for k n) k n))) (sym d ∙ e)
