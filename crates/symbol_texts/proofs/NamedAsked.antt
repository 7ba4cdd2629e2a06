-- What is asked and answered is known by the cases of the definitions; what is printed is read back as a symbol of the group because the symbol that the rule
-- gives for the group's tables is one (`print_means`).
--     few_numbers, enough_numbers       what the numbers of a text ask for
--     lines_as                          the lines for what is asked, in other words
-- Assumes nothing.
use Rattle.std.specs.Prelude.{Ok}
use mathlib.Core.Path.{◌≡◌, refl, sym, ap, subst, ◌∙◌}
use mathlib.Core.Bool.{Bool}
use mathlib.Core.List.{List}
use Prim.Native.Nat.{ℕ, ◌≤◌, ◌<◌}
use lib.IntN.{ℤ}
use lib.ListN.{length}
use borrow.Author.Tests.{lt-ltb, le-ltb}
use Rattle.matrix.specs.Matrix.{nth}
use Rattle.call.specs.Refusal.{◌or_else◌, Filled}
use Rattle.call.specs.declared.refusal.Refusal.TheVariants.{BadLevel}
use Rattle.call.proofs.Answers.{both_pass}
use Rattle.text.specs.Reading.{vertex_count}
use Rattle.import_rule.specs.Order.{Order}
use Rattle.import_symbol.specs.Answer.{check16, ruled_table}
use Rattle.import_call.specs.Import.{SymbolOfPair}
use Rattle.import_call.proofs.Told.{told_made}
use Rattle.symbol_texts.specs.ImportAnswer.{symbol_lines, lines_by}
use Rattle.symbol_texts.proofs.ImportReadBack.{symbol_read_back}
use Rattle.import_call.proofs.Means.{made_means}
use Rattle.congruence.specs.Cosets.{family_s, family_r}
use Rattle.named_groups.specs.Group.{family_of, group_check}
use Rattle.named_groups.specs.Answer.{named_rule, NamedSymbol}
use Rattle.named_groups.proofs.Checked.{check_named, group_of}
use Rattle.named_groups.proofs.Symbols.{symbol_named}
use Rattle.named_groups.proofs.Tables.{passport}
use Rattle.symbol_texts.specs.NamedAnswer.{GroupRequest, group, refused, group_in, group_request, made_by, order_for, group_lines}
use Rattle.symbol_texts.specs.NamedAnswer.{request_lines, named_bytes, NamedPrintMeans}

-- ---- the numbers of a text

pub few_numbers : (ns : List ℤ) → length ns < 2 → refused BadLevel ≡ group_in ns
unfolding group_in
few_numbers ns h = rw (lt-ltb (length ns) 2 h)

pub enough_numbers : (ns : List ℤ) {k n : ℕ} → 2 ≤ length ns → k ≡ vertex_count (nth ns 0) → n ≡ vertex_count (nth ns 1) → group k n ≡ group_in ns
unfolding group_in
enough_numbers ns {k} {n} h e f = rw (le-ltb (length ns) 2 h) (ap (λ (x : ℕ). group x n) e ∙ ap (group (vertex_count (nth ns 0))) f)

-- ---- a text

module _ (longer : Bool) (text : List ℕ) where
  pub lines_as : {a : GroupRequest} → a ≡ group_request longer text → request_lines a ≡ named_bytes longer text
  unfolding named_bytes
  lines_as e = ap request_lines e

-- ---- what is printed

symbol_made : (order : Order) (k n v : ℕ) → made_by order k n ≡ Ok v → NamedSymbol (family_of k) n v (ruled_table (named_rule order k n))
symbol_made order k n v m =
    let c = group_check k n or_else check16 (named_rule order k n) in
    let t = told_made c refl m in
    let p = both_pass (group_check k n) (check16 (named_rule order k n)) t.0 in
    let g = group_of k n (check_named k n p.0) in
    symbol_named (family_of k) n g v (ruled_table (named_rule order k n))
    (subst (λ (j : ℕ). SymbolOfPair (family_s (family_of k) n) (family_r (family_of k) n) j (ruled_table (named_rule order k n))) (sym t.1)
    (made_means order (family_s (family_of k) n) (family_r (family_of k) n) (passport (family_of k) n g) p.1))

pub print_means : (a : GroupRequest) (bytes : List ℕ) → bytes ≡ request_lines a → NamedPrintMeans a bytes
unfolding group_lines
print_means a bytes e k n v f m =
    let t = ruled_table (named_rule (order_for k n) k n) in
    let g = symbol_made (order_for k n) k n v m in
    let b : bytes ≡ symbol_lines v t = e ∙ ap request_lines f ∙ ap (λ (x : Filled). lines_by x t) m in
    record { symbol = g; read_back = rw b (symbol_read_back v t g.symbol) }
