-- `group_symbol` meets its contract: its two ways out are those of proofs/NamedMaking.antt. Assumes nothing.
use mathlib.Core.Path.{sym, ◌∙◌}
use native.Mathlib.Omega.{arith}
use Rattle.symbol_texts.proofs.NamedMaking.{symbol_first, symbol_wide}
use Rattle.symbol_texts.proofs.named_text.group_symbol.Goals as goal

pub returns-then-is_over : goal.returns-then-is_over
returns-then-is_over c =
    let x = c.named_symbol_by-first in
    let y = c.named_symbol_by in
    let over = sym c.is_over.ensures ∙ c.if-is_over.true in
    let made = symbol_wide c.args.k c.args.n c.args.w.now x.new.w c.args.table.now x.new.out c.requires.0 c.requires.1 x.result
    x.ensures over (omega arith) (omega arith) y.new.w y.new.out y.result y.ensures in
    record { value = made.0; symbol_front = made.1 }

pub returns : goal.returns
returns c =
    let x = c.named_symbol_by-first in
    let over = sym c.is_over.ensures ∙ c.if-is_over.false in
    let made = symbol_first c.args.k c.args.n c.args.w.now x.new.w c.args.table.now x.new.out c.requires.0 c.requires.1 x.result
    x.ensures over in
    record { value = made.0; symbol_front = made.1 }
