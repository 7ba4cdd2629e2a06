-- `check_moves` makes check 14 for S, then for R, then 15: the closures tell what the two tests say. Assumes nothing.
use mathlib.Core.Path.{sym, ◌∙◌}
use borrow.Author.Rules.{rules}
use Rattle.permutations.specs.Check.{twice_moved, thrice_moved}
use Rattle.permutations.proofs.check_moves.Goals as goal

pub returns-in_err-check_order-2 : goal.returns-in_err-check_order-2
returns-in_err-check_order-2 c =
    let S = c.args.s.now in
    let R = c.args.r.now in
    let a = c.check_order.ensures (twice_moved S) (λ x b h p. search rules) in
    let b = c.check_order-2.ensures (thrice_moved R) (λ x b h p. search rules) in
    let passed = sym a ∙ c.in_ok-check_order.was in
    let refused = sym b ∙ c.in_err-check_order-2.was in
    rw (passed, refused) (search rules)
