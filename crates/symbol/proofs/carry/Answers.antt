-- `carry` is n x m⁻¹. Why it fits in 64 bits: entries of n and m to 10⁹ and of x to 1 give n x entries to 2 · 10⁹, and so the last product
-- has room (`room`, `small-⊗`, `small_adj`). Assumes nothing.
use lib.Dec.{lit<}
use Rattle.matrix.specs.Matrix.{of_list, ◌⊗◌, adj}
use Rattle.matrix.proofs.Bounds.{room, small-⊗, small_adj}
use Rattle.symbol.proofs.carry.Goals as goal

pub product-left-requires : goal.product-left-requires
product-left-requires c = room 1000000000 1 (of_list c.args.n) (of_list c.args.x) (lit< tt) c.requires.0 c.requires.1

pub product-requires : goal.product-requires
product-requires c =
    let a = c in
    let s = a in
    let n = of_list s.args.n in
    let x = of_list s.args.x in
    let m = of_list s.args.m in
    rw (a.product-left.ensures, c.inverse-right.ensures)
    (room 2000000000 1000000000 (n ⊗ x) (adj m) (lit< tt) (small-⊗ 1000000000 1 n x s.requires.0 s.requires.1) (small_adj 1000000000 m s.requires.2))

pub returns : goal.returns
returns c = let b = c in let a = b in rw (c.product.ensures, a.product-left.ensures, b.inverse-right.ensures)
