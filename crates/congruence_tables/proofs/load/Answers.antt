-- `congruence_tables::load` meets its contract: two reads, and for Γ0 two more.
-- Assumes nothing.
use borrow.Author.Rules.{rules}
use Rattle.congruence_tables.proofs.Entries.{loaded_0, loaded_1, loaded_2}
use Rattle.congruence_tables.proofs.load.Goals as goal

pub returns-in-Gamma0 : goal.returns-in-Gamma0
returns-in-Gamma0 c =
    let told = c in
    let two = told in
    let one = two in
    let s = one in
    loaded_0 s.args.w.now s.args.j one.wide-p.ensures two.wide-q.ensures told.in-Gamma0.is c.wide.ensures
    c.wide-in-Gamma0.ensures

pub returns-in-Gamma1 : goal.returns-in-Gamma1
returns-in-Gamma1 c =
    let two = c in
    let one = two in
    let s = one in
    loaded_1 s.args.w.now s.args.j one.wide-p.ensures two.wide-q.ensures c.in-Gamma1.is

pub returns-in-Gamma : goal.returns-in-Gamma
returns-in-Gamma c =
    let two = c in
    let one = two in
    let s = one in
    loaded_2 s.args.w.now s.args.j one.wide-p.ensures two.wide-q.ensures c.in-Gamma.is
