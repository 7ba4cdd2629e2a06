-- `congruence_tables::identity` meets its contract: the bottom row of the identity is (0 1).
-- Assumes nothing.
use borrow.Author.Rules.{rules}
use Rattle.congruence_tables.proofs.Image.{one_residues, one_low, one_points, identity_0, identity_1, identity_2}
use Rattle.congruence_tables.proofs.identity.Goals as goal

pub point-requires : goal.point-requires
point-requires c =
    let s = c in
    one_points s.args.n s.requires.0 c.in-Gamma0.is s.args.w.now s.requires.1 s.requires.2

pub signed_row-requires : goal.signed_row-requires
signed_row-requires c = let s = c in (s.requires.0, s.requires.0.some, one_low s.args.n s.requires.0)

pub signed-requires : goal.signed-requires
signed-requires c = let s = c in (s.requires.0, one_residues s.args.n s.requires.0)

pub returns-in-Gamma0 : goal.returns-in-Gamma0
returns-in-Gamma0 c = let s = c in
    identity_0 s.args.n s.requires.0 c.point.result c.in-Gamma0.is c.point.ensures

pub returns-in-Gamma1 : goal.returns-in-Gamma1
returns-in-Gamma1 c = let s = c in
    identity_1 s.args.n s.requires.0 c.signed_row.result c.in-Gamma1.is c.signed_row.ensures

pub returns-in-Gamma : goal.returns-in-Gamma
returns-in-Gamma c = let s = c in
    identity_2 s.args.n s.requires.0 c.signed.result c.in-Gamma.is c.signed.ensures
