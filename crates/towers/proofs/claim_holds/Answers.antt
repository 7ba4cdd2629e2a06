-- `claim_holds` looks for the named entry, which is listed before (`named_below`). Assumes nothing.
use mathlib.Core.Path.{◌≡◌, ◌∙◌, sym, ap}
use mathlib.Core.Bool.{false}
use Prim.Native.Nat.{ℕ}
use native.Mathlib.Omega.{arith}
use borrow.Author.Rules.{rules}
use lib.IntN.{ℤ, pos}
use lib.Signed.{lt_z}
use mir.Syntax.{w64}
use mir.Val.{to_z, of_z}
use Rattle.matrix.specs.Matrix.{nth}
use Rattle.matrix.proofs.Bounds.{kept}
use Rattle.containment.specs.TwoSymbols.{contained}
use Rattle.towers.specs.Tower.{or_zero, named_at, vertices_at, table_at}
use Rattle.towers.proofs.Entries.{whole_symbols, two_here, named_here}
use Rattle.towers.proofs.Checks.{negative_holds, natural_holds, named_below}
use Rattle.towers.proofs.claim_holds.Goals.{After-or_zero, After-x-1, Start}
use Rattle.towers.proofs.claim_holds.Goals as goal

pub start_of-p-requires : goal.start_of-p-requires
start_of-p-requires c = let s = c in whole_symbols s.args.n s.args.t.now s.requires.0.symbols s.args.e (omega (arith, s.requires.1))

pub offset_bounds-t-p : goal.offset_bounds-t-p
offset_bounds-t-p c = let s = c in let h = two_here s.args.n c.start_of-p.ensures (s.requires.0.symbols s.args.e s.requires.1) in search rules

pub bounds-t-p : goal.bounds-t-p
bounds-t-p c = let s = c in let h = two_here s.args.n c.start_of-p.ensures (s.requires.0.symbols s.args.e s.requires.1) in
    search rules

-- the number that was read is the name
module _ (c : After-x-1) where
  abbrev st : Start
  st = (goal.at.After-x-1 c).Start

  read : to_z w64 (of_z w64 (nth st.args.t.now c.start_of-p.result)) ≡ named_at st.args.t.now st.args.e
  read = kept (nth st.args.t.now c.start_of-p.result) c.x-1.given ∙ named_here c.start_of-p.ensures

pub returns-then-x-lt0 : goal.returns-then-x-lt0
returns-then-x-lt0 c =
    let x = c in
    let s = st (goal.at.returns-then-x-lt0 c).After-x-1 in
    negative_holds s.args.n s.args.t.now s.args.e (named_at s.args.t.now s.args.e)
    (sym (ap (λ (z : ℤ). lt_z z (pos 0)) (read (goal.at.returns-then-x-lt0 c).After-x-1)) ∙ c.if-x-lt0.true)

-- it is no negative number, and was read as a natural one
module _ (c : After-or_zero) where
  abbrev x : After-x-1
  x = (goal.at.After-or_zero c).After-x-1

  natural : lt_z (named_at (st x).args.t.now (st x).args.e) (pos 0) ≡ false
  natural = sym (ap (λ (z : ℤ). lt_z z (pos 0)) (read x)) ∙ c.if-x-lt0.false

  number : c.or_zero.result ≡ or_zero (named_at (st x).args.t.now (st x).args.e)
  number = c.or_zero.ensures ∙ ap or_zero (read x)

pub contains_entry-requires : goal.contains_entry-requires
contains_entry-requires c =
    let o = c in
    let s = st (x (goal.at.contains_entry-requires c).After-or_zero) in
    let h = named_below s.args.t.now s.args.e (s.requires.0.listed s.args.e s.requires.1) (natural (goal.at.contains_entry-requires c).After-or_zero) in
    (s.requires.0, omega (arith, h, number (goal.at.contains_entry-requires c).After-or_zero, s.requires.1), omega (arith, h, number (goal.at.contains_entry-requires c).After-or_zero, s.requires.1))

pub returns : goal.returns
returns c =
    let k = c in
    let o = k in
    let s = st (x (goal.at.returns c).After-or_zero) in
    let n = s.args.n in
    let t = s.args.t.now in
    let e = s.args.e in
    k.contains_entry.ensures
    ∙ ap (λ (j : ℕ). contained (vertices_at t e) (table_at n t e) (vertices_at t j) (table_at n t j)) (number (goal.at.returns c).After-or_zero)
    ∙ natural_holds n t e (named_at t e) (natural (goal.at.returns c).After-or_zero)
