-- `number_side` numbers side i: a leading side gets the next number (`numbered_leads`); any other has its partner to its left, so that the
-- number of that is known and is copied (`numbered_follows`). Assumes nothing.
use mathlib.Core.Path.{sym, ◌∙◌}
use Prim.Native.Nat.{◌<◌}
use native.Mathlib.Omega.{arith}
use Rattle.polygon.proofs.Partners.{number_count, numbered_leads, numbered_follows, follows, above_set, above_refl}
use Rattle.polygon.proofs.pairs.number_side.Goals.{After-partner_of-k}
use Rattle.polygon.proofs.pairs.number_side.Goals as goal

-- what is known where side i doesn't lead
behind : (c : After-partner_of-k) → c.partner_of-k.result < c.args.i
behind c =
    let s = c in
    let f = follows s.args.t.now s.args.v s.requires.0 s.args.w.now s.args.i s.args.n s.requires.1 s.requires.2
    (sym c.is_leading.ensures ∙ c.if-is_leading.false) in
    omega (arith, f.0, f.2, c.partner_of-k.ensures)

pub overflow_add-w : goal.overflow_add-w
overflow_add-w c =
    let s = c in
    omega (arith, number_count s.args.t.now s.args.v s.args.w.now s.args.i s.args.n s.requires.1, s.requires.2, s.requires.0.most)

pub overflow_cast-w : goal.overflow_cast-w
overflow_cast-w c =
    let s = c in
    omega (arith, number_count s.args.t.now s.args.v s.args.w.now s.args.i s.args.n s.requires.1, s.requires.2, s.requires.0.most)

pub overflow_add-result : goal.overflow_add-result
overflow_add-result c =
    let s = c in
    omega (arith, number_count s.args.t.now s.args.v s.args.w.now s.args.i s.args.n s.requires.1, s.requires.2, s.requires.0.most)

pub returns-then-is_leading : goal.returns-then-is_leading
returns-then-is_leading c = let s = c in (
  above_set s.args.w.now s.args.w.now _ _ (above_refl _) (omega arith),
  numbered_leads s.args.t.now s.args.v s.requires.0 s.args.w.now
      s.args.i s.args.n s.requires.1 s.requires.2 (sym c.is_leading.ensures ∙ c.if-is_leading.true),
)

pub overflow_add-j : goal.overflow_add-j
overflow_add-j c = let s = c in omega (arith, behind (goal.at.overflow_add-j c).After-partner_of-k, s.requires.2, s.requires.0.most)

pub offset_bounds-w-k : goal.offset_bounds-w-k
offset_bounds-w-k c = let s = c in omega (arith, behind (goal.at.offset_bounds-w-k c).After-partner_of-k, s.requires.2, s.requires.0.most)

pub bounds-w-k : goal.bounds-w-k
bounds-w-k c =
    let s = c in
    omega (arith, behind (goal.at.bounds-w-k c).After-partner_of-k, s.requires.2, s.requires.0.most, s.requires.1.long)

pub returns : goal.returns
returns c = let a = c in
    let s = a in (
      above_set s.args.w.now s.args.w.now _ _ (above_refl _) (omega arith),
      numbered_follows s.args.t.now s.args.v s.requires.0
          s.args.w.now s.args.i s.args.n s.requires.1 s.requires.2 a.partner_of-k.result
          (sym a.is_leading.ensures ∙ a.if-is_leading.false) a.partner_of-k.ensures,
    )
