-- `image_s` is where S leads from a place. A corner and the outer face of an odd side are positions, where the polygon's step may be taken
-- (`corner_real`, `odd_real`); any other outer face stays (`face_still`). Assumes nothing.
use mathlib.Core.Path.{◌≡◌, refl, sym, ◌∙◌, ap}
use Prim.Native.Nat.{◌+◌, ◌-◌, ◌*◌, ◌≤◌, ◌<◌}
use native.Mathlib.Omega.{arith}
use Rattle.matrix.specs.Matrix.{nth}
use Rattle.matrix.proofs.Bounds.{kept}
use Rattle.symbol.specs.Table.{pairing_of}
use Rattle.pairing.specs.Generator.{pairing_at}
use Rattle.symbol.specs.declared.Pairing.{Pairing}
use Rattle.symbol.specs.declared.Pairing.TheVariants.{Even, Odd, Free, Bad}
use Rattle.polygon.specs.Cut.{corners}
use Rattle.coset.proofs.Work.{corner_real, face_entry, odd_real, face_still}
use borrow.Author.Rules.{rules}
use Rattle.coset.proofs.arrange.image_s.Goals.{After-read_pairing-kind}
use Rattle.coset.proofs.arrange.image_s.Goals as goal

pub step_s-requires : goal.step_s-requires
step_s-requires c = let s = c in (s.requires.0, corner_real s.args.v s.args.t.now s.args.p c.if-p-b.true)

-- what was read is the pairing of the side
is_read : (c : After-read_pairing-kind) → c.read_pairing-kind.result ≡ pairing_at c.args.v
    c.args.t.now (c.args.p - corners c.args.v)
is_read c =
    let s = c in
    let v = s.args.v in
    let t = s.args.t.now in
    let p = s.args.p in
    (rw (kept (nth t (2 * v + (p - corners v))) c.read_pairing-arg-1.given) at c.read_pairing-kind.ensures) ∙ ap (pairing_of v) (face_entry v t p)

pub step_s-requires-in-Odd : goal.step_s-requires-in-Odd
step_s-requires-in-Odd c =
    let r = c in
    let e = r in
    let s = e in
    (s.requires.0, odd_real s.args.v s.args.t.now s.requires.0.symbol s.args.p e.if-p-b.false s.requires.1 (sym (is_read (goal.at.step_s-requires-in-Odd c).After-read_pairing-kind) ∙ c.in-Odd.is))

pub returns-in-Even : goal.returns-in-Even
returns-in-Even c =
    let r = c in
    let e = r in
    let s = e in
    face_still s.args.v s.args.t.now s.requires.0.symbol s.args.p e.if-p-b.false s.requires.1 Even (sym (is_read (goal.at.returns-in-Even c).After-read_pairing-kind) ∙ c.in-Even.is) refl

pub returns-in-Free : goal.returns-in-Free
returns-in-Free c =
    let r = c in
    let e = r in
    let s = e in
    face_still s.args.v s.args.t.now s.requires.0.symbol s.args.p e.if-p-b.false s.requires.1 (Free c.in-Free.field-0)
    (sym (is_read (goal.at.returns-in-Free c).After-read_pairing-kind) ∙ c.in-Free.is) refl

pub returns-in-Bad : goal.returns-in-Bad
returns-in-Bad c =
    let r = c in
    let e = r in
    let s = e in
    face_still s.args.v s.args.t.now s.requires.0.symbol s.args.p e.if-p-b.false s.requires.1 Bad (sym (is_read (goal.at.returns-in-Bad c).After-read_pairing-kind) ∙ c.in-Bad.is) refl
