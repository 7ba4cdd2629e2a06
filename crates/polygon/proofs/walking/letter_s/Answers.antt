-- `letter_s`: S writes nothing at an inner edge or at an odd side; at an even side it writes j, at the left side of a free pair -j, and at
-- the right one j. One law for each (`silent_is`, `writes-…`). Assumes nothing.
use mathlib.Core.Path.{sym, ◌∙◌, ap}
use native.Mathlib.Omega.{arith}
use mir.Facts.{to_z-of_z}
use mir.Syntax.{w16}
use Rattle.polygon.specs.Inner.Tables.{letters_of}
use Rattle.polygon.proofs.Flip.{real_in}
use Rattle.polygon.proofs.Stepping.{low, silent_is, writes_even, writes_odd, writes_bad, writes_free, number_here}
use Rattle.polygon.proofs.walking.letter_s.Goals as goal

pub beyond-q-requires : goal.beyond-q-requires
beyond-q-requires c =
    let s = c in
    (omega (arith, s.requires.0.symbol.most, real_in s.args.v s.args.t.now s.requires.0.symbol s.args.p s.requires.1), s.requires.0.long)

pub returns-then-q-b : goal.returns-then-q-b
returns-then-q-b c = let b = c in
    let s = b in
    silent_is s.args.t.now s.args.v s.args.w.now s.requires.0 s.args.p b.beyond-q.result s.requires.1 b.beyond-q.ensures c.if-q-b.true

pub number_of-j-requires : goal.number_of-j-requires
number_of-j-requires c = let b = c in
    let s = b in (
      omega (
        arith,
        s.requires.0.symbol.most,
        low s.args.t.now s.args.v s.args.w.now s.requires.0 s.args.p b.beyond-q.result s.requires.1
            b.beyond-q.ensures,
      ),
      s.requires.0.long,
    )

pub pairing-requires : goal.pairing-requires
pairing-requires c = let b = c in
    let s = b in (
      s.requires.0.symbol,
      omega (
        arith,
        low s.args.t.now s.args.v s.args.w.now s.requires.0 s.args.p b.beyond-q.result s.requires.1
            b.beyond-q.ensures,
      ),
    )

pub as_letter-requires : goal.as_letter-requires
as_letter-requires c = let n = c in
    let b = n in
    let s = b in
    (number_here s.args.t.now s.args.v s.args.w.now s.requires.0 s.args.p b.beyond-q.result s.requires.1 b.beyond-q.ensures
    n.number_of-j.result n.if-q-b.false n.number_of-j.ensures).2

pub partner_of-k-requires : goal.partner_of-k-requires
partner_of-k-requires c = let b = c in
    let s = b in (
      omega (
        arith,
        s.requires.0.symbol.most,
        low s.args.t.now s.args.v s.args.w.now s.requires.0 s.args.p b.beyond-q.result s.requires.1
            b.beyond-q.ensures,
      ),
      s.requires.0.long,
    )

pub as_letter-requires-in-Free : goal.as_letter-requires-in-Free
as_letter-requires-in-Free c = let n = c in
    let b = n in
    let s = b in
    (number_here s.args.t.now s.args.v s.args.w.now s.requires.0 s.args.p b.beyond-q.result s.requires.1 b.beyond-q.ensures
    n.number_of-j.result n.if-q-b.false n.number_of-j.ensures).2

pub returns-in-Even : goal.returns-in-Even
returns-in-Even c = let n = c in
    let b = n in
    let s = b in
    ap letters_of (to_z-of_z {w = w16} {z = c.as_letter.result} (record { sfits = c.as_letter.type_inv }) ∙ c.as_letter.ensures)
    ∙ writes_even s.args.t.now s.args.v s.args.w.now s.requires.0 s.args.p b.beyond-q.result s.requires.1 b.beyond-q.ensures
    n.number_of-j.result n.if-q-b.false n.number_of-j.ensures
    (sym c.pairing.ensures ∙ c.in-Even.is)

pub returns-in-Odd : goal.returns-in-Odd
returns-in-Odd c = let n = c in
    let b = n in
    let s = b in
    writes_odd s.args.t.now s.args.v s.args.w.now s.requires.0 s.args.p b.beyond-q.result s.requires.1 b.beyond-q.ensures
    n.number_of-j.result n.if-q-b.false n.number_of-j.ensures (sym c.pairing.ensures ∙ c.in-Odd.is)

pub returns-in-Free : goal.returns-in-Free
returns-in-Free c = let k = c in
    let n = k in
    let b = n in
    let s = b in
    ap letters_of (to_z-of_z {w = w16} {z = c.as_letter-in-Free.result} (record { sfits = c.as_letter-in-Free.type_inv }) ∙ c.as_letter-in-Free.ensures)
    ∙ writes_free s.args.t.now s.args.v s.args.w.now s.requires.0 s.args.p b.beyond-q.result s.requires.1 b.beyond-q.ensures
    n.number_of-j.result n.if-q-b.false n.number_of-j.ensures _ k.partner_of-k.result
    (sym k.pairing.ensures ∙ k.in-Free.is) k.partner_of-k.ensures

pub returns-in-Bad : goal.returns-in-Bad
returns-in-Bad c = let n = c in
    let b = n in
    let s = b in
    writes_bad s.args.t.now s.args.v s.args.w.now s.requires.0 s.args.p b.beyond-q.result s.requires.1 b.beyond-q.ensures
    n.number_of-j.result n.if-q-b.false n.number_of-j.ensures (sym c.pairing.ensures ∙ c.in-Bad.is)
