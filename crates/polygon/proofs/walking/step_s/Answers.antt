-- `step_s`: S goes over an inner edge, stays at an even side, goes out to the face of an odd one, and from a free side to the position
-- inside its partner. One law for each (`inner_is`, `even_is`, `odd_is`, `free_is`). Assumes nothing.
use mathlib.Core.Path.{sym, ◌∙◌}
use native.Mathlib.Omega.{arith}
use Rattle.polygon.proofs.Flip.{real_in}
use Rattle.polygon.proofs.Stepping.{low, inner_is, even_is, odd_is, bad_is, partner_low, free_is}
use Rattle.polygon.proofs.walking.step_s.Goals as goal

pub beyond-q-requires : goal.beyond-q-requires
beyond-q-requires c =
    let s = c in
    (omega (arith, s.requires.0.symbol.most, real_in s.args.v s.args.t.now s.requires.0.symbol s.args.p s.requires.1), s.requires.0.long)

pub returns-then-q-b : goal.returns-then-q-b
returns-then-q-b c = let b = c in
    let s = b in
    inner_is s.args.t.now s.args.v s.args.w.now s.requires.0 s.args.p b.beyond-q.result s.requires.1 b.beyond-q.ensures c.if-q-b.true

pub pairing-requires : goal.pairing-requires
pairing-requires c = let b = c in
    let s = b in (
      s.requires.0.symbol,
      omega (
        arith,
        low s.args.t.now s.args.v s.args.w.now s.requires.0 s.args.p b.beyond-q.result s.requires.1
            b.beyond-q.ensures,
      ),
    )

pub partner_of-k-requires : goal.partner_of-k-requires
partner_of-k-requires c = let b = c in
    let s = b in (
      omega (
        arith,
        s.requires.0.symbol.most,
        low s.args.t.now s.args.v s.args.w.now s.requires.0 s.args.p b.beyond-q.result s.requires.1
            b.beyond-q.ensures,
      ),
      s.requires.0.long,
    )

pub overflow_add-b : goal.overflow_add-b
overflow_add-b c = let b = c in
    let s = b in
    let k = partner_low s.args.t.now s.args.v s.args.w.now s.requires.0 s.args.p b.beyond-q.result s.requires.1 b.beyond-q.ensures
    c.if-q-b.false _ c.partner_of-k.result
    (sym c.pairing.ensures ∙ c.in-Free.is) c.partner_of-k.ensures in
    omega (arith, s.requires.0.symbol.most)

pub beyond-requires : goal.beyond-requires
beyond-requires c = let b = c in
    let s = b in
    let k = partner_low s.args.t.now s.args.v s.args.w.now s.requires.0 s.args.p b.beyond-q.result s.requires.1 b.beyond-q.ensures
    c.if-q-b.false _ c.partner_of-k.result
    (sym c.pairing.ensures ∙ c.in-Free.is) c.partner_of-k.ensures in
    (omega (arith, s.requires.0.symbol.most), s.requires.0.long)

pub returns-in-Even : goal.returns-in-Even
returns-in-Even c = let b = c in
    let s = b in
    even_is s.args.t.now s.args.v s.args.w.now s.requires.0 s.args.p b.beyond-q.result s.requires.1 b.beyond-q.ensures
    c.if-q-b.false (sym c.pairing.ensures ∙ c.in-Even.is)

pub returns-in-Odd : goal.returns-in-Odd
returns-in-Odd c = let b = c in
    let s = b in
    odd_is s.args.t.now s.args.v s.args.w.now s.requires.0 s.args.p b.beyond-q.result s.requires.1 b.beyond-q.ensures
    c.if-q-b.false (sym c.pairing.ensures ∙ c.in-Odd.is)

pub returns-in-Free : goal.returns-in-Free
returns-in-Free c = let d = c in
    let b = d in
    let s = b in
    free_is s.args.t.now s.args.v s.args.w.now s.requires.0 s.args.p b.beyond-q.result s.requires.1 b.beyond-q.ensures
    d.if-q-b.false _ d.partner_of-k.result c.beyond.result
    (sym d.pairing.ensures ∙ d.in-Free.is) d.partner_of-k.ensures c.beyond.ensures

pub returns-in-Bad : goal.returns-in-Bad
returns-in-Bad c = let b = c in
    let s = b in
    bad_is s.args.t.now s.args.v s.args.w.now s.requires.0 s.args.p b.beyond-q.result s.requires.1 b.beyond-q.ensures
    c.if-q-b.false (sym c.pairing.ensures ∙ c.in-Bad.is)
