-- `word_line` writes the line under the head of its sign. Assumes nothing.
use mathlib.Core.Path.{ap, ◌∙◌}
use mathlib.Core.List.{List, map}
use Prim.Native.Nat.{ℕ}
use native.Mathlib.Omega.{arith}
use Rattle.text.specs.Line.{line}
use Rattle.text.proofs.Spacing.{themselves}
use Rattle.decimal.proofs.Placing.{puts_as}
use Rattle.query_text.specs.Reply.{word_head}
use Rattle.query_text.proofs.word_line.Goals as goal

pub returns : goal.returns
returns c =
    let s = c.args in
    let p = c.line_of.ensures in
    let same = ap (λ (l : List ℕ). line l (map (λ z. z) s.word.now)) c.word_head.ensures.head ∙ ap (line (word_head s.sign)) (themselves s.word.now) in
    (puts_as same p.0, omega (arith, p.1, c.word_head.ensures.long))
