-- `read_two` meets its contract: a text that is too long is refused, and any other is read by `read_texts`. Assumes nothing.
use mathlib.Core.Path.{ap, ◌∙◌}
use mathlib.Core.Bool.{Bool, ◌||◌}
use lib.Dec.{ltb}
use lib.ListN.{length}
use borrow.Author.Tests.{lt-ltb}
use Rattle.text.specs.Reading.{text_most}
use Rattle.subgroup_texts.proofs.SameReadings.{too_long, not_longer}
use Rattle.subgroup_texts.proofs.same_text.read_two.Goals.{then-longer-via-then-longer, then-longer-via-else-longer+then-text-gt-TEXT_MOST}
use Rattle.subgroup_texts.proofs.same_text.read_two.Goals as goal

pub returns-then-longer : goal.returns-then-longer
returns-then-longer c = let t = c.args.text.now in
    elim c.then-longer.branch [
      | then-longer-via-then-longer w ↦ too_long c.args.longer t (ap (λ (b : Bool). b || ltb text_most (length t)) w.if-longer.true)
      | then-longer-via-else-longer+then-text-gt-TEXT_MOST w ↦ too_long c.args.longer t
          (ap (λ (b : Bool). b || ltb text_most (length t)) w.if-longer.false ∙ lt-ltb text_most (length t) w.if-text-gt-TEXT_MOST.true)
    ]

pub returns : goal.returns
returns c =
    let l = c in
    let e = l in
    let s = e in
    not_longer s.args.longer s.args.text.now e.if-longer.false l.read_texts.ensures
