-- `coset::survey` meets its contract: the tables were arranged, and their figures leave them where they are. Assumes nothing.
use Rattle.coset.proofs.Answer.{made, surveyed}
use borrow.Author.Rules.{rules}
use Rattle.coset.proofs.survey.Goals as goal

pub figures_of-requires : goal.figures_of-requires
figures_of-requires c = let a = c in (made a.requires.0 a.arrange-n.ensures.0).permuted

pub returns : goal.returns
returns c =
    let q = c in
    let a = q in
    surveyed (made a.requires.0 a.arrange-n.ensures.0) q.figures_of.ensures a.arrange-n.ensures.1
