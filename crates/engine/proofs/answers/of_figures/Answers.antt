-- `of_figures`: the eight numbers, from what `of_figure` says of the genus and of the level. Assumes nothing.
use mathlib.Core.Path.{◌≡◌}
use mathlib.Core.List.{List, [], ◌∷◌}
use Prim.Native.Nat.{ℕ}
use Rattle.figures.specs.declared.FigureRecord.{FigureRecord}
use borrow.Author.Rules.{rules}
use Rattle.engine.proofs.answers.of_figures.Goals as goal

eight : {gn gv ln lv gn' gv' ln' lv' : ℕ} (f : FigureRecord) → gn ≡ gn' → gv ≡ gv' → ln ≡ ln' → lv ≡ lv'
    → f.index ∷ f.e2 ∷ f.e3 ∷ f.cusps ∷ gn ∷ gv ∷ ln ∷ lv ∷ [] ≡ f.index ∷ f.e2 ∷ f.e3 ∷ f.cusps ∷ gn' ∷ gv' ∷ ln' ∷ lv' ∷ []
eight f a b d e = cc

pub returns : goal.returns
returns c =
    let g = c.of_figure-genus.ensures in
    let l = c.of_figure-level.ensures in
    eight c.args.f g.0 g.1 l.0 l.1
