-- `arrange` puts the tables of S, R and T into the work space: `fill_s` and `fill_r` leave the images of all places, and numbering them
-- from the position that stands for H renames these maps into the coset tables (`filled_tables`). Assumes nothing.
use mathlib.Core.Path.{◌≡◌, sym, ◌∙◌}
use Rattle.polygon.specs.Cut.{places}
use Rattle.polygon.specs.Step.{step_s, origin_of}
use Rattle.polygon.proofs.Polygon.{polygon}
use Rattle.polygon.proofs.Space.{still}
use Rattle.numbering.specs.Order.{Maps}
use Rattle.numbering.specs.Inner.Marks.{MapsFilled}
use Rattle.numbering.proofs.Filled.{filled_images, filled_tables}
use Rattle.coset.specs.Tables.{step_r}
use Rattle.coset.proofs.Theorem.{maps}
use Rattle.coset.proofs.Work.{inside, filled}
use borrow.Author.Rules.{rules}
use Rattle.coset.proofs.arrange.arrange.Goals.{After-build-start, After-fill_r, After-fill_s, Start}
use Rattle.coset.proofs.arrange.arrange.Goals as goal

pub fill_r-requires : goal.fill_r-requires
fill_r-requires c = inside c.fill_s.ensures.0

-- all images are there
module _ (r : After-fill_r) where
  abbrev f : After-fill_s
  f = (goal.at.After-fill_r r).After-fill_s

  abbrev b : After-build-start
  b = (goal.at.After-fill_s f).After-build-start

  abbrev st : Start
  st = (goal.at.After-build-start b).Start

  all : MapsFilled (step_s st.args.v st.args.t.now) (step_r st.args.v st.args.t.now) (places st.args.v) r.fill_r.new.w
  all = filled f.fill_s.ensures.0 r.fill_r.ensures

  its : Maps (step_s st.args.v st.args.t.now) (step_r st.args.v st.args.t.now) (origin_of st.args.v st.args.t.now)
      (places st.args.v)
  its = maps st.args.v st.args.t.now (polygon st.args.v st.args.t.now st.requires.0)

pub tables-requires : goal.tables-requires
tables-requires c = let r = c in rw (f (goal.at.tables-requires c).After-fill_r).before.before.origin-zero.ensures (filled_images (its (goal.at.tables-requires c).After-fill_r) (all (goal.at.tables-requires c).After-fill_r))

pub returns : goal.returns
returns c =
    let k = c in
    let r = k in
    let t = k.tables.ensures in
    let same = t.same ∙ r.fill_r.ensures.same ∙ (f (goal.at.returns c).After-fill_r).fill_s.ensures.1 ∙ (b (goal.at.returns c).After-fill_r).build-start.ensures.1 in
    (record { long = still same (st (goal.at.returns c).After-fill_r).requires.1; tables = filled_tables (its (goal.at.returns c).After-fill_r) (all (goal.at.returns c).After-fill_r) (rw (f (goal.at.returns c).After-fill_r).before.before.origin-zero.ensures at t) }, same)
