-- `build` fills the tables of an accepted symbol: partners, then numbers, then the cut. Each part keeps what those before it wrote
-- (`tables_built`), and the start is read off the cut. Assumes nothing.
use mathlib.Core.Path.{◌≡◌, ◌∙◌, ap}
use lib.ListN.{length}
use Rattle.call.proofs.Zeros.{length_zeros}
use Rattle.symbol.specs.Table.{pairing_entries}
use Rattle.symbol.proofs.Order.{behind}
use Rattle.pairing.proofs.Partners.{paired_none}
use Rattle.pairing.proofs.Rows.{symbol_paired}
use Rattle.polygon.specs.Inner.Partners.{PartnersHeld}
use Rattle.polygon.specs.Inner.Tables.{PolygonTables}
use Rattle.polygon.proofs.Space.{still}
use Rattle.polygon.proofs.Partners.{partnered_in, tables_built}
use Rattle.polygon.proofs.build.Goals.{After-clear, After-cut-under, After-number_sides, After-pair_sides, Start}
use Rattle.polygon.proofs.build.Goals as goal

pub pair_sides-requires : goal.pair_sides-requires
pair_sides-requires c =
    let k = c in
    let s = k in
    let v = s.args.v in
    let t = s.args.t.now in (
      s.requires.0.most,
      rw (behind v t) (symbol_paired v t s.requires.0),
      rw (behind v t, k.clear.ensures)
          (paired_none v (pairing_entries v t) (length s.args.w.now) s.requires.1),
    )

-- the sides are paired
module _ (q : After-pair_sides) where
  abbrev k : After-clear
  k = (goal.at.After-pair_sides q).After-clear

  abbrev st : Start
  st = (goal.at.After-clear k).Start

  paired_length : length q.pair_sides.new.w ≡ length st.args.w.now
  paired_length = q.pair_sides.ensures.1 ∙ ap length k.clear.ensures ∙ length_zeros (length st.args.w.now)

  paired : PartnersHeld st.args.t.now st.args.v q.pair_sides.new.w
  paired = partnered_in (rw (behind st.args.v st.args.t.now) at q.pair_sides.ensures.0)

pub number_sides-requires : goal.number_sides-requires
number_sides-requires c =
    let q = (goal.at.number_sides-requires c).After-pair_sides in
    ((st q).requires.0, paired q, still (paired_length q) (st q).requires.1)

-- the generators are numbered
module _ (n : After-number_sides) where
  abbrev q₁ : After-pair_sides
  q₁ = (goal.at.After-number_sides n).After-pair_sides

  numbered_length : length n.number_sides.new.w ≡ length (st q₁).args.w.now
  numbered_length = n.number_sides.ensures.0.same ∙ paired_length q₁

pub cut-under-requires : goal.cut-under-requires
cut-under-requires c =
    let n = (goal.at.cut-under-requires c).After-number_sides in
    ((st (q₁ n)).requires.0, still (numbered_length n) (st (q₁ n)).requires.1)

-- the polygon is cut
module _ (c : After-cut-under) where
  abbrev n₁ : After-number_sides
  n₁ = (goal.at.After-cut-under c).After-number_sides

  abbrev st₁ : Start
  st₁ = st (q₁ n₁)

  filled : PolygonTables st₁.args.t.now st₁.args.v c.cut-under.new.w
  filled = tables_built st₁.requires.0 (still (numbered_length n₁) st₁.requires.1) n₁.number_sides.ensures.1 n₁.number_sides.ensures.2 c.cut-under.ensures

pub start_position-requires : goal.start_position-requires
start_position-requires c =
    let e = c in
    (filled (goal.at.start_position-requires c).After-cut-under, e.cut-under.ensures.under)

pub returns : goal.returns
returns c =
    let e = c in
    let u = (goal.at.returns c).After-cut-under in
    (record { tables = filled u; start = c.start_position.ensures }, e.cut-under.ensures.frame.same ∙ numbered_length (n₁ u))
