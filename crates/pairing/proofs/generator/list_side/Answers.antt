-- `list_side` adds the row of side i behind n others where the side leads (`rows_yes`). Assumes nothing.
use mathlib.Core.Path.{◌≡◌, refl, sym, ◌∙◌, ap}
use mathlib.Core.List.{List, ◌∷◌}
use native.Mathlib.Numerals.{add-one}
use lib.IntN.{ℤ, pos}
use lib.ListN.{length}
use Rattle.matrix.specs.Matrix.{nth, of_list, to_list}
use Rattle.matrix.proofs.Bounds.{kept}
use Rattle.symbol.specs.Table.{pairing_of}
use Rattle.pairing.specs.Generator.{generator_row, kind_of}
use Rattle.pairing.specs.Inner.Work.{put_row}
use Rattle.pairing.proofs.Rows.{length_put_row, rows_yes, prepared_leads, prepared_row}
use Rattle.pairing.proofs.generator.list_side.Goals as goal

pub returns-then-leads_at : goal.returns-then-leads_at
returns-then-leads_at c =
    let v = c.args.v in
    let t = c.args.t.now in
    let i = c.args.i in
    let n = c.args.n in
    let out = c.args.out.now in
    let yes = sym (c.leads_at.ensures ∙ prepared_leads _ _ _ _ c.requires.0 i) ∙ c.if-leads_at.true in
    let is : c.put_row.new.out ≡ put_row n (generator_row v t i) out =
    c.put_row.ensures
    ∙ ap (λ (x : ℤ). put_row n (x ∷ to_list (of_list c.generator_at.result)) out) (kept c.kind_at.result c.kind_at.type_inv ∙ c.kind_at.ensures)
    ∙ ap (λ (m : List ℤ). put_row n (pos (kind_of (pairing_of v (nth c.args.p.now i))) ∷ to_list (of_list m)) out) c.generator_at.ensures
    ∙ ap (λ (r : List ℤ). put_row n r out) (prepared_row _ _ _ _ c.requires.0 i) in
    record {
      more = λ o r. rw (add-one, is) (rows_yes v t i n o out r yes);
      long = ap length is ∙ length_put_row n (generator_row v t i) out refl (c.requires.3 yes);
    }
