-- `generator_at` at a free side is N S M⁻¹, with N the frame of the partner that stands in the work space. Why the products fit: the entries of
-- an accepted symbol are small (`symbol_small`). Assumes nothing.
use mathlib.Core.Path.{◌≡◌, sym, ◌∙◌, ap}
use mathlib.Core.List.{List}
use Prim.Native.Nat.{◌≤◌}
use native.Mathlib.Omega.{arith}
use borrow.Author.Rules.{rules}
use lib.IntN.{ℤ}
use Rattle.matrix.specs.Matrix.{nth, to_list, mat_s}
use Rattle.symbol.specs.Table.{pairing_entries, pairing_of, side_at, frame, carried}
use Rattle.pairing.specs.Generator.{partner_in, partner, pairing_at, frame_at}
use Rattle.symbol.specs.declared.Side.{Side}
use Rattle.symbol.specs.declared.Pairing.TheVariants.{Free}
use Rattle.pairing.proofs.Partners.{partner_in_lem, all_paired}
use Rattle.pairing.proofs.Rows.{symbol_small, symbol_paired, generator_by_lem}
use Rattle.pairing.proofs.generator.generator_at.Goals.{After-index, In-Free}
use Rattle.pairing.proofs.generator.generator_at.Goals as goal

-- what was read is the pairing of side i
is_read : (c : In-Free) → pairing_of c.args.v (nth c.args.p.now c.args.i) ≡ Free c.in-Free.field-0
is_read c = search rules

is_free : (c : In-Free) → pairing_at c.args.v c.args.t.now c.args.i ≡ Free c.in-Free.field-0
is_free c = ap (λ (l : List ℤ). pairing_of c.args.v (nth l c.args.i)) (sym c.requires.0.part) ∙ is_read c

-- what stands in the work space is the partner
partner_read : (c : After-index) → c.index.result ≡ partner c.args.v c.args.t.now c.args.i
partner_read c =
    c.index.ensures ∙ c.requires.0.partnered.partners c.args.i c.in-Free.field-0 c.requires.1 (is_read (goal.at.After-index c).In-Free)
    ∙ ap (λ (l : List ℤ). partner_in c.args.v l c.args.i) c.requires.0.part

partner_within : (c : After-index) → c.index.result ≤ c.args.v
partner_within c =
    let v = c.args.v in
    let t = c.args.t.now in
    rw (partner_read c) (partner_in_lem v (pairing_entries v t) (all_paired v (pairing_entries v t) (symbol_paired v t c.requires.0.symbol))
    c.args.i c.in-Free.field-0 c.requires.1 (is_free (goal.at.After-index c).In-Free)).within

pub at-other-requires : goal.at-other-requires
at-other-requires c =
    (c.requires.0.symbol.most, omega (arith, c.requires.0.symbol.long), partner_within (goal.at.at-other-requires c).After-index)

pub free-requires : goal.free-requires
free-requires c =
    let small = symbol_small c.args.v c.args.t.now c.requires.0.symbol in (
      rw c.at-side.ensures (small c.args.i c.requires.1),
      rw c.at-other.ensures (small c.index.result (partner_within (goal.at.free-requires c).After-index)),
    )

pub returns-in-Free : goal.returns-in-Free
returns-in-Free c =
    let v = c.args.v in
    let t = c.args.t.now in
    c.free.ensures
    ∙ ap (λ (x : Side). to_list (carried (frame x) mat_s (frame c.at-side.result)))
    (c.at-other.ensures ∙ ap (side_at v t) (partner_read (goal.at.returns-in-Free c).After-index))
    ∙ ap (λ (x : Side). to_list (carried (frame_at v t (partner v t c.args.i)) mat_s (frame x))) c.at-side.ensures
    ∙ ap to_list (sym (generator_by_lem v t c.args.i (Free c.in-Free.field-0) (is_free (goal.at.returns-in-Free c).In-Free)))
