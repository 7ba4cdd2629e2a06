-- `read_counted` meets its contract: the first piece is v, which says how many numbers the symbol has. Assumes nothing.
use Rattle.std.specs.Prelude.{Err, Some}
use mathlib.Core.Path.{◌≡◌, refl, sym, ap, ◌∙◌}
use Prim.Native.Nat.{ℕ}
use native.Mathlib.Omega.{arith}
use lib.ListN.{length}
use mir.Syntax.{w64}
use mir.Facts.{to_z-of_z}
use Rattle.call.specs.declared.refusal.Refusal.TheVariants.{BadVertexCount}
use Rattle.text.specs.Reading.{wanted, symbol_format}
use Rattle.text.specs.Inner.Inside.{left_by}
use Rattle.text.proofs.Exits.{handed_out}
use Rattle.text.proofs.Walks.{walked_start, walked_sound}
use Rattle.query_text.specs.Printed.{by_wanted}
use Rattle.query_text.proofs.SheetReadings.{by_none, by_range, by_first_lem, wanted_is}
use Rattle.query_text.proofs.sheet_text.read_counted.Goals.{After-wanted_for}
use Rattle.query_text.proofs.sheet_text.read_counted.Goals as goal

-- where v is known: the count wanted is v's
told : (w : After-wanted_for) → w.wanted_for.result ≡ wanted symbol_format w.in-Some.first.value
told w =
    w.wanted_for.ensures
    ∙ ap (wanted symbol_format) (to_z-of_z {w = w64} {z = w.in-Some.first.value} (record { sfits = omega arith }))

pub next_number-requires : goal.next_number-requires
next_number-requires c = let w = walked_start c.args.text.now in (w.inside, walked_sound w c.requires.0)

pub give_sheet-requires : goal.give_sheet-requires
give_sheet-requires c =
    let e = sym c.in_ok-k.ensures.ok_part ∙ told (goal.at.give_sheet-requires c).After-wanted_for in
    let z = wanted_is c.in-Some.first.value c.in_ok-k.k (sym e) in
    (c.requires.0, c.requires.1, omega (arith, z.0, z.1), c.requires.2)

pub returns-in_default : goal.returns-in_default
unfolding left_by
returns-in_default c = let t = c.args.text.now in
    (by_none t (length t) c.in_default.ensures, refl)

pub returns-in_err-k : goal.returns-in_err-k
unfolding left_by
returns-in_err-k c =
    let t = c.args.text.now in
    let e : Err c.in_err-k.field-0.0 ≡ Err BadVertexCount = rw c.in_err-k.ensures.ok_part at c.in_err-k.ensures.value in
    let same : c.in_err-k.field-0.0 ≡ BadVertexCount = cc in
    rw (handed_out c.from_residual.result c.from_residual.ensures.1, same) (
      by_range t (length t) c.requires.0 c.in-Some.ensures
          (sym c.in_err-k.ensures.ok_part ∙ told (goal.at.returns-in_err-k c).After-wanted_for),
      refl,
    )

pub returns : goal.returns
returns c =
    let t = c.args.text.now in
    let k = c.in_ok-k.k in (
      c.give_sheet.ensures.0
          ∙ ap (λ (n : ℕ). by_wanted (Some k) n (length t)) (sym c.requires.1)
          ∙ by_first_lem t (length t) c.requires.0 c.in-Some.ensures k
          (sym c.in_ok-k.ensures.ok_part ∙ told (goal.at.returns c).After-wanted_for),
      c.give_sheet.ensures.1,
    )
