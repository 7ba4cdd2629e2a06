use mathlib.Core.Path.{◌≡◌, refl}
use Rattle.std.specs.Prelude.{IsOk, Ok, Err}
use Rattle.call.specs.Refusal.{Filled}
use Rattle.call.specs.declared.refusal.Refusal.{Refusal}
use Rattle.decimal.specs.Decimal.{digits}
use Rattle.decimal.proofs.Placing.{by_writing, no_refusal_lem}
use Rattle.cycle_writing.proofs.bytes.put_number.Goals as goal

not_refused : (w : Filled) → ((f : Refusal) → w ≡ Err f → ⊥) → IsOk w
not_refused (Ok n) h = refl
not_refused (Err f) h = absurd (h f refl)

pub unwrap-requires : goal.unwrap-requires
unwrap-requires c = let w = c.write_natural in
    not_refused w.result (no_refusal_lem (digits c.args.n) c.args.out.now _ c.args.at w.result w.ensures.0 w.ensures.1 c.requires)

pub returns : goal.returns
returns c = let w = c.write_natural in
    by_writing (digits c.args.n) c.args.out.now _ c.args.at w.result w.ensures.0 w.ensures.1 c.requires c.unwrap.result c.unwrap.ensures
