-- `list` meets its contract. An input that was read: the arrays are long enough, and the bytes mean what they should
-- (`listing_means`). One that could not be read: nothing is done. Assumes nothing.
use mathlib.Core.Path.{refl}
use native.Mathlib.Omega.{arith}
use Rattle.text.proofs.InputText.{puts_prints, when_read, when_failed}
use Rattle.listing_text.proofs.Listed.{listing_means}
use Rattle.listing_text.proofs.list.Goals as goal

pub returns-in_default : goal.returns-in_default
returns-in_default c = when_failed c.in_default.is refl refl

pub slice_bounds-list_text-end : goal.slice_bounds-list_text-end
slice_bounds-list_text-end c = c.text_end-end.ensures.long

pub list_text-requires : goal.list_text-requires
list_text-requires c = (omega arith, record { work = omega arith; table_long = omega arith; out_long = omega arith })

pub returns : goal.returns
returns c =
    let ended = c in
    let p = c.list_text.ensures in
    when_read ended.in-Read.is ended.text_end-end.ensures (puts_prints p (omega arith)) (λ t. listing_means _ t refl)
