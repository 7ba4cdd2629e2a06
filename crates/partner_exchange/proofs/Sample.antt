-- Γ(2) by the definitions, computed: 1 2 2 1 becomes 1 2 1 2, and that 1 2 2 1 again; 1 1 2 2, whose labels stand apart, becomes 1 2 2 1, and is not
-- given back. A number that is no label, and a repeat, have their refusals. Assumes nothing.
use Rattle.std.specs.Prelude.{Ok, Err}
use mathlib.Core.Path.{◌≡◌, refl}
use mathlib.Core.List.{List, [], ◌∷◌}
use lib.IntN.{ℤ, pos, negsuc}
use Rattle.call.specs.declared.refusal.Refusal.TheVariants.{NotFreeLabel}
use Rattle.partner_exchange.specs.Exchange.{exchanged}
use Rattle.partner_exchange.specs.Answer.{exchange_check}

-- 0/1, 1/1, 2/1 with these pairings
with : (a b c d : ℤ) → List ℤ
with a b c d = pos 0 ∷ pos 1 ∷ pos 1 ∷ pos 1 ∷ pos 2 ∷ pos 1 ∷ a ∷ b ∷ c ∷ d ∷ []

nested : List ℤ
nested = with (pos 1) (pos 2) (pos 2) (pos 1)

crossed : List ℤ
crossed = with (pos 1) (pos 2) (pos 1) (pos 2)

apart : List ℤ
apart = with (pos 1) (pos 1) (pos 2) (pos 2)

torus : exchanged 3 nested (pos 1) (pos 2) ≡ crossed
unfolding exchanged nested crossed with
torus = refl

back_again : exchanged 3 crossed (pos 1) (pos 2) ≡ nested
unfolding exchanged nested crossed with
back_again = refl

not_back : exchanged 3 apart (pos 1) (pos 2) ≡ nested
unfolding exchanged nested apart with
not_back = refl

free : exchange_check 3 apart (pos 2) (pos 1) ≡ Ok tt
unfolding apart with
free = refl

no_label : exchange_check 3 apart (negsuc 1) (negsuc 2) ≡ Err (NotFreeLabel 0)
unfolding apart with
no_label = refl

repeat : exchange_check 3 apart (pos 2) (pos 2) ≡ Err (NotFreeLabel 1)
unfolding apart with
repeat = refl
