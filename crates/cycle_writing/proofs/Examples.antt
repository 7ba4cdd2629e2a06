-- The worked example of the request, Γ0(2) as `3 (1,2);(1,3,2)`, and the whole group, whose S and R are the identity. Assumes nothing.
use mathlib.Core.Path.{◌≡◌, refl}
use mathlib.Core.List.{[], ◌∷◌}
use Rattle.figures.specs.Cusps.{steps_to, width, iterates, none_below}
use Rattle.decimal.specs.Decimal.{digits_onto, digits}
use Rattle.cycle_writing.specs.Cycles.{begins_cycle, cycles_below}
use Rattle.cycle_writing.specs.Bytes.{behind_commas, cycle_bytes, cycles_bytes, permutation_bytes, export_of}

gamma0_2 : export_of (1 ∷ 0 ∷ 2 ∷ []) (2 ∷ 0 ∷ 1 ∷ []) ≡ 51 ∷ 32 ∷ 40 ∷ 49 ∷ 44 ∷ 50 ∷ 41 ∷ 59 ∷ 40 ∷ 49 ∷ 44 ∷ 51 ∷ 44 ∷ 50 ∷ 41 ∷ []
unfolding export_of permutation_bytes cycles_bytes cycle_bytes behind_commas cycles_below begins_cycle width iterates steps_to none_below digits digits_onto
gamma0_2 = refl

whole_group : export_of (0 ∷ []) (0 ∷ []) ≡ 49 ∷ 32 ∷ 40 ∷ 41 ∷ 59 ∷ 40 ∷ 41 ∷ []
unfolding export_of permutation_bytes cycles_bytes cycle_bytes behind_commas cycles_below begins_cycle width iterates steps_to none_below digits digits_onto
whole_group = refl
