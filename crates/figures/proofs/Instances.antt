-- The figures, run on the tables of the groups of docs/CONVENTIONS.md, 12, and at the borders of the two refusals. Its starred instances are proved in the
-- crate `statements`. Assumes nothing.
use Rattle.std.specs.Prelude.{Ok, Err}
use mathlib.Core.Path.{◌≡◌, refl}
use mathlib.Core.List.{[], ◌∷◌}
use Rattle.figures.specs.Cusps.{fixed_points, steps_to, width, iterates, none_below, widths}
use Rattle.call.specs.declared.refusal.Refusal.TheVariants.{LevelTooLarge, NoGenus}
use Rattle.figures.specs.GenusOf.{genus_of}
use Rattle.figures.specs.LevelOf.{euclid, lcm_from, fitting, level_of}

-- ---- Γ0(2): S 1 0 2, R 2 0 1, T 0 2 1
gamma0_2_e2 : fixed_points (1 ∷ 0 ∷ 2 ∷ []) ≡ 1
gamma0_2_e2 = refl

gamma0_2_e3 : fixed_points (2 ∷ 0 ∷ 1 ∷ []) ≡ 0
gamma0_2_e3 = refl

gamma0_2_widths : widths (0 ∷ 2 ∷ 1 ∷ []) ≡ (1 ∷ 2 ∷ [])
unfolding width steps_to iterates none_below
gamma0_2_widths = refl

gamma0_2_genus : genus_of 3 1 0 2 ≡ Ok 0
unfolding genus_of
gamma0_2_genus = refl

gamma0_2_level : level_of (1 ∷ 2 ∷ []) ≡ Ok 2
unfolding euclid lcm_from
gamma0_2_level = refl

-- ---- Γ(2): T 3 2 1 0 5 4
gamma2_widths : widths (3 ∷ 2 ∷ 1 ∷ 0 ∷ 5 ∷ 4 ∷ []) ≡ (2 ∷ 2 ∷ 2 ∷ [])
unfolding width steps_to iterates none_below
gamma2_widths = refl

-- ---- refusal 18: below 0, and broken
genus_negative : genus_of 1 0 0 3 ≡ Err NoGenus
unfolding genus_of
genus_negative = refl

genus_half : genus_of 6 0 0 2 ≡ Err NoGenus
unfolding genus_of
genus_half = refl

-- ---- refusal 17: 2^64 itself is too large; the first 15 primes have a level, the first 16 have none
below_2_64 : fitting 18446744073709551615 ≡ Ok 18446744073709551615
below_2_64 = refl

at_2_64 : fitting 18446744073709551616 ≡ Err LevelTooLarge
at_2_64 = refl

primes_15 : level_of (2 ∷ 3 ∷ 5 ∷ 7 ∷ 11 ∷ 13 ∷ 17 ∷ 19 ∷ 23 ∷ 29 ∷ 31 ∷ 37 ∷ 41 ∷ 43 ∷ 47 ∷ []) ≡ Ok 614889782588491410
unfolding euclid lcm_from
primes_15 = refl

primes_16 : level_of (2 ∷ 3 ∷ 5 ∷ 7 ∷ 11 ∷ 13 ∷ 17 ∷ 19 ∷ 23 ∷ 29 ∷ 31 ∷ 37 ∷ 41 ∷ 43 ∷ 47 ∷ 53 ∷ []) ≡ Err LevelTooLarge
unfolding euclid lcm_from
primes_16 = refl
