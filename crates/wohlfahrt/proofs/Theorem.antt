-- Proofs of the theorems of specs/Theorems.antt. Assumes nothing.
use mathlib.Core.Logic.{inl, inr}
use mathlib.Core.List.{[], ◌∷◌}
use Prim.Native.Nat.{ℕ}
use lib.IntN.{pos}
use Rattle.matrix.specs.Matrix.{Mat, 𝟙, neg}
use Rattle.matrix.proofs.Ring.{con, var, ◌⊕◌, ◌⊙◌, ⊖◌}
use Rattle.congruence.specs.Congruence.{Multiple, Gamma, Meets}
use Rattle.congruence.specs.declared.Family.{Family}
use Rattle.congruence.specs.declared.Family.TheVariants as family
use Rattle.wohlfahrt.specs.IsCongruence.{table_level}
use Rattle.wohlfahrt.specs.Theorems.{Wohlfahrt, NamedCongruence}
use Rattle.wohlfahrt.proofs.Combine.{combine}
use Rattle.wohlfahrt.proofs.Wohlfahrt.{wohlfahrt_acts}
use Rattle.wohlfahrt.proofs.Points.{acting, everywhere, inside_of, contains_of, wide_level}

pub wohlfahrt : Wohlfahrt
wohlfahrt C n s r c i =
    let t = wohlfahrt_acts (acting c) 0 (everywhere c) (table_level s r) (wide_level c) i.modulus i.some (inside_of c i) in
    contains_of c (table_level s r) (λ m u g. t m u g 0)

-- what is 1 or -1 modulo n meets the condition of each family
lower_left : (n : ℕ) (m : Mat) → Gamma n m → Multiple n m.c
unfolding 𝟙 neg
lower_left n m (inl h) = combine (m.c ∷ []) (var 0) (con (pos 1) ⊙ (var 0 ⊕ ⊖ con (pos 0))) tt h.c_is
lower_left n m (inr h) = combine (m.c ∷ []) (var 0) (con (pos 1) ⊙ (var 0 ⊕ ⊖ con (pos 0))) tt h.c_is

meets_gamma : (f : Family) (n : ℕ) (m : Mat) → Gamma n m → Meets f n m
unfolding 𝟙 neg
meets_gamma family.Gamma0 n m h = lower_left n m h
meets_gamma family.Gamma1 n m (inl h) = (lower_left n m (inl h), inl (record { a_is = h.a_is; d_is = h.d_is }))
meets_gamma family.Gamma1 n m (inr h) = (lower_left n m (inr h), inr (record { a_is = h.a_is; d_is = h.d_is }))
meets_gamma family.Gamma n m h = h

pub named : NamedCongruence
named f n h = record { modulus = n; some = h; contains = λ m u g. meets_gamma f n m g }
