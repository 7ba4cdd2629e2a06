-- The parts of an export, put into a slice one after another.
--     two-put, three-put     a cycle of two points, of three
--     empty_put              no cycle, and then `()`
--     permutation_room       where a permutation has room, its cycles have
--     export_put             the whole
-- Assumes nothing.
use mathlib.Core.Path.{◌≡◌, refl, sym, ap, ◌∙◌}
use mathlib.Core.List.{List, [], ◌∷◌, ◌++◌, append_assoc}
use Prim.Native.Nat.{ℕ, ◌≤◌}
use native.Mathlib.Decide.{ℕ_discrete}
use native.Mathlib.Omega.{arith}
use lib.ListN.{length}
use Rattle.decimal.specs.Decimal.{digits}
use Rattle.decimal.specs.Writing.{Puts}
use Rattle.decimal.proofs.Placing.{puts_as, puts_then}
use Rattle.cycle_writing.specs.Cycles.{cycles_of}
use Rattle.cycle_writing.specs.Bytes.{behind_commas, cycle_bytes, permutation_bytes, export_of}
use Rattle.cycle_writing.specs.Inner.Short.{bytes_below}
use Rattle.cycle_writing.proofs.Sizes.{empty_is, cycles_are}

two_bytes : (a b : ℕ) → ((40 ∷ digits a) ++ (44 ∷ digits b)) ++ (41 ∷ []) ≡ cycle_bytes (a ∷ b ∷ [])
unfolding cycle_bytes behind_commas
two_bytes a b = simp append_assoc

three_bytes : (a b d : ℕ) → (((40 ∷ digits a) ++ (44 ∷ digits b)) ++ (44 ∷ digits d)) ++ (41 ∷ []) ≡ cycle_bytes (a ∷ b ∷ d ∷ [])
unfolding cycle_bytes behind_commas
three_bytes a b d = simp append_assoc

module _ (a b : ℕ) {at m n : ℕ} {out out1 out2 : List ℕ} (p : Puts (40 ∷ digits a) at m out out1) (q : Puts (44 ∷ digits b) m n out1 out2)
    (l : at ≤ length out) where
  pub two_put : {e : ℕ} {out3 : List ℕ} → Puts (41 ∷ []) n e out2 out3 → Puts (cycle_bytes (a ∷ b ∷ [])) at e out out3
  two_put c = puts_as (two_bytes a b) (puts_then (puts_then p q l) c l)

  pub three_put : (d : ℕ) {k e : ℕ} {out3 out4 : List ℕ} → Puts (44 ∷ digits d) n k out2 out3 → Puts (41 ∷ []) k e out3 out4
      → Puts (cycle_bytes (a ∷ b ∷ d ∷ [])) at e out out4
  three_put d r c = puts_as (three_bytes a b d) (puts_then (puts_then (puts_then p q l) r l) c l)

nothing : (l : List ℕ) → length l ≡ 0 → l ≡ []
nothing [] e = refl
nothing (x ∷ l) e = absurd (omega arith)

module _ (t : List ℕ) where
  pub empty_put : {at m e : ℕ} {out out1 out2 : List ℕ} → Puts (bytes_below t (length t)) at m out out1 → m ≡ at → Puts (40 ∷ 41 ∷ []) m e out1 out2
      → at ≤ length out
      → Puts (permutation_bytes (cycles_of t)) at e out out2
  empty_put p q c l =
      let z : length (bytes_below t (length t)) ≡ 0 = omega (arith, p.end_is) in
      puts_as (ap (λ (k : List ℕ). k ++ (40 ∷ 41 ∷ [])) (nothing (bytes_below t (length t)) z) ∙ empty_is t z) (puts_then p c l)

  pub permutation_room : length (bytes_below t (length t)) ≤ length (permutation_bytes (cycles_of t))
  permutation_room = elim (ℕ_discrete (length (bytes_below t (length t))) 0) [ yes e ↦ omega arith | no d ↦ let e = ap length (cycles_are t d) in omega arith ]

  pub empty_room : length (bytes_below t (length t)) ≡ 0 → length (permutation_bytes (cycles_of t)) ≡ 2
  empty_room e = sym (ap length (empty_is t e))

export_bytes : (s r : List ℕ)
    → (((digits (length s) ++ (32 ∷ [])) ++ permutation_bytes (cycles_of s)) ++ (59 ∷ [])) ++ permutation_bytes (cycles_of r) ≡ export_of s r
unfolding export_of
export_bytes s r = simp append_assoc

pub export_put : (s r : List ℕ) {a b c d e : ℕ} {out out1 out2 out3 out4 out5 : List ℕ}
    → Puts (digits (length s)) 0 a out out1 → Puts (32 ∷ []) a b out1 out2 → Puts (permutation_bytes (cycles_of s)) b c out2 out3
    → Puts (59 ∷ []) c d out3 out4 → Puts (permutation_bytes (cycles_of r)) d e out4 out5 → Puts (export_of s r) 0 e out out5
export_put s r i j k m n =
    puts_as (export_bytes s r) (puts_then (puts_then (puts_then (puts_then i j (omega arith)) k (omega arith)) m (omega arith)) n (omega arith))
