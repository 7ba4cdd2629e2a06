-- The place of a refusal of a symbol's text that isn't too long is at most 65,536.
--     place_within      a place of refusal 19 lies in the text
--     handed_most       no more than 3,071 numbers of a symbol's text are handed on
--     refused_place     the law
-- Assumes nothing.
use Rattle.std.specs.Prelude.{Ok, Err, Option, None, Some}
use mathlib.Core.Path.{◌≡◌, refl, ap}
use mathlib.Core.Bool.{Bool, true, false, ◌&&◌}
use mathlib.Core.List.{List, [], ◌∷◌}
use Prim.Native.Nat.{ℕ, ◌≤◌, ◌+◌, ◌*◌}
use native.Mathlib.Omega.{arith}
use lib.Dec.{ltb, leb}
use lib.IntN.{ℤ, pos, negsuc}
use lib.ListN.{length}
use borrow.Author.Tests.{le-ltb, leb-true}
use Rattle.basics.specs.Choice.{pick}
use Rattle.basics.proofs.Choice.{and_right}
use Rattle.call.specs.Refusal.{answer_place, refusal_place, Filled}
use Rattle.call.specs.declared.refusal.Refusal.TheVariants.{TooShort}
use Rattle.call.specs.declared.refusal.Refusal.{Refusal}
use Rattle.text.specs.Piece.{pieces, first_bad, numbers, place_at}
use Rattle.text.specs.Reading.{text_most, wanted, wanted_or1, handed, count_place, first_place, or_else, place19, answer, reading_of, symbol_format}
use Rattle.text.specs.declared.Format.{Format}
use Rattle.text.proofs.Clash.{clash}
use Rattle.text.proofs.Ends.{Within, place_inside, bad_inside}

-- ---- refusal 19

here : (n p : ℕ) → p ≤ n → Within n (Some p)
here n p h q e = let f : p ≡ q = cc in omega arith

nowhere : (n : ℕ) → Within n None
nowhere n q e = clash cc

chosen : (b : Bool) (n : ℕ) (o p : Option ℕ) → Within n o → Within n p → Within n (pick b o p)
chosen true n o p h k = h
chosen false n o p h k = k

module _ (t : List ℕ) where
  count_within : (o : Option ℕ) → Within (length t) (count_place o (length t) (pieces t))
  unfolding count_place
  count_within None = nowhere (length t)
  count_within (Some w) =
      chosen (ltb (length (pieces t)) w) (length t) (Some (length t)) _ (here (length t) (length t) (omega arith))
      (chosen (ltb w (length (pieces t))) (length t) (Some (place_at (pieces t) w)) None (here (length t) _ (place_inside t w)) (nowhere (length t)))

  first_within : (f : Format) (ns : List ℤ) → Within (length t) (first_place f ns (length t) (pieces t))
  unfolding first_place
  first_within f [] = here (length t) (length t) (omega arith)
  first_within f (v ∷ ns) = count_within (wanted f v)

  either_within : (n : ℕ) (o p : Option ℕ) → Within n o → Within n p → Within n (or_else o p)
  either_within n None p h k = k
  either_within n (Some q) p h k = h

  pub place_within : (f : Format) → length t ≤ 65536 → Within (length t) (place19 f t)
  unfolding place19
  place_within f h p e =
      either_within (length t) (first_bad (pieces t)) (first_place f (numbers (pieces t)) (length t) (pieces t)) (bad_inside t)
      (first_within f (numbers (pieces t))) p (rw (le-ltb text_most (length t) h) at e)

-- ---- the numbers

pub handed_most : (ns : List ℤ) → handed symbol_format ns ≤ 3071
unfolding handed wanted
handed_most [] = omega arith
handed_most (negsuc v ∷ ns) = omega arith
handed_most (pos v ∷ ns) = go (leb 1 v && leb v 1023) refl
  where
    go : (b : Bool) → (leb 1 v && leb v 1023) ≡ b → wanted_or1 (pick b (Some (3 * v + 2)) None) ≤ 3071
    go true e = let h : v ≤ 1023 = leb-true v 1023 (and_right (leb 1 v) (leb v 1023) e) in omega arith
    go false e = omega arith

-- ---- a refusal

placed : (o : Option ℕ) (k : ℕ) (f : Refusal) → Within 65536 o → k ≤ 65536 → Err f ≡ answer o k 3071 → refusal_place f ≤ 65536
unfolding answer
placed (Some p) k f h l e = let g : refusal_place f ≡ p = ap (λ (r : Filled). answer_place r) e in omega (arith, h p refl, g)
placed None k f h l e = go (ltb 3071 k) e
  where
    go : (b : Bool) → Err f ≡ pick b (Err (TooShort k)) (Ok k) → refusal_place f ≤ 65536
    go true d = let g : refusal_place f ≡ k = ap (λ (r : Filled). answer_place r) d in omega (arith, g)
    go false d = clash cc

pub refused_place : (t : List ℕ) (f : Refusal) → length t ≤ 65536 → Err f ≡ reading_of symbol_format t 3071 → refusal_place f ≤ 65536
unfolding reading_of
refused_place t f h e =
    placed (place19 symbol_format t) (handed symbol_format (numbers (pieces t))) f (λ p q. omega (arith, h, place_within t symbol_format h p q))
    (omega (arith, handed_most (numbers (pieces t)))) e
