-- A text has at most half as many pieces as bytes, rounded up: `pieces_half`. Between two pieces there is a blank byte. Assumes nothing.
use mathlib.Core.Path.{◌≡◌, refl, ap}
use mathlib.Core.Bool.{Bool, true, false}
use mathlib.Core.List.{List, [], ◌∷◌}
use Prim.Native.Nat.{ℕ, suc, ◌+◌, ◌*◌, ◌≤◌}
use native.Mathlib.Omega.{arith}
use lib.ListN.{length}
use Rattle.text.specs.Blank.{is_blank}
use Rattle.text.specs.Piece.{pieces_from, pieces}
use Rattle.text.proofs.Pieces.{pieces_blank, pieces_within, pieces_begin}

-- from within a piece, and from outside of one
record Few (t : List ℕ) (at : ℕ) : Type 0 where
  pub within : 2 * length (pieces_from at true t) ≤ length t
  pub outside : 2 * length (pieces_from at false t) ≤ length t + 1

few_more : (b : ℕ) (t : List ℕ) (at : ℕ) → Few t (suc at) → (x : Bool) → is_blank b ≡ x → Few (b ∷ t) at
few_more b t at f true e = record {
  within = let z = ap length (pieces_blank b t at true e) in omega (arith, z, f.outside);
  outside = let z = ap length (pieces_blank b t at false e) in omega (arith, z, f.outside);
}
few_more b t at f false e = record {
  within = let z = ap length (pieces_within b t at e) in omega (arith, z, f.within);
  outside = let z = ap length (pieces_begin b t at e) in omega (arith, z, f.within);
}

few : (t : List ℕ) (at : ℕ) → Few t at
unfolding pieces_from
few [] at = record { within = omega arith; outside = omega arith }
few (b ∷ t) at = few_more b t at (few t (suc at)) (is_blank b) refl

pub pieces_half : (t : List ℕ) → 2 * length (pieces t) ≤ length t + 1
unfolding pieces
pieces_half t = (few t 0).outside
