-- Tables that the listing's rule numbers 0, 1, 2, .. are a transitive pair: `numbered_transitive`.
-- Why: the rule lists the points that are reached from 0, and here it lists them all.
-- Assumes nothing.
use mathlib.Core.Path.{◌≡◌, sym, ◌∙◌}
use mathlib.Core.List.{List}
use Prim.Native.Nat.{ℕ, ◌<◌}
use native.Mathlib.Omega.{arith}
use lib.ListN.{length}
use Rattle.numbering.specs.Find.{◌∈◌}
use Rattle.numbering.specs.Order.{order_of, up_to, Maps}
use Rattle.numbering.specs.Table.{image_at, Permutes}
use Rattle.numbering.proofs.Find.{get_d_in}
use Rattle.numbering.proofs.Order.{numbering}
use Rattle.numbering.proofs.Numbered.{up_to_length, up_to_at}
use Rattle.figures.specs.RiemannHurwitz.{Transitive}

up_to_has : (n x : ℕ) → x < n → x ∈ up_to n
up_to_has n x h = rw (up_to_at n x h) at (get_d_in (up_to n) x (omega (arith, up_to_length n)))

pub numbered_transitive : {s r : List ℕ} {n : ℕ} → 0 < n → length s ≡ n → length r ≡ n → Permutes s → Permutes r
    → order_of (image_at s) (image_at r) 0 n ≡ up_to n → Transitive s r
numbered_transitive {s} {r} {n} some e d p q numbered =
    let maps : Maps (image_at s) (image_at r) 0 n = record {
      start_low = some;
      σ_low = λ x h. omega (arith, p.low x (omega arith));
      ρ_low = λ x h. omega (arith, q.low x (omega arith));
    } in
    record {
      some = omega arith;
      as_many = d ∙ sym e;
      permutes_S = p;
      permutes_R = q;
      reached = λ x h. (numbering (image_at s) (image_at r) 0 n maps).only x (rw numbered (up_to_has n x (omega arith)));
    }
