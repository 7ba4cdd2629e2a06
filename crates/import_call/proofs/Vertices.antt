-- How many vertices a symbol for two permutations has, from the permutations alone: `thirds_are`, `vertices_are`. Why: the symbol's index is 3(v - 1) plus the
-- number of its odd sides; it is the number of points; the odd sides are the points that R fixes in the symbol's own tables (coset/proofs/OddSides.antt); and
-- these are the given ones, renumbered, so that R fixes as many there (`fixed_renumbered`). Assumes nothing.
use mathlib.Core.Path.{◌≡◌, sym, ◌∙◌, ap}
use mathlib.Core.Bool.{true}
use mathlib.Core.List.{List}
use Prim.Native.Nat.{ℕ, ◌+◌, ◌-◌, ◌*◌, ◌<◌}
use native.Mathlib.Omega.{arith}
use lib.ListN.{length, get_or}
use lib.IntN.{ℤ}
use borrow.Author.Tests.{eq-eqb, eqb-true}
use Rattle.symbol.specs.Symbol.{IsSymbol}
use Rattle.numbering.specs.Find.{find, ◌∈◌}
use Rattle.numbering.specs.Order.{Maps, Numbering}
use Rattle.numbering.specs.Table.{image_at, renamed, Natural}
use Rattle.numbering.proofs.Find.{get_d_find, get_d_in}
use Rattle.numbering.proofs.Order as order
use Rattle.numbering.proofs.Table.{renaming, natural_fixed, fixed_natural}
use Rattle.numbering.proofs.Those.{Matched, those_matched}
use Rattle.figures.specs.Cusps.{is_fixed, fixed_points}
use Rattle.coset.specs.Tables.{index_of, table_r}
use Rattle.coset.proofs.Answer.{meaning}
use Rattle.permutations.specs.Pair.{image}
use Rattle.permutations.proofs.Images.{image_in}
use Rattle.permutations.specs.Check.{Passport}
use Rattle.import_call.specs.Import.{numbering, needed_vertices}
use Rattle.permutations.proofs.Accepted.{permuting_of}

module _ (s r : List ℕ) (p : Passport s r) where
  abbrev list : List ℕ
  list = numbering s r

  abbrev table : List ℕ
  table = renamed list (image r)

  pub maps : Maps (image s) (image r) 0 (length s)
  maps = let a = permuting_of s r p in record { start_low = a.some; σ_low = a.σ_low; ρ_low = a.ρ_low }

  numbers : Numbering (image s) (image r) 0 (length s) list
  numbers = order.numbering (image s) (image r) 0 (length s) maps

  names : Natural list (image r) table
  names = (renaming (image s) (image r) 0 (length s) maps).R

  at_given : (j : ℕ) → j < length table → is_fixed table j ≡ true → Matched (is_fixed r) (length r) (find list) j (get_or list j 0)
  at_given j h e =
      let x = get_or list j 0 in
      let l : j < length list = omega (arith, names.long) in
      let low = numbers.low x (get_d_in list j l) in
      let here : x < length r = omega (arith, p.even) in
      let f = fixed_natural numbers.once names j l (eqb-true (image_at table j) j e) in
      record { low = here; passes = eq-eqb (image_at r x) x (sym (image_in r x 0 here) ∙ f); back = numbers.once.place j l }

  at_numbered : (x : ℕ) → x < length r → is_fixed r x ≡ true → Matched (is_fixed table) (length table) (λ (j : ℕ). get_or list j 0) x (find list x)
  at_numbered x h e =
      let m : x ∈ list = numbers.all x (p.reached x (omega (arith, p.even))) in
      let here = get_d_find list x m in
      let f : image r (get_or list (find list x) 0) ≡ get_or list (find list x) 0 = ap (image r) here ∙ image_in r x 0 h ∙ eqb-true (image_at r x) x e ∙ sym here in
      record {
        low = omega (arith, names.long);
        passes = eq-eqb (image_at table (find list x)) (find list x) (natural_fixed numbers.once names (find list x) m f);
        back = here;
      }

  fixed_renumbered : fixed_points table ≡ fixed_points r
  fixed_renumbered = those_matched (is_fixed table) (is_fixed r) (length table) (length r) (λ (j : ℕ). get_or list j 0) (find list) at_given at_numbered

  pub thirds_are : (v : ℕ) (t : List ℤ) → IsSymbol v t → length s ≡ index_of v t → table_r v t ≡ table → 3 * (v - 1) + fixed_points r ≡ length r
  thirds_are v t y i e =
      let odd = (meaning y).odd_sides in
      let same = ap fixed_points e ∙ fixed_renumbered in
      omega (arith, p.even)

  pub vertices_are : (v : ℕ) (t : List ℤ) → IsSymbol v t → 3 * (v - 1) + fixed_points r ≡ length r → v ≡ needed_vertices r
  vertices_are v t y e =
      let some = y.some in
      let n : length r - fixed_points r ≡ 3 * (v - 1) = omega arith in
      rw n (omega arith)
