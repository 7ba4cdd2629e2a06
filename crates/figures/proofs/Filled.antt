-- For upper crates: from the tables that `tables` leaves to what the functions here ask.
-- In order: what `cusp_widths` and `figures_of` ask (`filled_permuted`); what `level_of` asks of the widths (`widths_table`); the tables
-- of S, R and T are where they were (`S_stays`, `R_stays`, `T_stays`).
-- Assumes nothing.
use mathlib.Core.Path.{◌≡◌}
use mathlib.Core.List.{List}
use Prim.Native.Nat.{ℕ}
use native.Mathlib.Omega.{arith}
use Rattle.numbering.specs.Order.{order_of, Maps}
use Rattle.numbering.specs.Table.{Injective}
use Rattle.numbering.specs.Inner.Space.{S_TABLE, WIDTHS, R_TABLE, T_TABLE}
use Rattle.call.specs.Space.{entries}
use Rattle.numbering.specs.Inner.Marks.{TablesOf}
use Rattle.numbering.proofs.Space.{entries_same}
use Rattle.numbering.proofs.Table.{permutations}
use Rattle.figures.specs.Inner.Scan.{Permuted, CuspWidths, PositiveTable}
use Rattle.figures.proofs.Cusps.{cusps_are}

pub filled_permuted : {f g : ℕ → ℕ} {start size n : ℕ} {w : List ℕ} → Maps f g start size → TablesOf f g start size n w
    → Injective (order_of f g start size) f → Injective (order_of f g start size) g → Permuted n w
filled_permuted {f} {g} {start} {size} maps t i k = record {
  long = t.marks.long;
  room = omega (arith, t.marks.few, t.marks.room);
  permutes = rw t.T_is (permutations f g start size maps i k).T;
}

-- widths are positive
pub widths_table : {n k : ℕ} {w w' : List ℕ} → Permuted n w → CuspWidths n w w' k → PositiveTable WIDTHS k w'
widths_table p c = record {
  fits = omega (arith, c.few, c.frame.same, p.long, p.room);
  positive = rw c.table (record { each = (cusps_are p.permutes).positive });
}

-- the widths lie between the tables, and so do the lists of points
module _ {n k : ℕ} {w w' : List ℕ} (p : Permuted n w) (c : CuspWidths n w w' k) where
  pub S_stays : entries S_TABLE n w' ≡ entries S_TABLE n w
  S_stays = entries_same S_TABLE n w w' c.frame.same (omega (arith, p.long, p.room)) (λ i low high. c.frame.below i (omega (arith, p.room)))

  pub R_stays : entries R_TABLE n w' ≡ entries R_TABLE n w
  R_stays = entries_same R_TABLE n w w' c.frame.same (omega (arith, p.long, p.room)) (λ i low high. c.frame.above i low)

  pub T_stays : entries T_TABLE n w' ≡ entries T_TABLE n w
  T_stays = entries_same T_TABLE n w w' c.frame.same (omega (arith, p.long, p.room)) (λ i low high. c.frame.above i (omega arith))
