-- Where entries begin and end in the table.
--
-- In order: a number as a natural one (`low_zero`, `high_natural`); an entry with a symbol is whole (`symbol_fits`, `symbol_table_lem`); where an entry
-- begins (`starts_first`, `named_here`, `vertices_here`, `room_here`, `starts_on`); an entry as a part of the table (`EntryPart`); where its table ends
-- (`ends_last`, `ends_short`, `ends_inside`).
-- Assumes nothing.
use mathlib.Core.Path.{◌≡◌, refl, sym, ◌∙◌, ap}
use mathlib.Core.Bool.{Bool, true, false}
use mathlib.Core.List.{List}
use Prim.Native.Nat.{ℕ, suc, ◌+◌, ◌*◌, ◌-◌, ◌/◌, ◌≤◌, ◌<◌}
use native.Mathlib.Omega.{arith}
use native.Mathlib.Nat.{min-le_right, add-zero}
use lib.Dec.{eqb}
use lib.ListN.{length, take, drop, length-take, length-drop}
use lib.Seq.{take_all, get_or-drop, drop-drop}
use borrow.Author.Tests.{ltb-true}
use lib.IntN.{ℤ, pos, negsuc}
use lib.Signed.{lt_z}
use Rattle.matrix.specs.Matrix.{nth}
use Rattle.symbol.specs.Symbol.{IsSymbol}
use Rattle.containment.specs.TwoSymbols.{contained}
use Rattle.towers.specs.Tower.{or_zero, entry_vertices, entry_table, from_entry, named_at, vertices_at, table_at}
use Rattle.towers.specs.Meaning.{AreSymbols}
use Rattle.towers.specs.Inner.Entries.{EntriesWhole, StartsAt, EndsAt}

-- ---- a number as a natural one

pub low_zero : (x : ℤ) → lt_z x (pos 1) ≡ true → or_zero x ≡ 0
low_zero (pos n) e = let h = ltb-true n 1 e in omega arith
low_zero (negsuc n) e = refl

pub high_natural : (x : ℤ) (n : ℕ) → x ≡ pos n → or_zero x ≡ n
high_natural x n e = ap or_zero e

-- ---- an entry with a symbol

pub symbol_fits : (last : Bool) (l : List ℤ) → IsSymbol (entry_vertices l) (entry_table last l) → 3 * entry_vertices l + 3 ≤ length l
symbol_fits true l s = omega (arith, s.long, length-drop 2 l)
symbol_fits false l s =
    let k = 3 * entry_vertices l + 1 in
    let a = length-take k (drop 2 l) in
    omega (arith, s.long, a, min-le_right k (length (drop 2 l)), length-drop 2 l)

pub symbol_table_lem : (last : Bool) (l : List ℤ) → IsSymbol (entry_vertices l) (entry_table last l) → entry_table last l ≡ take (3 * entry_vertices l + 1) (drop 2 l)
symbol_table_lem true l s = sym (take_all (3 * entry_vertices l + 1) (drop 2 l) (omega (arith, s.long)))
symbol_table_lem false l s = refl

-- ---- where an entry begins

pub starts_first : (t : List ℤ) → StartsAt t 0 0
unfolding from_entry
starts_first t = record { inside = omega arith; rest = refl }

module _ {t : List ℤ} {e p : ℕ} (s : StartsAt t e p) where
  length_rest : length (from_entry t e) ≡ length t - p
  length_rest = ap length (sym s.rest) ∙ length-drop p t

  pub named_here : nth t p ≡ named_at t e
  named_here = ap (nth t) (sym (add-zero p)) ∙ sym (get_or-drop p t 0 (pos 0)) ∙ ap (λ (l : List ℤ). nth l 0) s.rest

  pub vertices_here : or_zero (nth t (p + 1)) ≡ vertices_at t e
  vertices_here = ap or_zero (sym (get_or-drop p t 1 (pos 0)) ∙ ap (λ (l : List ℤ). nth l 1) s.rest)

  pub room_here : 3 * vertices_at t e + 3 ≤ length (from_entry t e) → p + (3 * vertices_at t e + 3) ≤ length t
  room_here h = omega (arith, h, length_rest, s.inside)

  pub starts_next : 3 * vertices_at t e + 3 ≤ length (from_entry t e) → StartsAt t (suc e) (p + (3 * vertices_at t e + 3))
  unfolding from_entry
  starts_next h = record {
    inside = room_here h;
    rest = sym (drop-drop (3 * vertices_at t e + 3) p t) ∙ ap (drop (3 * vertices_at t e + 3)) s.rest;
  }

-- from an entry to the next, by its v as the code reads it
pub starts_on : {t : List ℤ} {e p : ℕ} → StartsAt t e p → 3 * vertices_at t e + 3 ≤ length (from_entry t e) → (v : ℕ) → v ≡ or_zero (nth t (p + 1)) → (k : ℕ) → k
    ≡ suc e
    → StartsAt t k (p + (3 * v + 3))
starts_on {t} {e} {p} s h v q k z =
    let a : StartsAt t (suc e) (p + (3 * vertices_at t e + 3)) = starts_next s h in
    rw (z, q, vertices_here s) a

pub room_on : {t : List ℤ} {e p : ℕ} → StartsAt t e p → 3 * vertices_at t e + 3 ≤ length (from_entry t e) → (v : ℕ) → v ≡ or_zero (nth t (p + 1))
    → p + (3 * v + 3) ≤ length t
room_on s h v q = let a = room_here s h in let b = vertices_here s in omega arith

-- an entry that has a symbol has its two numbers
pub two_here : (n : ℕ) {t : List ℤ} {e p : ℕ} → StartsAt t e p → IsSymbol (vertices_at t e) (table_at n t e) → p + 1 < length t
two_here n {t} {e} s y = let h = room_here s (symbol_fits (eqb (suc e) n) (from_entry t e) y) in omega arith

-- the same as the code reads it
pub record EntryPart (n : ℕ) (t : List ℤ) (e p v : ℕ) : Type 0 where
  pub vertices : v ≡ vertices_at t e
  pub room : p + 3 * v + 3 ≤ length t
  pub table : take (p + 3 * v + 3 - (p + 2)) (drop (p + 2) t) ≡ table_at n t e

pub entry_part : (n : ℕ) {t : List ℤ} {e p : ℕ} → StartsAt t e p → IsSymbol (vertices_at t e) (table_at n t e) → (v : ℕ) → v ≡ or_zero (nth t (p + 1))
    → EntryPart n t e p v
entry_part n {t} {e} {p} s y v q =
    let z : v ≡ vertices_at t e = q ∙ vertices_here s in
    let k : p + 3 * v + 3 - (p + 2) ≡ 3 * vertices_at t e + 1 = omega arith in
    record {
      vertices = z;
      room = let h = room_here s (symbol_fits (eqb (suc e) n) (from_entry t e) y) in omega arith;
      table = ap (λ (j : ℕ). take j (drop (p + 2) t)) k ∙ ap (take (3 * vertices_at t e + 1)) (sym (drop-drop 2 p t) ∙ ap (drop 2) s.rest)
          ∙ sym (symbol_table_lem (eqb (suc e) n) (from_entry t e) y);
    }

pub part_symbol : {n : ℕ} {t : List ℤ} {e p v : ℕ} → EntryPart n t e p v → IsSymbol (vertices_at t e) (table_at n t e)
    → IsSymbol v (take (p + 3 * v + 3 - (p + 2)) (drop (p + 2) t))
part_symbol k y = rw (k.table, k.vertices) y

pub parts_contained : {n : ℕ} {t : List ℤ} {e p v d q u : ℕ} → EntryPart n t e p v → EntryPart n t d q u
    → contained v (take (p + 3 * v + 3 - (p + 2)) (drop (p + 2) t)) u (take (q + 3 * u + 3 - (q + 2)) (drop (q + 2) t))
    ≡ contained (vertices_at t e) (table_at n t e) (vertices_at t d) (table_at n t d)
parts_contained {n} {t} {e} {p} {v} {d} {q} {u} k m =
    let a = take (p + 3 * v + 3 - (p + 2)) (drop (p + 2) t) in
    let b = take (q + 3 * u + 3 - (q + 2)) (drop (q + 2) t) in
    ap (λ (x : List ℤ). contained v x u b) k.table
    ∙ ap (λ (x : ℕ). contained x (table_at n t e) u b) k.vertices
    ∙ ap (λ (y : List ℤ). contained (vertices_at t e) (table_at n t e) u y) m.table
    ∙ ap (λ (x : ℕ). contained (vertices_at t e) (table_at n t e) x (table_at n t d)) m.vertices

-- ---- where its table ends

pub ends_last : (l : List ℤ) → 2 ≤ length l → EndsAt true l (length l)
ends_last l h = record { low = h; high = omega arith; table = take_all (length l - 2) (drop 2 l) (omega (arith, length-drop 2 l)) }

pub ends_short : (l : List ℤ) → 2 ≤ length l → length l / 3 ≤ entry_vertices l → EndsAt false l (length l)
ends_short l h k = record {
  low = h;
  high = omega arith;
  table = take_all (length l - 2) (drop 2 l) (omega (arith, length-drop 2 l))
      ∙ sym (take_all (3 * entry_vertices l + 1) (drop 2 l) (omega (arith, length-drop 2 l)));
}

pub ends_inside : (l : List ℤ) (v : ℕ) → v ≡ entry_vertices l → v < length l / 3 → EndsAt false l (3 * v + 3)
ends_inside l v e h = record {
  low = omega arith;
  high = omega arith;
  table = ap (λ (k : ℕ). take k (drop 2 l)) (let z : 3 * v + 3 - 2 ≡ 3 * entry_vertices l + 1 = omega arith in z);
}

-- ---- entries with symbols are whole

pub whole_symbols : (n : ℕ) (t : List ℤ) → AreSymbols n t → (e : ℕ) → e ≤ n → EntriesWhole t e
whole_symbols n t s e h = record { fits = λ i l. symbol_fits (eqb (suc i) n) (from_entry t i) (s i (omega arith)) }
