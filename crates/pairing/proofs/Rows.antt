-- The table of generators, row by row.
--
-- In order: what the table of the first i sides becomes with a row more (`rows_yes`); what listing needs of an accepted
-- symbol (`symbol_small`, `symbol_paired`); the generator of a side by its pairing (`generator_by_lem`).
-- Assumes nothing.
use mathlib.Core.Path.{◌≡◌, refl, sym, ◌∙◌, ap}
use mathlib.Core.Bool.{Bool, true}
use mathlib.Core.List.{List, [], ◌∷◌, ◌++◌, append_assoc, append-nil}
use Prim.Native.Nat.{ℕ, suc, ◌+◌, ◌*◌, ◌≤◌}
use native.Mathlib.Omega.{arith}
use lib.ListN.{length, take, drop, length-append, length-drop}
use lib.Seq.{take_at, drop_at, drop-drop, length-take-le}
use lib.IntN.{ℤ, pos}
use Rattle.matrix.specs.Matrix.{nth, to_list}
use Rattle.basics.specs.Choice.{pick}
use Rattle.basics.specs.Count.{count, those}
use Rattle.symbol.specs.Table.{pairing_entries, pairing_of, side_at}
use Rattle.symbol.specs.Check.{unpaired_in}
use Rattle.symbol.specs.Inner.Ready.{SmallSide}
use Rattle.symbol.specs.Symbol.{IsSymbol}
use Rattle.pairing.specs.Generator.{partner, pairing_at, is_leader_in, kind_of, is_leader, leaders, frame_at, generator_by, generator, generator_row}
use Rattle.pairing.specs.Generator.{generator_rows}
use Rattle.pairing.specs.Inner.Work.{AllPaired, PartnersReady, put_row, RowsTo}
use Rattle.symbol.specs.declared.Pairing.{Pairing}
use Rattle.call.specs.declared.refusal.Refusal.TheVariants.{BadPairing}
use Rattle.basics.proofs.Count.{length_those, count_yes}
use Rattle.symbol.proofs.Accepted.{accepted, range_of, passed_all, passes_at}
use Rattle.symbol.proofs.Seeking.{side_small}

-- ---- a row

pub length_put_row : (n : ℕ) (r out : List ℤ) → length r ≡ 5 → 5 * n + 5 ≤ length out → length (put_row n r out) ≡ length out
length_put_row n r out e h =
    length-append (take (5 * n) out ++ r) (drop (5 * n + 5) out)
    ∙ omega (arith, length-append (take (5 * n) out) r, length-take-le (5 * n) out (omega arith), length-drop (5 * n + 5) out)

-- ---- one more side

module _ (v : ℕ) (t : List ℤ) where
  pub length_rows : (l : List ℕ) → length (generator_rows v t l) ≡ 5 * length l
  length_rows [] = refl
  length_rows (i ∷ l) = let e = length_rows l in length-append (generator_row v t i) (generator_rows v t l) ∙ omega arith

  rows-++ : (l m : List ℕ) → generator_rows v t (l ++ m) ≡ generator_rows v t l ++ generator_rows v t m
  rows-++ [] m = refl
  rows-++ (i ∷ l) m = ap (λ (r : List ℤ). generator_row v t i ++ r) (rows-++ l m)
      ∙ sym (append_assoc (generator_row v t i) (generator_rows v t l) (generator_rows v t m))

  module _ (i n : ℕ) (out out' : List ℤ) (r : RowsTo v t i n out out') where
    front : List ℤ
    front = generator_rows v t (those (is_leader v t) i)

    front_length : length front ≡ 5 * n
    unfolding front
    front_length = length_rows (those (is_leader v t) i) ∙ ap (λ (k : ℕ). 5 * k) (length_those (is_leader v t) i ∙ sym r.number)

    is_front : out' ≡ front ++ drop (5 * n) out
    unfolding front
    is_front = r.table

    -- side i leads: its row comes next
    pub rows_yes : is_leader v t i ≡ true → RowsTo v t (suc i) (n + 1) out (put_row n (generator_row v t i) out')
    unfolding front
    rows_yes e =
        let count : 5 * n + 5 ≡ 5 * (n + 1) = omega arith in
        let behind : drop (5 * n + 5) out' ≡ drop (5 * (n + 1)) out =
        ap (drop (5 * n + 5)) is_front
        ∙ sym (drop-drop 5 (5 * n) (front ++ drop (5 * n) out))
        ∙ ap (drop 5) (drop_at front (drop (5 * n) out) (5 * n) front_length)
        ∙ drop-drop 5 (5 * n) out
        ∙ ap (λ (k : ℕ). drop k out) count in
        let before : take (5 * n) out' ≡ front = ap (take (5 * n)) is_front ∙ take_at front (drop (5 * n) out) (5 * n) front_length in
        let those-more : those (is_leader v t) (suc i) ≡ those (is_leader v t) i ++ (i ∷ []) =
        ap (λ (b : Bool). those (is_leader v t) i ++ pick b (i ∷ []) []) e in
        let rows_are : generator_rows v t (those (is_leader v t) (suc i)) ≡ front ++ generator_row v t i = ap (generator_rows v t) those-more
        ∙ rows-++ (those (is_leader v t) i) (i ∷ []) ∙ ap (λ (x : List ℤ). front ++ x) (append-nil (generator_row v t i)) in
        record {
          number = ap (λ (k : ℕ). k + 1) r.number ∙ sym (count_yes (is_leader v t) i e);
          table = ap (λ (x : List ℤ). x ++ generator_row v t i ++ drop (5 * n + 5) out') before ∙ ap (λ (x : List ℤ). front ++ generator_row v t i ++ x) behind
              ∙ ap (λ (x : List ℤ). x ++ drop (5 * (n + 1)) out) (sym rows_are);
        }

-- ---- what listing needs of an accepted symbol

module _ (v : ℕ) (t : List ℤ) (s : IsSymbol v t) where
  pub symbol_small : (i : ℕ) → i ≤ v → SmallSide (side_at v t i)
  symbol_small i h = side_small v t (range_of v t s) i h

  pub symbol_paired : AllPaired v (pairing_entries v t)
  symbol_paired = record {
    long = omega (arith, length-drop (2 * v) t, s.long);
    none = (passes_at (unpaired_in v (pairing_entries v t)) (v + 1) BadPairing (passed_all v t ((accepted v t).1 s)).six).none;
  }

module _ (v : ℕ) (t p : List ℤ) (w : List ℕ) (r : PartnersReady v t p w) where
  pub prepared_leads : (i : ℕ) → is_leader_in v p i ≡ is_leader v t i
  prepared_leads i = ap (λ (l : List ℤ). is_leader_in v l i) r.part

  pub prepared_count : count (is_leader_in v p) (v + 1) ≡ length (leaders v t)
  prepared_count = ap (λ (l : List ℤ). count (is_leader_in v l) (v + 1)) r.part ∙ sym (length_those (is_leader v t) (v + 1))

  pub prepared_row : (i : ℕ) → pos (kind_of (pairing_of v (nth p i))) ∷ to_list (generator v t i) ≡ generator_row v t i
  prepared_row i = ap (λ (l : List ℤ). pos (kind_of (pairing_of v (nth l i))) ∷ to_list (generator v t i)) r.part

-- the generator of a side by its pairing
pub generator_by_lem : (v : ℕ) (t : List ℤ) (i : ℕ) (q : Pairing) → pairing_at v t i ≡ q → generator v t i
    ≡ generator_by q (frame_at v t i) (frame_at v t (partner v t i))
generator_by_lem v t i q e = ap (λ (x : Pairing). generator_by x (frame_at v t i) (frame_at v t (partner v t i))) e
