-- THE CALLS `tables`, `widths` AND `figures`: their steps, and what they mean (docs/CONVENTIONS.md, 4 and 5).
--
--   widths_of v t           the widths of the symbol's cusps
--   figures_of v t          the figures of the symbol's tables: index, e2, e3, cusps, genus, level (17 for itself)
--   figure_number, figure_value   one figure: 0 and its value, or its refusal's number and 0
--   figure_numbers f        the eight numbers: index, e2, e3, cusps, number and value of the genus, those of the level
--   GenusGiven out          the number that stands for the genus among the eight is 0, so that the genus itself stands
--                           behind it: 18 is never written
--   even_at v t i           whether side i is even
--   Meaning v t             the symbol is one; its polygon is cut into Farey triangles, and the steps over these keep
--                           their promise, with signs (`Positions`); its tables are those of the right cosets of H; its
--                           index is at most 4,090; its cusps are the cycles of T, and its widths, genus and level what
--                           docs/CONVENTIONS.md says; its e2 is the number of its even sides and its e3 that of its odd
--                           sides; its genus is a number, never refusal 18
--   Ample l                 each of the result spaces l has at least 4,090 entries
--   SymbolSays M v t w n l number place
--                           what the number and the place of a call on the table t say. With 0 and with 11 it is a
--                           symbol. Of every symbol M holds, whatever the number; and with a work space w of its length
--     place_is              THE PLACE IS n, with 0, where it counts, and with 11, where it is the length that a result
--                           space needs
--     enough                RESULT SPACES OF 4,090 ENTRIES ARE ENOUGH: with ample result spaces l the number is 0,
--                           never 11
--   tables_call             checks 1 to 7, the work space, the tables of S, R and T; it counts the cosets, and its 11
--                           tells the index
--   widths_call             checks 1 to 7, the work space, the widths of the cusps; it counts the cusps, and its 11
--                           tells how many they are
--   figures_call            checks 1 to 7, the work space; the eight numbers
use Rattle.std.specs.Prelude.{◌≡◌, ◌⊎◌, Bool, List, [], ◌∷◌, ◌++◌, ℕ, ◌+◌, ◌≤◌, length, get_or, ℤ, negsuc, Ok, Err}
use Rattle.basics.specs.Count.{count}
use Rattle.call.specs.Space.{work_length}
use Rattle.call.specs.Call.{Lent, asks, work, stores, result_in, Contract}
use Rattle.symbol.specs.Table.{pairing_entry}
use Rattle.symbol.specs.Check.{eq_z, symbol_check}
use Rattle.symbol.specs.Symbol.{IsSymbol}
use Rattle.polygon.specs.Step.{odd_at}
use Rattle.figures.specs.Cusps.{widths, Cusps}
use Rattle.figures.specs.FiguresOf.{figures_in}
use Rattle.call.specs.Refusal.{Filled, refusal_number}
use Rattle.figures.specs.declared.FigureRecord.{FigureRecord}
use Rattle.figures.specs.Genus.{HasGenus}
use Rattle.coset.specs.Tables.{index_of, table_s, table_r, table_t, most_cosets}
use Rattle.coset.specs.Positions.{Positions}
use Rattle.coset.specs.Theorem.{Cosets}
use Rattle.coset.specs.TableFigures.{TableFigures}

-- ---- what is made

abbrev pub widths_of : ℕ → List ℤ → List ℕ
widths_of v t = widths (table_t v t)

abbrev pub figures_of : ℕ → List ℤ → FigureRecord
figures_of v t = figures_in (index_of v t) (table_s v t) (table_r v t) (table_t v t)

abbrev pub figure_number : Filled → ℕ
figure_number (Ok x) = 0
figure_number (Err f) = refusal_number f

abbrev pub figure_value : Filled → ℕ
figure_value (Ok x) = x
figure_value (Err f) = 0

abbrev pub figure_numbers : FigureRecord → List ℕ
figure_numbers f =
    let genus = f.genus in
    let level = f.level in
    f.index ∷ f.e2 ∷ f.e3 ∷ f.cusps
    ∷ figure_number genus ∷ figure_value genus ∷ figure_number level ∷ figure_value level ∷ []

abbrev pub GenusGiven : List ℕ → Type 0
GenusGiven out = get_or out 4 18 ≡ 0

-- ---- what it means

abbrev pub even_at : ℕ → List ℤ → ℕ → Bool
even_at v t i = eq_z (pairing_entry v t i) (negsuc 1)

pub record Meaning (v : ℕ) (t : List ℤ) : Type 0 where
  pub symbol : IsSymbol v t
  pub positions : Positions v t
  pub cosets : Cosets v t (table_s v t) (table_r v t) (table_t v t)
  pub few : index_of v t ≤ most_cosets
  pub cusps : Cusps (table_t v t)
  pub figures : TableFigures (table_s v t) (table_r v t) (table_t v t) (figures_of v t)
  pub even_sides : (figures_of v t).e2 ≡ count (even_at v t) (v + 1)
  pub odd_sides : (figures_of v t).e3 ≡ count (odd_at v t) (v + 1)
  pub genus : HasGenus (figures_of v t).genus

abbrev pub Ample : List (Lent (List ℕ)) → Type 0
Ample [] = Unit {0}
Ample (out ∷ l) = (most_cosets ≤ length out.entry.now) × Ample l

pub record SymbolSays (M : Type 0) (v : ℕ) (t : List ℤ) (w : Lent (List ℕ)) (n : ℕ) (l : List (Lent (List ℕ)))
    (number place : ℕ) : Type 0 where
  pub symbol : (number ≡ 0) ⊎ (number ≡ 11) → IsSymbol v t
  pub means : IsSymbol v t → M
  pub place_is : IsSymbol v t → work_length ≤ length w.entry.now → place ≡ n
  pub enough : IsSymbol v t → work_length ≤ length w.entry.now → Ample l → number ≡ 0

-- ---- the calls

abbrev pub tables_call : (v : ℕ) → List ℤ → (w s r u : Lent (List ℕ)) → Contract
tables_call v t w s r u = record {
  steps = asks (symbol_check v t) ++ work w
      ++ stores (table_s v t) s ++ stores (table_r v t) r ++ stores (table_t v t) u;
  count = index_of v t;
  Says = λ number place. SymbolSays (Meaning v t) v t w (index_of v t) (s ∷ r ∷ u ∷ []) number place;
}

abbrev pub widths_call : (v : ℕ) → List ℤ → (w out : Lent (List ℕ)) → Contract
widths_call v t w out = record {
  steps = asks (symbol_check v t) ++ work w ++ stores (widths_of v t) out;
  count = length (widths_of v t);
  Says = λ number place. SymbolSays (Meaning v t) v t w (figures_of v t).cusps (out ∷ []) number place;
}

abbrev pub figures_call : (v : ℕ) → List ℤ → (w out : Lent (List ℕ)) → Contract
figures_call v t w out = record {
  steps = asks (symbol_check v t) ++ work w ++ result_in (figure_numbers (figures_of v t)) out;
  count = 0;
  Says = λ number place. SymbolSays (Meaning v t) v t w 0 [] number place × (number ≡ 0 → GenusGiven out.exit.now);
}
