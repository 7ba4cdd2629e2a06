-- THE CALLS `exchange` AND `preview`: their steps, and what they mean (docs/CONVENTIONS.md, 16).
--
--   exchange_check v t x y      checks 1 to 7, then 23
--   exchange_call v t x y out   checks 1 to 7, then 23, then the symbol in which x and y have exchanged partners; it
--                               counts its vertices, and it means a trade
--   preview_steps               checks 1 to 7, then 23, then the work space, then the widths of the exchanged symbol
--   preview_call                those, and the eight numbers of its figures, 17 and 18 each for its figure; it counts
--                               its cusps. No symbol is written
--   PreviewMeaning v t x y      the exchange is a trade, and the exchanged symbol means what the tables of a symbol
--                               mean: its figures and widths are those that `farey_figures` and `farey_widths` give
use Rattle.std.specs.Prelude.{◌≡◌, List, ◌++◌, ℕ, length, ℤ}
use Rattle.call.specs.Refusal.{◌or_else◌, Checked}
use Rattle.call.specs.Call.{Lent, Step, asks, work, stores, result_in, Contract}
use Rattle.symbol.specs.Table.{pairing_entries}
use Rattle.symbol.specs.Check.{symbol_check}
use Rattle.coset.specs.Answer.{widths_of, figures_of, figure_numbers, GenusGiven, Meaning}
use Rattle.partner_exchange.specs.Exchange.{exchanged, check23}
use Rattle.partner_exchange.specs.Theorem.{Trade}

abbrev pub exchange_check : ℕ → List ℤ → (x y : ℤ) → Checked
exchange_check v t x y = symbol_check v t or_else check23 v (pairing_entries v t) x y

-- ---- exchange

abbrev pub exchange_call : (v : ℕ) → List ℤ → (x y : ℤ) → Lent (List ℤ) → Contract
exchange_call v t x y out = record {
  steps = asks (exchange_check v t x y) ++ stores (exchanged v t x y) out;
  count = v;
  Says = λ number place. number ≡ 0 → Trade v t x y;
}

-- ---- preview

pub record PreviewMeaning (v : ℕ) (t : List ℤ) (x y : ℤ) : Type 0 where
  pub trade : Trade v t x y
  pub means : Meaning v (exchanged v t x y)

abbrev pub preview_steps : (v : ℕ) → List ℤ → (x y : ℤ) → (w widths : Lent (List ℕ)) → List Step
preview_steps v t x y w widths =
    asks (exchange_check v t x y) ++ work w ++ stores (widths_of v (exchanged v t x y)) widths

abbrev pub preview_call : (v : ℕ) → List ℤ → (x y : ℤ) → (w widths out : Lent (List ℕ)) → Contract
preview_call v t x y w widths out = record {
  steps = preview_steps v t x y w widths ++ result_in (figure_numbers (figures_of v (exchanged v t x y))) out;
  count = length (widths_of v (exchanged v t x y));
  Says = λ number place. number ≡ 0 → PreviewMeaning v t x y × GenusGiven out.exit.now;
}
