-- What the exported functions return and write, from the answers of the calls beneath them.
--
-- Each returns a number: 0, or that of the answer's refusal (`answer_number`). Through `place` it writes the
-- refusal's place or, where it returns 0, a count.
--
--   filled_place                    place, or how many things were made: cosets, vertices, numbers of a table
--   check_call v t                  `farey_check`: the checks 1 to 7, and 0 says exactly that t has a symbol
--   sign_written                    the sign of a word, 1 or -1, or what stood there where the call refuses
use Rattle.std.specs.Prelude.{◌≡◌, ◌↔◌, List, ℕ, ℤ, Ok, Err}
use Rattle.call.specs.Call.{asks, Contract}
pub use Rattle.call.specs.Call.{filled_place}
use Rattle.symbol.specs.Check.{symbol_check}
use Rattle.symbol.specs.Symbol.{IsSymbol}
use Rattle.word.specs.Answer.{sign_number}
use Rattle.call.specs.Refusal.{Answer}
use Rattle.word.specs.declared.FoundWord.{FoundWord}

abbrev pub check_call : (v : ℕ) → List ℤ → Contract
check_call v t = record {
  steps = asks (symbol_check v t);
  count = 0;
  Says = λ number place. (number ≡ 0) ↔ IsSymbol v t;
}

abbrev pub sign_written : Answer FoundWord → ℤ → ℤ
sign_written (Ok u) before = sign_number u.plus
sign_written (Err f) before = before
