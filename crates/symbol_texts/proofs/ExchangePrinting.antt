-- The lines of an exchange.
--
--     made_symbol, refused_lines     the answer of `exchange` in the program's table, and its lines
--     few_lines, enough_lines        the lines for the numbers of a text, by the test that the code makes
--     print_means                    what the bytes mean
-- Assumes nothing.
use Rattle.std.specs.Prelude.{Ok, Err}
use mathlib.Core.Path.{◌≡◌, refl, sym, ap, ◌∙◌}
use mathlib.Core.Bool.{Bool}
use mathlib.Core.List.{List, [], ◌∷◌, ◌++◌}
use Prim.Native.Nat.{ℕ, ◌+◌, ◌*◌, ◌≤◌, ◌<◌}
use native.Mathlib.Omega.{arith}
use lib.Dec.{ltb}
use lib.IntN.{ℤ}
use lib.ListN.{length, take, drop}
use lib.Seq.{length-take-le, take_at}
use borrow.Author.Tests.{lt-ltb, le-ltb}
use Rattle.basics.proofs.Choice.{pick_true, pick_false}
use Rattle.call.specs.Refusal.{◌or_else◌, Checked, Filled}
use Rattle.call.specs.declared.refusal.Refusal.TheVariants.{BadVertexCount}
use Rattle.call.specs.declared.refusal.Refusal.{Refusal}
use Rattle.call.proofs.Apart.{refused_accepted}
use Rattle.call.proofs.Answers.{both_pass, pass_both}
use Rattle.call.specs.Call.{Step, Asks, Gives, length_check}
use Rattle.call.specs.Inner.Fills.{Fills, made_if}
use Rattle.call.proofs.Laws.{room_long}
use Rattle.call.proofs.Answered.{run_made, run_refused, made_count}
use Rattle.text.specs.Piece.{pieces, numbers}
use Rattle.text.specs.Reading.{by_reading, count_in}
use Rattle.text.proofs.Handed.{input_on}
use Rattle.text.specs.Line.{refusal_line, answer_lines}
use Rattle.symbol_texts.specs.ImportAnswer.{symbol_lines}
use Rattle.symbol_texts.proofs.ImportReadBack.{symbol_read_back}
use Rattle.symbol.specs.Symbol.{IsSymbol}
use Rattle.partner_exchange.specs.Exchange.{exchanged}
use Rattle.partner_exchange.specs.Answer.{exchange_check}
use Rattle.partner_exchange.proofs.Theorem.{trades}
use Rattle.partner_exchange.proofs.Answered.{exchangeable}
use Rattle.symbol_texts.specs.ExchangeAnswer.{exchange_lines, exchange_symbol, first_label, second_label, exchange_lines_of, exchange_format}
use Rattle.symbol_texts.specs.ExchangeAnswer.{exchanged_text, ExchangePrintMeans}

-- ---- the answer of `exchange`

module _ (v : ℕ) (t : List ℤ) (x y : ℤ) where
  lines_if_lem : (c : Checked) → exchange_check v t x y ≡ c
      → answer_lines c (symbol_lines v (exchanged v t x y)) ≡ exchange_lines v t x y
  unfolding exchange_lines
  lines_if_lem c e = ap (λ (d : Checked). answer_lines d (symbol_lines v (exchanged v t x y))) (sym e)

  -- it made a symbol of v vertices at the front of the table
  pub record MadeSymbol (n : ℕ) (front : List ℤ) : Type 0 where
    pub vertices : n ≡ v
    pub symbol : IsSymbol n (exchanged v t x y)
    pub front_is : front ≡ exchanged v t x y
    pub lines : symbol_lines n front ≡ exchange_lines v t x y

  module _ (out : List ℤ) where
    abbrev room : Checked
    room = length_check (length (exchanged v t x y)) (length out)

    abbrev steps : List ℤ → List Step
    steps out' = Asks (exchange_check v t x y) ∷ Asks room ∷ Gives (exchanged v t x y ++ drop (length (exchanged v t x y)) out) out out' ∷ []

    pub made_symbol : {out' : List ℤ} {r : Filled} → Fills (steps out') (made_if v) r → (n : ℕ) → r ≡ Ok n → MadeSymbol n (take (3 * n + 1) out')
    made_symbol {out'} g n e =
        let run = run_made g n e in
        let same : n ≡ v = made_count g n e in
        let passed = (both_pass (exchange_check v t x y) (room or_else (Ok tt)) run.is).0 in
        let ok = (trades (exchangeable v t x y passed)).accepted in
        let u = exchanged v t x y in
        let front : take (3 * n + 1) out' ≡ u =
        ap (take (3 * n + 1)) run.leaves.0 ∙ take_at u (drop (length u) out) (3 * n + 1) (ok.long ∙ ap (λ (k : ℕ). 3 * k + 1) (sym same)) in
        record {
          vertices = same;
          symbol = rw same ok;
          front_is = front;
          lines = ap (symbol_lines n) front ∙ ap (λ (k : ℕ). symbol_lines k u) same ∙ lines_if_lem (Ok tt) passed;
        }

    pub refused_lines : {out' : List ℤ} {r : Filled} → 3070 ≤ length out → Fills (steps out') (made_if v) r → (f : Refusal) → r ≡ Err f
        → refusal_line f ≡ exchange_lines v t x y
    refused_lines h g f e = lines_if_lem (Err f) (go (exchange_check v t x y) refl (run_refused g f e).is)
      where
        go : (c : Checked) → exchange_check v t x y ≡ c → (c or_else room or_else (Ok tt)) ≡ Err f → c ≡ Err f
        go (Err q) i j = j
        go (Ok tt) i j =
            let ok = (trades (exchangeable v t x y i)).accepted in
            let fits = room_long (length (exchanged v t x y)) (length out) (omega (arith, ok.long, ok.most, h)) in
            refused_accepted (sym j ∙ pass_both room (Ok tt) fits refl)

-- what is asked, by equals
pub asked_as : {v v' : ℕ} {t t' : List ℤ} {x x' y y' : ℤ} → v ≡ v' → t ≡ t' → x ≡ x' → y ≡ y' → exchange_lines v t x y ≡ exchange_lines v' t' x' y'
asked_as e g h k = cc

-- ---- the numbers of a text

module _ (ns : List ℤ) where
  pub few_lines : length ns < 4 → refusal_line BadVertexCount ≡ exchange_lines_of ns
  unfolding exchange_lines_of
  few_lines h = sym (pick_true (ltb (length ns) 4) _ _ (lt-ltb (length ns) 4 h))

  pub enough_lines : 4 ≤ length ns → exchange_lines (count_in ns) (exchange_symbol ns) (first_label ns) (second_label ns) ≡ exchange_lines_of ns
  unfolding exchange_lines_of
  enough_lines h = sym (pick_false (ltb (length ns) 4) _ _ (le-ltb (length ns) 4 h))

-- ---- what the bytes mean

pub print_means : (longer : Bool) (text bytes : List ℕ) → bytes ≡ exchanged_text longer text → ExchangePrintMeans longer text bytes
unfolding exchanged_text
print_means longer text bytes b k four e passed =
    let v = count_in read in
    let t = exchange_symbol read in
    let x = first_label read in
    let y = second_label read in
    let trade = trades (exchangeable v t x y passed) in
    let lines : bytes ≡ symbol_lines v (exchanged v t x y) =
    b ∙ ap (λ (r : Filled). by_reading exchange_lines_of refusal_line r all) e ∙ sym (enough_lines read long) ∙ sym (lines_if_lem v t x y (Ok tt) passed) in
    record { trade = trade; read_back = rw lines (symbol_read_back v (exchanged v t x y) trade.accepted) }
  where
    all : List ℤ
    all = numbers (pieces text)

    read : List ℤ
    read = take k all

    long : 4 ≤ length read
    long = omega (arith, length-take-le k all (input_on longer exchange_format text 3073 k (omega arith) (sym e)).there)
