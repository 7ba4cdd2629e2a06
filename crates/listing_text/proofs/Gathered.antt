-- The generators of a symbol, in a table that has room for those of every symbol.
--     leaders-most, rows_long     how many there are at most, and how long their rows are
--     Gathered v t k rows         the symbol was accepted, there are k generators, and their rows are `rows`
--     gathered, ungathered        what the answer of `generators` tells: it made them, or its refusal is that of the checks
-- Assumes nothing.
use Rattle.std.specs.Prelude.{Ok, Err}
use mathlib.Core.Path.{◌≡◌, refl, sym, ap, ◌∙◌}
use mathlib.Core.List.{List, [], ◌∷◌, ◌++◌}
use Prim.Native.Nat.{ℕ, ◌*◌, ◌≤◌}
use native.Mathlib.Omega.{arith}
use lib.IntN.{ℤ}
use lib.ListN.{length, take, drop, length-map}
use lib.Seq.{take_at}
use Rattle.call.specs.Space.{work_length}
use Rattle.call.specs.Refusal.{◌or_else◌, Checked, Filled}
use Rattle.call.specs.declared.refusal.Refusal.{Refusal}
use Rattle.call.proofs.Apart.{refused_accepted}
use Rattle.call.proofs.Answers.{both_pass, pass_both}
use Rattle.call.specs.Call.{Step, Asks, Clears, Gives, length_check}
use Rattle.call.specs.Inner.Fills.{Fills, made_if}
use Rattle.call.proofs.Laws.{room_long}
use Rattle.call.proofs.Answered.{run_made, run_refused, made_count}
use Rattle.symbol.specs.Check.{symbol_check}
use Rattle.symbol.specs.Symbol.{IsSymbol}
use Rattle.symbol.proofs.Accepted.{accepted}
use Rattle.pairing.specs.Generator.{leaders, generator, generator_table}
use Rattle.pairing.proofs.Rows.{length_rows}
use Rattle.coset.proofs.Positions.{positions}

pub leaders_most : (v : ℕ) (t : List ℤ) → IsSymbol v t → length (leaders v t) ≤ 1024
leaders_most v t ok = omega (arith, length-map (leaders v t) (generator v t), (positions ok).few_generators)

pub rows_long : (v : ℕ) (t : List ℤ) → length (generator_table v t) ≡ 5 * length (leaders v t)
rows_long v t = length_rows v t (leaders v t)

pub record Gathered (v : ℕ) (t : List ℤ) (k : ℕ) (rows : List ℤ) : Type 0 where
  pub passed : symbol_check v t ≡ Ok tt
  pub symbol : IsSymbol v t
  pub count : k ≡ length (leaders v t)
  pub few : k ≤ 1024
  pub rows_are : rows ≡ generator_table v t

module _ (v : ℕ) (t : List ℤ) (w : List ℕ) (out : List ℤ) where
  abbrev room : Checked
  room = length_check (length (generator_table v t)) (length out)

  abbrev long : Checked
  long = length_check work_length (length w)

  abbrev steps : List ℕ → List ℤ → List Step
  steps w' out' =
      Asks (symbol_check v t) ∷ Asks long ∷ Clears w w' ∷ Asks room ∷ Gives (generator_table v t ++ drop (length (generator_table v t)) out) out out' ∷ []

  pub gathered : {w' : List ℕ} {out' : List ℤ} {r : Filled} → Fills (steps w' out') (made_if (length (leaders v t))) r → (k : ℕ) → r ≡ Ok k
      → Gathered v t k (take (5 * k) out')
  gathered g k e =
      let run = run_made g k e in
      let n = made_count g k e in
      let passed = (both_pass (symbol_check v t) (long or_else room or_else (Ok tt)) run.is).0 in
      let ok = (accepted v t).0 passed in
      let table = generator_table v t in
      record {
        passed = passed;
        symbol = ok;
        count = n;
        few = omega (arith, n, leaders_most v t ok);
        rows_are = ap (take (5 * k)) run.leaves.1.0
            ∙ take_at table (drop (length table) out) (5 * k) (rows_long v t ∙ ap (λ (j : ℕ). 5 * j) (sym n));
      }

  pub ungathered : {w' : List ℕ} {out' : List ℤ} {r : Filled} → work_length ≤ length w → 5120 ≤ length out
      → Fills (steps w' out') (made_if (length (leaders v t))) r → (f : Refusal) → r ≡ Err f → symbol_check v t ≡ Err f
  ungathered h k g f e = go (symbol_check v t) refl (run_refused g f e).is
    where
      go : (c : Checked) → symbol_check v t ≡ c → (c or_else long or_else room or_else (Ok tt)) ≡ Err f → c ≡ Err f
      go (Err q) i j = j
      go (Ok tt) i j =
          let most = leaders_most v t ((accepted v t).0 i) in
          let fits = room_long (length (generator_table v t)) (length out) (omega (arith, rows_long v t, most, k)) in
          let all = pass_both long (room or_else (Ok tt)) (room_long work_length (length w) h) (pass_both room (Ok tt) fits refl) in
          refused_accepted (sym j ∙ all)
