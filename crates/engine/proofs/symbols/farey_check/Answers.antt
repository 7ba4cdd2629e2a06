-- `farey_check` meets its contract: the number and the place are those of the answer of the checks (`call_checked`), and the number is 0 exactly where they
-- accept (`check-says`). Assumes nothing.
use Rattle.std.specs.Prelude.{Ok, Err}
use mathlib.Core.Path.{◌≡◌, refl, ap, ◌∙◌}
use mathlib.Core.List.{List, [], ◌∷◌}
use Prim.Native.Nat.{ℕ}
use native.Mathlib.Omega.{arith}
use lib.IntN.{ℤ}
use Rattle.call.specs.Refusal.{◌or_else◌, answer_number, Checked}
use Rattle.call.proofs.Answers.{both_pass, pass_both}
use Rattle.call.specs.Call.{Asks, number_of, place_of}
use Rattle.call.proofs.Laws.{above_among, accepted_by, call_checked}
use Rattle.symbol.specs.Check.{symbol_check}
use Rattle.symbol.proofs.Accepted.{accepted, check_among}
use Rattle.engine.specs.Exported.{check_call}
use borrow.Author.Rules.{rules}
use Rattle.engine.proofs.Numbers.{above_symbol}
use Rattle.engine.proofs.symbols.farey_check.Goals as goal

check_says : (v : ℕ) (t : List ℤ) → (check_call v t).Says (number_of (check_call v t)) (place_of (check_call v t))
check_says v t =
    let c = symbol_check v t in (
      λ z. (accepted v t).0 (both_pass c (Ok tt) (accepted_by (Asks c ∷ []) (above_among 1 7 c (omega arith) (check_among v t), tt) z)).0,
      λ ok. ap (λ (x : Checked). answer_number x) (pass_both c (Ok tt) ((accepted v t).1 ok) refl),
    )

alone : (c : Checked) → c ≡ c or_else (Ok tt)
alone (Ok tt) = refl
alone (Err f) = refl

pub returns : goal.returns
returns c =
    let q = c.check in
    let s = c in
    call_checked _ (above_symbol s.args.v s.args.t.now, tt)
    (check_says s.args.v s.args.t.now) refl
    (record { answer = q.ensures.returned ∙ alone (symbol_check s.args.v s.args.t.now); leaves = tt })
    c.of_checked-said.ensures.0 c.of_checked-said.ensures.1
