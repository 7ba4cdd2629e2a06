-- Laws of calls that ask `admit` first, for its answer r.
--   admitted              where r accepts, the table is a symbol, and the work space is long enough
--   symbol_passed, symbol_short, symbol_behind, symbol_zero     a call that asks for a symbol and for the work space, and then has the steps
--                         l: what its numbers 0 and 11 say, that behind the two the steps l decide, and when its number is 0
--   generators_says       what the number of `generators` says
-- Assumes nothing.
use Rattle.std.specs.Prelude.{Ok, Err}
use mathlib.Core.Path.{◌≡◌, refl, sym, ap, ◌∙◌}
use mathlib.Core.Bool.{Bool, true, false}
use mathlib.Core.List.{List, [], ◌∷◌}
use Prim.Native.Nat.{ℕ, ◌≤◌}
use native.Mathlib.Omega.{arith}
use lib.Dec.{ltb}
use lib.IntN.{ℤ}
use lib.ListN.{length}
use borrow.Author.Tests.{ltb-false}
use Rattle.basics.specs.Choice.{pick}
use Rattle.call.specs.Space.{work_length}
use Rattle.call.specs.Refusal.{◌or_else◌, answer_number, Checked}
use Rattle.call.specs.declared.refusal.Refusal.TheVariants.{TooShort}
use Rattle.call.proofs.Apart.{refused_accepted}
use Rattle.call.proofs.Answers.{both_pass, then_next}
use Rattle.call.specs.Call.{Lent, Step, Asks, length_check, verdict, number_of, place_of}
use Rattle.call.proofs.Laws.{Numbered, above_among, above_room, accepted_by, past, room_long}
use Rattle.symbol.specs.Check.{symbol_check}
use Rattle.symbol.specs.Symbol.{IsSymbol}
use Rattle.symbol.proofs.Accepted.{accepted, check_among}
use Rattle.pairing.specs.Generator.{generator_table, generators_call}
use Rattle.pairing.specs.Inner.Admitted.{work_check, admitted_of}
use Rattle.pairing.proofs.Meaning.{generates}

work_long : (work : ℕ) → Ok tt ≡ work_check work → work_length ≤ work
work_long work e = go (ltb work work_length) refl e
  where
    go : (b : Bool) → ltb work work_length ≡ b → ◌≡◌ {A = Checked} (Ok tt) (pick b (Err (TooShort work_length)) (Ok tt)) → work_length ≤ work
    go true q d = refused_accepted (sym d)
    go false q d = ltb-false work work_length q

or_else_accepted : (c d : Checked) → Ok tt ≡ c or_else d → (c ≡ Ok tt) × (Ok tt ≡ d)
or_else_accepted (Err f) d e = refused_accepted (sym e)
or_else_accepted (Ok tt) d e = (refl, e)

pub admitted : (v : ℕ) (t : List ℤ) (work : ℕ) → Ok tt ≡ admitted_of v t work → IsSymbol v t × (work_length ≤ work)
admitted v t work e = let b = or_else_accepted (symbol_check v t) (work_check work) e in ((accepted v t).0 b.0, work_long work b.1)

-- ---- the number of a call on a symbol

abbrev pub symbol_verdict : (v : ℕ) (t : List ℤ) (w : List ℕ) (l : List Step) → Checked
symbol_verdict v t w l = symbol_check v t or_else length_check work_length (length w) or_else verdict l

module _ (v : ℕ) (t : List ℤ) (w : List ℕ) (l : List Step) where
  pub symbol_passed : Numbered l → answer_number (symbol_verdict v t w l) ≡ 0 → IsSymbol v t × (symbol_verdict v t w l ≡ Ok tt)
  symbol_passed n z =
      let all = accepted_by (Asks (symbol_check v t) ∷ Asks (length_check work_length (length w)) ∷ l)
      (above_among 1 7 (symbol_check v t) (omega arith) (check_among v t), (above_room work_length (length w), n)) z in
      ((accepted v t).0 (both_pass (symbol_check v t) (length_check work_length (length w) or_else verdict l) all).0, all)

  pub symbol_short : answer_number (symbol_verdict v t w l) ≡ 11 → IsSymbol v t
  symbol_short z = (accepted v t).0 (past 1 7 11 (symbol_check v t) (length_check work_length (length w) or_else verdict l) (check_among v t) (omega arith) z).0

  pub symbol_behind : IsSymbol v t → work_length ≤ length w → symbol_verdict v t w l ≡ verdict l
  symbol_behind ok long =
      let space = length_check work_length (length w) in
      sym (then_next (symbol_check v t) (space or_else verdict l) ((accepted v t).1 ok))
      ∙ sym (then_next space (verdict l) (room_long work_length (length w) long))

  pub symbol_zero : IsSymbol v t → work_length ≤ length w → verdict l ≡ Ok tt → answer_number (symbol_verdict v t w l) ≡ 0
  symbol_zero ok long h = ap (λ (c : Checked). answer_number c) (symbol_behind ok long ∙ h)

pub generators_says : (v : ℕ) (t : List ℤ) (w : Lent (List ℕ)) (out : Lent (List ℤ))
    → (generators_call v t w out).Says (number_of (generators_call v t w out)) (place_of (generators_call v t w out))
generators_says v t w out z =
    let n = length (generator_table v t) in
    let room = length out.entry.now in
    generates v t (symbol_passed v t w.entry.now (Asks (length_check n room) ∷ []) (above_room n room, tt) z).0
