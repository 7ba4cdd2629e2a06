-- TWO SYMBOLS AND THE WORK SPACE: the laws of calls that ask `admit_both` first.
--   two_symbols_lem        where the checks of both pass, both are symbols
--   both_admitted_lem      where `admit_both` accepts, both are symbols, and the work space is long enough
--   stop-both, run-both    the run of their steps, by what it answers
--   refused-both, decided-both     the answer of a call that decides and asks nothing else
--   two_numbered           their refusals have numbers above 0
--   two_accepted           two symbols pass, and so does the call where the rest of its steps do
--   two_say                what a number 0 says of two symbols, where nothing is asked behind the work space
--   with_space             a work space that is long enough adds no refusal
-- Assumes nothing.
use Rattle.std.specs.Prelude.{Ok, Err}
use mathlib.Core.Path.{◌≡◌, refl, sym, ◌∙◌, ap}
use mathlib.Core.Bool.{Bool}
use mathlib.Core.List.{List, [], ◌∷◌}
use Prim.Native.Nat.{ℕ, ◌≤◌}
use native.Mathlib.Omega.{arith}
use lib.IntN.{ℤ}
use lib.ListN.{length}
use Rattle.call.specs.Space.{work_length, zeros}
use Rattle.call.specs.Refusal.{◌or_else◌, answer_number, answer_place, Checked, Decision}
use Rattle.call.specs.declared.refusal.Refusal.{Refusal}
use Rattle.call.proofs.Answers.{both_pass, pass_both}
use Rattle.call.specs.Call.{Lent, Step, Asks, Clears, length_check, if_accepted}
use Rattle.call.specs.Inner.Fills.{Fills, decided}
use Rattle.call.proofs.Laws.{Run, Untouched, Numbered, run_end, run_stop, run_pass, room_long, admit_stop, admit_pass, above_among, above_room, made_says}
use Rattle.call.proofs.Laws.{fills_as}
use Rattle.symbol.specs.Check.{symbol_check}
use Rattle.symbol.specs.Symbol.{IsSymbol}
use Rattle.symbol.proofs.Accepted.{accepted, check_among}
use Rattle.pairing.specs.Inner.Admitted.{admitted_of, both_admitted}
use Rattle.pairing.proofs.Admitted.{admitted}

pub with_space : (c d : Checked) (work : ℕ) → work_length ≤ work → (c or_else d or_else length_check work_length work or_else (Ok tt)) ≡ (c or_else d)
with_space c d work h = ap (λ (x : Checked). c or_else d or_else x or_else (Ok tt)) (room_long work_length work h) ∙ go c d
  where
    go : (c d : Checked) → (c or_else d or_else (Ok tt)) ≡ (c or_else d)
    go (Err f) d = refl
    go (Ok tt) (Err f) = refl
    go (Ok tt) (Ok _) = refl

module _ (v : ℕ) (t : List ℤ) (v' : ℕ) (t' : List ℤ) where
  pub two_symbols_lem : (d : Checked) → (symbol_check v t or_else symbol_check v' t' or_else d) ≡ Ok tt → IsSymbol v t × IsSymbol v' t'
  two_symbols_lem d e =
      let p = both_pass (symbol_check v t) (symbol_check v' t' or_else d) e in
      let q = both_pass (symbol_check v' t') d p.1 in
      ((accepted v t).0 p.0, (accepted v' t').0 q.0)

  pub two_accepted : (d : Checked) → IsSymbol v t → IsSymbol v' t' → d ≡ Ok tt → (symbol_check v t or_else symbol_check v' t' or_else d) ≡ Ok tt
  two_accepted d s s' e =
      pass_both (symbol_check v t) (symbol_check v' t' or_else d) ((accepted v t).1 s) (pass_both (symbol_check v' t') d ((accepted v' t').1 s') e)

  pub both_admitted_lem : (work : ℕ) → Ok tt ≡ both_admitted v t v' t' work → IsSymbol v t × IsSymbol v' t' × (work_length ≤ work)
  both_admitted_lem work e =
      let p = both_pass (symbol_check v t) (admitted_of v' t' work) (sym e) in
      let q = admitted v' t' work (sym p.1) in
      ((accepted v t).0 p.0, q.0, q.1)

  pub two_numbered : (l : List Step) → Numbered l → Numbered (Asks (symbol_check v t) ∷ Asks (symbol_check v' t') ∷ l)
  two_numbered l h =
      (above_among 1 7 (symbol_check v t) (omega arith) (check_among v t), (above_among 1 7 (symbol_check v' t') (omega arith) (check_among v' t'), h))

  module _ (w w' : List ℕ) (l : List Step) where
    abbrev behind : List Step
    behind = Asks (length_check work_length (length w)) ∷ Clears w w' ∷ l

    pub run_both : {d : Checked} → Ok tt ≡ both_admitted v t v' t' (length w) → w' ≡ zeros (length w) → Run l d
        → Run (Asks (symbol_check v t) ∷ Asks (symbol_check v' t') ∷ behind) d
    run_both e z k =
        let p = both_pass (symbol_check v t) (admitted_of v' t' (length w)) (sym e) in
        run_pass (symbol_check v t) (Asks (symbol_check v' t') ∷ behind) p.0 (admit_pass w l (symbol_check v' t') w' (sym p.1) z k)

    pub stop_both : (f : Refusal) → Err f ≡ both_admitted v t v' t' (length w) → w' ≡ w → Untouched l
        → Run (Asks (symbol_check v t) ∷ Asks (symbol_check v' t') ∷ behind) (Err f)
    stop_both f e same u = go (symbol_check v t) refl e
      where
        go : (x : Checked) → symbol_check v t ≡ x → Err f ≡ (x or_else admitted_of v' t' (length w))
            → Run (Asks (symbol_check v t) ∷ Asks (symbol_check v' t') ∷ behind) (Err f)
        go (Err g) q z = run_stop f (symbol_check v t) (Asks (symbol_check v' t') ∷ behind) (q ∙ sym z) (same, u)
        go (Ok tt) q z = run_pass (symbol_check v t) (Asks (symbol_check v' t') ∷ behind) q (admit_stop w l (symbol_check v' t') w' f z same u)

  module _ (w w' : List ℕ) (b : Bool) where
    abbrev deciding : List Step
    deciding = Asks (symbol_check v t) ∷ Asks (symbol_check v' t') ∷ behind w w' []

    pub refused_both : {a : Decision} (f : Refusal) → Err f ≡ both_admitted v t v' t' (length w) → w' ≡ w → a ≡ Err f → Fills deciding (decided b) a
    refused_both f e same is = fills_as {by = decided b} (stop_both w w' [] f e same tt) is

    pub decided_both : {x : Bool} {a : Decision} → Ok tt ≡ both_admitted v t v' t' (length w) → w' ≡ zeros (length w) → x ≡ b → a ≡ decided x (Ok tt)
        → Fills deciding (decided b) a
    decided_both e z same is = fills_as {by = decided b} (run_both w w' [] e z run_end) (is ∙ ap (λ (y : Bool). decided y (Ok tt)) same)

  pub two_say : (w : Lent (List ℕ)) (M : ℕ → Type 0) (count : ℕ) → (IsSymbol v t → IsSymbol v' t' → M count)
      → let c = symbol_check v t or_else symbol_check v' t' or_else length_check work_length (length w.entry.now) or_else (Ok tt) in
      answer_number c ≡ 0 → M (if_accepted c count (answer_place c))
  two_say w M count m =
      let space = Asks (length_check work_length (length w.entry.now)) ∷ [] in
      made_says (record { steps = Asks (symbol_check v t) ∷ Asks (symbol_check v' t') ∷ space; count = count; Says = λ number place. number ≡ 0 → M place }) M
      (two_numbered space (above_room work_length (length w.entry.now), tt))
      (λ e. (let p = two_symbols_lem (length_check work_length (length w.entry.now) or_else (Ok tt)) e in m p.0 p.1))
