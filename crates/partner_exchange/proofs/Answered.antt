-- THE ANSWERS: what passed the checks can be exchanged (`exchangeable`); the front of an array that a table fills (`front`), and what is asked of it
-- (`asked_of`); the numbers of the checks (`exchange_numbered`), and what the numbers of the calls say (`exchange_says`, `preview_says`).
-- Assumes nothing.
use Rattle.std.specs.Prelude.{Ok, Err}
use mathlib.Core.Path.{◌≡◌, refl, ◌∙◌, ap, subst}
use mathlib.Core.Bool.{not}
use mathlib.Core.List.{List, [], ◌∷◌, ◌++◌}
use Prim.Native.Nat.{ℕ, ◌+◌, ◌*◌, ◌≤◌}
use native.Mathlib.Omega.{arith}
use lib.ListN.{length, take, drop, get_or}
use lib.Seq.{take_at}
use lib.IntN.{ℤ}
use borrow.Author.Tests.{not-false}
use Rattle.basics.proofs.Choice.{clash}
use Rattle.call.specs.Space.{work_length}
use Rattle.figures.specs.declared.FigureRecord.{FigureRecord}
use Rattle.call.specs.Refusal.{◌or_else◌, Checked, Answer}
use Rattle.call.specs.declared.refusal.Refusal.TheVariants.{NotFreeLabel}
use Rattle.call.proofs.Answers.{both_pass}
use Rattle.call.proofs.Numbered.{Among, among_first}
use Rattle.call.specs.Call.{Lent, Asks, Gives, length_check, if_accepted, Leaves, number_of, place_of}
use Rattle.call.specs.Inner.Fills.{Fills}
use Rattle.call.proofs.Laws.{Above, above_among, above_room, accepted_by}
use Rattle.symbol.specs.Table.{pairing_entries}
use Rattle.symbol.specs.Check.{eq_z, refuse, symbol_check}
use Rattle.symbol.proofs.Choice.{eq_eq_z}
use Rattle.symbol.proofs.Accepted.{accepted, passes, among_refuse, check_among}
use Rattle.coset.specs.Answer.{widths_of, figures_of, figure_number, figure_numbers}
use Rattle.coset.specs.Inner.Survey.{figured_if}
use Rattle.coset.proofs.Answer.{meaning}
use Rattle.partner_exchange.specs.Exchange.{exchanged, is_free_label, check23}
use Rattle.partner_exchange.specs.Answer.{exchange_check, exchange_call, preview_call}
use Rattle.partner_exchange.specs.Inner.Ready.{Exchangeable}
use Rattle.partner_exchange.proofs.Theorem.{trades}

-- ---- what passed

pub exchangeable : (v : ℕ) (t : List ℤ) (x y : ℤ) → exchange_check v t x y ≡ Ok tt → Exchangeable v t x y
exchangeable v t x y e =
    let p = pairing_entries v t in
    let fx = is_free_label v p x in
    let fy = is_free_label v p y in
    let same = refuse (eq_z x y) (NotFreeLabel 1) in
    let one = both_pass (symbol_check v t) (check23 v p x y) e in
    let two = both_pass (refuse (not fx) (NotFreeLabel 0)) (refuse (not fy) (NotFreeLabel 1) or_else same) one.1 in
    let three = both_pass (refuse (not fy) (NotFreeLabel 1)) same two.1 in
    record {
      symbol = (accepted v t).0 one.0;
      free_x = not-false fx (passes (not fx) (NotFreeLabel 0) two.0);
      free_y = not-false fy (passes (not fy) (NotFreeLabel 1) three.0);
      apart = λ z. clash (eq_eq_z x y z) (passes (eq_z x y) (NotFreeLabel 1) three.1);
    }

-- the part of an array that a table fills
pub front : (v : ℕ) (u rest a : List ℤ) → length u ≡ 3 * v + 1 → a ≡ u ++ rest → take (3 * v + 1) a ≡ u
front v u rest a long e = ap (take (3 * v + 1)) e ∙ take_at u rest (3 * v + 1) long

-- what is asked of a table is asked of another that it is
pub asked_of : (v : ℕ) (l u : List ℤ) (out : List ℕ) {out' : List ℕ} {a : (Answer FigureRecord)}
    → Fills (Asks (length_check (length (widths_of v l)) (length out)) ∷ Gives (widths_of v l ++ drop (length (widths_of v l)) out) out out' ∷ [])
    (figured_if (figures_of v l)) a → l ≡ u
    → Fills (Asks (length_check (length (widths_of v u)) (length out)) ∷ Gives (widths_of v u ++ drop (length (widths_of v u)) out) out out' ∷ [])
    (figured_if (figures_of v u)) a
asked_of v l u out {out'} {a} g e =
    subst (λ (m : List ℤ). Fills
    (Asks (length_check (length (widths_of v m)) (length out)) ∷ Gives (widths_of v m ++ drop (length (widths_of v m)) out) out out' ∷ [])
    (figured_if (figures_of v m)) a) e g

-- ---- what the numbers say

-- the range of the numbers may be larger
wider : (low high low' high' : ℕ) (c : Checked) → low' ≤ low → high ≤ high' → Among low high c → Among low' high' c
wider low high low' high' (Ok tt) l m h = tt
wider low high low' high' (Err f) l m h = (omega (arith, l, h.0), omega (arith, m, h.1))

module _ (v : ℕ) (t : List ℤ) (x y : ℤ) where
  labels_among : Among 1 23 (check23 v (pairing_entries v t) x y)
  labels_among =
      let p = pairing_entries v t in
      let same = refuse (eq_z x y) (NotFreeLabel 1) in
      let second = refuse (not (is_free_label v p y)) (NotFreeLabel 1) in
      let repeat = among_refuse 1 23 (eq_z x y) (NotFreeLabel 1) (omega arith) (omega arith) in
      among_first 1 23 (refuse (not (is_free_label v p x)) (NotFreeLabel 0)) (second or_else same)
      (among_refuse 1 23 (not (is_free_label v p x)) (NotFreeLabel 0) (omega arith) (omega arith))
      (among_first 1 23 second same (among_refuse 1 23 (not (is_free_label v p y)) (NotFreeLabel 1) (omega arith) (omega arith)) repeat)

  pub exchange_numbered : Above (exchange_check v t x y)
  exchange_numbered = above_among 1 23 (exchange_check v t x y) (omega arith)
      (among_first 1 23 (symbol_check v t) (check23 v (pairing_entries v t) x y)
      (wider 1 7 1 23 (symbol_check v t) (omega arith) (omega arith) (check_among v t)) labels_among)

  pub exchange_says : (out : Lent (List ℤ)) → (exchange_call v t x y out).Says (number_of (exchange_call v t x y out)) (place_of (exchange_call v t x y out))
  exchange_says out z =
      let n = length (exchanged v t x y) in
      let room = length_check n (length out.entry.now) in
      let all = accepted_by (Asks (exchange_check v t x y) ∷ Asks room ∷ []) (exchange_numbered, (above_room n (length out.entry.now), tt)) z in
      trades (exchangeable v t x y (both_pass (exchange_check v t x y) (room or_else (Ok tt)) all).0)

  -- from what it leaves, too: the genus stands there
  pub preview_says : (w widths out : Lent (List ℕ)) → Leaves (preview_call v t x y w widths out).steps
      → (preview_call v t x y w widths out).Says (number_of (preview_call v t x y w widths out)) (place_of (preview_call v t x y w widths out))
  preview_says w widths out left z =
      let u = exchanged v t x y in
      let n = length (widths_of v u) in
      let long = length_check work_length (length w.entry.now) in
      let room = length_check n (length widths.entry.now) in
      let all = accepted_by (Asks (exchange_check v t x y) ∷ Asks long ∷ Asks room ∷ [])
      (exchange_numbered, (above_room work_length (length w.entry.now), (above_room n (length widths.entry.now), tt))) z in
      let trade = trades (exchangeable v t x y (both_pass (exchange_check v t x y) (long or_else room or_else (Ok tt)) all).0) in
      let m = meaning trade.accepted in
      let there = left.1.1.0 ∙ ap (λ (c : Checked). if_accepted c (figure_numbers (figures_of v u)) out.entry.now) all in
      (record { trade = trade; means = m }, ap (λ (l : List ℕ). get_or l 4 18) there ∙ ap figure_number m.genus.is)
