-- One pair: whether its places are one is whether the walk of the query comes home (`shares`, `found_is`), what the answer means (`means`), and what its
-- numbers say (`says`).
-- Why: matrices lead to one point exactly where a product of generators takes one to the other, and points stand at places of their own.
-- In order: answers; the walk; the places; the meaning; the numbers of an export.
-- Assumes nothing.
use Rattle.std.specs.Prelude.{Ok, Err}
use mathlib.Core.Path.{◌≡◌, refl, sym, ◌∙◌, ap}
use mathlib.Core.Logic.{inl, inr}
use mathlib.Core.Bool.{Bool, true, false}
use mathlib.Core.List.{List, [], ◌∷◌}
use Prim.Native.Nat.{ℕ, ◌<◌}
use native.Mathlib.Omega.{arith}
use native.Mathlib.Decide.{ℕ_discrete}
use lib.Dec.{eqb}
use lib.ListN.{length}
use lib.IntN.{ℤ}
use borrow.Author.Tests.{eqb-true, eq-eqb, ne_eqb}
use Rattle.basics.proofs.Choice.{clash}
use Rattle.matrix.specs.Matrix.{Mat, of_list}
use Rattle.call.specs.Space.{work_length}
use Rattle.call.specs.Refusal.{answer_number, answer_place, Checked, Decision}
use Rattle.call.proofs.Apart.{refused_accepted}
use Rattle.call.specs.Call.{Asks, length_check, if_accepted, bit}
use Rattle.call.specs.Inner.Fills.{decided, decision_place}
use Rattle.call.proofs.Laws.{above_room, above_among, accepted_by}
use Rattle.symbol.specs.Check.{symbol_check}
use Rattle.symbol.specs.Symbol.{IsSymbol}
use Rattle.symbol.proofs.Accepted.{accepted, check_among}
use Rattle.coset.specs.Tables.{table_s, table_r, table_t}
use Rattle.right_cosets.specs.Leads.{leads}
use Rattle.coset.proofs.Answer.{meaning}
use Rattle.cusp_record.specs.Record.{cusp_place}
use Rattle.cusp_record.specs.Inner.Fill.{cusp_entry}
use Rattle.cusp_record.proofs.Record.{in_order_is}
use Rattle.figures.specs.Inner.Scan.{held_t}
use Rattle.same_coset.specs.Runs.{Arrived}
use Rattle.same_coset.specs.Inner.Places.{held_turns, SymbolPlaces}
use Rattle.same_coset.specs.Inner.Rows.{OneMatrix}
use Rattle.same_coset.proofs.ByPlace.{guided}
use Rattle.word.specs.Answer.{matrices_check, closes, found_word, query_of, word_left}
use Rattle.word.specs.Claim.{ValidQuery, SameRightCoset, Claim}
use Rattle.word.proofs.Claim.{outcome_number, joined_home, home_joined, joined_same, same_joined}
use Rattle.word.proofs.Order.{asked, asked_passed, claim}
use Rattle.word.proofs.Refused.{passed_by, pair_passes, pair_among, in_order, reached, reaches, checked, second}
use Rattle.same_coset.specs.Answer.{same_coset_of, CosetMeans, SharedSays}

-- ---- answers

yes_by : (k : Bool) (c : Checked) → decided k c ≡ Ok true → (c ≡ Ok tt) × (k ≡ true)
yes_by true (Ok tt) e = (refl, refl)
yes_by false (Ok tt) e = cc
yes_by k (Err f) e = cc

no_by : (k : Bool) (c : Checked) → decided k c ≡ Ok false → (c ≡ Ok tt) × (k ≡ false)
no_by true (Ok tt) e = cc
no_by false (Ok tt) e = (refl, refl)
no_by k (Err f) e = cc

bit_one : (k : Bool) → bit k ≡ 1 → k ≡ true
bit_one true e = refl
bit_one false e = absurd (omega (arith, e))

bit_zero : (k : Bool) → bit k ≡ 0 → k ≡ false
bit_zero true e = absurd (omega (arith, e))
bit_zero false e = refl

off : (k : Bool) → (k ≡ true → ⊥) → k ≡ false
off true h = absurd (h refl)
off false h = refl

-- ---- the walk

module _ {v : ℕ} {t a b : List ℤ} {w : List ℕ} (q : ValidQuery v t a b w) where
  abbrev A : Mat
  A = of_list a

  abbrev B : Mat
  B = of_list b

  abbrev x : ℕ
  x = leads (table_s v t) (table_r v t) A

  abbrev y : ℕ
  y = leads (table_s v t) (table_r v t) B

  home : closes v t A B ≡ true → SameRightCoset v t A B
  home h = home_joined q.symbol A B q.unit_A q.unit_B h

  joined : SameRightCoset v t A B → closes v t A B ≡ true
  joined j = joined_home q.symbol A B q.unit_A q.unit_B j

  away : (SameRightCoset v t A B → ⊥) → closes v t A B ≡ false
  away n = off (closes v t A B) (λ h. n (home h))

  points_home : x ≡ y → closes v t A B ≡ true
  points_home e = joined (same_joined q.symbol A B q.unit_A q.unit_B e)

  home_points : closes v t A B ≡ true → x ≡ y
  home_points h = joined_same q.symbol A B q.unit_A q.unit_B (home h)

  -- the answer by the points
  pub found_is : (k : Bool) → k ≡ eqb x y → k ≡ closes v t A B
  found_is true e = sym (points_home (eqb-true x y (sym e)))
  found_is false e = sym (off (closes v t A B) (λ h. clash (eq-eqb x y (home_points h)) (sym e)))

-- ---- the places

pub shares : {v : ℕ} {t a b : List ℤ} {w₀ w : List ℕ} {n : ℕ} → IsSymbol v t → SymbolPlaces v t w₀ w n → OneMatrix a → OneMatrix b
    → (p q : ℕ) → Arrived (held_turns n w) (held_t n w) (of_list a) p → Arrived (held_turns n w) (held_t n w) (of_list b) q
    → eqb p q ≡ eqb (leads (table_s v t) (table_r v t) (of_list a)) (leads (table_s v t) (table_r v t) (of_list b))
shares {v} {t} {a} {b} {w₀} {w} {n} ok g ma mb p q ep eq =
    let lead = leads (table_s v t) (table_r v t) in
    let u = table_t v t in
    let c = (meaning ok).cosets in
    let x = lead (of_list a) in
    let y = lead (of_list b) in
    let here : p ≡ cusp_place u x = rw g.T_is at (ep lead (guided ok g)) in
    let there : q ≡ cusp_place u y = rw g.T_is at (eq lead (guided ok g)) in
    let o = in_order_is c.permutes_T in
    let xl : x < length u = omega (arith, c.of_H.low (of_list a) ma.unit, c.size_T) in
    let yl : y < length u = omega (arith, c.of_H.low (of_list b) mb.unit, c.size_T) in
    elim (ℕ_discrete x y) [
      | yes e ↦ eq-eqb p q (here ∙ ap (cusp_place u) e ∙ sym there) ∙ sym (eq-eqb x y e)
      | no e ↦ ne_eqb p q (λ d. e (sym (o.at_place x xl) ∙ ap (cusp_entry u) (sym here ∙ d ∙ there) ∙ o.at_place y yl)) ∙ sym (ne_eqb x y e)
    ]

-- ---- the meaning

module _ (v : ℕ) (t a b : List ℤ) (w : List ℕ) where
  abbrev M : Mat
  M = of_list a

  abbrev N : Mat
  N = of_list b

  abbrev found : Bool
  found = closes v t M N

  abbrev all : Checked
  all = in_order (symbol_check v t) (matrices_check a b) (Ok tt) w

  abbrev r : Decision
  r = same_coset_of v t a b (length w)

  -- all checks pass exactly where the query gets to its walk
  pub accepted_asked : all ≡ Ok tt → ValidQuery v t a b w
  accepted_asked e = elim (reaches (symbol_check v t) (matrices_check a b) (Ok tt) w) [
    | inl g ↦ asked a b ((accepted v t).0 g.accepted) g.work (passed_by a b g.passed)
    | inr (inl s) ↦ refused_accepted (sym s.is ∙ e)
    | inr (inr (checked f g s)) ↦ refused_accepted (sym s ∙ e)
    | inr (inr (second f g s)) ↦ refused_accepted (sym s ∙ e)
  ]

  asked_accepted : ValidQuery v t a b w → all ≡ Ok tt
  asked_accepted q =
      reached (symbol_check v t) (matrices_check a b) (Ok tt) w ((accepted v t).1 q.symbol) (sym (pair_passes a b (asked_passed a b q))) q.work

  is_found : ValidQuery v t a b w → r ≡ Ok found
  is_found q = ap (decided found) (asked_accepted q)

  by_found : ValidQuery v t a b w → (k : Bool) → found ≡ k → r ≡ Ok k
  by_found q k e = is_found q ∙ ap {B = Decision} (λ (b : Bool). Ok b) e

  yes_asked : r ≡ Ok true → ValidQuery v t a b w
  yes_asked e = accepted_asked (yes_by found all e).0

  no_asked : r ≡ Ok false → ValidQuery v t a b w
  no_asked e = accepted_asked (no_by found all e).0

  yes_is : r ≡ Ok true → SameRightCoset v t M N
  yes_is e = home (yes_asked e) (yes_by found all e).1

  is_yes : ValidQuery v t a b w → SameRightCoset v t M N → r ≡ Ok true
  is_yes q j = by_found q true (joined q j)

  no_is : r ≡ Ok false → SameRightCoset v t M N → ⊥
  no_is e j = clash (joined (no_asked e) j) (no_by found all e).1

  is_no : ValidQuery v t a b w → (SameRightCoset v t M N → ⊥) → r ≡ Ok false
  is_no q n = by_found q false (away q n)

  -- the claim of the query in a word space
  module _ (out : List ℤ) (start : ℕ) where
    says_all : Claim v t a b w out start (query_of v t a b (length w) (length out) start)
        (word_left (query_of v t a b (length w) (length out) start) (found_word v t M N) out)
    says_all = claim refl refl

  pub means : CosetMeans v t a b w r
  means = record {
    yes = ((λ e. (yes_asked e, yes_is e)), (λ z. is_yes z.0 z.1));
    no = ((λ e. (no_asked e, no_is e)), (λ z. is_no z.0 z.1));
    points = λ q. ((λ e. home_points q (yes_by found all e).1), (λ e. by_found q true (points_home q e)));
    word = λ out start f. (
      (λ e. ((says_all out start).answered (yes_asked e)).returned.1 (yes_is e, f)),
      (λ z. let q = (says_all out start).asked (inl (outcome_number (query_of v t a b (length w) (length out) start) z)) in is_yes q (((says_all out start).answered q).returned.0 z).0),
    );
    none = λ out start. (
      (λ e. ((says_all out start).answered (no_asked e)).none.1 (no_is e)),
      (λ z. let q = (says_all out start).asked (inr (outcome_number (query_of v t a b (length w) (length out) start) z)) in is_no q (((says_all out start).answered q).none.0 z)),
    );
  }

  -- ---- the numbers of an export

  -- 0 says that all checks pass
  zero_accepted : answer_number all ≡ 0 → all ≡ Ok tt
  zero_accepted z =
      accepted_by (Asks (symbol_check v t) ∷ Asks (matrices_check a b) ∷ Asks (length_check work_length (length w)) ∷ []) (
        above_among 1 7 (symbol_check v t) (omega arith) (check_among v t),
        (above_among 8 9 (matrices_check a b) (omega arith) (pair_among a b), (above_room work_length (length w), tt)),
      ) z

  abbrev told : ℕ
  told = if_accepted all (bit found) (answer_place all)

  pub tells : (answer_number all ≡ answer_number (decided found all)) × (told ≡ decision_place (decided found all))
  tells = go found all
    where
      go : (b : Bool) (c : Checked) → (answer_number c ≡ answer_number (decided b c))
          × (if_accepted c (bit b) (answer_place c) ≡ decision_place (decided b c))
      go true (Ok tt) = (refl, refl)
      go false (Ok tt) = (refl, refl)
      go b (Err f) = (refl, refl)

  told_is : all ≡ Ok tt → told ≡ bit found
  told_is e = ap (λ (c : Checked). if_accepted c (bit found) (answer_place c)) e

  pub says : SharedSays v t a b w (answer_number all) told
  says = record {
    asked = λ z. accepted_asked (zero_accepted z);
    yes = λ z.
        let e = zero_accepted z in
        let q = accepted_asked e in
        ((λ p. home q (bit_one found (sym (told_is e) ∙ p))), (λ j. told_is e ∙ ap bit (joined q j)));
    no = λ z.
        let e = zero_accepted z in
        let q = accepted_asked e in
        ((λ p j. clash (joined q j) (bit_zero found (sym (told_is e) ∙ p))), (λ n. told_is e ∙ ap bit (away q n)));
  }
