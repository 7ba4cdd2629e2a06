-- WHAT THE ANSWERS FOR ONE MATRIX MEAN. In order: a word from the identity to M is a word for M (`in_H`, `of_H`, `value_of_lem`, the normal form `form_of`); the
-- claim of the word (`matrix_claim`); yes or no (`member_means`), and what its numbers say (`member_tells`, `member_says`).
-- Assumes nothing.
use Rattle.std.specs.Prelude.{Ok, Err}
use mathlib.Core.Path.{◌≡◌, refl, sym, ◌∙◌, ap, subst}
use mathlib.Core.Logic.{inl, inr}
use mathlib.Core.Bool.{Bool, true, false}
use mathlib.Core.List.{List, [], ◌∷◌}
use Prim.Native.Nat.{ℕ, ◌≤◌}
use native.Mathlib.Omega.{arith}
use lib.ListN.{length}
use lib.IntN.{ℤ, pos}
use Rattle.basics.proofs.Choice.{clash}
use Rattle.matrix.specs.Matrix.{Mat, ◌⊗◌, 𝟙, det, ◌≈◌, of_list}
use Rattle.matrix.specs.Action as action
use Rattle.matrix.proofs.Matrix.{⊗-idr, ≈-sym}
use Rattle.call.specs.Space.{work_length}
use Rattle.call.specs.Refusal.{answer_number, answer_place, Checked, Decision, Answer}
use Rattle.call.specs.declared.refusal.Refusal.{Refusal}
use Rattle.call.specs.Call.{Asks, length_check, verdict, if_accepted, bit}
use Rattle.call.specs.Inner.Fills.{decided, decision_place}
use Rattle.call.proofs.Apart.{refused_accepted}
use Rattle.call.proofs.Laws.{Numbered, above_room, above_among, accepted_by}
use Rattle.symbol.specs.Check.{symbol_check}
use Rattle.symbol.proofs.Accepted.{accepted, check_among}
use Rattle.pairing.specs.Generator.{generators}
use Rattle.pairing.specs.Subgroup.{IsWord, value_of, InH}
use Rattle.coset.specs.Positions.{NormalForm}
use Rattle.coset.specs.Tables.{table_s, table_r}
use Rattle.coset.proofs.InWords.{from_coset, to_coset}
use Rattle.right_cosets.specs.Leads.{leads}
use Rattle.word.specs.Answer.{found_checks, found_if, word_if, word_left}
use Rattle.word.specs.Claim.{SameRightCoset, NormalWord, Answered}
use Rattle.word.specs.declared.FoundWord.{FoundWord}
use Rattle.word.proofs.Claim.{answered, joined_home, home_joined, joined_same, same_joined}
use Rattle.word.proofs.Refused.{in_order, reached, reaches, checked, second, Before, before_ten, gets_asked, gets_short}
use Rattle.matrix_word.specs.Answer.{identity_rows, matrix_check, is_member, member_word, member_sign, member_of, matrix_word_of}
use Rattle.matrix_word.specs.Claim.{ValidMatrix, MatrixClaim, MemberMeans, MemberSays}
use Rattle.matrix_word.proofs.Along.{one_times}
use Rattle.matrix_word.proofs.Checks.{passed_matrix, matrix_passed, matrix_among, matrix_numbers}
use Rattle.matrix_word.proofs.Decisions.{yes_by, no_by, bit_one, bit_zero, off}

-- ---- from the identity

abbrev one : Mat
one = of_list identity_rows

pub one_unit : det one ≡ pos 1
unfolding det
one_unit = refl

pub times_one : (x : Mat) → x ⊗ one ≡ x
unfolding 𝟙
times_one x = ⊗-idr x

module _ (v : ℕ) (t : List ℤ) (M : Mat) where
  pub in_H : SameRightCoset v t one M → InH (generators v t) M
  in_H j = subst (InH (generators v t)) (one_times M) (from_coset (generators v t) one M one_unit j)

  pub of_H : InH (generators v t) M → SameRightCoset v t one M
  of_H h = to_coset (generators v t) one M one_unit (subst (InH (generators v t)) (sym (one_times M)) h)

  pub value_of_lem : (l : List ℤ) → value_of (generators v t) l ⊗ one ≈ M → value_of (generators v t) l ≈ M
  value_of_lem l e = subst (λ (x : Mat). x ≈ M) (times_one (value_of (generators v t) l)) e

  -- a word for M takes the identity to M
  taking : (u : List ℤ) → IsWord (length (generators v t)) u → M ≈ value_of (generators v t) u → SameRightCoset v t one M
  taking u k e = record { word = u; letters = k; is = subst (λ (x : Mat). x ≈ M) (sym (times_one (value_of (generators v t) u))) (≈-sym e) }

  pub form_of : (l : List ℤ) → NormalWord v t one M l → NormalForm v t M l
  unfolding taking
  form_of l n = record {
    letters = n.letters;
    is = ≈-sym (value_of_lem l n.takes);
    reduced = n.reduced;
    only = λ u k r e. n.only (taking u k e) r;
    shortest = λ u k e. n.shortest (taking u k e);
  }

-- ---- the word

valid_matrix : {v : ℕ} {t m : List ℤ} {w : List ℕ} → symbol_check v t ≡ Ok tt → matrix_check m ≡ Ok tt → work_length ≤ length w → ValidMatrix v t m w
valid_matrix {v} {t} {m} s p k = let q = passed_matrix m p in record { symbol = (accepted v t).0 s; work = k; entries = q.0; unit = q.1 }

matrix_before : (m : List ℤ) (f : Refusal) → matrix_check m ≡ Err f → Before f
matrix_before m f e = elim (matrix_numbers m f e) [
  | inl z ↦ (λ y. omega (arith, z, y), λ y. omega (arith, z, y), λ y. omega (arith, z, y))
  | inr z ↦ (λ y. omega (arith, z, y), λ y. omega (arith, z, y), λ y. omega (arith, z, y))
]

pub matrix_claim : (v : ℕ) (t m : List ℤ) (w : List ℕ) (out : List ℤ) (start : ℕ) (r : Answer FoundWord) (out' : List ℤ)
    → r ≡ matrix_word_of v t m (length w) (length out) start → out' ≡ word_left r (member_word v t m) out → MatrixClaim v t m w out start r out'
matrix_claim v t m w out start r out' e f =
    let l = member_word v t m in
    let s = member_sign v t m in
    let found = verdict (found_checks v t identity_rows m start (length out)) in
    let of_symbol = before_ten 1 7 (symbol_check v t) (omega arith) (omega arith) (check_among v t) in
    record {
      asked = gets_asked (symbol_check v t) (matrix_check m) found w valid_matrix of_symbol (matrix_before m) start (length l) s e;
      short = gets_short (symbol_check v t) (matrix_check m) found w valid_matrix of_symbol (matrix_before m) start (length l) s e;
      answered = λ q.
          let z : r ≡ found_if v t identity_rows m start found = e ∙ ap (word_if start (length l) s)
          (reached (symbol_check v t) (matrix_check m) found w ((accepted v t).1 q.symbol) (matrix_passed m q.entries q.unit) q.work) in
          subst (λ (o : List ℤ). Answered v t one (of_list m) l s out start r o) (sym f)
          (subst (λ (x : Answer FoundWord). Answered v t one (of_list m) l s out start x (word_left x l out)) (sym z)
          (answered q.symbol identity_rows m one_unit q.unit out start));
    }

-- ---- yes or no

module _ (v : ℕ) (t m : List ℤ) (w : List ℕ) where
  abbrev M : Mat
  M = of_list m

  abbrev found : Bool
  found = is_member v t m

  abbrev all : Checked
  all = in_order (symbol_check v t) (matrix_check m) (Ok tt) w

  abbrev r : Decision
  r = member_of v t m (length w)

  home : ValidMatrix v t m w → found ≡ true → InH (generators v t) M
  home q h = in_H v t M (home_joined q.symbol one M one_unit q.unit h)

  joined : ValidMatrix v t m w → InH (generators v t) M → found ≡ true
  joined q h = joined_home q.symbol one M one_unit q.unit (of_H v t M h)

  away : ValidMatrix v t m w → (InH (generators v t) M → ⊥) → found ≡ false
  away q n = off found (λ h. n (home q h))

  -- the identity leads from point 0 to it
  one_leads : leads (table_s v t) (table_r v t) one ≡ 0
  unfolding action.at
  one_leads = refl

  -- all checks pass exactly where the call gets to its walk
  accepted_asked : all ≡ Ok tt → ValidMatrix v t m w
  accepted_asked e = elim (reaches (symbol_check v t) (matrix_check m) (Ok tt) w) [
    | inl g ↦ valid_matrix g.accepted g.passed g.work
    | inr (inl s) ↦ refused_accepted (sym s.is ∙ e)
    | inr (inr (checked f g s)) ↦ refused_accepted (sym s ∙ e)
    | inr (inr (second f g s)) ↦ refused_accepted (sym s ∙ e)
  ]

  by_found : ValidMatrix v t m w → (k : Bool) → found ≡ k → r ≡ decided k (Ok tt)
  by_found q k e =
      ap (decided found) (reached (symbol_check v t) (matrix_check m) (Ok tt) w ((accepted v t).1 q.symbol) (matrix_passed m q.entries q.unit) q.work)
      ∙ ap (λ (b : Bool). decided b (Ok tt)) e

  pub member_means : MemberMeans v t m w r
  member_means = record {
    yes = (
      (λ e. let k = yes_by found all e in let q = accepted_asked k.0 in (q, home q k.1)),
      (λ z. by_found z.0 true (joined z.0 z.1)),
    );
    no = (
      (λ e. let k = no_by found all e in let q = accepted_asked k.0 in (q, λ h. clash (joined q h) k.1)),
      (λ z. by_found z.0 false (away z.0 z.1)),
    );
    points = λ q. (
      (λ e. sym (joined_same q.symbol one M one_unit q.unit (home_joined q.symbol one M one_unit q.unit (yes_by found all e).1)) ∙ one_leads),
      (λ e. by_found q true (joined_home q.symbol one M one_unit q.unit (same_joined q.symbol one M one_unit q.unit (one_leads ∙ sym e)))),
    );
  }

  -- ---- the numbers of an export

  pub member_numbered : Numbered (Asks (symbol_check v t) ∷ Asks (matrix_check m) ∷ Asks (length_check work_length (length w)) ∷ [])
  member_numbered = (
    above_among 1 7 (symbol_check v t) (omega arith) (check_among v t),
    (above_among 9 28 (matrix_check m) (omega arith) (matrix_among m), (above_room work_length (length w), tt)),
  )

  -- 0 says that all checks pass
  zero_accepted : answer_number all ≡ 0 → all ≡ Ok tt
  zero_accepted z = accepted_by (Asks (symbol_check v t) ∷ Asks (matrix_check m) ∷ Asks (length_check work_length (length w)) ∷ []) member_numbered z

  abbrev told : ℕ
  told = if_accepted all (bit found) (answer_place all)

  pub member_tells : (answer_number all ≡ answer_number (decided found all)) × (told ≡ decision_place (decided found all))
  member_tells = go found all
    where
      go : (b : Bool) (c : Checked) → (answer_number c ≡ answer_number (decided b c))
          × (if_accepted c (bit b) (answer_place c) ≡ decision_place (decided b c))
      go true (Ok tt) = (refl, refl)
      go false (Ok tt) = (refl, refl)
      go b (Err f) = (refl, refl)

  told_is : all ≡ Ok tt → told ≡ bit found
  told_is e = ap (λ (c : Checked). if_accepted c (bit found) (answer_place c)) e

  pub member_says : MemberSays v t m w (answer_number all) told
  member_says = record {
    asked = λ z. accepted_asked (zero_accepted z);
    yes = λ z.
        let e = zero_accepted z in
        let q = accepted_asked e in
        ((λ p. home q (bit_one found (sym (told_is e) ∙ p))), (λ j. told_is e ∙ ap bit (joined q j)));
    no = λ z.
        let e = zero_accepted z in
        let q = accepted_asked e in
        ((λ p j. clash (joined q j) (bit_zero found (sym (told_is e) ∙ p))), (λ n. told_is e ∙ ap bit (away q n)));
  }
