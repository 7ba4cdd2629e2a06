-- WHAT A QUERY ON A GROUP WITH A NAME SAYS: `named_claim`.
-- Why: the rule's symbol generates precisely the matrices that meet the condition, so a product of generators takes A to B up to sign exactly when B A⁻¹
-- meets it; and the claim of a pair query holds of that symbol.
-- In order: the symbol that the rule gives; the order of refusals; the claim.
-- Assumes nothing.
use Rattle.std.specs.Prelude.{Err}
use mathlib.Core.Path.{◌≡◌, refl, sym, ◌∙◌, ap, subst}
use mathlib.Core.Logic.{◌⊎◌, inl, inr, ◌↔◌}
use mathlib.Core.List.{List}
use Prim.Native.Nat.{ℕ, ◌≤◌, ◌<◌}
use native.Mathlib.Omega.{arith}
use lib.ListN.{length}
use lib.IntN.{ℤ}
use Rattle.matrix.specs.Matrix.{Mat, ◌⊗◌, adj, of_list}
use Rattle.matrix.proofs.Matrix.{det_one, det_adj}
use Rattle.basics.proofs.Count.{first_clear}
use Rattle.call.specs.Refusal.{answer_number, refusal_number, Checked, Answer, outcome}
use Rattle.call.specs.declared.refusal.Refusal.TheVariants.{NoWord, TooShort, EntryTooLarge}
use Rattle.call.specs.declared.refusal.Refusal.{Refusal}
use Rattle.call.proofs.Numbered.{Among}
use Rattle.call.specs.Space.{work_length}
use Rattle.pairing.specs.Generator.{generators}
use Rattle.import_call.proofs.Means.{ruled_means}
use Rattle.coset.proofs.InWords.{from_coset, to_coset}
use Rattle.right_cosets.specs.Condition.{Unit}
use Rattle.congruence.specs.Congruence.{Meets}
use Rattle.congruence.specs.Cosets.{family_s, family_r}
use Rattle.congruence.specs.declared.Family.{Family}
use Rattle.congruence_tables.specs.Inner.Held.{Group}
use Rattle.import_rule.specs.Order.{Order}
use Rattle.import_rule.specs.Symbol.{Ruled, made, over, ruled_by}
use Rattle.call.specs.Call.{verdict}
use Rattle.word.specs.Answer.{large, matrices_check, found_word, found_sign, found_if, found_checks, word_left}
use Rattle.word.specs.Claim.{SameRightCoset, Answered, ShortWork}
use Rattle.word.specs.declared.FoundWord.{FoundWord}
use Rattle.word.proofs.Pair.{small_clear, unit_is, is_unit}
use Rattle.word.proofs.Claim.{outcome_number, answered}
use Rattle.word.proofs.Order.{passed_small}
use Rattle.word.proofs.Refused.{Passed, passed_by, pair_passes, pair_among, in_order, Gets, Short, Stopped, checked, second, reached, reaches}
use Rattle.named_groups.specs.Group.{family_of, group_check}
use Rattle.named_groups.specs.Answer.{named_rule, NamedSymbol, ruled_word, ruled_if, ruled_checks, named_query_by}
use Rattle.named_groups.specs.Claim.{ValidNamedQuery, NamedAnswered, RuleMakes, NamedClaim}
use Rattle.named_groups.proofs.Checked.{check_named, check_accepts, group_of, group_numbers}
use Rattle.named_groups.proofs.Symbols.{symbol_named}
use Rattle.named_groups.proofs.Tables.{passport}

-- ---- the symbol that the rule gives

pub rule_symbol : (f : Family) (n : ℕ) → Group f n → (order : Order) (v : ℕ) (t : List ℤ) → ruled_by order (family_s f n) (family_r f n) ≡ made v t
    → NamedSymbol f n v t
rule_symbol f n g order v t e = symbol_named f n g v t (ruled_means order (family_s f n) (family_r f n) v t (passport f n g) e)

-- ---- the pair

pub pair_passed : (a b : List ℤ) → Rattle.matrix.specs.Bounds.Small 1000000 (of_list a) → Rattle.matrix.specs.Bounds.Small 1000000 (of_list b) → Unit (of_list a)
    → Unit (of_list b) → Passed a b
pair_passed a b sa sb ua ub = record {
  entries = omega (arith, first_clear (large a b) 8 (small_clear a b sa sb));
  A = is_unit a ua;
  B = is_unit b ub;
}

-- ---- the claim

module _ (order : Order) (k n : ℕ) (a b : List ℤ) (w : List ℕ) (out : List ℤ) (start : ℕ) (r : Answer FoundWord) (out' : List ℤ) where
  abbrev G : Ruled
  G = named_rule order k n

  abbrev found : Checked
  found = verdict (ruled_checks G a b start (length out))

  abbrev all : Checked
  all = in_order (group_check k n) (matrices_check a b) found w

  asked_of : Gets (group_check k n) (matrices_check a b) found w → ValidNamedQuery k n a b w
  asked_of g =
      let p = passed_by a b g.passed in
      let s = passed_small a b p.entries in
      record {
        group = check_named k n g.accepted;
        work = g.work;
        entries_A = s.0;
        entries_B = s.1;
        unit_A = unit_is a p.A;
        unit_B = unit_is b p.B;
      }

  module _ (e : r ≡ named_query_by order k n a b (length w) (length out) start) where
    -- what a query that gets past the checks answers
    found_of : ValidNamedQuery k n a b w → r ≡ ruled_if G a b start found
    found_of q =
        let p = pair_passed a b q.entries_A q.entries_B q.unit_A q.unit_B in
        e ∙ ap (ruled_if G a b start) (reached (group_check k n) (matrices_check a b) found w (check_accepts k n q.group) (sym (pair_passes a b p)) q.work)

    by : {c : Checked} → all ≡ c → r ≡ ruled_if G a b start c
    by z = e ∙ ap (ruled_if G a b start) z

    -- an answer other than 16 is given where the rule gives a symbol
    makes : (g : Ruled) → G ≡ g → r ≡ ruled_if g a b start (verdict (ruled_checks g a b start (length out))) → (answer_number r ≡ 16 → ⊥)
        → RuleMakes order k n
    makes (made v t) d q h = record { vertices = v; table = t; is = d }
    makes (over i) d q h = absurd (h (outcome_number r (ap outcome q)))

    -- a number that the checks before don't give
    asked_by : (answer_number r < 8) ⊎ (answer_number r ≡ 10) ⊎ (answer_number r ≡ 11)
        → (answer_number r ≡ 11 → work_length ≤ length w)
        → ValidNamedQuery k n a b w × RuleMakes order k n
    asked_by h long = go (reaches (group_check k n) (matrices_check a b) found w)
      where
        no : {f : Refusal} → all ≡ Err f → (refusal_number f < 8 → ⊥) → (refusal_number f ≡ 10 → ⊥) → (refusal_number f ≡ 11 → ⊥)
            → ValidNamedQuery k n a b w × RuleMakes order k n
        no s x y z =
            let q = outcome_number r (ap outcome (by s)) in
            elim h [ inl l ↦ absurd (x (omega (arith, l, q))) | inr (inl l) ↦ absurd (y (sym q ∙ l)) | inr (inr l) ↦ absurd (z (sym q ∙ l)) ]

        stopped : Stopped (group_check k n) (matrices_check a b) found w → ValidNamedQuery k n a b w × RuleMakes order k n
        stopped (checked f q s) = let z = group_numbers k n q in no s (λ y. omega (arith, z.0, y)) (λ y. omega (arith, z.0, y)) (λ y. omega (arith, z.0, y))
        stopped (second f q s) =
            let z = subst (Among 8 9) q (pair_among a b) in no s (λ y. omega (arith, z.0, y)) (λ y. omega (arith, z.1, y)) (λ y. omega (arith, z.1, y))

        go : Gets (group_check k n) (matrices_check a b) found w ⊎ Short (group_check k n) (matrices_check a b) found w
            ⊎ Stopped (group_check k n) (matrices_check a b) found w → ValidNamedQuery k n a b w × RuleMakes order k n
        go (inl g) = (
          asked_of g,
          makes G refl (by g.is) (λ z. elim h [ inl l ↦ omega (arith, l, z) | inr (inl l) ↦ omega (arith, l, z) | inr (inr l) ↦ omega (arith, l, z) ]),
        )
        go (inr (inl s)) = absurd (omega (arith, long (outcome_number r (ap outcome (by s.is))), s.low))
        go (inr (inr s)) = stopped s

    zero_ten : (answer_number r ≡ 0) ⊎ (answer_number r ≡ refusal_number NoWord) → ValidNamedQuery k n a b w × RuleMakes order k n
    zero_ten h = elim h [
      | inl z ↦ asked_by (inl (omega (arith, z))) (λ y. absurd (omega (arith, y, z)))
      | inr z ↦ asked_by (inr (inl z)) (λ y. absurd (omega (arith, y, z)))
    ]

    short_by : (m : ℕ) → answer_number r ≡ refusal_number (TooShort m) → (ValidNamedQuery k n a b w × RuleMakes order k n) ⊎ ShortWork w r
    short_by m h = elim (reaches (group_check k n) (matrices_check a b) found w) [
      | inl g ↦ inl (asked_by (inr (inr h)) (λ y. g.work))
      | inr (inl s) ↦ inr (s.low, ap outcome (by s.is))
      | inr (inr (checked f q s)) ↦ (
          let z = group_numbers k n q in
          absurd (omega (arith, z.0, outcome_number r (ap outcome (by s)), h))
          )
      | inr (inr (second f q s)) ↦ (
          let z = subst (Among 8 9) q (pair_among a b) in
          absurd (omega (arith, z.1, outcome_number r (ap outcome (by s)), h))
          )
    ]

  module _ (e : r ≡ named_query_by order k n a b (length w) (length out) start) (d : out' ≡ word_left r (ruled_word G a b) out)
      (q : ValidNamedQuery k n a b w) where
    module _ (v : ℕ) (t : List ℤ) (g : G ≡ made v t) where
      abbrev A : Mat
      A = of_list a

      abbrev B : Mat
      B = of_list b

      symbol : NamedSymbol (family_of k) n v t
      symbol = rule_symbol (family_of k) n (group_of k n q.group) order v t g

      walked : Answered v t A B (found_word v t A B) (found_sign v t A B) out start r out'
      walked =
          let z : r ≡ found_if v t a b start (verdict (found_checks v t a b start (length out))) = rw g at (found_of e q) in
          let y : out' ≡ word_left r (found_word v t A B) out = rw g at d in
          subst (λ (o : List ℤ). Answered v t A B (found_word v t A B) (found_sign v t A B) out start r o) (sym y)
          (subst (λ (x : Answer FoundWord). Answered v t A B (found_word v t A B) (found_sign v t A B) out start x (word_left x (found_word v t A B) out)) (sym z)
          (answered symbol.symbol a b q.unit_A q.unit_B out start))

      joined_meets : SameRightCoset v t A B ↔ Meets (family_of k) n (B ⊗ adj A)
      joined_meets =
          let u : Unit (B ⊗ adj A) = det_one B (adj A) q.unit_B (det_adj A ∙ q.unit_A) in
          let s = symbol.group (B ⊗ adj A) u in
          ((λ h. s.0 (from_coset (generators v t) A B q.unit_A h)), (λ h. to_coset (generators v t) A B q.unit_A (s.1 h)))

      pub answered_named : NamedAnswered (family_of k) n v t A B out start r out'
      answered_named =
          let c = walked in
          let j = joined_meets in
          record {
            symbol = symbol;
            claim = c;
            found = ((λ h. j.0 (c.found.0 h)), (λ h. c.found.1 (j.1 h)));
            none = ((λ h m. c.none.0 h (j.1 m)), (λ h. c.none.1 (λ y. h (j.0 y))));
          }

    answered_over : (i : ℕ) → G ≡ over i → outcome r ≡ Err (EntryTooLarge i)
    answered_over i g = ap outcome (rw g at (found_of e q))

  pub named_claim : r ≡ named_query_by order k n a b (length w) (length out) start → out' ≡ word_left r (ruled_word G a b) out
      → NamedClaim order k n a b w out start r out'
  named_claim e d = record { asked = zero_ten e; short = short_by e; answered = λ q v t g. answered_named e d q v t g; over = λ q i g. answered_over e d q i g }
