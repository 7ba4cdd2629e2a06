-- WHAT THE NUMBER OF A QUERY TELLS (`query_says`; on a group with a name, `named_says`): 10 that there is no such product, 0 that the word is one and
-- the normal form, 11 the length of that; and with it the sign (`sign_says`, `named_sign_says`). And so the exported calls (`call_word`) say what they
-- promise (`query_call_lem`, `signed_call`, `named_call`, `named_signed_call`).
-- Assumes nothing.
use Rattle.std.specs.Prelude.{Ok, Err}
use mathlib.Core.Path.{◌≡◌, refl, sym, ap, subst, ◌∙◌}
use mathlib.Core.Logic.{inl, inr}
use mathlib.Core.Bool.{Bool}
use mathlib.Core.List.{List}
use Prim.Native.Nat.{ℕ}
use native.Mathlib.Omega.{arith}
use lib.ListN.{length}
use lib.IntN.{ℤ}
use Rattle.matrix.specs.Matrix.{Mat, of_list, ◌⊗◌, ◌≈◌}
use Rattle.coset.specs.Positions.{with_sign}
use Rattle.pairing.specs.Generator.{generators}
use Rattle.pairing.specs.Subgroup.{IsWord, value_of}
use Rattle.call.specs.Refusal.{answer_number, answer_place, refusal_number, refusal_place, Checked, Answer, outcome}
use Rattle.call.specs.declared.refusal.Refusal.TheVariants.{TooShort}
use Rattle.call.specs.Call.{verdict, if_accepted, Leaves, Contract, number_of, place_of, Call}
use Rattle.call.proofs.Laws.{Numbered, call}
use Rattle.call.specs.declared.refusal.Refusal.{Refusal}
use Rattle.import_rule.specs.Order.{Order}
use Rattle.named_groups.specs.Answer.{named_rule, ruled_word, ruled_sign}
use Rattle.named_groups.proofs.Asking.{named_run, claimed}
use Rattle.named_groups.specs.Claim.{NamedClaim, NamedQuerySays, NamedSignSays}
use Rattle.word.specs.Answer.{query_place, found_word, found_sign, sign_number, part_of, word_if}
use Rattle.word.specs.Claim.{NormalWord, Answered, Claim, QuerySays, scaled, SignSays, Tells}
use Rattle.word.specs.declared.FoundWord.{FoundWord}
use Rattle.word.proofs.Claim.{same_number, outcome_number}
use Rattle.word.proofs.Order.{left_if, query_run, claim}
use Rattle.sheets.proofs.Said.{unit_of, with_scaled, ten_none, zero, eleven}
use Rattle.engine.specs.Exported.{sign_written}

-- under a number 0 the word stands where the answer says
module _ {v : ℕ} {t : List ℤ} {A B : Mat} {word : List ℤ} {sign : Bool} {out : List ℤ} {start : ℕ} {r : Answer FoundWord} {out' : List ℤ}
    (s : Answered v t A B word sign out start r out') where
  pub stands_at : {place : ℕ} → place ≡ query_place r → answer_number r ≡ 0 → word ≡ part_of out' start place
  stands_at p z = sym (s.stands (zero s z)).1 ∙ ap (λ (m : ℕ). part_of out' start m) (sym (p ∙ ap query_place (s.names (zero s z))))

  pub zero_letters : {place : ℕ} → place ≡ query_place r → answer_number r ≡ 0 → IsWord (length (generators v t)) (part_of out' start place)
  zero_letters p z = subst (IsWord (length (generators v t))) (stands_at p z) (s.letters (inl (zero s z)))

  pub zero_product : {place : ℕ} → place ≡ query_place r → answer_number r ≡ 0 → value_of (generators v t) (part_of out' start place) ⊗ A ≈ B
  zero_product p z = subst (λ (x : List ℤ). value_of (generators v t) x ⊗ A ≈ B) (stands_at p z) (s.product (inl (zero s z)))

  pub zero_normal : {place : ℕ} → place ≡ query_place r → answer_number r ≡ 0 → NormalWord v t A B (part_of out' start place)
  zero_normal p z = subst (NormalWord v t A B) (stands_at p z) (s.normal (inl (zero s z)))

  pub eleven_normal : {place : ℕ} → place ≡ query_place r → answer_number r ≡ refusal_number (TooShort 0) → (length word ≡ place) × NormalWord v t A B word
  eleven_normal p z = (sym (p ∙ short_place r (eleven s z)), s.normal (inr (eleven s z)))
    where
      short_place : (x : Answer FoundWord) → outcome x ≡ Err (TooShort (length word)) → query_place x ≡ length word
      short_place (Ok u) e = absurd (omega (arith, same_number e))
      short_place (Err f) e = ap (λ (c : Checked). answer_place c) e

  -- with the sign that is written
  pub zero_sign : {x : ℤ} (y : ℤ) → x ≡ sign_written r y → answer_number r ≡ 0 → x ≡ sign_number sign
  zero_sign y e z = e ∙ ap (λ (q : Answer FoundWord). sign_written q y) (s.names (zero s z))

  pub zero_exact : {place : ℕ} {x : ℤ} (y : ℤ) → place ≡ query_place r → x ≡ sign_written r y → answer_number r ≡ 0
      → value_of (generators v t) (part_of out' start place) ⊗ A ≡ scaled x B
  zero_exact y p e z =
      subst (λ (l : List ℤ). value_of (generators v t) l ⊗ A ≡ with_sign sign B) (stands_at p z) (s.exact (inl (zero s z)))
      ∙ with_scaled sign B ∙ ap (λ (q : ℤ). scaled q B) (sym (zero_sign y e z))

module _ {v : ℕ} {t a b : List ℤ} {w : List ℕ} {out : List ℤ} {start : ℕ} {r : Answer FoundWord} {out' : List ℤ} (c : Claim v t a b w out start r out') where
  pub query_says : (n place : ℕ) → n ≡ answer_number r → place ≡ query_place r → QuerySays v t a b w start n place out'
  query_says n place e p = record {
    none = λ z. (let q = c.asked (inr (sym e ∙ z)) in (q, ten_none (c.answered q) (sym e ∙ z)));
    asked = λ z. c.asked (inl (sym e ∙ z));
    letters = λ z. zero_letters (c.answered (c.asked (inl (sym e ∙ z)))) p (sym e ∙ z);
    product = λ z. zero_product (c.answered (c.asked (inl (sym e ∙ z)))) p (sym e ∙ z);
    normal = λ z. zero_normal (c.answered (c.asked (inl (sym e ∙ z)))) p (sym e ∙ z);
    short = λ z q. eleven_normal (c.answered q) p (sym e ∙ z);
  }

  pub sign_says : (n place : ℕ) (x y : ℤ) → n ≡ answer_number r → place ≡ query_place r → x ≡ sign_written r y → SignSays v t a b start n place x out'
  sign_says n place x y e p f = record {
    unit = λ z. unit_of (found_sign v t (of_list a) (of_list b)) (zero_sign (c.answered (c.asked (inl (sym e ∙ z)))) y f (sym e ∙ z));
    exact = λ z. zero_exact (c.answered (c.asked (inl (sym e ∙ z)))) y p f (sym e ∙ z);
  }

-- the same on a group with a name
module _ {order : Order} {k n : ℕ} {a b : List ℤ} {w : List ℕ} {out : List ℤ} {start : ℕ} {r : Answer FoundWord} {out' : List ℤ}
    (c : NamedClaim order k n a b w out start r out') where
  pub named_says : (number place : ℕ) → number ≡ answer_number r → place ≡ query_place r → NamedQuerySays order k n a b w start number place out'
  named_says number place e p = record {
    asked = λ z. elim z [ inl y ↦ c.asked (inl (sym e ∙ y)) | inr y ↦ c.asked (inr (sym e ∙ y)) ];
    none = λ z.
        let q = c.asked (inr (sym e ∙ z)) in
        let m = q.1 in
        let y = c.answered q.0 m.vertices m.table m.is in
        λ h. elim (y.found.1 h) [ inl u ↦ absurd (omega (arith, outcome_number r u, e, z)) | inr u ↦ absurd (omega (arith, outcome_number r u, e, z)) ];
    some = λ z.
        let q = c.asked (inl (sym e ∙ z)) in
        let m = q.1 in
        let y = c.answered q.0 m.vertices m.table m.is in
        y.found.0 (inl (zero y.claim (sym e ∙ z)));
    letters = λ z v t g. zero_letters (c.answered (c.asked (inl (sym e ∙ z))).0 v t g).claim p (sym e ∙ z);
    product = λ z v t g. zero_product (c.answered (c.asked (inl (sym e ∙ z))).0 v t g).claim p (sym e ∙ z);
    normal = λ z v t g. zero_normal (c.answered (c.asked (inl (sym e ∙ z))).0 v t g).claim p (sym e ∙ z);
    short = λ z q v t g. eleven_normal (c.answered q v t g).claim p (sym e ∙ z);
  }

  pub named_sign_says : (number place : ℕ) (x y : ℤ) → number ≡ answer_number r → place ≡ query_place r → x ≡ sign_written r y
      → NamedSignSays order k n a b start number place x out'
  named_sign_says number place x y e p f v t g = record {
    unit = λ z. unit_of (found_sign v t (of_list a) (of_list b)) (zero_sign (c.answered (c.asked (inl (sym e ∙ z))).0 v t g).claim y f (sym e ∙ z));
    exact = λ z. zero_exact (c.answered (c.asked (inl (sym e ∙ z))).0 v t g).claim y p f (sym e ∙ z);
  }

-- ---- the calls

module _ (start n : ℕ) (sign : Bool) where
  pub place_if : (c : Checked) → query_place (word_if start n sign c) ≡ if_accepted c n (answer_place c)
  place_if (Ok tt) = refl
  place_if (Err f) = refl

  pub sign_if : (c : Checked) (y : ℤ) → sign_written (word_if start n sign c) y ≡ if_accepted c (sign_number sign) y
  sign_if (Ok tt) y = refl
  sign_if (Err f) y = refl

  pub number_if : (c : Checked) → answer_number c ≡ answer_number (word_if start n sign c)
  number_if (Ok tt) = refl
  number_if (Err f) = refl

-- the exported call, from the answer of the query beneath it
pub call_word : (p : Contract) → Numbered p.steps → (start : ℕ) (sign : Bool) → p.Says (number_of p) (place_of p) → Leaves p.steps → {r : Answer FoundWord}
    → r ≡ word_if start p.count sign (verdict p.steps) → {number place : ℕ} → number ≡ answer_number r → place ≡ query_place r → Call p number place
call_word p numbered start sign says l {r} e n k =
    let c = verdict p.steps in
    call p numbered says l (n ∙ ap (λ (x : Answer FoundWord). answer_number x) e ∙ sym (number_if start p.count sign c))
    (k ∙ ap query_place e ∙ place_if start p.count sign c)

-- the sign, by the answer
pub sign_left_lem : (start n : ℕ) (sign : Bool) (c : Checked) {r : Answer FoundWord} → r ≡ word_if start n sign c → {x : ℤ} (y : ℤ) → x ≡ sign_written r y
    → x ≡ if_accepted c (sign_number sign) y
sign_left_lem start n sign c e y f = f ∙ ap (λ (q : Answer FoundWord). sign_written q y) e ∙ sign_if start n sign c y

-- what the calls say, by what their steps leave
module _ (v : ℕ) (t a b : List ℤ) (w w' : List ℕ) (out out' : List ℤ) (start : ℕ) (l : Leaves (query_run v t a b w w' out out' start)) where
  abbrev n : ℕ
  n = length (found_word v t (of_list a) (of_list b))

  abbrev q : Bool
  q = found_sign v t (of_list a) (of_list b)

  abbrev c : Checked
  c = verdict (query_run v t a b w w' out out' start)

  abbrev number : ℕ
  number = answer_number c

  abbrev place : ℕ
  place = if_accepted c n (answer_place c)

  all : Claim v t a b w out start (word_if start n q c) out'
  all = claim refl (l.1.0 ∙ left_if start n q c (found_word v t (of_list a) (of_list b)) out)

  told : Tells (word_if start n q c) number place
  told = (number_if start n q c, sym (place_if start n q c))

  abbrev Said : Type 0
  Said = Tells (word_if start n q c) number place × Claim v t a b w out start (word_if start n q c) out' × QuerySays v t a b w start number place out'

  pub query_call_lem : Said
  query_call_lem = (told, all, query_says all number place told.0 told.1)

  pub signed_call : (x y : ℤ) → x ≡ if_accepted c (sign_number q) y → Said × SignSays v t a b start number place x out'
  signed_call x y f = (query_call_lem, sign_says all number place x y told.0 told.1 (f ∙ sym (sign_if start n q c y)))

-- the same on a group with a name, under each order
module _ (order : Order) (k m : ℕ) (a b : List ℤ) (w w' : List ℕ) (out out' : List ℤ) (start : ℕ)
    (l : Leaves (named_run order k m a b w w' out out' start)) where
  abbrev n' : ℕ
  n' = length (ruled_word (named_rule order k m) a b)

  abbrev q' : Bool
  q' = ruled_sign (named_rule order k m) a b

  abbrev c' : Checked
  c' = verdict (named_run order k m a b w w' out out' start)

  abbrev number' : ℕ
  number' = answer_number c'

  abbrev place' : ℕ
  place' = if_accepted c' n' (answer_place c')

  abbrev Named : Type 0
  Named =
      Tells (word_if start n' q' c') number' place' × NamedClaim order k m a b w out start (word_if start n' q' c') out'
      × NamedQuerySays order k m a b w start number' place' out'

  told' : Tells (word_if start n' q' c') number' place'
  told' = (number_if start n' q' c', sym (place_if start n' q' c'))

  every : NamedClaim order k m a b w out start (word_if start n' q' c') out'
  every = claimed order k m a b w w' out out' start l

  pub named_call : Named
  named_call = (told', every, named_says every number' place' told'.0 told'.1)

  pub named_signed_call : (x y : ℤ) → x ≡ if_accepted c' (sign_number q') y → Named × NamedSignSays order k m a b start number' place' x out'
  named_signed_call x y f =
      (named_call, named_sign_says every number' place' x y told'.0 told'.1 (f ∙ sym (sign_if start n' q' c' y)))
