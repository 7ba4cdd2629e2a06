-- THE STARRED INSTANCES ARE OF THE CALLS: what the table takes for a call's refusal is the verdict of the call's own
-- steps, in their order, for every input and every space; and what it takes for generators, tables, symbols and words
-- is what these steps leave in the result spaces.
--
--   Refuses q p         the answer to q has the refusal of the plan p, or none
--   OfTheCalls          this for each kind of question but `check`, which is one check; and what is left
use Rattle.std.specs.Prelude.{◌≡◌, List, [], ◌∷◌, map, ℕ, length, drop, ℤ, pos}
use Rattle.call.specs.Refusal.{answer_number, answer_place}
use Rattle.call.specs.Call.{Lent, Contract, verdict, Leaves}
use Rattle.pairing.specs.Generator.{generators_call}
use Rattle.coset.specs.Answer.{tables_call, figures_call}
use Rattle.word.specs.Claim.{query_call}
use Rattle.containment.specs.Same.{same_call}
use Rattle.import_rule.specs.Order.{leftmost, longest_open}
use Rattle.import_call.specs.Import.{import_call}
use Rattle.statements.specs.Instances.{Question, answer_to, index, generators, tables, query, same, import}
use Rattle.statements.specs.Instances.{importWide}

abbrev pub Refuses : Question → Contract → Type 0
Refuses q p =
    ((answer_to q).number ≡ answer_number (verdict p.steps)) × ((answer_to q).place ≡ answer_place (verdict p.steps))

pub record OfTheCalls : Type 0 where
  pub of_figures : (v : ℕ) (t : List ℤ) (w out : Lent (List ℕ))
      → Refuses (index v t (length w.entry.now)) (figures_call v t w out)
  pub of_generators : (v : ℕ) (t : List ℤ) (w : Lent (List ℕ)) (out : Lent (List ℤ))
      → Refuses (generators v t (length w.entry.now) out.entry.now) (generators_call v t w out)
  pub of_tables : (v : ℕ) (t : List ℤ) (w s r u : Lent (List ℕ))
      → Refuses (tables v t (length w.entry.now) s.entry.now r.entry.now u.entry.now)
      (tables_call v t w s r u)
  pub of_query : (v : ℕ) (t a b : List ℤ) (w : Lent (List ℕ)) (out : Lent (List ℤ)) (start : ℕ)
      → Refuses (query v t a b (length w.entry.now) out.entry.now start) (query_call v t a b w out start)
  pub of_same : (v : ℕ) (t : List ℤ) (v' : ℕ) (t' : List ℤ) (w : Lent (List ℕ))
      → Refuses (same v t v' t' (length w.entry.now)) (same_call v t v' t' w)
  pub of_import : (s r : List ℕ) (w : Lent (List ℕ)) (out : Lent (List ℤ))
      → Refuses (import s r (length w.entry.now) out.entry.now) (import_call leftmost s r w out)
  pub of_import_wide : (s r : List ℕ) (w : Lent (List ℕ)) (out : Lent (List ℤ))
      → Refuses (importWide s r (length w.entry.now) out.entry.now) (import_call longest_open s r w out)
  pub generators_left : (v : ℕ) (t : List ℤ) (w : Lent (List ℕ)) (out : Lent (List ℤ))
      → Leaves (generators_call v t w out).steps
      → (answer_to (generators v t (length w.entry.now) out.entry.now)).rows ≡ out.exit.now ∷ []
  pub tables_left : (v : ℕ) (t : List ℤ) (w s r u : Lent (List ℕ)) → Leaves (tables_call v t w s r u).steps
      → (answer_to (tables v t (length w.entry.now) s.entry.now r.entry.now u.entry.now)).rows
      ≡ map pos s.exit.now ∷ map pos r.exit.now ∷ map pos u.exit.now ∷ []
  -- behind the row that has the number of vertices
  pub import_left : (s r : List ℕ) (w : Lent (List ℕ)) (out : Lent (List ℤ))
      → Leaves (import_call leftmost s r w out).steps
      → drop 1 (answer_to (import s r (length w.entry.now) out.entry.now)).rows ≡ out.exit.now ∷ []
  pub import_wide_left : (s r : List ℕ) (w : Lent (List ℕ)) (out : Lent (List ℤ))
      → Leaves (import_call longest_open s r w out).steps
      → drop 1 (answer_to (importWide s r (length w.entry.now) out.entry.now)).rows ≡ out.exit.now ∷ []
  -- behind the sign and the word
  pub query_left : (v : ℕ) (t a b : List ℤ) (w : Lent (List ℕ)) (out : Lent (List ℤ)) (start : ℕ)
      → Leaves (query_call v t a b w out start).steps
      → drop 2 (answer_to (query v t a b (length w.entry.now) out.entry.now start)).rows ≡ out.exit.now ∷ []
