-- Laws for the queries on groups with names: what `make_symbol` leaves and the query on it (`query_over`, `query_made`), what `named_query_by` asks for
-- (`query_ready`, `as_named`), and the claim from the steps (`claimed`).
-- Assumes nothing.
use Rattle.std.specs.Prelude.{Ok, Err}
use mathlib.Core.Path.{◌≡◌, refl, sym, ◌∙◌, ap, subst}
use mathlib.Core.Bool.{false}
use mathlib.Core.List.{List, [], ◌∷◌}
use Prim.Native.Nat.{ℕ, ◌+◌, ◌*◌, ◌≤◌}
use native.Mathlib.Omega.{arith}
use lib.ListN.{length, take, drop}
use lib.Seq.{take_at}
use lib.IntN.{ℤ}
use Rattle.call.specs.Refusal.{◌or_else◌, Checked, Filled, Answer}
use Rattle.call.specs.declared.refusal.Refusal.TheVariants.{EntryTooLarge}
use Rattle.call.specs.declared.refusal.Refusal.{Refusal}
use Rattle.call.proofs.Answers.{both_pass}
use Rattle.call.specs.Space.{work_length, zeros}
use Rattle.call.specs.Call.{Step, Asks, Clears, Gives, length_check, at_front, if_accepted, verdict, Leaves}
use Rattle.call.specs.Inner.Fills.{Fills, made_if}
use Rattle.call.proofs.Laws.{room_long, run_stop, fills_as}
use Rattle.congruence.specs.Cosets.{family_s, family_r}
use Rattle.congruence.specs.declared.Family.{Family}
use Rattle.congruence_tables.specs.Inner.Held.{Group}
use Rattle.import_rule.specs.Order.{Order}
use Rattle.import_rule.specs.Symbol.{Ruled, made, ruled_by}
use Rattle.import_symbol.specs.Answer.{check16, ruled_table}
use Rattle.import_call.specs.Import.{needed_vertices, needed_length}
use Rattle.import_call.proofs.Means.{symbol_steps}
use Rattle.import_call.proofs.Told.{told_made, told_refused, rule_made, rule_over}
use Rattle.import_call.proofs.Answering.{past_check}
use Rattle.word.specs.Answer.{matrices_check, found_if}
use Rattle.word.specs.Claim.{ValidQuery}
use Rattle.word.specs.declared.FoundWord.{FoundWord}
use Rattle.word.proofs.Pair.{unit_is}
use Rattle.word.proofs.Finding.{walk_run}
use Rattle.word.proofs.Order.{passed_small, left_if, query_run, asked_fills}
use Rattle.word.proofs.Refused.{Passed}
use Rattle.named_groups.specs.Group.{family_of, group_check}
use Rattle.named_groups.specs.Answer.{named_rule, NamedSymbol, ruled_closes, ruled_word, ruled_sign, ruled_if, named_query_by}
use Rattle.named_groups.specs.Claim.{NamedClaim}
use Rattle.named_groups.specs.Inner.Ready.{QueryReady}
use Rattle.named_groups.proofs.Tables.{passport}
use Rattle.named_groups.proofs.Answers.{group_by}
use Rattle.named_groups.proofs.Claim.{rule_symbol, named_claim}

-- the steps from 16 on, from the word space `out` to out'
abbrev pub ruled_run : Ruled → (a b out out' : List ℤ) (start : ℕ) → List Step
ruled_run rule a b out out' start = Asks (check16 rule) ∷ walk_run (ruled_closes rule a b) (ruled_word rule a b) out out' start

-- ---- what was made

only16 : (c : Checked) {x : Refusal} → (c or_else (Ok tt)) ≡ Err x → c ≡ Err x
only16 (Ok tt) e = e
only16 (Err f) e = e

module _ (f : Family) (n : ℕ) (g : Group f n) (order : Order) where
  abbrev G : Ruled
  G = ruled_by order (family_s f n) (family_r f n)

  -- each table fits in 3,070 numbers, so that 16 alone can be refused
  module _ {a' : Filled} (zs T : List ℤ) (long : length zs ≡ 3070)
      (k : Fills (symbol_steps order (family_s f n) (family_r f n) zs T) (made_if (needed_vertices (family_r f n))) a') where
    behind : Fills (Asks (check16 G) ∷ Gives (at_front (ruled_table G) zs) zs T ∷ []) (made_if (needed_vertices (family_r f n))) a'
    behind =
        let p = passport f n g in
        past_check (room_long (needed_length (family_r f n)) (length zs) (omega (arith, p.most, p.even, long))) k

    pub query_over : {x : Refusal} → a' ≡ Err x → (a b out : List ℤ) (start : ℕ)
        → Fills (ruled_run G a b out out start) (ruled_if G a b start) (Err x)
    query_over {x} d a b out start =
        let o = rule_over G (only16 (check16 G) (told_refused (needed_vertices (family_r f n)) (check16 G or_else (Ok tt)) behind.answer d)) in
        let i = o.side in
        subst (λ (g : Ruled). Fills (ruled_run g a b out out start) (ruled_if g a b start) (Err x)) (sym o.is)
        (fills_as (run_stop (EntryTooLarge i) (Err (EntryTooLarge i)) (walk_run false [] out out start) refl (refl, tt)) (ap Err o.refusal))

    module _ {v : ℕ} (d : a' ≡ Ok v) where
      passed16 : (check16 G or_else (Ok tt)) ≡ Ok tt
      passed16 = (told_made (check16 G or_else (Ok tt)) behind.answer d).0

      is_made : G ≡ made v (ruled_table G)
      is_made =
          rule_made order (family_s f n) (family_r f n) (passport f n g) (both_pass (check16 G) (Ok tt) passed16).0
          ∙ ap (λ (x : ℕ). made x (ruled_table G)) (sym (told_made (check16 G or_else (Ok tt)) behind.answer d).1)

      symbol : NamedSymbol f n v (ruled_table G)
      symbol = rule_symbol f n g order v (ruled_table G) is_made

      pub most : v ≤ 1023
      most = symbol.symbol.most

      pub front_is : take (3 * v + 1) T ≡ ruled_table G
      front_is =
          ap (λ (l : List ℤ). take (3 * v + 1) l) (behind.leaves.0 ∙ ap (λ (x : Checked). if_accepted x (at_front (ruled_table G) zs) zs) passed16)
          ∙ take_at (ruled_table G) (drop (length (ruled_table G)) zs) (3 * v + 1) symbol.symbol.long

      pub front_long : 3 * v + 1 ≡ length (take (3 * v + 1) T)
      front_long = sym symbol.symbol.long ∙ ap length (sym front_is)

      -- the query on the symbol that was made
      pub query_made : (a b : List ℤ) (w w1 w' : List ℕ) (out out' : List ℤ) (start : ℕ) {r : Answer FoundWord} → QueryReady f n a b w → length w1 ≡ length w
          → Fills (query_run v (take (3 * v + 1) T) a b w1 w' out out' start) (found_if v (take (3 * v + 1) T) a b start) r
          → Fills (ruled_run G a b out out' start) (ruled_if G a b start) r × (w' ≡ zeros (length w))
      query_made a b w w1 w' out out' start {r} q ew g =
          let u = ruled_table G in
          let asked : ValidQuery v u a b w1 =
          record {
            symbol = symbol.symbol;
            work = rw ew q.work;
            entries_A = q.entries_A;
            entries_B = q.entries_B;
            unit_A = q.unit_A;
            unit_B = q.unit_B;
          } in
          let h = asked_fills v u a b w1 w' out out' start asked
          (subst (λ (l : List ℤ). Fills (query_run v l a b w1 w' out out' start) (found_if v l a b start) r) front_is g) in (
            subst (λ (x : Ruled). Fills (ruled_run x a b out out' start) (ruled_if x a b start) r) (sym is_made)
                (record { answer = h.0.answer; leaves = h.0.leaves }),
            h.1 ∙ ap zeros ew,
          )

-- ---- `named_query_by`

-- the group that a number names, in the steps
pub as_named : (order : Order) (k n : ℕ) (a b out out' : List ℤ) (start : ℕ) {f : Family} {r : Answer FoundWord} → f ≡ family_of k
    → Fills (ruled_run (ruled_by order (family_s f n) (family_r f n)) a b out out' start) (ruled_if (ruled_by order (family_s f n) (family_r f n)) a b start) r
    → Fills (ruled_run (named_rule order k n) a b out out' start) (ruled_if (named_rule order k n) a b start) r
as_named order k n a b out out' start {f} {r} d g =
    subst (λ (h : Family). Fills (ruled_run (ruled_by order (family_s h n) (family_r h n)) a b out out' start)
    (ruled_if (ruled_by order (family_s h n) (family_r h n)) a b start) r)
    d g

pub query_ready : (k n : ℕ) (a b : List ℤ) (w : List ℕ) {f : Family} → group_check k n ≡ Ok tt → Passed a b → work_length ≤ length w → f ≡ family_of k
    → QueryReady f n a b w
query_ready k n a b w e p i d =
    let s = passed_small a b p.entries in
    record {
      group = group_by k n d e;
      work = i;
      entries_A = s.0;
      entries_B = s.1;
      unit_A = unit_is a p.A;
      unit_B = unit_is b p.B;
    }

-- ---- what the calls say

module _ (order : Order) (k n : ℕ) (a b : List ℤ) (w w' : List ℕ) (out out' : List ℤ) (start : ℕ) where
  -- the steps of a query, from the spaces w and out to w' and out'
  abbrev pub named_run : List Step
  named_run =
      Asks (group_check k n) ∷ Asks (matrices_check a b) ∷ Asks (length_check work_length (length w)) ∷ Clears w w' ∷ ruled_run (named_rule order k n) a b out out'
      start

  pub claimed : Leaves named_run → NamedClaim order k n a b w out start (named_query_by order k n a b (length w) (length out) start) out'
  claimed l =
      let G = named_rule order k n in
      named_claim order k n a b w out start (named_query_by order k n a b (length w) (length out) start) out' refl
      (l.1.0 ∙ left_if start (length (ruled_word G a b)) (ruled_sign G a b) (verdict named_run) (ruled_word G a b) out)
