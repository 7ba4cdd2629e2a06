-- The arms of the calls: one law for each way out, and what the number 0 says.
-- In order: the group that passed; tables (`no_room_S`, `no_room_R`, `tables_in_room`, `tables_say`); the symbol (`symbol_made`, `symbol_says`).
-- Assumes nothing.
use Rattle.std.specs.Prelude.{Ok, Err}
use mathlib.Core.Path.{◌≡◌, refl, sym, ◌∙◌, ap, subst}
use mathlib.Core.List.{List, [], ◌∷◌, ◌++◌}
use Prim.Native.Nat.{ℕ, ◌+◌, ◌*◌, ◌≤◌, ◌<◌}
use native.Mathlib.Omega.{arith}
use lib.ListN.{length, take, drop}
use lib.Seq.{take_at}
use lib.IntN.{ℤ}
use Rattle.call.specs.Refusal.{◌or_else◌, answer_number, answer_place, Checked, Filled}
use Rattle.call.specs.declared.refusal.Refusal.TheVariants.{TooShort}
use Rattle.call.proofs.Answers.{both_pass}
use Rattle.call.proofs.Numbered.{Among}
use Rattle.call.specs.Space.{work_length, zeros}
use Rattle.call.specs.Call.{Lent, Step, Asks, Gives, length_check, at_front, if_accepted, Leaves, number_of, place_of}
use Rattle.call.specs.Inner.Fills.{Fills, made_if}
use Rattle.call.proofs.Laws.{run_end, run_write, run_hold, short_write, fills_as, above_room, above_among, made_says}
use Rattle.congruence.specs.Index.{family_index}
use Rattle.congruence.specs.Cosets.{family_s, family_r}
use Rattle.congruence.specs.declared.Family.{Family}
use Rattle.congruence_tables.specs.Inner.Held.{Group}
use Rattle.named_groups.specs.Group.{family_of, group_check}
use Rattle.import_rule.specs.Order.{Order}
use Rattle.import_symbol.specs.Answer.{check16, ruled_table}
use Rattle.permutations.specs.Check.{pair_check}
use Rattle.import_call.specs.Import.{needed_vertices, needed_length}
use Rattle.permutations.proofs.Accepted.{accepted}
use Rattle.import_call.proofs.Means.{symbol_steps, front_of, above16, made_means}
use Rattle.import_call.proofs.Answering.{admitted, work_back}
use Rattle.named_groups.specs.Answer.{NamedTables, named_rule, NamedSymbol, named_symbol_steps, named_symbol_call}
use Rattle.named_groups.proofs.Checked.{check_named, group_of, group_numbers}
use Rattle.named_groups.proofs.Tables.{family_cosets_lem, passport}
use Rattle.named_groups.proofs.Symbols.{symbol_named}

-- a family by its number, whose checks were passed
pub group_by : (k n : ℕ) {f : Family} → f ≡ family_of k → group_check k n ≡ Ok tt → Group f n
group_by k n e d = rw e (group_of k n (check_named k n d))

pub groups_among : (k n : ℕ) → Among 20 21 (group_check k n)
groups_among k n = go (group_check k n) refl
  where
    go : (c : Checked) → group_check k n ≡ c → Among 20 21 c
    go (Err f) e = group_numbers k n e
    go (Ok tt) e = tt

module _ (f : Family) (n : ℕ) (g : Group f n) where
  pub length_S : length (family_s f n) ≡ family_index f n
  length_S = (family_cosets_lem f n g).size_S

  pub length_R : length (family_r f n) ≡ family_index f n
  length_R = (family_cosets_lem f n g).size_R

-- ---- tables

abbrev pub table_steps : (f : Family) (n : ℕ) (s r s' r' : List ℕ) → List Step
table_steps f n s r s' r' =
    Asks (length_check (length (family_s f n)) (length s)) ∷ Gives (at_front (family_s f n) s) s s' ∷ Asks (length_check (length (family_r f n)) (length r))
    ∷ Gives (at_front (family_r f n) r) r r' ∷ []

module _ (f : Family) (n : ℕ) (g : Group f n) {k : ℕ} (e : k ≡ family_index f n) (s r : List ℕ) where
  long_S : length (family_s f n) ≡ k
  long_S = length_S f n g ∙ sym e

  long_R : length (family_r f n) ≡ k
  long_R = length_R f n g ∙ sym e

  abbrev for_R : (r' : List ℕ) → List Step
  for_R r' = Asks (length_check (length (family_r f n)) (length r)) ∷ Gives (at_front (family_r f n) r) r r' ∷ []

  pub no_room_S : length s < k → Fills (table_steps f n s r s r) (made_if (family_index f n)) (Err (TooShort k))
  no_room_S h = fills_as (short_write (family_s f n) s k long_S (for_R r) h (refl, tt)) refl

  pub no_room_R : k ≤ length s → length r < k → Fills (table_steps f n s r s r) (made_if (family_index f n)) (Err (TooShort k))
  no_room_R h i = fills_as (run_hold (family_s f n) s k long_S (for_R r) (TooShort k) h (short_write (family_r f n) r k long_R [] i tt)) refl

  pub tables_in_room : k ≤ length s → k ≤ length r → {s' r' : List ℕ} → s' ≡ family_s f n ++ drop (family_index f n) s
      → r' ≡ family_r f n ++ drop (family_index f n) r → Fills (table_steps f n s r s' r') (made_if (family_index f n)) (Ok k)
  tables_in_room h i {s'} {r'} p q =
      fills_as (run_write (family_s f n) s k long_S (for_R r') s' h (p ∙ ap (λ (m : ℕ). family_s f n ++ drop m s) (sym e))
      (run_write (family_r f n) r k long_R [] r' i (q ∙ ap (λ (m : ℕ). family_r f n ++ drop m r) (sym e)) run_end)) (ap Ok e)

-- tables and symbols of a family that was found by its number
pub tables_by : (k n : ℕ) {f : Family} → f ≡ family_of k → (s r s' r' : List ℕ) {a : Filled} → Fills (table_steps f n s r s' r') (made_if (family_index f n)) a
    → Fills (table_steps (family_of k) n s r s' r') (made_if (family_index (family_of k) n)) a
tables_by k n d s r s' r' {a} g = subst (λ (f : Family). Fills (table_steps f n s r s' r') (made_if (family_index f n)) a) d g

pub symbol_by_lem : (order : Order) (k n : ℕ) {f : Family} → f ≡ family_of k → (o o' : List ℤ) {a : Filled}
    → Fills (symbol_steps order (family_s f n) (family_r f n) o o') (made_if (needed_vertices (family_r f n))) a
    → Fills (symbol_steps order (family_s (family_of k) n) (family_r (family_of k) n) o o') (made_if (needed_vertices (family_r (family_of k) n))) a
symbol_by_lem order k n d o o' {a} g =
    subst (λ (f : Family). Fills (symbol_steps order (family_s f n) (family_r f n) o o') (made_if (needed_vertices (family_r f n))) a) d g

-- what the number 0 says of tables
module _ (k n : ℕ) (w s r : List ℕ) where
  abbrev S : List ℕ
  S = family_s (family_of k) n

  abbrev R : List ℕ
  R = family_r (family_of k) n

  abbrev pub tables_verdict : Checked
  tables_verdict =
      group_check k n or_else length_check work_length (length w) or_else length_check (length S) (length s) or_else length_check (length R) (length r)
      or_else (Ok tt)

  pub tables_say : answer_number tables_verdict ≡ 0
      → NamedTables k n (if_accepted tables_verdict (family_index (family_of k) n) (answer_place tables_verdict))
  tables_say =
      let behind = length_check work_length (length w) or_else length_check (length S) (length s) or_else length_check (length R) (length r)
      or_else (Ok tt) in
      made_says (record {
        steps = Asks (group_check k n) ∷ Asks (length_check work_length (length w)) ∷ Asks (length_check (length S) (length s))
            ∷ Asks (length_check (length R) (length r)) ∷ [];
        count = family_index (family_of k) n;
        Says = λ number place. Unit {0};
      }) (NamedTables k n) (
        above_among 20 21 (group_check k n) (omega arith) (groups_among k n),
        (above_room work_length (length w), (above_room (length S) (length s), (above_room (length R) (length r), tt))),
      ) (λ e. record {
        count = refl;
        cosets = family_cosets_lem (family_of k) n (group_of k n (check_named k n (both_pass (group_check k n) behind e).0));
      })

-- ---- the symbol

-- the front of a table that was filled
pub front : {k n : ℕ} (t l : List ℕ) {s : List ℕ} → k ≡ n → length t ≡ n → s ≡ t ++ drop n l → take k s ≡ t
front {k} {n} t l e len d = rw d (take_at t (drop n l) k (len ∙ sym e))

pub front_length : {k n : ℕ} (t l : List ℕ) {s : List ℕ} → k ≡ n → length t ≡ n → s ≡ t ++ drop n l → k ≡ length (take k s)
front_length t l e len d = e ∙ sym len ∙ ap length (sym (front t l e len d))

accepted_pair : (f : Family) (n : ℕ) → Group f n → pair_check (family_s f n) (family_r f n) ≡ Ok tt
accepted_pair f n g = (accepted (family_s f n) (family_r f n)).1 (passport f n g)

-- an import of the family's tables, wherever they stand, passes 12 to 15 and the work space
pub symbol_made : (f : Family) (n : ℕ) → Group f n → (order : Order) (s r w w' : List ℕ) (o : List ℤ) {a : Filled} {w'' : List ℕ} {o' : List ℤ}
    → s ≡ family_s f n → r ≡ family_r f n → length w' ≡ length w → work_length ≤ length w
    → Fills (admitted (pair_check s r) w' (needed_vertices r) w'' (symbol_steps order s r o o')) (made_if (needed_vertices r)) a
    → Fills (symbol_steps order (family_s f n) (family_r f n) o o') (made_if (needed_vertices (family_r f n))) a × (w'' ≡ zeros (length w))
symbol_made f n g order s r w w' o {a} {w''} {o'} es er ew long k =
    let S = family_s f n in
    let R = family_r f n in
    let m = needed_vertices R in
    let k' = subst (λ (x : List ℕ). Fills (admitted (pair_check S x) w' (needed_vertices x) w'' (symbol_steps order S x o o')) (made_if (needed_vertices x)) a) er
    (subst (λ (x : List ℕ). Fills (admitted (pair_check x r) w' (needed_vertices r) w'' (symbol_steps order x r o o')) (made_if (needed_vertices r)) a) es k) in
    let z = work_back (pair_check S R) w' m (accepted_pair f n g) (symbol_steps order S R o o') (rw ew long) k' in
    (z.0, z.1 ∙ ap zeros ew)

-- what the number 0 says of a symbol
module _ (order : Order) (k n : ℕ) (w : List ℕ) (o : List ℤ) where
  abbrev pub table : List ℤ
  table = ruled_table (named_rule order k n)

  abbrev pub needed : ℕ
  needed = needed_length (family_r (family_of k) n)

  abbrev pub symbol_verdict : Checked
  symbol_verdict =
      group_check k n or_else length_check work_length (length w) or_else length_check needed (length o) or_else check16 (named_rule order k n) or_else (Ok tt)

  pub symbol_accepted : symbol_verdict ≡ Ok tt → NamedSymbol (family_of k) n (needed_vertices (family_r (family_of k) n)) table
  symbol_accepted e =
      let last = check16 (named_rule order k n) or_else (Ok tt) in
      let a = both_pass (group_check k n) (length_check work_length (length w) or_else length_check needed (length o) or_else last) e in
      let b = both_pass (length_check work_length (length w)) (length_check needed (length o) or_else last) a.1 in
      let d = both_pass (length_check needed (length o)) last b.1 in
      let g = group_of k n (check_named k n a.0) in
      symbol_named (family_of k) n g (needed_vertices (family_r (family_of k) n)) table
      (made_means order (family_s (family_of k) n) (family_r (family_of k) n) (passport (family_of k) n g)
      (both_pass (check16 (named_rule order k n)) (Ok tt) d.1).0)

-- what the exported call says: it stands at the front of the result space
module _ (order : Order) (k n : ℕ) (w : Lent (List ℕ)) (out : Lent (List ℤ)) (l : Leaves (named_symbol_steps order k n w out)) where
  abbrev o : List ℤ
  o = out.entry.now

  abbrev vertices : ℕ
  vertices = needed_vertices (family_r (family_of k) n)

  symbol_in_space : symbol_verdict order k n w.entry.now o ≡ Ok tt
      → NamedSymbol (family_of k) n vertices (take (3 * vertices + 1) out.exit.now)
  symbol_in_space e =
      let m = symbol_accepted order k n w.entry.now o e in
      subst (NamedSymbol (family_of k) n vertices) (sym (front_of (table order k n w.entry.now o) o out.exit.now
      (symbol_verdict order k n w.entry.now o) (3 * vertices + 1) m.symbol.long l.1.0 e)) m

  pub symbol_says : (named_symbol_call order k n w out).Says (number_of (named_symbol_call order k n w out)) (place_of (named_symbol_call order k n w out))
  symbol_says =
      made_says (named_symbol_call order k n w out) (λ (v : ℕ). NamedSymbol (family_of k) n v (take (3 * v + 1) out.exit.now)) (
        above_among 20 21 (group_check k n) (omega arith) (groups_among k n),
        (
          above_room work_length (length w.entry.now),
          (above_room (needed_length (family_r (family_of k) n)) (length o), (above16 (named_rule order k n), tt)),
        ),
      ) symbol_in_space
