-- WHAT AN IMPORT MEANS.
--
-- In order: the symbol that the rule makes of a passport (`ruled_means`), and the length of its table (`has_room`); the steps behind the work space, as a run
-- (`no_room`, `grown_in_room`); the verdict of an import, and what the exported calls say (`import_says_lem`, `length_says`).
-- Assumes nothing.
use Rattle.std.specs.Prelude.{Ok, Err}
use mathlib.Core.Path.{◌≡◌, refl, sym, ◌∙◌, ap, subst}
use mathlib.Core.List.{List, [], ◌∷◌, ◌++◌}
use Prim.Native.Nat.{ℕ, ◌+◌, ◌*◌, ◌≤◌, ◌<◌}
use lib.ListN.{length, take, drop}
use lib.Seq.{take_at}
use lib.IntN.{ℤ}
use native.Mathlib.Omega.{arith}
use Rattle.call.specs.Refusal.{◌or_else◌, answer_number, answer_place, Checked, Filled}
use Rattle.call.specs.declared.refusal.Refusal.TheVariants.{TooShort, EntryTooLarge}
use Rattle.call.proofs.Apart.{refused_accepted}
use Rattle.call.proofs.Answers.{both_pass, then_next}
use Rattle.call.specs.Space.{work_length}
use Rattle.call.specs.Call.{Lent, Step, Asks, Gives, length_check, at_front, if_accepted, Leaves, number_of, place_of}
use Rattle.call.specs.Inner.Fills.{Fills, made_if}
use Rattle.call.proofs.Laws.{Above, run_end, run_stop, run_pass, run_put, room_short, room_long, above_room, above_among, made_says, fills_as}
use Rattle.permutations.specs.Pair.{image}
use Rattle.import_rule.specs.Fixed.{by_q}
use Rattle.coset.specs.Tables.{table_s, table_r}
use Rattle.coset.proofs.Answer.{symbol_cosets}
use Rattle.import_rule.specs.Theorem.{Precisely}
use Rattle.import_rule.specs.Order.{Order}
use Rattle.import_rule.specs.Symbol.{Ruled, made, over, ruled_by}
use Rattle.import_symbol.specs.Answer.{check16, ruled_table}
use Rattle.import_symbol.specs.Inner.Answer.{ruled_answer, ruled_left}
use Rattle.import_symbol.specs.Inner.Writing.{HasRoom}
use Rattle.import_rule.proofs.Theorem.{rule_precisely}
use Rattle.permutations.specs.Check.{pair_check, Passport}
use Rattle.import_call.specs.Import.{needed_vertices, needed_length, import_steps, SymbolOfPair, import_call, LengthOfImport}
use Rattle.permutations.proofs.Accepted.{accepted, permuting_of}
use Rattle.permutations.proofs.Numbers.{pairs_among}
use Rattle.import_call.proofs.Thirds.{thirds_needed}
use Rattle.import_call.proofs.Renumbered.{index_is_lem, renumbered_S, renumbered_R}
use Rattle.import_call.proofs.Vertices.{maps, thirds_are, vertices_are}

-- a symbol that generates precisely the matrices that fix point 0: its tables are the given ones, renumbered
symbol_of_pair : (s r : List ℕ) (v : ℕ) (t : List ℤ) → Passport s r → Precisely (image s) (by_q (image s) (image r)) v t → SymbolOfPair s r v t
symbol_of_pair s r v t p q =
    let a = permuting_of s r p in
    let m = maps s r p in
    let c = symbol_cosets q.symbol in
    let S = table_s v t in
    let R = table_r v t in
    let i = index_is_lem (image s) (image r) (length s) m a.twice a.thrice p.reached v t S R c q.group in
    let k = renumbered_R (image s) (image r) (length s) m a.twice a.thrice p.reached v t S R c q.group in
    let e = thirds_are s r p v t q.symbol i k in
    record {
      passport = p;
      precisely = q;
      vertices = vertices_are s r p v t q.symbol e;
      thirds = e;
      index = i;
      S_table = renumbered_S (image s) (image r) (length s) m a.twice a.thrice p.reached v t S R c q.group;
      R_table = k;
    }

-- whatever symbol the rule makes of a passport
pub ruled_means : (order : Order) (s r : List ℕ) (v : ℕ) (t : List ℤ) → Passport s r → ruled_by order s r ≡ made v t → SymbolOfPair s r v t
ruled_means order s r v t p e = symbol_of_pair s r v t p (rule_precisely order (image s) (image r) (length s) (permuting_of s r p) p.most v t e)

-- ITS TABLE HAS THE LENGTH THAT IS NEEDED
needed_is : (order : Order) (s r : List ℕ) (v : ℕ) (t : List ℤ) → Passport s r → ruled_by order s r ≡ made v t → needed_length r ≡ 3 * v + 1
needed_is order s r v t p e = ap (λ (k : ℕ). 3 * k + 1) (sym (ruled_means order s r v t p e).vertices)

pub has_room : (order : Order) (s r : List ℕ) (room : ℕ) → Passport s r → needed_length r ≤ room → HasRoom (ruled_by order s r) room
has_room order s r room p h = record { fits = λ v t e. rw (needed_is order s r v t p e) at h }

-- the symbol of a passport that 16 doesn't refuse
pub made_means : (order : Order) (s r : List ℕ) → Passport s r → check16 (ruled_by order s r) ≡ Ok tt
    → SymbolOfPair s r (needed_vertices r) (ruled_table (ruled_by order s r))
made_means order s r p e = go (ruled_by order s r) refl e
  where
    go : (g : Ruled) → ruled_by order s r ≡ g → check16 g ≡ Ok tt → SymbolOfPair s r (needed_vertices r) (ruled_table (ruled_by order s r))
    go (made v t) q z =
        let m = ruled_means order s r v t p q in
        subst (SymbolOfPair s r (needed_vertices r)) (sym (ap ruled_table q)) (subst (λ (k : ℕ). SymbolOfPair s r k t) m.vertices m)
    go (over i) q z = refused_accepted z

-- ---- behind the work space

abbrev pub symbol_steps : Order → (s r : List ℕ) (o o' : List ℤ) → List Step
symbol_steps order s r o o' =
    Asks (length_check (needed_length r) (length o)) ∷ Asks (check16 (ruled_by order s r)) ∷ Gives (at_front (ruled_table (ruled_by order s r)) o) o o' ∷ []

module _ (order : Order) (s r : List ℕ) (o : List ℤ) where
  abbrev G : Ruled
  G = ruled_by order s r

  pub no_room : (n : ℕ) → n ≡ needed_length r → length o < n → Fills (symbol_steps order s r o o) (made_if (needed_vertices r)) (Err (TooShort n))
  no_room n e h =
      fills_as (run_stop (TooShort n) (length_check (needed_length r) (length o)) (Asks (check16 G) ∷ Gives (at_front (ruled_table G) o) o o ∷ [])
      (subst (λ (k : ℕ). length_check k (length o) ≡ Err (TooShort n)) e (room_short n (length o) h)) (refl, tt)) refl

  pub grown_in_room : Passport s r → needed_length r ≤ length o → {a : Filled} {o' : List ℤ} → a ≡ ruled_answer G → o' ≡ ruled_left G a o
      → Fills (symbol_steps order s r o o') (made_if (needed_vertices r)) a
  grown_in_room p h {a} {o'} q z = go G refl q (z ∙ ap (λ (x : Filled). ruled_left G x o) q)
    where
      fits : length_check (needed_length r) (length o) ≡ Ok tt
      fits = room_long (needed_length r) (length o) h

      go : (g : Ruled) → G ≡ g → a ≡ ruled_answer g → o' ≡ ruled_left G (ruled_answer G) o → Fills (symbol_steps order s r o o') (made_if (needed_vertices r)) a
      go (made v t) e q z =
          let m = ruled_means order s r v t p e in
          let left : o' ≡ t ++ drop (3 * v + 1) o = z ∙ ap (λ (x : Ruled). ruled_left x (ruled_answer x) o) e in
          let front : t ++ drop (3 * v + 1) o ≡ at_front (ruled_table G) o =
          ap (λ (k : ℕ). t ++ drop k o) (sym m.precisely.symbol.long) ∙ sym (ap (λ (x : Ruled). at_front (ruled_table x) o) e) in
          fills_as (run_pass (length_check (needed_length r) (length o)) (Asks (check16 G) ∷ Gives (at_front (ruled_table G) o) o o' ∷ []) fits
          (run_pass (check16 G) (Gives (at_front (ruled_table G) o) o o' ∷ []) (ap check16 e)
          (run_put (at_front (ruled_table G) o) o o' [] (left ∙ front) run_end)))
          (q ∙ ap Ok m.vertices)
      go (over i) e q z =
          let left : o' ≡ o = z ∙ ap (λ (x : Ruled). ruled_left x (ruled_answer x) o) e in
          fills_as (run_pass (length_check (needed_length r) (length o)) (Asks (check16 G) ∷ Gives (at_front (ruled_table G) o) o o' ∷ []) fits
          (run_stop (EntryTooLarge i) (check16 G) (Gives (at_front (ruled_table G) o) o o' ∷ []) (ap check16 e) (left, tt))) q

-- ---- the verdict of an import

-- a table that was given stands at the front
pub front_of : (t o o' : List ℤ) (c : Checked) (n : ℕ) → length t ≡ n → o' ≡ if_accepted c (at_front t o) o → c ≡ Ok tt → take n o' ≡ t
front_of t o o' c n k l e = ap (take n) (l ∙ ap (λ (x : Checked). if_accepted x (at_front t o) o) e) ∙ take_at t (drop (length t) o) n k

pub above16 : (g : Ruled) → Above (check16 g)
above16 (made v t) = tt
above16 (over i) = omega arith

module _ (order : Order) (s r w : List ℕ) (o : List ℤ) where
  abbrev pub import_verdict : Checked
  import_verdict =
      pair_check s r or_else length_check work_length (length w) or_else length_check (needed_length r) (length o)
      or_else check16 (ruled_by order s r) or_else (Ok tt)

  pub accepted_means : import_verdict ≡ Ok tt → SymbolOfPair s r (needed_vertices r) (ruled_table (ruled_by order s r))
  accepted_means e =
      let last = check16 (ruled_by order s r) or_else (Ok tt) in
      let a = both_pass (pair_check s r) (length_check work_length (length w) or_else length_check (needed_length r) (length o) or_else last) e in
      let b = both_pass (length_check work_length (length w)) (length_check (needed_length r) (length o) or_else last) a.1 in
      let d = both_pass (length_check (needed_length r) (length o)) last b.1 in
      made_means order s r ((accepted s r).0 a.0) (both_pass (check16 (ruled_by order s r)) (Ok tt) d.1).0

-- what the exported call says
module _ (order : Order) (s r : List ℕ) (w : Lent (List ℕ)) (out : Lent (List ℤ)) (l : Leaves (import_steps order s r w out)) where
  abbrev o : List ℤ
  o = out.entry.now

  in_space : import_verdict order s r w.entry.now o ≡ Ok tt → SymbolOfPair s r (needed_vertices r) (take (3 * needed_vertices r + 1) out.exit.now)
  in_space e =
      let m = accepted_means order s r w.entry.now o e in
      subst (SymbolOfPair s r (needed_vertices r)) (sym (front_of (ruled_table (ruled_by order s r)) o out.exit.now (import_verdict order s r w.entry.now o)
      (3 * needed_vertices r + 1) m.precisely.symbol.long l.1.0 e)) m

  pub import_says_lem : (import_call order s r w out).Says (number_of (import_call order s r w out)) (place_of (import_call order s r w out))
  import_says_lem =
      made_says (import_call order s r w out) (λ (v : ℕ). SymbolOfPair s r v (take (3 * v + 1) out.exit.now)) (
        above_among 12 15 (pair_check s r) (omega arith) (pairs_among s r),
        (above_room work_length (length w.entry.now), (above_room (needed_length r) (length o), (above16 (ruled_by order s r), tt))),
      ) in_space

-- ---- the length alone

none_after : (c : Checked) → (c or_else (Ok tt)) ≡ c
none_after (Ok tt) = refl
none_after (Err f) = refl

-- an import of a passport that gets to its result space
in_room : (order : Order) (s r w : List ℕ) (o : List ℤ) → Passport s r → work_length ≤ length w
    → import_verdict order s r w o ≡ (length_check (needed_length r) (length o) or_else check16 (ruled_by order s r) or_else (Ok tt))
in_room order s r w o p h =
    let rest = length_check (needed_length r) (length o) or_else check16 (ruled_by order s r) or_else (Ok tt) in
    sym (then_next (pair_check s r) (length_check work_length (length w) or_else rest) ((accepted s r).1 p))
    ∙ sym (then_next (length_check work_length (length w)) rest (room_long work_length (length w) h))

pub length_of_import : (s r : List ℕ) → Passport s r → LengthOfImport s r (needed_length r)
length_of_import s r p = record {
  passport = p;
  needed = refl;
  thirds = thirds_needed s r p;
  takes = λ order v t e.
      let n = needed_is order s r v t p e in
      (n, n ∙ sym (ruled_means order s r v t p e).precisely.symbol.long);
  enough = λ order w out h l.
      let o = out.entry.now in
      let last = check16 (ruled_by order s r) or_else (Ok tt) in
      in_room order s r w.entry.now o p h ∙ sym (then_next (length_check (needed_length r) (length o)) last (room_long (needed_length r) (length o) l))
      ∙ none_after (check16 (ruled_by order s r));
  fewer = λ order w out h l.
      let o = out.entry.now in
      let last = check16 (ruled_by order s r) or_else (Ok tt) in
      in_room order s r w.entry.now o p h ∙ ap (λ (c : Checked). c or_else last) (room_short (needed_length r) (length o) l);
}

pub length_says : (s r : List ℕ) → answer_number (pair_check s r or_else (Ok tt)) ≡ 0
    → LengthOfImport s r (if_accepted (pair_check s r or_else (Ok tt)) (needed_length r) (answer_place (pair_check s r or_else (Ok tt))))
length_says s r =
    made_says (record { steps = Asks (pair_check s r) ∷ []; count = needed_length r; Says = λ number place. Unit {0} }) (LengthOfImport s r)
    (above_among 12 15 (pair_check s r) (omega arith) (pairs_among s r), tt)
    (λ e. length_of_import s r ((accepted s r).0 (both_pass (pair_check s r) (Ok tt) e).0))
