-- EVERY REFUSAL HAS A NUMBER ABOVE 0, check by check (`above-..`) and so of the steps of each call (`..-numbered`): a number 0 says that nothing is
-- refused. Assumes nothing.
use mathlib.Core.Bool.{Bool, true, false, not}
use mathlib.Core.List.{List, [], ◌∷◌}
use Prim.Native.Nat.{ℕ, zero, suc, ◌<◌}
use native.Mathlib.Omega.{arith}
use lib.Dec.{ltb}
use lib.ListN.{length}
use lib.IntN.{ℤ}
use Rattle.basics.specs.Count.{first}
use Rattle.call.specs.Space.{work_length}
use Rattle.call.specs.Refusal.{refusal_number, Checked}
use Rattle.call.specs.declared.refusal.Refusal.TheVariants.{NoWord, TooShort, TooLargeToDraw, LargeIntersection, NotListedBefore, FalseClaim}
use Rattle.call.specs.declared.refusal.Refusal.{Refusal}
use Rattle.call.specs.Call.{Step, Asks, length_check}
use Rattle.call.proofs.Laws.{Above, Numbered, above_among, above_room}
use Rattle.symbol.specs.Check.{refuse, symbol_check}
use Rattle.symbol.proofs.Accepted.{check_among}
use Rattle.matrix.specs.Matrix.{of_list}
use Rattle.coset.specs.Tables.{table_s, table_r, table_t}
use Rattle.word.specs.Answer.{matrices_check, closes, found_word, word_fits}
use Rattle.word.proofs.Order.{query_run}
use Rattle.word.proofs.Refused.{pair_among}
use Rattle.permutations.specs.Check.{pair_check}
use Rattle.permutations.proofs.Numbers.{pairs_among}
use Rattle.import_rule.specs.Order.{Order}
use Rattle.import_rule.specs.Symbol.{Ruled}
use Rattle.import_symbol.specs.Answer.{check16}
use Rattle.import_call.proofs.Means.{above16}
use Rattle.named_groups.specs.Group.{group_check}
use Rattle.named_groups.specs.Answer.{named_rule, ruled_closes, ruled_word}
use Rattle.named_groups.proofs.Asking.{named_run}
use Rattle.named_groups.proofs.Answers.{groups_among}
use Rattle.cycle_notation.specs.Verdict.{Verdict, reads, index_out, leaves}
use Rattle.cycle_notation.specs.Inner.Reader.{verdict_of}
use Rattle.cycle_reading.specs.Reading.{table_of_s, table_of_r, check_by, cycles_check}
use Rattle.towers.specs.Tower.{symbols_check, unlisted, named_check, claim_fails}
use Rattle.towers.proofs.Checks.{symbols_among}
use Rattle.towers.specs.Answer.{count_check, claim_steps}

above_refuse : (b : Bool) (f : Refusal) → 0 < refusal_number f → Above (refuse b f)
above_refuse true f h = h
above_refuse false f h = tt

pub above_short : (b : Bool) (n : ℕ) → Above (refuse b (TooShort n))
above_short b n = above_refuse b (TooShort n) (omega arith)

pub above_symbol : (v : ℕ) (t : List ℤ) → Above (symbol_check v t)
above_symbol v t = above_among 1 7 (symbol_check v t) (omega arith) (check_among v t)

pub above_matrices : (a b : List ℤ) → Above (matrices_check a b)
above_matrices a b = above_among 8 9 (matrices_check a b) (omega arith) (pair_among a b)

pub above_pair : (s r : List ℕ) → Above (pair_check s r)
above_pair s r = above_among 12 15 (pair_check s r) (omega arith) (pairs_among s r)

pub above_group : (k n : ℕ) → Above (group_check k n)
above_group k n = above_among 20 21 (group_check k n) (omega arith) (groups_among k n)

pub above_cycles : (t : List ℕ) → Above (cycles_check t)
above_cycles t = go (verdict_of t)
  where
    go : (a : Verdict) → Above (check_by a)
    go (leaves place) = omega arith
    go index_out = omega arith
    go (reads q) = above_pair (table_of_s q) (table_of_r q)

-- ---- the steps of each call, whose spaces held these lists

-- a symbol and the work space; and then results of these lengths
module _ (v : ℕ) (t : List ℤ) (w : List ℕ) where
  pub one_numbered : (l : List Step) → Numbered l → Numbered (Asks (symbol_check v t) ∷ Asks (length_check work_length (length w)) ∷ l)
  one_numbered l h = (above_symbol v t, (above_room work_length (length w), h))

  pub two_numbered : (v' : ℕ) (t' : List ℤ) → Numbered (Asks (symbol_check v t) ∷ Asks (symbol_check v' t') ∷ Asks (length_check work_length (length w)) ∷ [])
  two_numbered v' t' = (above_symbol v t, (above_symbol v' t', (above_room work_length (length w), tt)))

  pub matrices_numbered : (a b : List ℤ)
      → Numbered (Asks (symbol_check v t) ∷ Asks (matrices_check a b) ∷ Asks (length_check work_length (length w)) ∷ [])
  matrices_numbered a b = (above_symbol v t, (above_matrices a b, (above_room work_length (length w), tt)))

  pub tables_numbered : (s r u : List ℕ) → Numbered (Asks (symbol_check v t) ∷ Asks (length_check work_length (length w))
      ∷ Asks (length_check (length (table_s v t)) (length s)) ∷ Asks (length_check (length (table_r v t)) (length r))
      ∷ Asks (length_check (length (table_t v t)) (length u)) ∷ [])
  tables_numbered s r u =
      one_numbered (Asks (length_check (length (table_s v t)) (length s)) ∷ Asks (length_check (length (table_r v t)) (length r))
      ∷ Asks (length_check (length (table_t v t)) (length u)) ∷ [])
      (above_room (length (table_s v t)) (length s), (above_room (length (table_r v t)) (length r), (above_room (length (table_t v t)) (length u), tt)))

  pub stored_numbered : {A : Type 0} (x : ℕ) (out : List A)
      → Numbered (Asks (symbol_check v t) ∷ Asks (length_check work_length (length w)) ∷ Asks (length_check x (length out)) ∷ [])
  stored_numbered x out = one_numbered (Asks (length_check x (length out)) ∷ []) (above_room x (length out), tt)

  pub columns_numbered : (x y : ℕ) (a b : List ℕ) → Numbered (Asks (symbol_check v t) ∷ Asks (length_check work_length (length w))
      ∷ Asks (length_check x (length a)) ∷ Asks (length_check y (length b)) ∷ [])
  columns_numbered x y a b =
      one_numbered (Asks (length_check x (length a)) ∷ Asks (length_check y (length b)) ∷ [])
      (above_room x (length a), (above_room y (length b), tt))

  -- a number of entries first, and whole rows behind
  pub rows_numbered : (b : Bool) (n rows has : ℕ) → Numbered (Asks (refuse b (TooShort n)) ∷ Asks (symbol_check v t)
      ∷ Asks (length_check work_length (length w)) ∷ Asks (length_check rows has) ∷ [])
  rows_numbered b n rows has = (above_short b n, (above_symbol v t, (above_room work_length (length w), (above_room rows has, tt))))

  pub common_numbered : (v' : ℕ) (t' : List ℤ) (n x y z : ℕ) (s r u : List ℕ) → Numbered (Asks (symbol_check v t) ∷ Asks (symbol_check v' t')
      ∷ Asks (length_check work_length (length w)) ∷ Asks (refuse (ltb 3066 n) LargeIntersection) ∷ Asks (length_check x (length s))
      ∷ Asks (length_check y (length r)) ∷ Asks (length_check z (length u)) ∷ [])
  common_numbered v' t' n x y z s r u = (
    above_symbol v t,
    (
      above_symbol v' t',
      (
        above_room work_length (length w),
        (
          above_refuse (ltb 3066 n) LargeIntersection (omega arith),
          (above_room x (length s), (above_room y (length r), (above_room z (length u), tt))),
        ),
      ),
    ),
  )

-- the walk's checks
pub walk_numbered : (home : Bool) (n : ℕ) (fits : Bool) → Numbered (Asks (refuse (not home) NoWord) ∷ Asks (refuse (not fits) (TooShort n)) ∷ [])
walk_numbered home n fits = (above_refuse (not home) NoWord (omega arith), (above_short (not fits) n, tt))

pub query_numbered : (v : ℕ) (t a b : List ℤ) (w w' : List ℕ) (out out' : List ℤ) (start : ℕ) → Numbered (query_run v t a b w w' out out' start)
query_numbered v t a b w w' out out' start =
    let n = length (found_word v t (of_list a) (of_list b)) in (
      above_symbol v t,
      (
        above_matrices a b,
        (above_room work_length (length w), walk_numbered (closes v t (of_list a) (of_list b)) n (word_fits start n (length out))),
      ),
    )

pub named_numbered : (order : Order) (k m : ℕ) (a b : List ℤ) (w w' : List ℕ) (out out' : List ℤ) (start : ℕ)
    → Numbered (named_run order k m a b w w' out out' start)
named_numbered order k m a b w w' out out' start =
    let g = named_rule order k m in
    let n = length (ruled_word g a b) in (
      above_group k m,
      (
        above_matrices a b,
        (above_room work_length (length w), (above16 g, walk_numbered (ruled_closes g a b) n (word_fits start n (length out)))),
      ),
    )

-- a group with a name, or two permutations, and the work space
module _ (c : Checked) (h : Above c) (w : List ℕ) where
  pub symbol_numbered : (n : ℕ) (g : Ruled) (out : List ℤ)
      → Numbered (Asks c ∷ Asks (length_check work_length (length w)) ∷ Asks (length_check n (length out)) ∷ Asks (check16 g) ∷ [])
  symbol_numbered n g out = (h, (above_room work_length (length w), (above_room n (length out), (above16 g, tt))))

  pub pair_numbered : (x y : ℕ) (s r : List ℕ) → Numbered (Asks c ∷ Asks (length_check work_length (length w)) ∷ Asks (length_check x (length s))
      ∷ Asks (length_check y (length r)) ∷ [])
  pair_numbered x y s r = (h, (above_room work_length (length w), (above_room x (length s), (above_room y (length r), tt))))

  pub checked_work : Numbered (Asks c ∷ Asks (length_check work_length (length w)) ∷ [])
  checked_work = (h, (above_room work_length (length w), tt))

-- checks, and results without a work space
module _ (c : Checked) (h : Above c) where
  pub result_numbered : {A : Type 0} (n : ℕ) (out : List A) → Numbered (Asks c ∷ Asks (length_check n (length out)) ∷ [])
  result_numbered n out = (h, (above_room n (length out), tt))

  pub results_numbered : (x y : ℕ) (s r : List ℕ) → Numbered (Asks c ∷ Asks (length_check x (length s)) ∷ Asks (length_check y (length r)) ∷ [])
  results_numbered x y s r = (h, (above_room x (length s), (above_room y (length r), tt)))

  pub widths_numbered : (w : List ℕ) (n : ℕ) (out : List ℕ)
      → Numbered (Asks c ∷ Asks (length_check work_length (length w)) ∷ Asks (length_check n (length out)) ∷ [])
  widths_numbered w n out = (h, (above_room work_length (length w), (above_room n (length out), tt)))

pub drawing_numbered : (v : ℕ) (t : List ℤ) (b : Bool) (i n has : ℕ)
    → Numbered (Asks (symbol_check v t) ∷ Asks (refuse b (TooLargeToDraw i)) ∷ Asks (length_check n has) ∷ [])
drawing_numbered v t b i n has = (above_symbol v t, (above_refuse b (TooLargeToDraw i) (omega arith), (above_room n has, tt)))

-- a tower: a 65th entry, the symbols, 25; and then the work space and 26
pub tower_numbered : (n : ℕ) (t : List ℤ) (w w' : List ℕ)
    → Numbered (Asks (count_check n) ∷ Asks (symbols_check n t n) ∷ Asks (named_check n t) ∷ claim_steps n t w w')
tower_numbered n t w w' =
    let listed = first (unlisted t) n in (
      above_short (ltb 64 n) 64,
      (
        above_among 1 7 (symbols_check n t n) (omega arith) (symbols_among n t n),
        (above_refuse (ltb listed n) (NotListedBefore listed) (omega arith), claims n),
      ),
    )
  where
    claims : (m : ℕ) → Numbered (claim_steps m t w w')
    claims zero = tt
    claims (suc m) =
        let false_at = first (claim_fails (suc m) t) (suc m) in
        (above_room work_length (length w), (above_refuse (ltb false_at (suc m)) (FalseClaim false_at) (omega arith), tt))
