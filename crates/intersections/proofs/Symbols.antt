-- Two symbols: what was kept of their tables is what the walk asks (`walks`); what it lists are the tables of the intersection (`Common`, `listed_common`), and
-- so is what is given (`gives`, `given_common`).
-- Why: behind the tables that were kept stand zeros, as past the end of a list; so both are the same maps, and have the same numbering.
-- Assumes nothing.
use Rattle.std.specs.Prelude.{Err}
use mathlib.Core.Path.{◌≡◌, sym, ◌∙◌, ap, subst, fun_ext}
use mathlib.Core.List.{List, [], ◌∷◌, ◌++◌}
use Prim.Native.Nat.{ℕ, ◌+◌, ◌*◌, ◌≤◌, ◌<◌}
use native.Mathlib.Omega.{arith}
use native.Mathlib.Decide.{dec_lt}
use lib.ListN.{length, get_or, drop, length-append, length-drop}
use lib.Seq.{get_or-drop}
use lib.IntN.{ℤ}
use Rattle.call.specs.Refusal.{◌or_else◌, Checked, Filled}
use Rattle.call.specs.declared.refusal.Refusal.TheVariants.{LargeIntersection}
use Rattle.call.specs.Call.{Step, Asks, Gives, length_check, verdict, LeavesFrom}
use Rattle.call.specs.Inner.Fills.{Fills, made_if}
use Rattle.call.proofs.Laws.{kept, run_stop, fills_as}
use Rattle.call.specs.Space.{work_length, entries}
use Rattle.symbol.specs.Symbol.{IsSymbol}
use Rattle.pairing.specs.Generator.{generators}
use Rattle.pairing.specs.Subgroup.{InH}
use Rattle.numbering.specs.Order.{order_of, Maps}
use Rattle.numbering.specs.Table.{image_at, renamed, ◌then_table◌}
use Rattle.numbering.specs.Inner.Space.{S_TABLE, R_TABLE}
use Rattle.numbering.proofs.Space.{entries_length}
use Rattle.coset.specs.Tables.{table_s, table_r, index_of}
use Rattle.coset.specs.Inner.Work.{Arranged}
use Rattle.coset.proofs.Answer.{Made, made, symbol_cosets}
use Rattle.right_cosets.specs.Cosets.{CosetsOf}
use Rattle.containment.specs.Pairs.{both, pairs_reached, pairs_s, pairs_r}
use Rattle.containment.specs.TwoSymbols.{common_cosets, common_s, common_r, common_t, CommonSubgroup}
use Rattle.right_cosets.proofs.Tabled.{S_low, R_low, some_points}
use Rattle.containment.proofs.Pairs.{maps}
use Rattle.containment.proofs.TwoSymbols.{common_subgroup}
use Rattle.containment.proofs.Tables.{padded}
use Rattle.intersections.specs.Answer.{too_many}
use Rattle.intersections.specs.Inner.Pairs.{PairTables, WalkPairs, PairsListed, GiveTables}
use Rattle.intersections.proofs.Given.{given_large}

-- ---- tables that were kept, with zeros behind

kept_as : (s l table empty : List ℕ) (k : ℕ) → ((j : ℕ) → get_or empty j 0 ≡ 0) → s ≡ l ++ drop k empty → l ≡ table → image_at s ≡ image_at table
kept_as s l table empty k none e f = fun_ext (λ y.
    ap (λ (m : List ℕ). get_or m y 0) e ∙ padded l (drop k empty) (λ j. get_or-drop k empty j 0 ∙ none (k + j)) y ∙ ap (λ (m : List ℕ). get_or m y 0) f)

kept_size : (s empty w : List ℕ) (off k : ℕ) → length empty ≡ 4096 → off + k ≤ length w → k ≤ 4096 → s ≡ entries off k w ++ drop k empty → length s ≡ 4096
kept_size s empty w off k size long few e =
    ap length e ∙ omega (arith, length-append (entries off k w) (drop k empty), entries_length off k w long, length-drop k empty)

-- ---- maps that are the same have the same pairs

module _ (n k : ℕ) {f g h i f' g' h' i' : ℕ → ℕ} (ef : f ≡ f') (eg : g ≡ g') (eh : h ≡ h') (ei : i ≡ i') where
  maps_as : Maps (both k f' h') (both k g' i') 0 (n * k) → Maps (both k f h) (both k g i) 0 (n * k)
  maps_as m = rw (ef, eg, eh, ei) m

  order_as : order_of (both k f h) (both k g i) 0 (n * k) ≡ order_of (both k f' h') (both k g' i') 0 (n * k)
  order_as = rw (ef, eg, eh, ei)

  renamed_S_as : renamed (order_of (both k f h) (both k g i) 0 (n * k)) (both k f h) ≡ renamed (order_of (both k f' h') (both k g' i') 0 (n * k)) (both k f' h')
  renamed_S_as = rw (ef, eg, eh, ei)

  renamed_R_as : renamed (order_of (both k f h) (both k g i) 0 (n * k)) (both k g i) ≡ renamed (order_of (both k f' h') (both k g' i') 0 (n * k)) (both k g' i')
  renamed_R_as = rw (ef, eg, eh, ei)

module _ (n k : ℕ) (a b c d s r s' r' : List ℕ) (ea : image_at a ≡ image_at s) (eb : image_at b ≡ image_at r) (ec : image_at c ≡ image_at s')
    (ed : image_at d ≡ image_at r') where
  reached_as : pairs_reached n k a b c d ≡ pairs_reached n k s r s' r'
  unfolding pairs_reached
  reached_as = order_as n k ea eb ec ed

  S_as : pairs_s n k a b c d ≡ pairs_s n k s r s' r'
  unfolding pairs_reached pairs_s
  S_as = renamed_S_as n k ea eb ec ed

  R_as : pairs_r n k a b c d ≡ pairs_r n k s r s' r'
  unfolding pairs_reached pairs_r
  R_as = renamed_R_as n k ea eb ec ed

-- ---- two symbols, and what was kept of their tables

at : (s l : List ℕ) → image_at s ≡ image_at l → (y : ℕ) → image_at s y ≡ image_at l y
at s l e y = ap (λ (f : ℕ → ℕ). f y) e

pub record Common (v : ℕ) (t : List ℤ) (v' : ℕ) (t' : List ℤ) (w : List ℕ) (count : ℕ) : Type 0 where
  pub large : 3066 < count → 3066 < length (common_cosets v t v' t')
  pub points : count ≤ 3066 → count ≡ length (common_cosets v t v' t')
  pub S_is : count ≤ 3066 → entries S_TABLE count w ≡ common_s v t v' t'
  pub R_is : count ≤ 3066 → entries R_TABLE count w ≡ common_r v t v' t'

module _ {v : ℕ} {t : List ℤ} {v' : ℕ} {t' : List ℤ} (ok : IsSymbol v t) (ok' : IsSymbol v' t') (a b c d : List ℕ)
    (ea : image_at a ≡ image_at (table_s v t)) (eb : image_at b ≡ image_at (table_r v t)) (ec : image_at c ≡ image_at (table_s v' t'))
    (ed : image_at d ≡ image_at (table_r v' t')) where
  abbrev n : ℕ
  n = index_of v t

  abbrev k : ℕ
  k = index_of v' t'

  one : CosetsOf (InH (generators v t)) n (table_s v t) (table_r v t)
  one = symbol_cosets ok

  other : CosetsOf (InH (generators v' t')) k (table_s v' t') (table_r v' t')
  other = symbol_cosets ok'

  pair_tables : n ≤ 4096 → k ≤ 4096 → length a ≡ 4096 → length b ≡ 4096 → length c ≡ 4096 → length d ≡ 4096 → PairTables n k a b c d
  pair_tables few few' za zb zc zd = record {
    some = some_points other;
    few = few';
    few_first = few;
    size_a = za;
    size_b = zb;
    size_c = zc;
    size_d = zd;
    low_c = λ y h. omega (arith, at c (table_s v' t') ec y, S_low other y h);
    low_d = λ y h. omega (arith, at d (table_r v' t') ed y, R_low other y h);
    maps = maps_as n k ea eb ec ed (maps one other);
  }

  cosets_are : pairs_reached n k a b c d ≡ common_cosets v t v' t'
  unfolding common_cosets
  cosets_are = reached_as n k a b c d (table_s v t) (table_r v t) (table_s v' t') (table_r v' t') ea eb ec ed

  S_are : pairs_s n k a b c d ≡ common_s v t v' t'
  unfolding common_s
  S_are = S_as n k a b c d (table_s v t) (table_r v t) (table_s v' t') (table_r v' t') ea eb ec ed

  R_are : pairs_r n k a b c d ≡ common_r v t v' t'
  unfolding common_r
  R_are = R_as n k a b c d (table_s v t) (table_r v t) (table_s v' t') (table_r v' t') ea eb ec ed

  common : PairTables n k a b c d → {w w' : List ℕ} {count : ℕ} → PairsListed w a b c d w' count → Common v t v' t' w' count
  common p l = record {
    large = λ h. rw cosets_are at (l.large n k p h);
    points = λ h. l.points n k p h ∙ ap length cosets_are;
    S_is = λ h. l.S_is n k p h ∙ S_are;
    R_is = λ h. l.R_is n k p h ∙ R_are;
  }

-- ---- the same from what was arranged and kept

module _ {v : ℕ} {t : List ℤ} {v' : ℕ} {t' : List ℤ} {k m : ℕ} {w w' : List ℕ} (ok : IsSymbol v t) (ok' : IsSymbol v' t') (r : Arranged t v w k)
    (r' : Arranged t' v' w' m)
    (empty : List ℕ) (none : (j : ℕ) → get_or empty j 0 ≡ 0) {a b c d : List ℕ} (ea : a ≡ entries S_TABLE k w ++ drop k empty)
    (eb : b ≡ entries R_TABLE k w ++ drop k empty)
    (ec : c ≡ entries S_TABLE m w' ++ drop m empty) (ed : d ≡ entries R_TABLE m w' ++ drop m empty)
    (size : length empty ≡ 4096) where
  arranged : Made t v w k
  arranged = made ok r

  arranged' : Made t' v' w' m
  arranged' = made ok' r'

  kept_a : image_at a ≡ image_at (table_s v t)
  kept_a = kept_as a (entries S_TABLE k w) (table_s v t) empty k none ea arranged.S_is

  kept_b : image_at b ≡ image_at (table_r v t)
  kept_b = kept_as b (entries R_TABLE k w) (table_r v t) empty k none eb arranged.R_is

  kept_c : image_at c ≡ image_at (table_s v' t')
  kept_c = kept_as c (entries S_TABLE m w') (table_s v' t') empty m none ec arranged'.S_is

  kept_d : image_at d ≡ image_at (table_r v' t')
  kept_d = kept_as d (entries R_TABLE m w') (table_r v' t') empty m none ed arranged'.R_is

  both_tables : PairTables (index_of v t) (index_of v' t') a b c d
  both_tables =
      let few = arranged.few in
      let few' = arranged'.few in
      let i = arranged.index in
      let i' = arranged'.index in
      let long = r.long in
      let long' = r'.long in
      pair_tables ok ok' a b c d kept_a kept_b kept_c kept_d (omega arith) (omega arith)
      (kept_size a empty w S_TABLE k size (omega arith) few ea) (kept_size b empty w R_TABLE k size (omega arith) few eb)
      (kept_size c empty w' S_TABLE m size (omega arith) few' ec) (kept_size d empty w' R_TABLE m size (omega arith) few' ed)

  pub walks : WalkPairs w' a b c d 2526
  walks = record { multiplier = omega arith; long = r'.long; points = index_of v t; modulus = index_of v' t'; tables = both_tables }

  pub listed_common : {u : List ℕ} {count : ℕ} → PairsListed w' a b c d u count → Common v t v' t' u count
  listed_common l = common ok ok' a b c d kept_a kept_b kept_c kept_d both_tables l

-- ---- what is given of them

module _ {v : ℕ} {t : List ℤ} {v' : ℕ} {t' : List ℤ} (ok : IsSymbol v t) (ok' : IsSymbol v' t') {w : List ℕ} {count : ℕ} (m : Common v t v' t' w count) where
  group : CommonSubgroup v t v' t'
  group = common_subgroup v t v' t' ok ok'

  pub gives : work_length ≤ length w → GiveTables w count
  gives long = record {
    long = long;
    low = λ h j i. rw (m.S_is h) (let e = m.points h in omega (arith, S_low group.cosets j (omega arith)));
  }

  -- more pairs than may be given leave all as it was, whatever the tables
  module _ (s s' r r' u u' : List ℕ) (q : Filled) where
    abbrev N : ℕ
    N = length (common_cosets v t v' t')

    abbrev T : List ℕ
    T = entries S_TABLE count w then_table entries R_TABLE count w

    abbrev spaces : (x y z : List ℕ) → List Step
    spaces x y z =
        Asks (length_check (length x) (length s)) ∷ Gives (x ++ drop (length x) s) s s' ∷ Asks (length_check (length y) (length r))
        ∷ Gives (y ++ drop (length y) r) r r' ∷ Asks (length_check (length z) (length u)) ∷ Gives (z ++ drop (length z) u) u u' ∷ []

    abbrev Into : (n : ℕ) (x y z : List ℕ) → Type 0
    Into n x y z = Fills (Asks (too_many n) ∷ spaces x y z) (made_if n) q

    given_as : {n n' : ℕ} {x x' y y' z z' : List ℕ} → n ≡ n' → x ≡ x' → y ≡ y' → z ≡ z' → Into n x y z → Into n' x' y' z'
    given_as {n} {n'} {x} {x'} {y} {y'} {z} {z'} d e f g k =
        subst (λ (i : ℕ). Into i x' y' z') d
        (subst (λ (l : List ℕ). Into n x' y' l) g (subst (λ (l : List ℕ). Into n x' l z) f (subst (λ (l : List ℕ). Into n l y z) e k)))

    pub given_common : Into count (entries S_TABLE count w) (entries R_TABLE count w) T → Into N (common_s v t v' t') (common_r v t v' t') (common_t v t v' t')
    given_common k = elim (dec_lt 3066 count) [
      | yes h ↦ (let e = given_large count h in
          let rest = spaces (entries S_TABLE count w) (entries R_TABLE count w) T in
          let is : q ≡ Err LargeIntersection = k.answer ∙ ap (λ (c : Checked). made_if count (c or_else verdict rest)) e in
          let as_it_was = kept LargeIntersection rest (subst (λ (c : Checked). LeavesFrom c (c or_else verdict rest) rest) e k.leaves) in
          fills_as {by = made_if N}
          (run_stop LargeIntersection (too_many N) (spaces (common_s v t v' t') (common_r v t v' t') (common_t v t v' t')) (given_large N (m.large h)) as_it_was)
          is)
      | no h ↦ given_as (m.points (omega arith)) (m.S_is (omega arith)) (m.R_is (omega arith))
          (ap (λ (l : List ℕ). l then_table entries R_TABLE count w) (m.S_is (omega arith))
          ∙ ap (λ (l : List ℕ). common_s v t v' t' then_table l) (m.R_is (omega arith)) ∙ sym group.T_is)
          k
    ]
