-- The tables of an intersection that is made fit into the text of a pair.
--     intersected       what is made is the intersection of two symbols' subgroups
--     few_points        and has at most 3,066 points
--     made_fits         so its tables are a pair that fits: they are permutations, and the identity leads to one of their points
--     made_for, stored  the answer of the call in the program's spaces, which have room for that; and the tables in them
--     column_front      a table that was given stands at the front of its space
-- Assumes nothing.
use Rattle.std.specs.Prelude.{Ok, Err}
use mathlib.Core.Path.{◌≡◌, refl, sym, ap, ◌∙◌}
use mathlib.Core.List.{List, [], ◌∷◌, ◌++◌}
use Prim.Native.Nat.{ℕ, ◌≤◌}
use native.Mathlib.Omega.{arith}
use lib.Dec.{ltb}
use lib.IntN.{ℤ}
use lib.ListN.{length, take, drop}
use lib.Seq.{take_at}
use borrow.Author.Tests.{ltb-false}
use Rattle.matrix.specs.Matrix.{𝟙, det}
use Rattle.call.specs.Space.{work_length}
use Rattle.call.specs.Refusal.{◌or_else◌, Checked, Filled}
use Rattle.call.specs.declared.refusal.Refusal.TheVariants.{LargeIntersection}
use Rattle.call.proofs.Apart.{refused_made}
use Rattle.call.proofs.Answers.{both_pass, pass_both}
use Rattle.call.specs.Call.{Asks, Clears, Gives, length_check, if_accepted, at_front}
use Rattle.call.specs.Inner.Fills.{Fills, made_if}
use Rattle.call.proofs.Laws.{room_long}
use Rattle.symbol.specs.Check.{symbol_check}
use Rattle.symbol.proofs.Accepted.{accepted, passes}
use Rattle.numbering.proofs.Table.{then_length}
use Rattle.right_cosets.specs.Condition.{Unit}
use Rattle.containment.specs.TwoSymbols.{common_cosets, common_s, common_r, common_t}
use Rattle.containment.proofs.TwoSymbols.{common_subgroup}
use Rattle.intersections.specs.Answer.{most, too_many, Intersected}
use Rattle.symbol_texts.specs.Inner.PairFits.{PairFits}
use Rattle.subgroup_texts.specs.IntersectionAnswer.{intersection_for}

unit : Unit 𝟙
unfolding 𝟙 det
unit = refl

made_accepted : (N n : ℕ) (c : Checked) → made_if N c ≡ Ok n → (c ≡ Ok tt) × (n ≡ N)
made_accepted N n (Ok tt) e = (refl, cc)
made_accepted N n (Err f) e = refused_made e

-- spaces that have room refuse nothing
no_more : (c d e x : Checked) → (c ≡ Ok tt → d ≡ Ok tt → e ≡ Ok tt → x ≡ Ok tt) → (c or_else d or_else e or_else x) ≡ (c or_else d or_else e)
no_more (Err f) d e x h = refl
no_more (Ok tt) (Err f) e x h = refl
no_more (Ok tt) (Ok _) (Err f) x h = refl
no_more (Ok tt) (Ok _) (Ok _) x h = h refl refl refl

module _ (v : ℕ) (t : List ℤ) (v' : ℕ) (t' : List ℤ) where
  abbrev N : ℕ
  N = length (common_cosets v t v' t')

  pub few : too_many N ≡ Ok tt → N ≤ 3066
  few e = ltb-false most N (passes (ltb most N) LargeIntersection e)

  module _ (n : ℕ) (e : intersection_for v t v' t' ≡ Ok n) where
    checked : (symbol_check v t ≡ Ok tt) × ((symbol_check v' t' ≡ Ok tt) × (too_many N ≡ Ok tt))
    checked =
        let a = both_pass (symbol_check v t) (symbol_check v' t' or_else too_many N)
        (made_accepted N n (symbol_check v t or_else symbol_check v' t' or_else too_many N) e).0 in
        let b = both_pass (symbol_check v' t') (too_many N) a.1 in
        (a.0, (b.0, b.1))

    pub intersected : Intersected v t v' t' n
    intersected =
        let ok = (accepted v t).0 checked.0 in
        let ok' = (accepted v' t').0 checked.1.0 in
        record {
          one = ok;
          other = ok';
          points = (made_accepted N n (symbol_check v t or_else symbol_check v' t' or_else too_many N) e).1;
          group = common_subgroup v t v' t' ok ok';
        }

    pub few_points : N ≤ 3066
    few_points = few checked.1.1

    pub made_fits : PairFits (common_s v t v' t') (common_r v t v' t')
    made_fits =
        let g = intersected.group.cosets in
        let h = few_points in
        let sizeS = g.size_S in
        let sizeR = g.size_R in
        record {
          some = omega (arith, sizeS, g.low 𝟙 unit);
          most = omega (arith, sizeS, h);
          even = sizeR ∙ sym sizeS;
          below_S = λ i l. omega (arith, g.permutes_S.low i l, sizeS, h);
          below_R = λ i l. omega (arith, g.permutes_R.low i l, sizeR, h);
        }

-- what stands at the front of a result space
pub column_front : (n : ℕ) (table out : List ℕ) {out' : List ℕ} → length table ≡ n → out' ≡ table ++ drop (length table) out → take n out' ≡ table
column_front n table out l e = ap (take n) e ∙ take_at table (drop (length table) out) n l

-- the program's spaces
module _ (v : ℕ) (t : List ℤ) (v' : ℕ) (t' : List ℤ) {w w' s s' r r' u u' : List ℕ} {q : Filled}
    (g : Fills (Asks (symbol_check v t) ∷ Asks (symbol_check v' t') ∷ Asks (length_check work_length (length w)) ∷ Clears w w'
    ∷ Asks (too_many (length (common_cosets v t v' t')))
    ∷ Asks (length_check (length (common_s v t v' t')) (length s)) ∷ Gives (at_front (common_s v t v' t') s) s s'
    ∷ Asks (length_check (length (common_r v t v' t')) (length r)) ∷ Gives (at_front (common_r v t v' t') r) r r'
    ∷ Asks (length_check (length (common_t v t v' t')) (length u)) ∷ Gives (at_front (common_t v t v' t') u) u u' ∷ [])
    (made_if (length (common_cosets v t v' t'))) q) where
  pub made_for : work_length ≤ length w → length s ≡ 3066 → length r ≡ 3066 → length u ≡ 3066 → q ≡ intersection_for v t v' t'
  made_for h i j k =
      let n = length (common_cosets v t v' t') in
      let a = length_check (length (common_s v t v' t')) (length s) in
      let b = length_check (length (common_r v t v' t')) (length r) in
      let c = length_check (length (common_t v t v' t')) (length u) in
      let spaces = a or_else b or_else c or_else (Ok tt) in
      g.answer ∙ ap (made_if n)
      (ap (λ (x : Checked). symbol_check v t or_else symbol_check v' t' or_else x or_else too_many n or_else spaces) (room_long work_length (length w) h)
      ∙ no_more (symbol_check v t) (symbol_check v' t') (too_many n) spaces (λ p p' m.
      let both = common_subgroup v t v' t' ((accepted v t).0 p) ((accepted v' t').0 p') in
      let most = few v t v' t' m in
      let sizeT = ap length both.T_is ∙ then_length (common_s v t v' t') (common_r v t v' t') in
      pass_both a (b or_else c or_else (Ok tt)) (room_long (length (common_s v t v' t')) (length s) (omega (arith, both.cosets.size_S, most, i)))
      (pass_both b (c or_else (Ok tt)) (room_long (length (common_r v t v' t')) (length r) (omega (arith, both.cosets.size_R, most, j)))
      (pass_both c (Ok tt) (room_long (length (common_t v t v' t')) (length u) (omega (arith, sizeT, both.cosets.size_S, most, k))) refl))))

  pub stored : (n : ℕ) → q ≡ Ok n → (s' ≡ at_front (common_s v t v' t') s) × (r' ≡ at_front (common_r v t v' t') r)
  stored n e =
      let N = length (common_cosets v t v' t') in
      let all = symbol_check v t or_else symbol_check v' t' or_else length_check work_length (length w) or_else too_many N
      or_else length_check (length (common_s v t v' t')) (length s) or_else length_check (length (common_r v t v' t')) (length r)
      or_else length_check (length (common_t v t v' t')) (length u) or_else (Ok tt) in
      let d = (made_accepted N n all (sym g.answer ∙ e)).0 in (
        g.leaves.1.0 ∙ ap (λ (x : Checked). if_accepted x (at_front (common_s v t v' t') s) s) d,
        g.leaves.1.1.0 ∙ ap (λ (x : Checked). if_accepted x (at_front (common_r v t v' t') r) r) d,
      )
