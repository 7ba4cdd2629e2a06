-- `intersection_lines` meets its contract: the tables that were made stand at the fronts of their spaces (`stored`), and are a pair that fits (`made_fits`);
-- each answer has its lines. Assumes nothing.
use Rattle.std.specs.Prelude.{Ok}
use mathlib.Core.Path.{◌≡◌, sym, ap, subst, ◌∙◌}
use mathlib.Core.List.{List}
use Prim.Native.Nat.{ℕ, ◌≤◌}
use native.Mathlib.Omega.{arith}
use lib.IntN.{ℤ}
use lib.ListN.{length, take, replicate, length-replicate}
use lib.Seq.{length-take-le}
use Rattle.call.specs.Space.{work_length}
use Rattle.call.specs.Refusal.{Filled}
use Rattle.call.specs.Call.{at_front}
use Rattle.decimal.proofs.Placing.{puts_as}
use Rattle.containment.specs.TwoSymbols.{common_s, common_r}
use Rattle.intersections.specs.Answer.{Intersected}
use Rattle.symbol_texts.specs.Pair.{pair_text, pair_lines_by}
use Rattle.symbol_texts.specs.Inner.PairFits.{PairFits}
use Rattle.subgroup_texts.specs.IntersectionAnswer.{intersection_for}
use Rattle.subgroup_texts.proofs.IntersectionPoints.{made_for, stored, intersected, few_points, made_fits, column_front}
use Rattle.subgroup_texts.proofs.intersection_text.intersection_lines.Goals.{After-intersection-made, In-Ok, Start}
use Rattle.subgroup_texts.proofs.intersection_text.intersection_lines.Goals as goal

-- the program's spaces
abbrev work : List ℕ
work = replicate 32768 0

abbrev space : List ℕ
space = replicate 3066 0

long : work_length ≤ length work
long = omega (arith, length-replicate {A = ℕ} 32768 0)

size : length space ≡ 3066
size = length-replicate {A = ℕ} 3066 0

-- the answer of the call, and what it left
module _ (m : After-intersection-made) where
  abbrev start : Start
  start = (goal.at.After-intersection-made m).Start

  abbrev v : ℕ
  v = start.args.v

  abbrev t : List ℤ
  t = start.args.t.now

  abbrev n : ℕ
  n = start.args.n

  abbrev u : List ℤ
  u = start.args.u.now

  abbrev S : List ℕ
  S = common_s v t n u

  abbrev R : List ℕ
  R = common_r v t n u

  abbrev stood_S : List ℕ
  stood_S = m.intersection-made.new.a

  abbrev stood_R : List ℕ
  stood_R = m.intersection-made.new.b

  answer : m.intersection-made.result ≡ intersection_for v t n u
  answer = made_for v t n u {w = work} {s = space} {r = space} {u = space} m.intersection-made.ensures long size size size

-- where tables were made
module _ (d : In-Ok) where
  abbrev called : After-intersection-made
  called = (goal.at.In-Ok d).After-intersection-made

  abbrev points : ℕ
  points = d.in-Ok.points

  made : intersection_for (v called) (t called) (n called) (u called) ≡ Ok points
  made = sym (answer called) ∙ d.in-Ok.is

  common : Intersected (v called) (t called) (n called) (u called) points
  common = intersected (v called) (t called) (n called) (u called) points made

  few : points ≤ 3066
  few = omega (arith, common.points, few_points (v called) (t called) (n called) (u called) points made)

  tables : (stood_S called ≡ at_front (S called) space) × (stood_R called ≡ at_front (R called) space)
  tables =
      stored (v called) (t called) (n called) (u called) {w = work} {s = space} {r = space} {u = space} called.intersection-made.ensures points
      d.in-Ok.is

  front_S : take points (stood_S called) ≡ S called
  front_S = column_front points (S called) space (common.group.cosets.size_S ∙ sym common.points) tables.0

  front_R : take points (stood_R called) ≡ R called
  front_R = column_front points (R called) space (common.group.cosets.size_R ∙ sym common.points) tables.1

  inside_S : points ≤ length (stood_S called)
  inside_S = omega (arith, few, d.a-2-1.given)

  inside_R : points ≤ length (stood_R called)
  inside_R = omega (arith, few, d.b-2-1.given)

  fits : PairFits (take points (stood_S called)) (take points (stood_R called))
  fits =
      subst (λ (r : List ℕ). PairFits (take points (stood_S called)) r) (sym front_R)
      (subst (λ (s : List ℕ). PairFits s (R called)) (sym front_S) (made_fits (v called) (t called) (n called) (u called) points made))

pub slice_bounds-a-end : goal.slice_bounds-a-end
slice_bounds-a-end c = inside_S (goal.at.slice_bounds-a-end c).In-Ok

pub slice_bounds-pair_lines-end : goal.slice_bounds-pair_lines-end
slice_bounds-pair_lines-end c = let d = c in sym (length-take-le (points (goal.at.slice_bounds-pair_lines-end c).In-Ok) (stood_S (called (goal.at.slice_bounds-pair_lines-end c).In-Ok)) (inside_S (goal.at.slice_bounds-pair_lines-end c).In-Ok))

pub slice_bounds-b-end : goal.slice_bounds-b-end
slice_bounds-b-end c = inside_R (goal.at.slice_bounds-b-end c).In-Ok

pub slice_bounds-pair_lines-end-in-Ok : goal.slice_bounds-pair_lines-end-in-Ok
slice_bounds-pair_lines-end-in-Ok c = let d = c in sym (length-take-le (points (goal.at.slice_bounds-pair_lines-end-in-Ok c).In-Ok) (stood_R (called (goal.at.slice_bounds-pair_lines-end-in-Ok c).In-Ok)) (inside_R (goal.at.slice_bounds-pair_lines-end-in-Ok c).In-Ok))

pub pair_lines-requires : goal.pair_lines-requires
pair_lines-requires c = let d = c in (fits (goal.at.pair_lines-requires c).In-Ok, (start (called (goal.at.pair_lines-requires c).In-Ok)).requires)

pub returns-in-Ok : goal.returns-in-Ok
returns-in-Ok c =
    let d = c in
    let m = called (goal.at.returns-in-Ok c).In-Ok in
    let pair = ap (λ (s : List ℕ). pair_text s (take (points (goal.at.returns-in-Ok c).In-Ok) (stood_R m))) (front_S (goal.at.returns-in-Ok c).In-Ok) ∙ ap (pair_text (S m)) (front_R (goal.at.returns-in-Ok c).In-Ok) in
    let told = sym (ap (λ (r : Filled). pair_lines_by r (S m) (R m)) (made (goal.at.returns-in-Ok c).In-Ok)) in
    puts_as (pair ∙ told) c.pair_lines.ensures

pub returns-in-Err : goal.returns-in-Err
returns-in-Err c =
    let k = c in
    let m = k in
    puts_as (ap (λ (r : Filled). pair_lines_by r (S (goal.at.returns-in-Err c).After-intersection-made) (R (goal.at.returns-in-Err c).After-intersection-made)) (sym k.in-Err.is ∙ answer (goal.at.returns-in-Err c).After-intersection-made)) c.refusal_line.ensures
