-- The walk along blocks: S and a power of Q, k times, is one map repeated.
-- In order: words of blocks (`blocks_end`, `blocks_count`); positions stay real (`stepped_real`), and a block writes two letters at most (`block_low`); from
-- the state behind a run it is the same walk (`run_ahead`).
-- Why: k blocks take k times one row from the other, which leaves at least k less, so no more than two letters for each are left.
-- Assumes nothing.
use mathlib.Core.Path.{◌≡◌, refl, sym, ap, ◌∙◌, subst}
use mathlib.Core.Bool.{Bool, not}
use mathlib.Core.List.{List, ◌++◌}
use Prim.Native.Nat.{ℕ, zero, suc, ◌+◌, ◌*◌, ◌^◌, ◌≤◌, ◌<◌}
use native.Mathlib.Omega.{arith}
use lib.ListN.{length, length-append}
use lib.IntN.{ℤ}
use Rattle.matrix.specs.Words.{Letter, S, Q, P}
use Rattle.matrix.specs.Euclid.{Form, total, tail_of}
use Rattle.basics.specs.Choice.{pick}
use Rattle.matrix.proofs.Form.{Unimodular}
use Rattle.coset.specs.Positions.{Real, step_s, written, goes, ends, writes, Polygon}
use Rattle.walk.specs.Inner.Way.{form_of, rest_of, row_taken, Taken, Sound}
use Rattle.walk.specs.declared.Way.{Way}
use Rattle.walk_runs.specs.Runs.{stepped, counted, blocks, block_to, block_count}
use Rattle.walk_runs.specs.Inner.Tally.{Ran, row_sum, RunTakes, Ahead}
use Rattle.walk_runs.specs.declared.Stop.{Stop}
use Rattle.walk_runs.proofs.Repeated.{counted_low}
use Rattle.walk_runs.proofs.Quotients.{some_row, taken_total, Run, runs}

module _ (v : ℕ) (t : List ℤ) where
  pub blocks_end : (y : Letter) (k x : ℕ) (l : List Letter) → ends v t x (blocks y k ++ l) ≡ ends v t (stepped (block_to v t y) k x) l
  unfolding block_to
  blocks_end y zero x l = refl
  blocks_end y (suc k) x l = blocks_end y k (block_to v t y x) l

  pub blocks_count : (y : Letter) (k x : ℕ) (l : List Letter)
      → length (writes v t x (blocks y k ++ l))
      ≡ counted (block_to v t y) (block_count v t y) k x + length (writes v t (stepped (block_to v t y) k x) l)
  unfolding block_to block_count
  blocks_count y zero x l = omega arith
  blocks_count y (suc k) x l =
      let q = step_s v t x in
      let rest = writes v t (goes v t y q) (blocks y k ++ l) in
      omega (arith, length-append (written v t S x) (written v t y q ++ rest), length-append (written v t y q) rest, blocks_count y k (block_to v t y x) l)

module _ {v : ℕ} {t : List ℤ} (g : Polygon v t) where
  pub block_real : (y : Letter) (x : ℕ) → Real v t x → Real v t (block_to v t y x)
  unfolding block_to
  block_real y x r = g.closed y (step_s v t x) (g.closed S x r)

  pub block_low : (y : Letter) (x : ℕ) → block_count v t y x ≤ 2
  unfolding block_count
  block_low y x = omega (arith, g.short S x, g.short y (step_s v t x))

  pub stepped_real : (y : Letter) (k x : ℕ) → Real v t x → Real v t (stepped (block_to v t y) k x)
  stepped_real y zero x r = r
  stepped_real y (suc k) x r = stepped_real y k (block_to v t y x) (block_real y x r)

  -- a run of k blocks from the state a, with the rest h of its form
  module _ (y : Letter) (k : ℕ) (a b : Way) (h : Form) (o : Sound v t (2 ^ 63) a) (r : Run y k (form_of a) h) (less : total h + k ≤ total (form_of a)) (s : Stop)
      (ran : Ran v t y a.at k s) (form_is : form_of b ≡ h) (at_is : b.at ≡ s.at) (count_is : b.count ≡ a.count + s.count) where
    abbrev left : List Letter
    left = tail_of (total h) h

    there : b.at ≡ stepped (block_to v t y) k a.at
    there = at_is ∙ ran.at

    rest_is : rest_of b ≡ left
    unfolding rest_of
    rest_is = ap (λ (f : Form). tail_of (total f) f) form_is

    word_is : rest_of a ≡ blocks y k ++ left
    unfolding rest_of
    word_is = r.word

    ahead : Ahead v t a b
    ahead = record {
      sound = record {
        real = subst (Real v t) (sym there) (stepped_real y k a.at o.real);
        apart = subst Unimodular (sym form_is) r.apart;
        few = omega (arith, o.few, ap total form_is, less, count_is, ran.count, counted_low (block_to v t y) (block_count v t y) (block_low y) k a.at);
      };
      ends_at = ap (λ (p : ℕ). ends v t p (rest_of b)) there ∙ ap (ends v t (stepped (block_to v t y) k a.at)) rest_is
          ∙ sym (blocks_end v t y k a.at left) ∙ ap (ends v t a.at) (sym word_is);
      count = omega (
        arith,
        count_is,
        ran.count,
        ap (λ (p : ℕ). length (writes v t p (rest_of b))) there,
        ap (λ (l : List Letter). length (writes v t (stepped (block_to v t y) k a.at) l)) rest_is,
        blocks_count v t y k a.at left,
        ap (λ (l : List Letter). length (writes v t a.at l)) word_is,
      );
    }

  at_least : (k b : ℕ) → 0 < b → k ≤ k * b
  at_least zero b h = omega arith
  at_least (suc k) b h = omega (arith, at_least k b h)

  -- the state behind it, as the code makes it
  pub run_ahead : (inverse : Bool) (k : ℕ) (a b : Way) (s : Stop) → Sound v t (2 ^ 63) a → RunTakes inverse k (form_of a)
      → Ran v t (pick inverse P Q) a.at k s
      → Taken inverse k (record { p = a.p; q = a.q; r = a.r; s = a.s; at = s.at; count = a.count + s.count; sign = a.sign }) b
      → Ahead v t a b × (total (form_of b) < total (form_of a))
  run_ahead inverse k a b s o n ran m =
      let f = form_of a in
      let u = runs inverse k f o.apart n.leaves in
      let less : total (row_taken inverse k f) + k ≤ total f =
      omega (arith, taken_total k f inverse u.takes, at_least k (row_sum (not inverse) f) (some_row (not inverse) f o.apart)) in (
        ahead (pick inverse P Q) k a b (row_taken inverse k f) o u.run less s ran m.rows m.at m.count,
        omega (arith, ap total m.rows, less, n.some),
      )
