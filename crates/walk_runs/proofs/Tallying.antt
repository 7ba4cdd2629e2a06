-- The walk run by run: what is left to walk, behind what is walked, stays the same.
-- In order: block by block (`stepping_none`, `stepping_more`, `stepping_low`, `stepping_end`); a run of S P by one backward (`back_ran`); the next run
-- (`next_is`, `run_low`); ways put together (`ahead_none`, `ahead_more`); the whole walk (`tallied`, `kept`); no round yet (`no_rounds`,
-- `fresh_rounds`).
-- Assumes nothing.
use mathlib.Core.Path.{◌≡◌, refl, sym, ap, ◌∙◌, subst}
use mathlib.Core.Bool.{Bool, true, false, not}
use mathlib.Core.List.{List}
use Prim.Native.Nat.{ℕ, zero, suc, ◌+◌, ◌-◌, ◌*◌, ◌/◌, ◌^◌, ◌≤◌, ◌<◌}
use native.Mathlib.Omega.{arith}
use native.Mathlib.Decide.{dec_lt}
use lib.ListN.{length, get_or, replicate, length-replicate}
use lib.IntN.{ℤ}
use lib.Dec.{ltb}
use borrow.Author.Tests.{ltb-true, ltb-false, eq-eqb}
use Rattle.basics.specs.Choice.{pick}
use Rattle.basics.specs.Count.{count}
use Rattle.basics.proofs.Count.{count_eq}
use Rattle.matrix.specs.Matrix.{Mat}
use Rattle.matrix.specs.Words.{Letter, S, Q, P}
use Rattle.matrix.specs.Euclid.{Form, total}
use Rattle.matrix.proofs.Form.{Unimodular}
use Rattle.symbol.specs.Symbol.{IsSymbol}
use Rattle.polygon.specs.Cut.{places}
use Rattle.coset.specs.Positions.{Real, step_s, written, writes}
use Rattle.coset.proofs.Positions.{positions}
use Rattle.walk.specs.Inner.Way.{form_of, proper_of, Onward, Sound, Begun, Ended}
use Rattle.walk.specs.declared.Way.{Way}
use Rattle.walk.proofs.Forms.{properly}
use Rattle.walk.proofs.Stored.{stored_none}
use Rattle.walk_runs.specs.Runs.{stepped, counted, run_length, block_to, block_count}
use Rattle.walk_runs.specs.Inner.Rounds.{round_place, rounds_length, is_placeless, Rounds}
use Rattle.walk_runs.specs.Inner.Tally.{Ran, Stepping, Led, OneProper, row_sum, RunTakes, NextRun, Entrance, Ahead, WalkTallied}
use Rattle.walk_runs.specs.declared.Stop.{Stop}
use Rattle.walk_runs.proofs.Repeated.{counted_low}
use Rattle.walk_runs.proofs.Quotients.{some_row, both_rows, takes, differ}
use Rattle.walk_runs.proofs.Blocks.{block_real, block_low}
use Rattle.walk_runs.proofs.Backward.{last_step, last_count, lower_run}

-- ---- block by block

module _ {v : ℕ} {t : List ℤ} (ok : IsSymbol v t) where
  pub stepping_none : (y : Letter) (p k : ℕ) → Real v t p → Stepping v t y p k 0 p 0
  stepping_none y p k r = record { real = r; so_far = omega arith; at = refl; count = refl }

  pub stepping_more : {y : Letter} {p k i q n : ℕ} (to more : ℕ) → i < k → to ≡ block_to v t y q → more ≡ block_count v t y q → Stepping v t y p k i q n
      → Stepping v t y p k (i + 1) to (n + more)
  stepping_more {y} {p} {k} {i} {q} {n} to more h to_is more_is s =
      let f = block_to v t y in
      let c = block_count v t y in
      let e : suc i ≡ i + 1 = omega arith in
      record {
        real = subst (Real v t) (sym to_is) (block_real (positions ok).polygon y q s.real);
        so_far = omega arith;
        at = to_is ∙ ap f s.at ∙ sym (last_step f c i p) ∙ ap (λ (j : ℕ). stepped f j p) e;
        count = omega (arith, s.count, more_is, ap c s.at, last_count f c i p, ap (λ (j : ℕ). counted f c j p) e);
      }

  pub stepping_low : {y : Letter} {p k i q n : ℕ} → Stepping v t y p k i q n → n ≤ 2 * i
  stepping_low {y} {p} {k} {i} s = omega (arith, s.count, counted_low (block_to v t y) (block_count v t y) (block_low (positions ok).polygon y) i p)

  pub stepping_end : {y : Letter} {p k i q n : ℕ} (s : Stop) → k ≤ i → s.at ≡ q → s.count ≡ n → Stepping v t y p k i q n → Ran v t y p k s
  stepping_end {y} {p} {k} {i} s h at_is count_is g =
      let f = block_to v t y in
      let c = block_count v t y in
      let e : i ≡ k = omega (arith, g.so_far) in
      record {
        at = at_is ∙ g.at ∙ ap (λ (j : ℕ). stepped f j p) e;
        count = count_is ∙ g.count ∙ ap (λ (j : ℕ). counted f c j p) e;
      }

  pub ran_low : (y : Letter) (p k : ℕ) (s : Stop) → Ran v t y p k s → s.count ≤ 2 * k
  ran_low y p k s r = omega (arith, r.count, counted_low (block_to v t y) (block_count v t y) (block_low (positions ok).polygon y) k p)

  -- ---- a run of S P by one backward

  pub entered_by_S : {p u : ℕ} {inverse : Bool} → inverse ≡ true → Real v t p → u ≡ step_s v t p → Entrance v t p inverse u
  entered_by_S {p} e r i = rw e (record { real = rw i ((positions ok).polygon.closed S p r); is = i })

  pub entered_at : {p : ℕ} {inverse : Bool} → inverse ≡ false → Real v t p → Entrance v t p inverse p
  entered_at e r = rw e (record { real = r; is = refl })

  pub entered_here : {p u : ℕ} {inverse : Bool} → inverse ≡ false → Entrance v t p inverse u → u ≡ p
  entered_here {p} e i = i.is ∙ ap (λ (b : Bool). pick b (step_s v t p) p) e

  pub led_low : (u k : ℕ) (s : Stop) → Led v t u k s → s.count ≤ 2 * k
  led_low u k s l = omega (arith, l.count, counted_low (block_to v t Q) (block_count v t Q) (block_low (positions ok).polygon Q) k s.at)

  module _ (p u k : ℕ) (s : Stop) (u_is : u ≡ step_s v t p) (l : Led v t u k s) (x y : ℕ) (x_is : x ≡ length (written v t S p))
      (y_is : y ≡ length (written v t S s.at)) where
    pub back_enough : y ≤ x + s.count
    back_enough = let i = lower_run v t ok k p s.at (l.at ∙ u_is) in omega (arith, i.count, l.count, x_is, y_is)

    pub back_ran : (b : Stop) → b.at ≡ step_s v t s.at → b.count ≡ x + s.count - y → Ran v t P p k b
    back_ran b at_is count_is =
        let i = lower_run v t ok k p s.at (l.at ∙ u_is) in
        record { at = at_is ∙ sym i.at; count = omega (arith, count_is, i.count, l.count, x_is, y_is) }

-- ---- the next run

-- the quotient of the larger row's sum, less one, by that of the other
pub next_is : (b : Bool) (f : Form) → OneProper f → ltb (f.p + f.q) (f.r + f.t) ≡ b → NextRun f ((row_sum b f - 1) / row_sum (not b) f)
unfolding run_length
next_is b f o e =
    let d = takes (row_sum b f) (row_sum (not b) f) (some_row b f o.apart) (some_row (not b) f o.apart) in
    rw e (record { some = d.some (larger b e); leaves = d.leaves })
  where
    larger : (b : Bool) → ltb (f.p + f.q) (f.r + f.t) ≡ b → row_sum (not b) f < row_sum b f
    larger true e = ltb-true (f.p + f.q) (f.r + f.t) e
    larger false e = differ f o.apart (properly f o.proper) (ltb-false (f.p + f.q) (f.r + f.t) e)

pub run_few : (k a b : ℕ) → 0 < b → k * b < a → k < a
run_few k zero b h l = absurd (omega arith)
run_few k (suc a) b h l = elim (dec_lt k (suc a)) [ yes z ↦ z | no z ↦ absurd (omega (arith, more k b h)) ]
  where
    more : (k b : ℕ) → 0 < b → k ≤ k * b
    more zero b h = omega arith
    more (suc k) b h = omega (arith, more k b h)

-- a run has no more blocks than there is left
pub run_low : (inverse : Bool) (f : Form) (k : ℕ) → Unimodular f → RunTakes inverse k f → k ≤ total f
run_low b f k u n = omega (arith, run_few k (row_sum b f) (row_sum (not b) f) (some_row (not b) f u) n.leaves, both_rows b f)

pub one_proper : {v : ℕ} {t : List ℤ} {a : Way} → Sound v t (2 ^ 63) a → proper_of (form_of a) ≡ true → OneProper (form_of a)
one_proper o h = record { apart = o.apart; proper = h; low = omega (arith, o.few) }

-- ---- ways put together

module _ {v : ℕ} {t : List ℤ} where
  pub ahead_none : {a : Way} → Sound v t (2 ^ 63) a → Ahead v t a a
  ahead_none o = record { sound = o; ends_at = refl; count = refl }

  pub ahead_more : {a b c : Way} → Ahead v t a b → Ahead v t b c → Ahead v t a c
  ahead_more g h = record { sound = h.sound; ends_at = h.ends_at ∙ g.ends_at; count = h.count ∙ g.count }

  -- ---- the whole walk

  pub tallied : {start : ℕ} {m : Mat} {x : ℕ} {a b c : Way} {out out1 out2 : List ℤ} (s : Stop) → Begun v t start 0 m x out a out1 → Ahead v t a b
      → Ended v t start 0 b out1 c out2 → s.at ≡ c.at → s.count ≡ c.count → WalkTallied v t m x s
  tallied s g h e at_is count_is = record {
    at = at_is ∙ e.onward.ends_at ∙ h.ends_at ∙ g.onward.ends_at;
    count = omega (arith, count_is, e.onward.count, h.count, g.onward.count);
  }

-- nothing is stored below the limit 0
pub kept : {v : ℕ} {t : List ℤ} {start : ℕ} {l m : List Letter} {x n y k : ℕ} {out out' : List ℤ} → Onward v t start 0 l x n out m y k out' → out' ≡ out
kept {v} {t} {start} {l} {m} {x} {n} {y} {k} {out} {out'} o =
    sym (stored_none start (writes v t y m) k out') ∙ o.left ∙ stored_none start (writes v t x l) n out

-- ---- no round yet

pub no_rounds : (v : ℕ) (t : List ℤ) (r : List ℕ) → length r ≡ rounds_length → ((j : ℕ) → get_or r j 0 ≡ 0) → Rounds v t r
no_rounds v t r long none =
    let e = none 20480 in
    record {
      listed = record {
        long = long;
        real = λ y b. absurd (omega (arith, e));
        place = λ y b. absurd (omega (arith, e));
        below = λ p b c. absurd (omega (arith, none p));
        back = λ p b c. absurd (omega (arith, none p));
        sums = λ y b. absurd (omega (arith, e));
        low = λ y b. omega (arith, none (16384 + y));
        few = omega (arith, e, all (places v));
      };
      closed = λ y b. absurd (omega (arith, e));
    }
  where
    all : (n : ℕ) → count (is_placeless r) n ≡ n
    all n = count_eq (is_placeless r) (λ (i : ℕ). true) n (λ i b. eq-eqb (round_place r i) 0 (none i)) ∙ every n
      where
        every : (n : ℕ) → count (λ (i : ℕ). true) n ≡ n
        every zero = refl
        every (suc n) = omega (arith, every n)

zero_at : (n j : ℕ) → ◌≡◌ {A = ℕ} (get_or (replicate n 0) j 0) 0
zero_at zero j = refl
zero_at (suc n) zero = refl
zero_at (suc n) (suc j) = zero_at n j

pub fresh_rounds : (v : ℕ) (t : List ℤ) (n : ℕ) → n ≡ rounds_length → Rounds v t (replicate n 0)
fresh_rounds v t n e = no_rounds v t (replicate n 0) (length-replicate n 0 ∙ e) (zero_at n)
