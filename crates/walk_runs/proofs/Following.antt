-- A run by its round: what the tables hold for a position is what S Q does from it.
-- In order: the sums grow (`sums_grow`); a position in its round (`in_round`); the run (`rest_low`, `times_low`, `onward_low`, `followed`) and the run that
-- leads to it (`led`).
-- Assumes nothing.
use mathlib.Core.Path.{◌≡◌, sym, ap, ◌∙◌, subst}
use mathlib.Core.List.{List}
use Prim.Native.Nat.{ℕ, zero, suc, ◌+◌, ◌-◌, ◌*◌, ◌/◌, ◌%◌, ◌≤◌, ◌<◌}
use native.Mathlib.Nat.{mod-lt}
use native.Mathlib.Omega.{arith}
use native.Mathlib.Decide.{ℕ_discrete}
use lib.ListN.{length}
use lib.IntN.{ℤ}
use Rattle.matrix.specs.Words.{Q}
use Rattle.symbol.specs.Symbol.{IsSymbol}
use Rattle.coset.specs.Positions.{Real}
use Rattle.coset.proofs.Positions.{positions}
use Rattle.walk_runs.specs.Runs.{stepped, counted, round_onward, backward, between, count_after}
use Rattle.walk_runs.specs.Inner.Rounds.{round_place, position_in, sum_in, entered_in, forth_to, forth_count, RoundsListed}
use Rattle.walk_runs.specs.Inner.Rounds.{HasPlace, Located}
use Rattle.walk_runs.specs.Inner.Rounds.{InRound}
use Rattle.walk_runs.specs.Inner.Tally.{Ran, Led}
use Rattle.walk_runs.specs.declared.Stop.{Stop}
use Rattle.walk_runs.specs.declared.rounds.Arc.{Arc}
use Rattle.walk_runs.proofs.Repeated as repeated
use Rattle.walk_runs.proofs.Blocks.{block_low}
use Rattle.walk_runs.proofs.Entering.{few_places, real_low, places_low}

pub sums_grow : {v : ℕ} {t : List ℤ} {r : List ℕ} {n : ℕ} → RoundsListed v t r n → (i j : ℕ) → i ≤ j → j ≤ n → sum_in r i ≤ sum_in r j
sums_grow {r = r} l i zero h m = let e : i ≡ 0 = omega arith in omega (arith, ap (sum_in r) e)
sums_grow {r = r} l i (suc j) h m = elim (ℕ_discrete i (suc j)) [
  | yes e ↦ omega (arith, ap (sum_in r) e)
  | no e ↦ omega (arith, sums_grow l i j (omega arith) (omega arith), l.sums j (omega arith))
]

module _ {v : ℕ} {t : List ℤ} (ok : IsSymbol v t) where
  -- a position has a place among those that there are
  pub record Standing (r : List ℕ) (p : ℕ) : Type 0 where
    pub below : p < 4096
    pub some : 0 < round_place r p
    pub most : round_place r p ≤ 4090
    pub long : length r ≡ 20481

  pub standing : {r : List ℕ} (p : ℕ) → HasPlace v t r p → Real v t p → Standing r p
  standing p h real =
      let l = h.rounds.listed in
      record {
        below = omega (arith, real_low ok p real, few_places ok);
        some = h.entered;
        most = omega (arith, l.below p (real_low ok p real) h.entered, places_low ok l, few_places ok);
        long = l.long;
      }

  pub in_round : {r : List ℕ} (p : ℕ) {a : Arc} → HasPlace v t r p → Real v t p → Located r p a → InRound v t r p a.first a.end a.at
  in_round {r} p {a} h real s =
      let l = h.rounds.listed in
      let y = a.at in
      let below = l.below p (real_low ok p real) h.entered in
      let low : y < entered_in r = omega (arith, s.at_is, below, h.entered) in
      let o = h.rounds.closed y low in
      let n = places_low ok l in
      let most = few_places ok in
      record {
        sums = record {
          long = l.long;
          room = omega (arith, s.end_is, o.within, n, most);
          grow = λ i j m q. sums_grow l i j m (omega (arith, s.end_is, o.within));
          low = λ i m. omega (arith, l.low i (omega (arith, s.end_is, o.within)), s.end_is, o.within, n, most);
        };
        from = omega (arith, s.first_is, o.from);
        before = omega (arith, s.end_is, o.before);
        here = ap (position_in r) s.at_is ∙ l.back p (real_low ok p real) h.entered;
        real = λ z m. l.real z (omega (arith, s.end_is, o.within));
        round = record {
          some = omega (arith, s.first_is, s.end_is, o.from, o.before);
          next = λ z m q. o.next z (omega (arith, s.first_is)) (omega (arith, s.end_is));
          last = λ z m. o.last z (m ∙ s.end_is) ∙ ap (position_in r) (sym s.first_is);
          sums = λ z m q. l.sums z (omega (arith, s.end_is, o.within));
        };
      }

  module _ {r : List ℕ} {p a b y : ℕ} (q : InRound v t r p a b y) (k : ℕ) where
    abbrev f : ℕ → ℕ
    f = forth_to v t

    abbrev c : ℕ → ℕ
    c = forth_count v t

    -- the steps that are left after whole rounds
    pub rest_low : k % (b - a) < b - a
    rest_low = mod-lt k {m = b - a} (omega (arith, q.from, q.before))

    count_low : (z : ℕ) → a ≤ z → z < b → count_after (sum_in r) a b z k ≤ 2 * k
    count_low z l h =
        omega (arith, repeated.count_is f c q.round z l h k, repeated.counted_low f c (block_low (positions ok).polygon Q) k (position_in r z))

    -- whole rounds write no more than the run
    pub times_low : k / (b - a) * (sum_in r b - sum_in r a) ≤ 2 * k
    times_low = omega (arith, count_low y q.from q.before)

    pub onward_low : round_onward a b y (k % (b - a)) < b
    onward_low = repeated.onward_in a b y q.from q.before (k % (b - a)) rest_low

    pub followed : (s : Stop) → s.at ≡ position_in r (round_onward a b y (k % (b - a)))
        → s.count ≡ k / (b - a) * (sum_in r b - sum_in r a) + between (sum_in r) a b y (k % (b - a)) → Ran v t Q p k s
    followed s at_is count_is = record {
      at = at_is ∙ sym (repeated.place_is f c q.round y q.from q.before k) ∙ ap (stepped f k) q.here;
      count = count_is ∙ sym (repeated.count_is f c q.round y q.from q.before k) ∙ ap (counted f c k) q.here;
    }

    abbrev z : ℕ
    z = backward a b y (k % (b - a))

    pub record Behind : Type 0 where
      pub from : a ≤ backward a b y (k % (b - a))
      pub before : backward a b y (k % (b - a)) < b

    pub behind : Behind
    behind = let i = repeated.before_after a b y q.from q.before k in record { from = i.from; before = i.before }

    led_there : stepped f k (position_in r z) ≡ p
    led_there =
        let i = repeated.before_after a b y q.from q.before k in
        repeated.place_is f c q.round z i.from i.before k ∙ ap (position_in r) i.again ∙ q.here

    pub led : (s : Stop) → s.at ≡ position_in r z
        → s.count ≡ k / (b - a) * (sum_in r b - sum_in r a) + between (sum_in r) a b z (k % (b - a)) → Led v t p k s
    led s at_is count_is =
        let i = repeated.before_after a b y q.from q.before k in
        record {
          real = subst (Real v t) (sym at_is) (q.real z i.before);
          at = ap (stepped f k) at_is ∙ led_there;
          count = count_is ∙ sym (repeated.count_is f c q.round z i.from i.before k) ∙ ap (counted f c k) (sym at_is);
        }
