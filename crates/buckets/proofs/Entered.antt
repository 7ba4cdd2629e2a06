-- A pair joins the list, if it is new: what `enter` asks of `find` and `push`, and what is then held (`entered_old`, `entered_new`).
-- Why: a pair that was found is in the list already; one that wasn't gets the place behind the last.
-- Assumes nothing.
use mathlib.Core.Path.{◌≡◌, refl, sym, ◌∙◌}
use mathlib.Core.List.{List}
use Prim.Native.Nat.{ℕ, ◌+◌, ◌*◌, ◌≤◌, ◌<◌}
use native.Mathlib.Omega.{arith}
use lib.ListN.{length}
use Rattle.numbering.specs.Find.{find}
use Rattle.numbering.proofs.Find.{find_last}
use Rattle.numbering.proofs.Order.{add_old, add_new}
use Rattle.buckets.specs.Inner.Pairs.{buckets, bucket_of, SeekPair, PairFound, with_pair, PushPair, EnterPair, PairEntered}
use Rattle.buckets.proofs.Chain.{pushed_length, pushed_below, pushed_above, pushed_holds}

module _ {m : ℕ} {w : List ℕ} {x y count b : ℕ} (a : EnterPair m w x y count) (is : b ≡ bucket_of m x y) (low : b < buckets) where
  pub seeks : SeekPair (bucket_of m) w b x y count
  seeks = record { is = is; low = low; some = a.some }

  pub pushes : PushPair w b count
  pushes = record { long = a.some.holds.long; low = low; room = a.fits }

  pub entered_old : {p : ℕ} → PairFound (bucket_of m) w x y count p → p < count → PairEntered (bucket_of m) w x y count w p count
  entered_old {p} found i = record {
    same = refl;
    upto = omega arith;
    inside = i;
    below = λ j h. refl;
    above = λ j h. refl;
    holds = λ k l c h. let e = found k l c h in rw (add_old l (x * k + y) (omega (arith, h.size))) h;
    place_is = λ k l c h. let e = found k l c h in rw (add_old l (x * k + y) (omega (arith, h.size))) e;
  }

  pub entered_new : {p : ℕ} → PairFound (bucket_of m) w x y count p → count ≤ p → {w' : List ℕ} → w' ≡ with_pair w b x y count
      → PairEntered (bucket_of m) w x y count w' count (count + 1)
  entered_new {p} found i pushed =
      let long = a.some.holds.long in
      rw pushed (record {
        same = pushed_length w b x y count long low a.fits;
        upto = omega arith;
        inside = omega arith;
        below = pushed_below w b x y count long low a.fits;
        above = pushed_above w b x y count long low a.fits;
        holds = λ k l c h.
            let e = found k l c h in
            let new : length l ≤ find l (x * k + y) = omega (arith, h.size) in
            rw (add_new l (x * k + y) new) (pushed_holds w b x y count long low a.fits (bucket_of m) is k l c h new);
        place_is = λ k l c h.
            let e = found k l c h in
            let new : length l ≤ find l (x * k + y) = omega (arith, h.size) in
            rw (add_new l (x * k + y) new) (sym (find_last l (x * k + y) new ∙ h.size));
      })
