-- For upper crates: from the maps f and g that they put into SIGMA and RHO to what `tables` asks, and back.
-- In order: what `tables` asks (`filled_images`); what it leaves, told of f and g (`filled_tables`); how many numbers there are
-- (`order_count`).
-- Assumes nothing.
use mathlib.Core.Path.{◌≡◌, ◌∙◌}
use mathlib.Core.Bool.{Bool, true}
use mathlib.Core.List.{List}
use Prim.Native.Nat.{ℕ, ◌<◌}
use native.Mathlib.Omega.{arith}
use lib.ListN.{length}
use Rattle.numbering.specs.Order.{order_of, Maps, Reached}
use Rattle.numbering.specs.Table.{image_at, ◌then◌}
use Rattle.basics.specs.Count.{those}
use Rattle.numbering.specs.Inner.Space.{SIGMA, RHO}
use Rattle.call.specs.Space.{entries}
use Rattle.numbering.specs.Inner.Marks.{Images, order_in, TablesLeft, MapsFilled, TablesOf}
use Rattle.numbering.proofs.Find.{once_le}
use Rattle.numbering.proofs.Order.{numbering, order_ext}
use Rattle.numbering.proofs.Table.{renamed_ext}
use Rattle.numbering.proofs.Those.{those_once, those_low, those_true, those_in}
use Rattle.numbering.proofs.Space.{entries_at}

module _ {f g : ℕ → ℕ} {start size : ℕ} (maps : Maps f g start size) where
  abbrev order : List ℕ
  order = order_of f g start size

  module _ {w : List ℕ} (p : MapsFilled f g size w) where
    σ_at : (x : ℕ) → x < size → image_at (entries SIGMA size w) x ≡ f x
    σ_at x h = entries_at SIGMA size w x h ∙ p.σ_is x h

    ρ_at : (x : ℕ) → x < size → image_at (entries RHO size w) x ≡ g x
    ρ_at x h = entries_at RHO size w x h ∙ p.ρ_is x h

    pub filled_images : Images start size w
    filled_images = record {
      long = p.long;
      room = p.room;
      maps = record {
        start_low = maps.start_low;
        σ_low = λ x h. rw (σ_at x h) (maps.σ_low x h);
        ρ_low = λ x h. rw (ρ_at x h) (maps.ρ_low x h);
      };
    }

    order_is : order_in start size w ≡ order
    order_is = order_ext f g (image_at (entries SIGMA size w)) (image_at (entries RHO size w)) start size maps σ_at ρ_at

    pub filled_tables : {w' : List ℕ} {n : ℕ} → TablesLeft start size w w' n → TablesOf f g start size n w'
    filled_tables {w'} {n} t =
        let o = numbering f g start size maps in
        let σ = image_at (entries SIGMA size w) in
        let ρ = image_at (entries RHO size w) in
        let u = t.tables in
        record {
          marks = u.marks;
          count = rw order_is at u.count;
          list = rw order_is at u.list;
          S_is = rw order_is at u.S_is ∙ renamed_ext order f σ (λ x h. σ_at x (o.low x h));
          R_is = rw order_is at u.R_is ∙ renamed_ext order g ρ (λ x h. ρ_at x (o.low x h));
          T_is = rw order_is at u.T_is ∙ renamed_ext order (f then g) (σ then ρ) (λ x h. rw (σ_at x (o.low x h)) (ρ_at (f x) (maps.σ_low x (o.low x h))));
        }

  -- where the start reaches each real point and no other, there are as many numbers as real points
  pub order_count : (real : ℕ → Bool) → ((x : ℕ) → Reached f g start x → real x ≡ true) → ((x : ℕ) → x < size → real x ≡ true → Reached f g start x)
      → length order ≡ length (those real size)
  order_count real a b =
      let o = numbering f g start size maps in
      omega (
        arith,
        once_le order (those real size) o.once (λ x h. those_in real size x (o.low x h) (a x (o.only x h))),
        once_le (those real size) order (those_once real size) (λ x h. o.all x (b x (those_low real size x h) (those_true real size x h))),
      )
