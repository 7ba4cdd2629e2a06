-- Laws of the sparse set that NUMBER and ORDER hold, and of the code that lists points in it: what is listed; `has`; `push` and `enter`; `visit`; the loop of
-- `number`. Assumes nothing.
use mathlib.Core.Path.{◌≡◌, refl, sym, ap, ◌∙◌}
use mathlib.Core.Logic.{◌≢◌, inl, inr}
use mathlib.Core.Bool.{false}
use mathlib.Core.List.{List, [], ◌∷◌, ◌++◌}
use Prim.Native.Nat.{ℕ, ◌+◌, ◌≤◌, ◌<◌}
use native.Mathlib.Numerals.{add-one}
use native.Mathlib.Omega.{arith}
use native.Mathlib.Decide.{dec_lt, ℕ_discrete}
use lib.ListN.{length, get_or, set, length-set, length-append}
use lib.Seq.{get_or-set_same, get_or-set_other}
use lib.Dec.{eqb}
use borrow.Author.Tests.{lt-ltb, le-ltb, eq-eqb, ne_eqb}
use borrow.Author.Count.{below_more}
use Rattle.numbering.specs.Find.{find, ◌∈◌, ◌∉◌, is_in, Once}
use Rattle.numbering.specs.Order.{add, visit, order_to}
use Rattle.numbering.specs.Table.{image_at}
use Rattle.numbering.specs.Inner.Space.{WORK, SIGMA, RHO, NUMBER, ORDER, R_TABLE, ChangedWithin}
use Rattle.call.specs.Space.{entries}
use Rattle.numbering.specs.Inner.Marks.{listed, Sparse, NowListed, Fresh, Visit, Images, order_in}
use Rattle.numbering.proofs.Find.{none_below_lem, get_d_find, get_d_in, in_all, once_last, once_below, all_last}
use Rattle.numbering.proofs.Order.{add_old, add_new, visit_grows, to_more, order_stop}
use Rattle.numbering.proofs.Space.{entries_length, entries_at, entries_push, entries_set, within_refl, within_trans, within_set, within_entries}

-- a work space of the same length has room too
pub still : {m n : ℕ} → n ≡ m → WORK ≤ m → WORK ≤ n
still e h = omega arith

-- ---- what is listed
module _ {size n : ℕ} {w : List ℕ} (g : Sparse size n w) where
  pub listed_length : length (listed n w) ≡ n
  listed_length = entries_length ORDER n w (omega arith)

  at_listed : (j : ℕ) → j < n → get_or w (ORDER + j) 0 ≡ get_or (listed n w) j 0
  at_listed j h = sym (entries_at ORDER n w j h)

  -- NUMBER knows each listed point
  listed_old : (x k : ℕ) → k < n → get_or w (ORDER + k) 0 ≡ x → x ∈ listed n w
  listed_old x k h e = let l = listed_length in rw (sym (at_listed k h) ∙ e) at (get_d_in (listed n w) k (omega arith))

  pub listed_number : (x : ℕ) → x ∈ listed n w → get_or w (NUMBER + x) 0 ≡ find (listed n w) x
  listed_number x i =
      let l = listed_length in
      let j = find (listed n w) x in
      let e = at_listed j (omega arith) ∙ get_d_find (listed n w) x i in
      rw e at (g.number j (omega arith))

  pub listed_low : (x : ℕ) → x ∈ listed n w → x < size
  listed_low = let l = listed_length in in_all (λ (x : ℕ). x < size) (listed n w) (λ j h. rw (at_listed j (omega arith)) at (g.low j (omega arith)))

  pub listed_once : Once (listed n w)
  listed_once = record {
    place = λ j h.
        let l = listed_length in
        let x = get_or (listed n w) j 0 in
        sym (listed_number x (get_d_in (listed n w) j h)) ∙ (rw (at_listed j (omega arith)) at (g.number j (omega arith)));
  }

  listed_new : (x : ℕ) → (get_or w (NUMBER + x) 0 < n → get_or w (ORDER + get_or w (NUMBER + x) 0) 0 ≢ x) → x ∉ listed n w
  listed_new x h = elim (dec_lt (find (listed n w) x) (length (listed n w))) [
    | yes i ↦
        let l = listed_length in
        let e = listed_number x i in
        absurd (h (omega arith) (rw e (at_listed (find (listed n w) x) (omega arith) ∙ get_d_find (listed n w) x i)))
    | no i ↦ omega arith
  ]

  -- ---- `has`: the test of the sparse set is the test of `add`
  pub has_no : (x : ℕ) → n ≤ get_or w (NUMBER + x) 0 → false ≡ is_in (listed n w) x
  has_no x h = sym (le-ltb _ _ (listed_new x (λ k e. omega arith)))

  pub has_by : (x : ℕ) → get_or w (NUMBER + x) 0 < n → eqb (get_or w (ORDER + get_or w (NUMBER + x) 0) 0) x ≡ is_in (listed n w) x
  has_by x h =
      let k = get_or w (NUMBER + x) 0 in
      elim (ℕ_discrete (get_or w (ORDER + k) 0) x) [
        | yes e ↦ eq-eqb (get_or w (ORDER + k) 0) x e ∙ sym (lt-ltb _ _ (listed_old x k h e))
        | no e ↦ ne_eqb (get_or w (ORDER + k) 0) x e ∙ sym (le-ltb _ _ (listed_new x (λ i. e)))
      ]

  -- ---- `enter`
  pub enter_old : (x : ℕ) → x ∈ listed n w → NowListed size w w (add (listed n w) x) n
  enter_old x i = record { sparse = g; frame = within_refl NUMBER R_TABLE w; list = sym (add_old (listed n w) x i) }

  pub enter_new : (x : ℕ) → x ∉ listed n w → {w' : List ℕ} {r : ℕ} → NowListed size w w' (listed n w ++ (x ∷ [])) r → NowListed size w w' (add (listed n w) x) r
  enter_new x i p = record { sparse = p.sparse; frame = p.frame; list = p.list ∙ sym (add_new (listed n w) x i) }

-- ---- `push`
module _ {size n x : ℕ} {w : List ℕ} (f : Fresh size n x w) where
  -- a new point leaves room for it, by the pigeonhole
  pub push_room : n + 1 ≤ size
  push_room =
      let l = listed n w in
      let e = listed_length f.sparse in
      omega (
        arith,
        once_below (l ++ (x ∷ [])) size (once_last l x (listed_once f.sparse) f.new)
            (all_last (λ (y : ℕ). y < size) l x (listed_low f.sparse) f.low),
        length-append l (x ∷ []),
      )

  pub pushed : NowListed size w (set (set w (NUMBER + x) n) (ORDER + n) x) (listed n w ++ (x ∷ [])) (n + 1)
  pushed =
      let g = f.sparse in
      let r = push_room in
      let low = f.low in
      let w1 = set w (NUMBER + x) n in
      let w2 = set w1 (ORDER + n) x in
      let long1 : WORK ≤ length w1 = still (length-set w (NUMBER + x) n) g.long in
      let new = get_or-set_same w1 (ORDER + n) x 0 (omega arith) in
      let old : (j : ℕ) → j < n → get_or w2 (ORDER + j) 0 ≡ get_or w (ORDER + j) 0 = λ j k.
      get_or-set_other w1 (ORDER + n) (ORDER + j) x 0 (λ e. omega arith) ∙ get_or-set_other w (NUMBER + x) (ORDER + j) n 0 (λ e. omega arith) in
      record {
        sparse = record {
          long = still (length-set w1 (ORDER + n) x) long1;
          room = g.room;
          few = r;
          low = below_more _ n (λ j k. rw (old j k) (g.low j k)) (rw new low);
          number = below_more _ n
              (λ j k.
              let y = get_or w (ORDER + j) 0 in
              let ly = g.low j k in
              let ne : y ≢ x = λ e. let i = listed_old g x j k e in omega (arith, f.new) in
              rw (old j k) (get_or-set_other w1 (ORDER + n) (NUMBER + y) x 0 (λ e. omega arith)
              ∙ get_or-set_other w (NUMBER + x) (NUMBER + y) n 0 (λ e. ne (omega arith)) ∙ g.number j k))
              (rw new (get_or-set_other w1 (ORDER + n) (NUMBER + x) x 0 (λ e. omega arith) ∙ get_or-set_same w (NUMBER + x) n 0 (omega arith)));
        };
        frame = within_set (ORDER + n) x (within_set (NUMBER + x) n (within_refl NUMBER R_TABLE w) (omega arith) (omega arith)) (omega arith) (omega arith);
        list = entries_push ORDER n w1 x (omega arith)
            ∙ ap (λ (l : List ℕ). l ++ (x ∷ [])) (entries_set ORDER n w (NUMBER + x) n (omega arith) (inr (omega arith)));
      }

-- a store below the two tables
pub sparse_set : {size n : ℕ} {w : List ℕ} (i x : ℕ) → Sparse size n w → i < NUMBER → Sparse size n (set w i x)
sparse_set {size} {n} {w} i x g h =
    let kept : (k : ℕ) → NUMBER ≤ k → get_or (set w i x) k 0 ≡ get_or w k 0 = λ k l. get_or-set_other w i k x 0 (λ e. omega arith) in
    record {
      long = still (length-set w i x) g.long;
      room = g.room;
      few = g.few;
      low = λ j l. rw (kept (ORDER + j) (omega arith)) (g.low j l);
      number = λ j l. rw (kept (ORDER + j) (omega arith), kept (NUMBER + get_or w (ORDER + j) 0) (omega arith)) (g.number j l);
    }

-- ---- `visit`: two points in a row; the images are read before the first is entered
pub marked_then : {size k r : ℕ} {a b c l : List ℕ} (y : ℕ) → NowListed size a b l k → NowListed size b c (add (listed k b) y) r
    → NowListed size a c (add l y) r
marked_then y p q = record { sparse = q.sparse; frame = within_trans p.frame q.frame; list = q.list ∙ ap (λ (l : List ℕ). add l y) p.list }

module _ {size n i : ℕ} {w : List ℕ} (v : Visit size n i w) where
  pub visit_low : {x : ℕ} → x ≡ get_or w (ORDER + i) 0 → x < size
  visit_low ex = rw ex (v.sparse.low i v.low)

  -- the image in the table at off of the point with the number i
  pub visit_image : (off : ℕ) {x y : ℕ} → x ≡ get_or w (ORDER + i) 0 → y ≡ get_or w (off + x) 0 → y ≡ image_at (entries off size w) (get_or (listed n w) i 0)
  visit_image off {x} {y} ex ey = ey ∙ sym (entries_at off size w x (visit_low ex)) ∙ ap (image_at (entries off size w)) (ex ∙ at_listed v.sparse i v.low)

  visit_point : get_or (listed n w) i 0 < size
  visit_point = rw (at_listed v.sparse i v.low) at (visit_low refl)

  pub visit_σ_low : {x y : ℕ} → x ≡ get_or w (ORDER + i) 0 → y ≡ get_or w (SIGMA + x) 0 → y < size
  visit_σ_low ex ey = rw (visit_image SIGMA ex ey) (v.σ_low _ visit_point)

  pub visit_ρ_low : {x y : ℕ} → x ≡ get_or w (ORDER + i) 0 → y ≡ get_or w (RHO + x) 0 → y < size
  visit_ρ_low ex ey = rw (visit_image RHO ex ey) (v.ρ_low _ visit_point)

-- ---- `number`
-- the tables of images lie below what the numbering changes
pub image_kept : (off size : ℕ) {a b : List ℕ} → ChangedWithin NUMBER R_TABLE a b → off + size ≤ NUMBER → WORK ≤ length a → entries off size b
    ≡ entries off size a
image_kept off size f h long = within_entries f off size (inl h) (omega arith) (omega arith)

images_kept : {start size : ℕ} {a b : List ℕ} → ChangedWithin NUMBER R_TABLE a b → Images start size a → Images start size b
images_kept {start} {size} {a} {b} f p = record {
  long = still f.same p.long;
  room = p.room;
  maps = rw (image_kept SIGMA size f (omega (arith, p.room)) p.long, image_kept RHO size f (omega (arith, p.room)) p.long) p.maps;
}

pub number_fresh : {start size : ℕ} {w : List ℕ} → Images start size w → Fresh size 0 start w
number_fresh p = record {
  sparse = record { long = p.long; room = p.room; few = omega arith; low = λ j h. none_below_lem h; number = λ j h. none_below_lem h };
  low = p.maps.start_low;
  new = omega arith;
}

-- the loop: i points have been visited
pub record Part (start size : ℕ) (w₀ w : List ℕ) (n i : ℕ) : Type 0 where
  pub images : Images start size w₀
  pub marked : NowListed size w₀ w (order_to (image_at (entries SIGMA size w₀)) (image_at (entries RHO size w₀)) start i) n
  pub done : i ≤ n

pub part_start : {start size : ℕ} {w w₀ : List ℕ} → Images start size w → NowListed size w w₀ (listed 0 w ++ (start ∷ [])) 1 → Part start size w₀ w₀ 1 0
unfolding order_to
part_start {w₀ = w₀} p m = record {
  images = images_kept m.frame p;
  marked = record { sparse = m.sparse; frame = within_refl NUMBER R_TABLE w₀; list = m.list };
  done = omega arith;
}

module _ {start size n i : ℕ} {w₀ w : List ℕ} (p : Part start size w₀ w n i) where
  part_long : length (order_to (image_at (entries SIGMA size w₀)) (image_at (entries RHO size w₀)) start i) ≡ n
  part_long = rw p.marked.list at (listed_length p.marked.sparse)

  pub part_visit : i < n → Visit size n i w
  part_visit h = let q = images_kept p.marked.frame p.images in
      record { sparse = p.marked.sparse; low = h; σ_low = q.maps.σ_low; ρ_low = q.maps.ρ_low }

  pub part_more : i < n → {w' : List ℕ} {r : ℕ} → NowListed size w w' (visit (image_at (entries SIGMA size w)) (image_at (entries RHO size w)) (listed n w) i) r
      → Part start size w₀ w' r (i + 1)
  part_more h {w'} {r} v =
      let m = p.marked in
      let q = p.images in
      let σ = image_at (entries SIGMA size w₀) in
      let ρ = image_at (entries RHO size w₀) in
      let l = order_to σ ρ start i in
      let e : listed r w' ≡ visit σ ρ l i = v.list
      ∙ (rw (
        image_kept SIGMA size m.frame (omega (arith, q.room)) q.long,
        image_kept RHO size m.frame (omega (arith, q.room))
            q.long,
        m.list,
      )) in
      let more = (visit_grows σ ρ l i).long in
      let len = part_long in
      let len' = rw e at (listed_length v.sparse) in
      record {
        images = q;
        marked = record { sparse = v.sparse; frame = within_trans m.frame v.frame; list = rw add-one (e ∙ sym (to_more σ ρ start i (omega arith))) };
        done = omega arith;
      }

  pub part_end_lem : n ≤ i → NowListed size w₀ w (order_in start size w₀) n
  part_end_lem h =
      let m = p.marked in
      let len = part_long in
      record {
        sparse = m.sparse;
        frame = m.frame;
        list = m.list ∙ order_stop _ _ start size p.images.maps i (omega (arith, p.done, m.sparse.few)) (omega arith);
      }

-- seen from before the start was entered
pub numbered_from : {start size r : ℕ} {a b c : List ℕ} → Images start size a → ChangedWithin NUMBER R_TABLE a b → NowListed size b c (order_in start size b) r
    → NowListed size a c (order_in start size a) r
numbered_from {start} {size} {r} {a} {b} {c} p f m = record {
  sparse = m.sparse;
  frame = within_trans f m.frame;
  list = rw (image_kept SIGMA size f (omega (arith, p.room)) p.long, image_kept RHO size f (omega (arith, p.room)) p.long) at m.list;
}
