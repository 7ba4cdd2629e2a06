-- The theorems on the tables of S, R and T: `renaming`, and for injective maps `permutations`.
-- Why: a list without repeats that a map keeps is a renaming of what it lists, and the place of each entry undoes it.
-- In order: entries of `map`; one map and its table; permutations; composites; what a table keeps of its map; the three tables
-- of a numbering.
-- Assumes nothing.
use mathlib.Core.Path.{◌≡◌, refl, sym, ap, ◌∙◌}
use mathlib.Core.List.{List, [], ◌∷◌, ◌++◌, map}
use Prim.Native.Nat.{ℕ, zero, suc, ◌<◌}
use native.Mathlib.Omega.{arith}
use lib.ListN.{length, get_or, length-map}
use lib.Seq.{ext_get_or}
use Rattle.numbering.specs.Find.{find, ◌∈◌, Once}
use Rattle.numbering.specs.Order.{order_of, Maps}
use Rattle.numbering.specs.Table.{image_at, ◌then◌, image_number, renamed, ◌then_table◌, Permutes, Injective, Natural, Renaming, Permutations}
use Rattle.numbering.proofs.Find.{none_below_lem, get_d_find, get_d_in, once_inj}
use Rattle.numbering.proofs.Order.{numbering}

pub get_d_map : (f : ℕ → ℕ) (l : List ℕ) (j : ℕ) → j < length l → get_or (map f l) j 0 ≡ f (get_or l j 0)
get_d_map f [] j h = none_below_lem h
get_d_map f (x ∷ l) zero h = refl
get_d_map f (x ∷ l) (suc j) h = get_d_map f l j (omega arith)

pub map_last : (f : ℕ → ℕ) (l : List ℕ) (x : ℕ) → map f (l ++ (x ∷ [])) ≡ map f l ++ (f x ∷ [])
map_last f [] x = refl
map_last f (y ∷ l) x = ap (λ (m : List ℕ). f y ∷ m) (map_last f l x)

map_ext : (f g : ℕ → ℕ) (l : List ℕ) → ((j : ℕ) → j < length l → f (get_or l j 0) ≡ g (get_or l j 0)) → map f l ≡ map g l
map_ext f g l e = ext_get_or 0 (map f l) (map g l) (length-map l f ∙ sym (length-map l g)) (λ j h.
    let k : j < length l = rw (length-map l f) at h in
    get_d_map f l j k ∙ e j k ∙ sym (get_d_map g l j k))

-- ---- one map and its table
module _ (l : List ℕ) (f : ℕ → ℕ) where
  pub renamed_length : length (renamed l f) ≡ length l
  unfolding renamed
  renamed_length = length-map l (image_number l f)

  pub renamed_at : (j : ℕ) → j < length l → image_at (renamed l f) j ≡ find l (f (get_or l j 0))
  unfolding renamed
  renamed_at j h = get_d_map (image_number l f) l j h

  -- maps that agree on the points have one table
  pub renamed_ext : (g : ℕ → ℕ) → ((x : ℕ) → x ∈ l → g x ≡ f x) → renamed l g ≡ renamed l f
  unfolding renamed
  renamed_ext g e = map_ext (image_number l g) (image_number l f) l (λ j h. ap (find l) (e (get_or l j 0) (get_d_in l j h)))

  pub natural : ((x : ℕ) → x ∈ l → f x ∈ l) → Natural l f (renamed l f)
  natural closed = record {
    long = renamed_length;
    low = λ j h. rw (renamed_at j h) (closed (get_or l j 0) (get_d_in l j h));
    step = λ x h. renamed_at (find l x) h ∙ ap (image_number l f) (get_d_find l x h);
    back = λ j h. ap (λ (k : ℕ). get_or l k 0) (renamed_at j h) ∙ get_d_find l (f (get_or l j 0)) (closed (get_or l j 0) (get_d_in l j h));
  }

-- a map that can be undone is injective: an involution by itself, a map of order three by itself twice
pub undone : (l : List ℕ) (f g : ℕ → ℕ) → ((x : ℕ) → x ∈ l → g (f x) ≡ x) → Injective l f
undone l f g e = record { one = λ x y a b d. sym (e x a) ∙ ap g d ∙ e y b }

-- the table of a map that is injective on the numbered points is a permutation
pub permutes : (l : List ℕ) (f : ℕ → ℕ) (t : List ℕ) → Once l → Natural l f t → Injective l f → Permutes t
permutes l f t o n i = record {
  low = λ j h. rw n.long (n.low j (rw n.long at h));
  one = λ j k a b e.
      let a' = rw n.long at a in
      let b' = rw n.long at b in
      once_inj l o j k a' b' (i.one (get_or l j 0) (get_or l k 0) (get_d_in l j a') (get_d_in l k b')
      (sym (n.back j a') ∙ ap (λ (z : ℕ). get_or l z 0) e ∙ n.back k b'));
}

-- ---- composites
pub then_length : (s r : List ℕ) → length (s then_table r) ≡ length s
unfolding ◌then_table◌
then_length s r = length-map s (image_at r)

pub then_at : (s r : List ℕ) (j : ℕ) → j < length s → image_at (s then_table r) j ≡ image_at r (image_at s j)
unfolding ◌then_table◌
then_at s r j h = get_d_map (image_at r) s j h

pub renamed_then : (l : List ℕ) (f g : ℕ → ℕ) → ((x : ℕ) → x ∈ l → f x ∈ l) → renamed l (f then g) ≡ renamed l f then_table renamed l g
renamed_then l f g closed =
    let s = renamed l f in
    let r = renamed l g in
    let n = natural l f closed in
    let len = renamed_length l f in
    ext_get_or 0 (renamed l (f then g)) (s then_table r) (renamed_length l (f then g) ∙ sym len ∙ sym (then_length s r)) (λ j h.
    let k : j < length l = rw (renamed_length l (f then g)) at h in
    renamed_at l (f then g) j k ∙ ap (image_number l g) (sym (n.back j k))
    ∙ sym (renamed_at l g (image_at s j) (n.low j k)) ∙ sym (then_at s r j (omega arith)))

-- ---- what a table keeps of its map: composites, fixed points, and so relations such as S S = 1
pub natural_then : {l s r : List ℕ} {f g : ℕ → ℕ} → Natural l f s → Natural l g r → Natural l (f then g) (s then_table r)
natural_then {l} {s} {r} {f} {g} a b =
    let here : (j : ℕ) → j < length l → image_at (s then_table r) j ≡ image_at r (image_at s j) = λ j h. then_at s r j (omega (arith, a.long)) in
    record {
      long = then_length s r ∙ a.long;
      low = λ j h. rw (here j h) (b.low (image_at s j) (a.low j h));
      step = λ x h.
          let e = a.step x h in
          let k : f x ∈ l = rw e at (a.low (find l x) h) in
          here (find l x) h ∙ ap (image_at r) e ∙ b.step (f x) k;
      back = λ j h. rw (here j h) (b.back (image_at s j) (a.low j h) ∙ ap g (a.back j h));
    }

module _ {l t : List ℕ} {f : ℕ → ℕ} (o : Once l) (n : Natural l f t) (j : ℕ) (h : j < length l) where
  pub natural_fixed : f (get_or l j 0) ≡ get_or l j 0 → image_at t j ≡ j
  natural_fixed e = once_inj l o (image_at t j) j (n.low j h) h (n.back j h ∙ e)

  pub fixed_natural : image_at t j ≡ j → f (get_or l j 0) ≡ get_or l j 0
  fixed_natural e = sym (n.back j h) ∙ ap (λ (k : ℕ). get_or l k 0) e

-- ---- the tables of a numbering
module _ (σ ρ : ℕ → ℕ) (start size : ℕ) (maps : Maps σ ρ start size) where
  abbrev order : List ℕ
  order = order_of σ ρ start size

  pub renaming : Renaming σ ρ order (renamed order σ) (renamed order ρ) (renamed order (σ then ρ))
  renaming = let n = numbering σ ρ start size maps in record {
    S = natural order σ n.σ_closed;
    R = natural order ρ n.ρ_closed;
    T = natural order (σ then ρ) (λ x h. n.ρ_closed (σ x) (n.σ_closed x h));
    T_is = renamed_then order σ ρ n.σ_closed;
  }

  pub permutations : Injective order σ → Injective order ρ → Permutations (renamed order σ) (renamed order ρ) (renamed order (σ then ρ))
  permutations i k = let n = numbering σ ρ start size maps in record {
    S = permutes order σ _ n.once renaming.S i;
    R = permutes order ρ _ n.once renaming.R k;
    T = permutes order (σ then ρ) _ n.once renaming.T (record {
      one = λ x y a b e. i.one x y a b (k.one (σ x) (σ y) (n.σ_closed x a) (n.σ_closed y b) e);
    });
  }
