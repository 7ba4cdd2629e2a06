-- Laws of tables in the work space.
-- In order: the entries of a table; `ChangedWithin`, and the tables outside it; `put_to`: none, one more, what it holds, what it
-- keeps; a copy.
-- Assumes nothing.
use mathlib.Core.Path.{◌≡◌, refl, sym, ap, ◌∙◌}
use mathlib.Core.Logic.{inl, inr}
use mathlib.Core.List.{List, [], ◌∷◌, ◌++◌, append_assoc}
use Prim.Native.Nat.{ℕ, suc, ◌+◌, ◌-◌, ◌≤◌, ◌<◌}
use native.Mathlib.Numerals.{add-one}
use native.Mathlib.Omega.{arith}
use lib.ListN.{length, get_or, set, take, drop, length-set, length-drop, get_or-append}
use lib.Seq.{paste-zero, paste-suc, length-paste, length_paste_head, get_or-append-add, get_or-set_other, drop-set-add, take-suc-set, take-suc, drop-cons}
use lib.Seq.{set_at, get_or-take, get_or-drop, length-take-le, ext_get_or}
use Rattle.numbering.specs.Inner.Space.{put_to, Apart, ChangedWithin}
use Rattle.call.specs.Space.{entries}

-- ---- entries
pub entries_length : (off n : ℕ) (w : List ℕ) → off + n ≤ length w → length (entries off n w) ≡ n
entries_length off n w h = length-take-le n (drop off w) (simp length-drop (omega arith))

pub entries_at : (off n : ℕ) (w : List ℕ) (j : ℕ) → j < n → get_or (entries off n w) j 0 ≡ get_or w (off + j) 0
entries_at off n w j h = get_or-take n (drop off w) j 0 h ∙ get_or-drop off w j 0

-- a table is what stands at its places
pub entries_ext : (off n : ℕ) (w l : List ℕ) → off + n ≤ length w → length l ≡ n → ((j : ℕ) → j < n → get_or w (off + j) 0 ≡ get_or l j 0) → entries off n w ≡ l
entries_ext off n w l h e same =
    let len = entries_length off n w h in
    ext_get_or 0 (entries off n w) l (len ∙ sym e) (λ j k. let i : j < n = omega arith in entries_at off n w j i ∙ same j i)

pub entries_same : (off n : ℕ) (w w' : List ℕ) → length w' ≡ length w → off + n ≤ length w → ((k : ℕ) → off ≤ k → k < off + n → get_or w' k 0 ≡ get_or w k 0)
    → entries off n w' ≡ entries off n w
entries_same off n w w' e h same = entries_ext off n w' (entries off n w) (omega arith) (entries_length off n w h)
    (λ j k. same (off + j) (omega arith) (omega arith) ∙ sym (entries_at off n w j k))

-- a store behind the last entry makes the table one longer
pub entries_push : (off k : ℕ) (w : List ℕ) (x : ℕ) → off + k < length w → entries off (k + 1) (set w (off + k) x) ≡ entries off k w ++ (x ∷ [])
entries_push off k w x h =
    let l : k < length (drop off w) = simp length-drop (omega arith) in
    rw (add-one, drop-set-add off w k x) (take-suc-set (drop off w) k x l)

-- a store elsewhere leaves it as it was
pub entries_set : (off n : ℕ) (w : List ℕ) (i x : ℕ) → off + n ≤ length w → Apart off n i 1 → entries off n (set w i x) ≡ entries off n w
entries_set off n w i x h apart =
    entries_same off n w (set w i x) (length-set w i x) h
    (λ k lo hi. get_or-set_other w i k x 0 (λ e. elim apart [ inl p ↦ omega arith | inr p ↦ omega arith ]))

-- ---- all but a part is as before
pub within_refl : (a b : ℕ) (w : List ℕ) → ChangedWithin a b w w
within_refl a b w = record { same = refl; below = λ k h. refl; above = λ k h. refl }

pub within_trans : {a b : ℕ} {u v w : List ℕ} → ChangedWithin a b u v → ChangedWithin a b v w → ChangedWithin a b u w
within_trans f g = record { same = g.same ∙ f.same; below = λ k h. g.below k h ∙ f.below k h; above = λ k h. g.above k h ∙ f.above k h }

pub within_set : {a b : ℕ} {u v : List ℕ} (i x : ℕ) → ChangedWithin a b u v → a ≤ i → i < b → ChangedWithin a b u (set v i x)
within_set {a} {b} {u} {v} i x f l h = record {
  same = length-set v i x ∙ f.same;
  below = λ k p. get_or-set_other v i k x 0 (λ e. omega arith) ∙ f.below k p;
  above = λ k p. get_or-set_other v i k x 0 (λ e. omega arith) ∙ f.above k p;
}

pub within_entries : {a b : ℕ} {w w' : List ℕ} → ChangedWithin a b w w' → (off n : ℕ) → Apart off n a (b - a) → a ≤ b → off + n ≤ length w
    → entries off n w' ≡ entries off n w
within_entries {a} {b} {w} {w'} f off n apart ab h = entries_same off n w w' f.same h (λ k lo hi. elim apart [
  | inl p ↦ f.below k (omega arith)
  | inr p ↦ f.above k (omega arith)
])

-- ---- a table put into the work space
module _ (w : List ℕ) (off : ℕ) (l : List ℕ) where
  pub put_none : w ≡ put_to w off l 0
  unfolding put_to
  put_none = paste-zero w off l

  -- the loop's turn: the entry at j is stored
  pub put_more : (j x : ℕ) → off + j < length w → j < length l → x ≡ get_or l j 0 → set (put_to w off l j) (off + j) x ≡ put_to w off l (j + 1)
  unfolding put_to
  put_more j x h k e = rw (e, add-one) (paste-suc w off l j 0 h k)

  module _ (j : ℕ) (h : off + j ≤ length w) (k : j ≤ length l) where
    pub put_length : length (put_to w off l j) ≡ length w
    unfolding put_to
    put_length = length-paste w off l j h k

    -- the places below, in and above the part
    pub put_below : (i : ℕ) → i < off → get_or (put_to w off l j) i 0 ≡ get_or w i 0
    unfolding put_to
    put_below i g =
        let a = length-take-le off w (omega arith) in
        get_or-append (take off w ++ take j l) (drop (off + j) w) 0 i (omega (arith, length_paste_head w off l j (omega arith) k))
        ∙ get_or-append (take off w) (take j l) 0 i (omega arith) ∙ get_or-take off w i 0 g

    pub put_in : (i : ℕ) → i < j → get_or (put_to w off l j) (off + i) 0 ≡ get_or l i 0
    unfolding put_to
    put_in i g =
        let a = length-take-le off w (omega arith) in
        get_or-append (take off w ++ take j l) (drop (off + j) w) 0 (off + i) (omega (arith, length_paste_head w off l j (omega arith) k))
        ∙ (rw a at (get_or-append-add (take off w) (take j l) i 0)) ∙ get_or-take j l i 0 g

    pub put_above : (i : ℕ) → off + j ≤ i → get_or (put_to w off l j) i 0 ≡ get_or w i 0
    unfolding put_to
    put_above i g =
        let e : off + j + (i - (off + j)) ≡ i = omega arith in
        let b = length_paste_head w off l j (omega arith) k in
        rw (b, e) at (get_or-append-add (take off w ++ take j l) (drop (off + j) w) (i - (off + j)) 0) ∙ get_or-drop (off + j) w (i - (off + j)) 0
        ∙ ap (λ (z : ℕ). get_or w z 0) e

    pub put_within : ChangedWithin off (off + j) w (put_to w off l j)
    put_within = record { same = put_length; below = put_below; above = put_above }

    -- a table that lies apart is as before, at each place and whole
    pub put_other : (a m i : ℕ) → Apart a m off j → i < m → get_or (put_to w off l j) (a + i) 0 ≡ get_or w (a + i) 0
    put_other a m i apart g = elim apart [ inl p ↦ put_below (a + i) (omega arith) | inr p ↦ put_above (a + i) (omega arith) ]

    pub put_entries_other : (a m : ℕ) → Apart a m off j → a + m ≤ length w → entries a m (put_to w off l j) ≡ entries a m w
    put_entries_other a m apart g = within_entries put_within a m (elim apart [ inl p ↦ inl p | inr p ↦ inr (omega arith) ]) (omega arith) g

  -- the whole table
  pub put_entries : (n : ℕ) → length l ≡ n → off + n ≤ length w → entries off n (put_to w off l n) ≡ l
  put_entries n e h = entries_ext off n (put_to w off l n) l (rw (put_length n h (omega arith)) h) e (put_in n h (omega arith))

-- apart, for a part of the table
pub apart_part : {a m b n : ℕ} (i j : ℕ) → Apart a m b n → i ≤ m → j ≤ n → Apart a i b j
apart_part i j apart h k = elim apart [ inl p ↦ inl (omega arith) | inr p ↦ inr (omega arith) ]

-- ---- a table copied out, entry by entry
pub copy_more : (off j x : ℕ) (w out : List ℕ) → off + j < length w → j < length out → x ≡ get_or w (off + j) 0
    → set (entries off j w ++ drop j out) j x ≡ entries off (j + 1) w ++ drop (j + 1) out
copy_more off j x w out h k e =
    let l = entries_length off j w (omega arith) in
    let g : j < length (drop off w) = simp length-drop (omega arith) in
    rw (add-one, take-suc (drop off w) j 0 g, drop-cons out j 0 k, set_at (entries off j w) (get_or out j 0) (drop (suc j) out) x j l, e, get_or-drop off w j 0)
    (sym (append_assoc (entries off j w) (get_or w (off + j) 0 ∷ []) (drop (suc j) out)))
