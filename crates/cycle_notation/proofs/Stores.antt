-- Storing the links of disjoint cycles makes the table of their permutation.
--     is-in-cons, out-tail  being in a list, point by point
--     fresh                 a point seen before is not named again
--     stored_table          the stores make the table
--     linked_last           one more point of the open cycle: two stores
--     stored_last           the last cycle is stored last
-- Assumes nothing.
use mathlib.Core.Path.{◌≡◌, refl, sym, ap, ◌∙◌}
use mathlib.Core.Bool.{Bool, true, false, not, ◌&&◌}
use mathlib.Core.List.{List, [], ◌∷◌, ◌++◌}
use Prim.Native.Nat.{ℕ, zero, suc, ◌-◌, ◌≤◌, ◌<◌}
use native.Mathlib.Omega.{arith}
use native.Mathlib.Decide.{dec_lt, ℕ_discrete}
use lib.Dec.{eqb, ltb, leb, leb-suc-suc}
use lib.ListN.{length, get_or, set, take, length-set, length-append, get_or-append}
use lib.Seq.{get_or-append_seam, get_or-set_same, get_or-set_other, set-set, ext_get_or, length-take-le, get_or-take}
use borrow.Author.Tests.{lt-ltb, eq-eqb, ne_eqb}
use Rattle.basics.specs.Choice.{pick}
use Rattle.basics.proofs.Choice.{pick_true, pick_false, and_right, clash}
use Rattle.numbering.specs.Find.{find, is_in}
use Rattle.cycle_notation.specs.Form.{points_of, free, Disjoint, all, next}
use Rattle.cycle_notation.specs.Table.{behind_in, turned_by, image_by, tabled, cycle_table}
use Rattle.cycle_notation.specs.Inner.Stores.{links_stored, turned_in, cycles_stored, identity, last_of}
use Rattle.cycle_notation.proofs.Points.{free_range}

-- ---- being in a list

pub is_in_cons : (a : ℕ) (l : List ℕ) (x : ℕ) → is_in (a ∷ l) x ≡ pick (eqb a x) true (is_in l x)
unfolding find
is_in_cons a l x = go (eqb a x)
  where
    go : (b : Bool) → ltb (pick b 0 (suc (find l x))) (suc (length l)) ≡ pick b true (is_in l x)
    go true = lt-ltb 0 (suc (length l)) (omega arith)
    go false = leb-suc-suc (suc (find l x)) (length l)

pub not_in_none : (x : ℕ) → is_in [] x ≡ false
unfolding find
not_in_none x = refl

pub in_head : (a : ℕ) (l : List ℕ) → is_in (a ∷ l) a ≡ true
in_head a l = is_in_cons a l a ∙ pick_true (eqb a a) _ _ (eq-eqb a a refl)

pub in_tail : (a : ℕ) (l : List ℕ) (x : ℕ) → is_in l x ≡ true → is_in (a ∷ l) x ≡ true
in_tail a l x e = is_in_cons a l x ∙ go (eqb a x)
  where
    go : (b : Bool) → pick b true (is_in l x) ≡ true
    go true = refl
    go false = e

-- a point that is not in a list is not its first, and not in the rest
pub out_tail : (a : ℕ) (l : List ℕ) (x : ℕ) → is_in (a ∷ l) x ≡ false → ¬ (a ≡ x) × (is_in l x ≡ false)
out_tail a l x e = go (eqb a x) refl
  where
    go : (b : Bool) → eqb a x ≡ b → ¬ (a ≡ x) × (is_in l x ≡ false)
    go true f = clash (is_in_cons a l x ∙ pick_true (eqb a x) true (is_in l x) f) e
    go false f = (λ z. clash (eq-eqb a x z) f, sym (is_in_cons a l x ∙ pick_false (eqb a x) true (is_in l x) f) ∙ e)

pub in_append : (l m : List ℕ) (x : ℕ) → is_in l x ≡ false → is_in (l ++ m) x ≡ is_in m x
in_append [] m x e = refl
in_append (a ∷ l) m x e =
    let o = out_tail a l x e in
    is_in_cons a (l ++ m) x ∙ pick_false (eqb a x) _ _ (ne_eqb a x o.0) ∙ in_append l m x o.1

-- ---- disjoint points

unfree : (n : ℕ) (seen : List ℕ) (x : ℕ) → free n seen x ≡ true → is_in seen x ≡ false
unfree n seen x e = go (is_in seen x) (and_right (leb 1 x && leb x n) (not (is_in seen x)) e)
  where
    go : (b : Bool) → not b ≡ true → b ≡ false
    go true f = sym f
    go false f = refl

pub fresh : (n : ℕ) (seen xs : List ℕ) (z : ℕ) → Disjoint n seen xs → is_in seen z ≡ true → is_in xs z ≡ false
fresh n seen [] z all e = not_in_none z
fresh n seen (x ∷ xs) z (next f d) e =
    let ne : ¬ (x ≡ z) = λ q. clash e (ap (is_in seen) (sym q) ∙ unfree n seen x f) in
    is_in_cons x xs z ∙ pick_false (eqb x z) _ _ (ne_eqb x z ne) ∙ fresh n (x ∷ seen) xs z d (in_tail x seen z e)

-- the points of the first list, and then those of the second
pub front_part : (n : ℕ) (seen xs ys : List ℕ) → Disjoint n seen (xs ++ ys) → Disjoint n seen xs
front_part n seen [] ys d = all
front_part n seen (x ∷ xs) ys (next f d) = next f (front_part n (x ∷ seen) xs ys d)

-- what is disjoint from more is disjoint from less: by the points that xs has
pub record BackPart (n : ℕ) (seen xs ys : List ℕ) : Type 0 where
  pub now_seen : List ℕ
  pub has : (z : ℕ) → is_in xs z ≡ true → is_in now_seen z ≡ true
  pub old : (z : ℕ) → is_in seen z ≡ true → is_in now_seen z ≡ true
  pub rest : Disjoint n now_seen ys

pub back_part : (n : ℕ) (seen xs ys : List ℕ) → Disjoint n seen (xs ++ ys) → BackPart n seen xs ys
back_part n seen [] ys d = record { now_seen = seen; has = λ z e. clash e (not_in_none z); old = λ z e. e; rest = d }
back_part n seen (x ∷ xs) ys (next f d) =
    let b = back_part n (x ∷ seen) xs ys d in record {
      now_seen = b.now_seen;
      has = λ z e. go b z (eqb x z) refl e;
      old = λ z e. b.old z (in_tail x seen z e);
      rest = b.rest;
    }
  where
    go : (b : BackPart n (x ∷ seen) xs ys) (z : ℕ) (t : Bool) → eqb x z ≡ t → is_in (x ∷ xs) z ≡ true → is_in b.now_seen z ≡ true
    go b z true q e = b.old z (is_in_cons x seen z ∙ pick_true (eqb x z) _ _ q)
    go b z false q e = b.has z (sym (is_in_cons x xs z ∙ pick_false (eqb x z) _ _ q) ∙ e)

-- ---- tables

pub length_tabled : (f : ℕ → ℕ) (n : ℕ) → length (tabled f n) ≡ n
unfolding tabled
length_tabled f zero = refl
length_tabled f (suc n) = let e = length_tabled f n in length-append (tabled f n) (f n ∷ []) ∙ omega arith

pub get_d_tabled : (f : ℕ → ℕ) (n i d : ℕ) → i < n → get_or (tabled f n) i d ≡ f i
unfolding tabled
get_d_tabled f zero i d h = absurd (omega arith)
get_d_tabled f (suc n) i d h = elim (dec_lt i n) [
  | yes l ↦ get_or-append (tabled f n) (f n ∷ []) d i (omega (arith, length_tabled f n)) ∙ get_d_tabled f n i d l
  | no l ↦ let z : i ≡ length (tabled f n) = omega (arith, length_tabled f n) in
      ap (λ (k : ℕ). get_or (tabled f n ++ (f n ∷ [])) k d) z ∙ get_or-append_seam (tabled f n) (f n) [] d ∙ ap f (omega (arith, length_tabled f n))
]

pub length_linked : (f : ℕ) (c t : List ℕ) → length (links_stored f c t) ≡ length t
unfolding links_stored
length_linked f [] t = refl
length_linked f (a ∷ []) t = length-set t (a - 1) (f - 1)
length_linked f (a ∷ b ∷ c) t = length_linked f (b ∷ c) (set t (a - 1) (b - 1)) ∙ length-set t (a - 1) (b - 1)

pub length_turned : (c t : List ℕ) → length (turned_in c t) ≡ length t
length_turned [] t = refl
length_turned (f ∷ c) t = length_linked f (f ∷ c) t

pub length_stored : (cs : List (List ℕ)) (t : List ℕ) → length (cycles_stored cs t) ≡ length t
unfolding cycles_stored
length_stored [] t = refl
length_stored (c ∷ cs) t = length_stored cs (turned_in c t) ∙ length_turned c t

-- a place whose point the cycle does not have
linked_other : (n : ℕ) (seen : List ℕ) (f : ℕ) (c t : List ℕ) (i d : ℕ) → Disjoint n seen c → is_in c (suc i) ≡ false → get_or (links_stored f c t) i d ≡ get_or t i d
unfolding links_stored
linked_other n seen f [] t i d g e = refl
linked_other n seen f (a ∷ []) t i d (next h g) e =
    let r = free_range n seen a h in
    let o = out_tail a [] (suc i) e in
    get_or-set_other t (a - 1) i (f - 1) d (λ z. o.0 (omega arith))
linked_other n seen f (a ∷ b ∷ c) t i d (next h g) e =
    let r = free_range n seen a h in
    let o = out_tail a (b ∷ c) (suc i) e in
    linked_other n (a ∷ seen) f (b ∷ c) (set t (a - 1) (b - 1)) i d g o.1 ∙ get_or-set_other t (a - 1) i (b - 1) d (λ z. o.0 (omega arith))

linked_at : (n : ℕ) (seen : List ℕ) (f : ℕ) (c t : List ℕ) (i d : ℕ) → Disjoint n seen c → i < length t → is_in c (suc i) ≡ true
    → get_or (links_stored f c t) i d ≡ behind_in f c (suc i) - 1
unfolding links_stored behind_in
linked_at n seen f [] t i d g l e = clash e (not_in_none (suc i))
linked_at n seen f (a ∷ []) t i d g l e = go (eqb a (suc i)) refl (ℕ_discrete a (suc i))
  where
    go : (b : Bool) → eqb a (suc i) ≡ b → Dec (a ≡ suc i) → get_or (set t (a - 1) (f - 1)) i d ≡ pick (eqb a (suc i)) f (suc i) - 1
    go b q (yes z) =
        let k : a - 1 ≡ i = omega arith in
        ap (λ (j : ℕ). get_or (set t j (f - 1)) i d) k ∙ get_or-set_same t i (f - 1) d l ∙ ap (λ (y : ℕ). y - 1) (sym (pick_true _ _ _ (eq-eqb a (suc i) z)))
    go b q (no z) = clash (sym (is_in_cons a [] (suc i) ∙ pick_false (eqb a (suc i)) _ _ (ne_eqb a (suc i) z)) ∙ e) (not_in_none (suc i))
linked_at n seen f (a ∷ b ∷ c) t i d (next h g) l e =
    go (ℕ_discrete a (suc i)) (λ q. linked_at n (a ∷ seen) f (b ∷ c) (set t (a - 1) (b - 1)) i d g (rw (length-set t (a - 1) (b - 1)) l) q)
  where
    go : Dec (a ≡ suc i) → (is_in (b ∷ c) (suc i) ≡ true → get_or (links_stored f (b ∷ c) (set t (a - 1) (b - 1))) i d ≡ behind_in f (b ∷ c) (suc i) - 1)
        → get_or (links_stored f (b ∷ c) (set t (a - 1) (b - 1))) i d ≡ pick (eqb a (suc i)) b (behind_in f (b ∷ c) (suc i)) - 1
    go (yes z) ih =
        let k : a - 1 ≡ i = omega arith in
        linked_other n (a ∷ seen) f (b ∷ c) (set t (a - 1) (b - 1)) i d g (fresh n (a ∷ seen) (b ∷ c) (suc i) g (ap (is_in (a ∷ seen)) (sym z) ∙ in_head a seen))
        ∙ ap (λ (j : ℕ). get_or (set t j (b - 1)) i d) k
        ∙ get_or-set_same t i (b - 1) d l
        ∙ ap (λ (y : ℕ). y - 1) (sym (pick_true _ _ _ (eq-eqb a (suc i) z)))
    go (no z) ih =
        ih (sym (is_in_cons a (b ∷ c) (suc i) ∙ pick_false (eqb a (suc i)) _ _ (ne_eqb a (suc i) z)) ∙ e)
        ∙ ap (λ (y : ℕ). y - 1) (sym (pick_false _ _ _ (ne_eqb a (suc i) z)))

turned_other : (n : ℕ) (seen : List ℕ) (c t : List ℕ) (i d : ℕ) → Disjoint n seen c → is_in c (suc i) ≡ false → get_or (turned_in c t) i d ≡ get_or t i d
turned_other n seen [] t i d g e = refl
turned_other n seen (f ∷ c) t i d g e = linked_other n seen f (f ∷ c) t i d g e

turned_at : (n : ℕ) (seen : List ℕ) (c t : List ℕ) (i d : ℕ) → Disjoint n seen c → i < length t → is_in c (suc i) ≡ true → get_or (turned_in c t) i d
    ≡ turned_by c (suc i) - 1
turned_at n seen [] t i d g l e = clash e (not_in_none (suc i))
turned_at n seen (f ∷ c) t i d g l e = linked_at n seen f (f ∷ c) t i d g l e

stored_other : (n : ℕ) (seen : List ℕ) (cs : List (List ℕ)) (t : List ℕ) (i d : ℕ) → Disjoint n seen (points_of cs) → is_in seen (suc i) ≡ true
    → get_or (cycles_stored cs t) i d ≡ get_or t i d
unfolding cycles_stored points_of
stored_other n seen [] t i d g e = refl
stored_other n seen (c ∷ cs) t i d g e =
    let b = back_part n seen c (points_of cs) g in
    stored_other n b.now_seen cs (turned_in c t) i d b.rest (b.old (suc i) e)
    ∙ turned_other n seen c t i d (front_part n seen c (points_of cs) g) (fresh n seen c (suc i) (front_part n seen c (points_of cs) g) e)

stored_at : (n : ℕ) (seen : List ℕ) (cs : List (List ℕ)) (t : List ℕ) (i d : ℕ) → Disjoint n seen (points_of cs) → i < length t → get_or t i d ≡ i
    → get_or (cycles_stored cs t) i d ≡ image_by cs (suc i) - 1
unfolding cycles_stored points_of image_by
stored_at n seen [] t i d g l e = e ∙ omega arith
stored_at n seen (c ∷ cs) t i d g l e = go (is_in c (suc i)) refl (λ q. stored_at n b.now_seen cs (turned_in c t) i d b.rest (rw (length_turned c t) l) q)
  where
    b : BackPart n seen c (points_of cs)
    b = back_part n seen c (points_of cs) g

    go : (x : Bool) → is_in c (suc i) ≡ x → (get_or (turned_in c t) i d ≡ i → get_or (cycles_stored cs (turned_in c t)) i d ≡ image_by cs (suc i) - 1)
        → get_or (cycles_stored cs (turned_in c t)) i d ≡ pick (is_in c (suc i)) (turned_by c (suc i)) (image_by cs (suc i)) - 1
    go true q ih =
        stored_other n b.now_seen cs (turned_in c t) i d b.rest (b.has (suc i) q)
        ∙ turned_at n seen c t i d (front_part n seen c (points_of cs) g) l q
        ∙ ap (λ (y : ℕ). y - 1) (sym (pick_true _ _ _ q))
    go false q ih =
        ih (turned_other n seen c t i d (front_part n seen c (points_of cs) g) q ∙ e)
        ∙ ap (λ (y : ℕ). y - 1) (sym (pick_false _ _ _ q))

-- the front of a longer table is enough: the points are all there
pub stored_table : (n m : ℕ) (cs : List (List ℕ)) → n ≤ m → Disjoint n [] (points_of cs) → take n (cycles_stored cs (identity m)) ≡ cycle_table n cs
unfolding identity
stored_table n m cs h g =
    ext_get_or 0 (take n (cycles_stored cs (tabled (λ (i : ℕ). i) m))) (cycle_table n cs) (long ∙ sym (length_tabled (λ (i : ℕ). image_by cs (suc i) - 1) n))
    (λ i l. get_or-take n (cycles_stored cs (tabled (λ (k : ℕ). k) m)) i 0 (rw long at l)
    ∙ stored_at n [] cs (tabled (λ (k : ℕ). k) m) i 0 g (let b : i < n = rw long at l in omega (arith, length_tabled (λ (k : ℕ). k) m))
    (get_d_tabled (λ (k : ℕ). k) m i 0 (let b : i < n = rw long at l in omega arith))
    ∙ sym (get_d_tabled (λ (k : ℕ). image_by cs (suc k) - 1) n i 0 (rw long at l)))
  where
    long : length (take n (cycles_stored cs (tabled (λ (i : ℕ). i) m))) ≡ n
    long = length-take-le n (cycles_stored cs (tabled (λ (i : ℕ). i) m))
        (omega (arith, length_stored cs (tabled (λ (i : ℕ). i) m), length_tabled (λ (i : ℕ). i) m))

-- ---- one more point, one more cycle

pub last_last : (a : ℕ) (c : List ℕ) (x : ℕ) → last_of a (c ++ (x ∷ [])) ≡ x
last_last a [] x = refl
last_last a (b ∷ c) x = last_last b c x

pub linked_last : (f a : ℕ) (c t : List ℕ) (x : ℕ)
    → links_stored f (a ∷ (c ++ (x ∷ []))) t ≡ set (set (links_stored f (a ∷ c) t) (last_of a c - 1) (x - 1)) (x - 1) (f - 1)
unfolding links_stored
linked_last f a [] t x = ap (λ (l : List ℕ). set l (x - 1) (f - 1)) (sym (set-set t (a - 1) (f - 1) (x - 1)))
linked_last f a (b ∷ c) t x = linked_last f b c (set t (a - 1) (b - 1)) x

pub stored_last : (cs : List (List ℕ)) (c t : List ℕ) → cycles_stored (cs ++ (c ∷ [])) t ≡ turned_in c (cycles_stored cs t)
unfolding cycles_stored
stored_last [] c t = refl
stored_last (d ∷ cs) c t = stored_last cs c (turned_in d t)
