-- The sides that are there with the numbers as which they came, and those of them that wait in a queue.
--
--   Came, came_as x m     a side with the point m that came as number x
--   zipped came ms        the sides with the points ms, which came as the numbers came
--   Asc k qs              the sides qs came one after the other, before number k
--   Waiting k came l qs   qs wait: they are among the sides l, in the order in which they came, and every open side is among them
--
-- In order: sides with numbers (`zip_pt`, `zip_one`, `zip_at`, `zip_get`), and after a split (`zip_old`, `zip_new`); the order of coming
-- (`asc_snoc`); one that is closed is dropped (`drop_closed`); a split (`wait_split`).
-- Assumes nothing.
use mathlib.Core.Path.{◌≡◌, refl, sym, ◌∙◌, ap}
use mathlib.Core.Logic.{◌⊎◌, inl, inr}
use mathlib.Core.Bool.{Bool, true, false, not}
use mathlib.Core.List.{List, [], ◌∷◌, ◌++◌}
use Prim.Native.Nat.{ℕ, suc, ◌+◌, ◌<◌}
use native.Mathlib.Omega.{arith}
use lib.ListN.{length, get_or}
use Rattle.import_rule.specs.Inner.Placed.{Placed, pts, lower_at, upper_at, opens_at}
use Rattle.import_rule.proofs.Member.{In, in_left, in_right, in_either, Apart, in_is}
use Rattle.import_rule.proofs.Lead.{Turning}
use Rattle.import_rule.proofs.Split.{Closed, false_closed, in_pts, pt_of, split_from, beside_other, Beside, t1, t2}
use Rattle.import_rule.proofs.Kept.{Inv, stays, not_old, has_s}
use Rattle.import_rule.specs.Rule.{came_after}
use Rattle.import_rule.proofs.Order.{came_long}

pub record Came : Type 0 where
  pub came : ℕ
  pub pt : ℕ

abbrev pub came_as : ℕ → ℕ → Came
came_as x m = record { came = x; pt = m }

abbrev pub zipped : List ℕ → List ℕ → List Came
zipped [] ms = []
zipped (x ∷ came) [] = []
zipped (x ∷ came) (m ∷ ms) = came_as x m ∷ zipped came ms

abbrev pub pts_of : List Came → List ℕ
pts_of [] = []
pts_of (c ∷ qs) = c.pt ∷ pts_of qs

-- ---- sides with numbers

pub zip_pt : (c : Came) (came ms : List ℕ) → In c (zipped came ms) → In c.pt ms
zip_pt c [] ms h = absurd h
zip_pt c (x ∷ came) [] h = absurd h
zip_pt c (x ∷ came) (m ∷ ms) (inl e) = inl (ap (λ (y : Came). y.pt) e)
zip_pt c (x ∷ came) (m ∷ ms) (inr h) = inr (zip_pt c came ms h)

pub zip_came : (c : Came) (came ms : List ℕ) → In c (zipped came ms) → In c.came came
zip_came c [] ms h = absurd h
zip_came c (x ∷ came) [] h = absurd h
zip_came c (x ∷ came) (m ∷ ms) (inl e) = inl (ap (λ (y : Came). y.came) e)
zip_came c (x ∷ came) (m ∷ ms) (inr h) = inr (zip_came c came ms h)

-- a point tells the side
pub zip_one : (c d : Came) (came ms : List ℕ) → Apart ms → In c (zipped came ms) → In d (zipped came ms) → c.pt ≡ d.pt → c ≡ d
zip_one c d [] ms a h k e = absurd h
zip_one c d (x ∷ came) [] a h k e = absurd h
zip_one c d (x ∷ came) (m ∷ ms) a (inl h) (inl k) e = h ∙ sym k
zip_one c d (x ∷ came) (m ∷ ms) a (inl h) (inr k) e = absurd (a.0 (in_is _ _ ms (sym e ∙ ap (λ (y : Came). y.pt) h) (zip_pt d came ms k)))
zip_one c d (x ∷ came) (m ∷ ms) a (inr h) (inl k) e = absurd (a.0 (in_is _ _ ms (e ∙ ap (λ (y : Came). y.pt) k) (zip_pt c came ms h)))
zip_one c d (x ∷ came) (m ∷ ms) a (inr h) (inr k) e = zip_one c d came ms a.1 h k e

-- the side between others
pub zip_at : (came : List ℕ) (before : List Placed) (s : Placed) (after : List Placed) → length came ≡ length (before ++ (s ∷ after))
    → In (came_as (get_or came (length before) 0) s.pt) (zipped came (pts (before ++ (s ∷ after))))
zip_at [] [] s after h = absurd (omega arith)
zip_at [] (u ∷ b) s after h = absurd (omega arith)
zip_at (x ∷ came) [] s after h = inl refl
zip_at (x ∷ came) (u ∷ b) s after h = inr (zip_at came b s after (omega arith))

-- an open side's number and openness
pub record Spot (o : List Bool) (came : List ℕ) (x : ℕ) : Type 0 where
  pub at : ℕ
  pub open_yet : get_or o at false ≡ true
  pub is : get_or came at 0 ≡ x

pub zip_get : (σ κ : ℕ → ℕ) (B : List ℕ) (c : Came) (came : List ℕ) (l : List Placed) → In c (zipped came (pts l)) → ¬ (Closed σ κ B c.pt)
    → Spot (opens_at σ κ B l) came c.came
zip_get σ κ B c [] l h n = absurd h
zip_get σ κ B c (x ∷ came) [] h n = absurd h
zip_get σ κ B c (x ∷ came) (u ∷ l) (inl e) n =
    record { at = 0; open_yet = ap not (false_closed σ κ B u.pt (λ q. n (rw (ap (λ (y : Came). y.pt) e) q))); is = sym (ap (λ (y : Came). y.came) e) }
zip_get σ κ B c (x ∷ came) (u ∷ l) (inr h) n = let k = zip_get σ κ B c came l h n in record { at = suc k.at; open_yet = k.open_yet; is = k.is }

-- ---- after a split

module _ (s l r : Placed) (after : List Placed) (k : ℕ) where
  abbrev then : List ℕ → List Placed → List Came
  then came before = zipped (came_after k (length before) came) (pts (before ++ (l ∷ r ∷ after)))

  pub zip_old : (c : Came) (came : List ℕ) (before : List Placed) → In c (zipped came (pts (before ++ (s ∷ after)))) → (c.pt ≡ s.pt) ⊎ In c (then came before)
  zip_old c [] before h = absurd h
  zip_old c (x ∷ came) [] (inl e) = inl (ap (λ (y : Came). y.pt) e)
  zip_old c (x ∷ came) [] (inr h) = inr (inr (inr h))
  zip_old c (x ∷ came) (u ∷ b) (inl e) = inr (inl e)
  zip_old c (x ∷ came) (u ∷ b) (inr h) = elim (zip_old c came b h) [ inl e ↦ inl e | inr k ↦ inr (inr k) ]

  pub zip_new : (c : Came) (came : List ℕ) (before : List Placed) → In c (then came before)
      → (c ≡ came_as k l.pt) ⊎ (c ≡ came_as (suc k) r.pt) ⊎ In c (zipped came (pts (before ++ (s ∷ after))))
  zip_new c [] before h = absurd h
  zip_new c (x ∷ came) [] (inl e) = inl e
  zip_new c (x ∷ came) [] (inr (inl e)) = inr (inl e)
  zip_new c (x ∷ came) [] (inr (inr h)) = inr (inr (inr h))
  zip_new c (x ∷ came) (u ∷ b) (inl e) = inr (inr (inl e))
  zip_new c (x ∷ came) (u ∷ b) (inr h) = elim (zip_new c came b h) [ inl e ↦ inl e | inr k ↦ elim k [ inl e ↦ inr (inl e) | inr j ↦ inr (inr (inr j)) ] ]

  pub zip_parts : (came : List ℕ) (before : List Placed) → length came ≡ length (before ++ (s ∷ after))
      → In (came_as k l.pt) (then came before) × In (came_as (suc k) r.pt) (then came before)
  zip_parts [] [] h = absurd (omega arith)
  zip_parts [] (u ∷ b) h = absurd (omega arith)
  zip_parts (x ∷ came) [] h = (inl refl, inr (inl refl))
  zip_parts (x ∷ came) (u ∷ b) h = let p = zip_parts came b (omega arith) in (inr p.0, inr p.1)

-- ---- the order of coming

abbrev pub Asc : ℕ → List Came → Type 0
Asc k [] = Unit {0}
Asc k (c ∷ qs) = (c.came < k) × ((d : Came) → In d qs → c.came < d.came) × Asc k qs

pub asc_snoc : (k m : ℕ) (qs : List Came) → Asc k qs → Asc (suc k) (qs ++ (came_as k m ∷ []))
asc_snoc k m [] a = (omega arith, (λ d h. absurd h), tt)
asc_snoc k m (c ∷ qs) a = (let z = a.0 in omega arith, later, asc_snoc k m qs a.2)
  where
    go : (d : Came) → In d qs ⊎ In d (came_as k m ∷ []) → c.came < d.came
    go d (inl h) = a.1 d h
    go d (inr (inl e)) = let z = a.0 in let y : d.came ≡ k = ap (λ (y : Came). y.came) e in omega arith
    go d (inr (inr h)) = absurd h

    later : (d : Came) → In d (qs ++ (came_as k m ∷ [])) → c.came < d.came
    later d h = go d (in_either d qs (came_as k m ∷ []) h)

-- ---- those that wait

module _ (σ κ : ℕ → ℕ) where
  pub record Waiting (k : ℕ) (came : List ℕ) (l : List Placed) (qs : List Came) : Type 0 where
    pub asc : Asc k qs
    pub held : (c : Came) → In c qs → In c (zipped came (pts l))
    pub waits : (c : Came) → In c (zipped came (pts l)) → ¬ (Closed σ κ (pts l) c.pt) → In c qs
    pub long : length came ≡ length l

  pub drop_closed : (k : ℕ) (came : List ℕ) (l : List Placed) (c : Came) (qs : List Came) → Waiting k came l (c ∷ qs) → Closed σ κ (pts l) c.pt
      → Waiting k came l qs
  drop_closed k came l c qs w e = record { asc = w.asc.2; held = λ d h. w.held d (inr h); waits = waits; long = w.long }
    where
      go : (d : Came) → ¬ (Closed σ κ (pts l) d.pt) → In d (c ∷ qs) → In d qs
      go d n (inl q) = absurd (n (rw (ap (λ (y : Came). y.pt) q) e))
      go d n (inr h) = h

      waits : (d : Came) → In d (zipped came (pts l)) → ¬ (Closed σ κ (pts l) d.pt) → In d qs
      waits d h n = go d n (w.waits d h n)

  module _ (n : ℕ) (T : Turning σ κ n) (C before : List Placed) (s : Placed) (after : List Placed) (inv : Inv σ κ n C (before ++ (s ∷ after)))
      (none : ¬ (Closed σ κ (pts (before ++ (s ∷ after))) s.pt)) where
    abbrev old : List Placed
    old = before ++ (s ∷ after)

    abbrev new : List Placed
    new = before ++ (lower_at σ κ s ∷ upper_at σ κ s ∷ after)

    -- the point of the side that was split is no side's
    gone : ¬ (In s.pt (pts new))
    gone h = let k = pt_of s.pt new h in go k.side k.pt (split_from s (lower_at σ κ s) (upper_at σ κ s) after k.side before k.among)
      where
        go : (u : Placed) → s.pt ≡ u.pt → (u ≡ lower_at σ κ s) ⊎ (u ≡ upper_at σ κ s) ⊎ Beside s (lower_at σ κ s) (upper_at σ κ s) after u before → ⊥
        go u p (inl e) =
            not_old σ κ n T C before s after inv none t1
            (in_is _ _ (pts old) (p ∙ ap (λ (y : Placed). y.pt) e) (in_pts s old (has_s σ κ n T C before s after inv none)))
        go u p (inr (inl e)) =
            not_old σ κ n T C before s after inv none t2
            (in_is _ _ (pts old) (p ∙ ap (λ (y : Placed). y.pt) e) (in_pts s old (has_s σ κ n T C before s after inv none)))
        go u p (inr (inr b)) = beside_other s (lower_at σ κ s) (upper_at σ κ s) after u before inv.apart b (sym p)

    -- a side that is closed stays closed
    still : (x : ℕ) → In x (pts old) → Closed σ κ (pts old) x → Closed σ κ (pts new) x
    still x h (inl o) = inl o
    still x h (inr j) = inr (stays σ κ n T C before s after inv none (σ x) j (λ e. none (inr (in_is _ _ (pts old) (sym (T.twice x) ∙ ap σ e) h))))

    pub wait_split : (k : ℕ) (came : List ℕ) (c : Came) (qs : List Came) → c.pt ≡ s.pt → Waiting k came old (c ∷ qs)
        → Waiting (suc (suc k)) (came_after k (length before) came) new
        ((qs ++ (came_as k (lower_at σ κ s).pt ∷ [])) ++ (came_as (suc k) (upper_at σ κ s).pt ∷ []))
    wait_split k came c qs e w = record {
      asc = asc_snoc (suc k) (upper_at σ κ s).pt (qs ++ (came_as k (σ (κ s.pt)) ∷ [])) (asc_snoc k (lower_at σ κ s).pt qs w.asc.2);
      held = λ d h. among d (in_either d (qs ++ (came_as k (σ (κ s.pt)) ∷ [])) (came_as (suc k) (σ (κ (κ s.pt))) ∷ []) h);
      waits = λ d h o. enters d h o (zip_new s (lower_at σ κ s) (upper_at σ κ s) after k d came before h);
      long = came_long k came before s (lower_at σ κ s) (upper_at σ κ s) after w.long;
    }
      where
        both : In (came_as k (σ (κ s.pt))) (zipped (came_after k (length before) came) (pts new))
            × In (came_as (suc k) (σ (κ (κ s.pt)))) (zipped (came_after k (length before) came) (pts new))
        both = zip_parts s (lower_at σ κ s) (upper_at σ κ s) after k came before w.long

        -- one that waited is another
        other : (d : Came) → In d qs → (d.pt ≡ s.pt) ⊎ In d (zipped (came_after k (length before) came) (pts new))
            → In d (zipped (came_after k (length before) came) (pts new))
        other d h (inl q) =
            let same : c ≡ d = zip_one c d came (pts old) inv.apart (w.held c (inl refl)) (w.held d (inr h)) (e ∙ sym q) in
            let z = w.asc.1 d h in
            let y : c.came ≡ d.came = ap (λ (y : Came). y.came) same in
            absurd (omega arith)
        other d h (inr i) = i

        among : (d : Came) → In d (qs ++ (came_as k (σ (κ s.pt)) ∷ [])) ⊎ In d (came_as (suc k) (σ (κ (κ s.pt))) ∷ [])
            → In d (zipped (came_after k (length before) came) (pts new))
        among d (inl h) = go (in_either d qs (came_as k (σ (κ s.pt)) ∷ []) h)
          where
            go : In d qs ⊎ In d (came_as k (σ (κ s.pt)) ∷ []) → In d (zipped (came_after k (length before) came) (pts new))
            go (inl h) = other d h (zip_old s (lower_at σ κ s) (upper_at σ κ s) after k d came before (w.held d (inr h)))
            go (inr (inl q)) = rw q both.0
            go (inr (inr h)) = absurd h
        among d (inr (inl q)) = rw q both.1
        among d (inr (inr h)) = absurd h

        enters : (d : Came) → In d (zipped (came_after k (length before) came) (pts new)) → ¬ (Closed σ κ (pts new) d.pt)
            → (d ≡ came_as k (σ (κ s.pt))) ⊎ (d ≡ came_as (suc k) (σ (κ (κ s.pt)))) ⊎ In d (zipped came (pts old))
            → In d ((qs ++ (came_as k (σ (κ s.pt)) ∷ [])) ++ (came_as (suc k) (σ (κ (κ s.pt))) ∷ []))
        enters d h o (inl q) = in_left d (qs ++ (came_as k (σ (κ s.pt)) ∷ [])) _ (in_right d qs _ (inl q))
        enters d h o (inr (inl q)) = in_right d (qs ++ (came_as k (σ (κ s.pt)) ∷ [])) _ (inl q)
        enters d h o (inr (inr i)) = go (w.waits d i (λ x. o (still d.pt (zip_pt d came (pts old) i) x)))
          where
            go : In d (c ∷ qs) → In d ((qs ++ (came_as k (σ (κ s.pt)) ∷ [])) ++ (came_as (suc k) (σ (κ (κ s.pt))) ∷ []))
            go (inl q) = absurd (gone (in_is _ _ (pts new) (ap (λ (y : Came). y.pt) q ∙ e) (zip_pt d (came_after k (length before) came) (pts new) h)))
            go (inr j) = in_left d (qs ++ (came_as k (σ (κ s.pt)) ∷ [])) _ (in_left d qs _ j)
