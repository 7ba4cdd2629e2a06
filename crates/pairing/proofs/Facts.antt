-- What the upper crates need of an accepted symbol.
--
-- In order: frames have determinant 1 (`frame_det`), the first and the last vertex are integers (`first_integer`, `last_integer`);
-- partners (`Partner`, `partner_of`: another side with the same label, whose partner is the first again); generators have
-- determinant 1 (`generator_det`); the generator of a number (`generator_at`).
-- Assumes nothing.
use mathlib.Core.Path.{◌≡◌, refl, sym, ◌∙◌, ap}
use mathlib.Core.Logic.{◌⊎◌, inl, inr}
use mathlib.Core.Bool.{Bool, true}
use mathlib.Core.List.{List, [], ◌∷◌, map}
use Prim.Native.Nat.{ℕ, zero, suc, ◌+◌, ◌-◌, ◌<◌, ◌≤◌}
use native.Mathlib.Omega.{arith}
use lib.Dec.{ltb}
use lib.ListN.{length, get_or}
use borrow.Author.Tests.{lt-ltb, le-ltb}
use lib.IntN.{ℤ, pos, negsuc}
use Rattle.matrix.specs.Matrix.{Mat, ◌⊗◌, 𝟙, adj, det, mat_s, mat_q}
use Rattle.matrix.specs.Words.{S, Q}
use Rattle.matrix.proofs.Ring.{ring, con, var, ◌⊕◌, ◌⊙◌, ⊖◌}
use Rattle.matrix.proofs.Matrix.{det_one, det_adj, det_letter}
use Rattle.basics.specs.Count.{count}
use Rattle.symbol.specs.Table.{numer, denom, pairing_entry, pairing_of, carried}
use Rattle.symbol.specs.Check.{eq_z, sides}
use Rattle.symbol.specs.Symbol.{FreeLabel, IsSymbol}
use Rattle.pairing.specs.Generator.{partner, pairing_at, is_leader, leaders, frame_at, generator_by, generator, generators}
use Rattle.symbol.specs.declared.Pairing.{Pairing}
use Rattle.symbol.specs.declared.Pairing.TheVariants.{Even, Odd, Free}
use Rattle.symbol.proofs.Choice.{eq_z_true, eq_eq_z, eq_z_refl}
use Rattle.basics.proofs.Choice.{pick_true, pick_false}
use Rattle.basics.proofs.Count.{another, length_those, those_at, count_yes, count_mono}
use Rattle.symbol.proofs.Pairings.{pairing_free}

module _ (v : ℕ) (t : List ℤ) (s : IsSymbol v t) where
  -- ---- frames

  pub frame_det : (i : ℕ) → i ≤ v → det (frame_at v t i) ≡ pos 1
  frame_det i h = s.neighbours i h

  -- the denominator at the right end of side 0, and at the left end of side v
  pub first_integer : denom t 0 ≡ pos 1
  unfolding det
  first_integer =
      let a = s.some in
      let inside = lt-ltb 0 v a in
      let e = s.neighbours 0 (omega arith) in
      let n = pick_true (ltb 0 v) (numer t 0) (pos 1) inside in
      let d = pick_true (ltb 0 v) (denom t 0) (pos 0) inside in
      sym (ring (numer t 0 ∷ denom t 0 ∷ []) (var 0 ⊙ con (pos 0) ⊕ ⊖ (con (negsuc 0) ⊙ var 1)) (var 1) tt)
      ∙ cc (n, d, e)

  pub last_integer : denom t (v - 1) ≡ pos 1
  unfolding det
  last_integer = go v refl
    where
      go : (n : ℕ) → v ≡ n → denom t (v - 1) ≡ pos 1
      go zero z = let a = s.some in absurd (omega arith)
      go (suc n) z =
          let w : v - 1 ≡ n = omega arith in
          let outside = le-ltb (suc n) v (omega arith) in
          let e = s.neighbours (suc n) (omega arith) in
          let p = pick_false (ltb (suc n) v) (numer t (suc n)) (pos 1) outside in
          let q = pick_false (ltb (suc n) v) (denom t (suc n)) (pos 0) outside in
          ap (denom t) w
          ∙ sym (ring (numer t n ∷ denom t n ∷ []) (con (pos 1) ⊙ var 1 ⊕ ⊖ (var 0 ⊙ con (pos 0))) (var 1) tt)
          ∙ cc (p, q, e)

  -- ---- partners

  pub record Partner (i : ℕ) : Type 0 where
    pub within : partner v t i ≤ v
    pub differs : ¬ (partner v t i ≡ i)
    pub same : pairing_entry v t (partner v t i) ≡ pairing_entry v t i
    pub back : partner v t (partner v t i) ≡ i

  abbrev alike : ℕ → ℕ → Bool
  alike i k = eq_z (pairing_entry v t k) (pairing_entry v t i)

  pub partner_of : (i : ℕ) → i ≤ v → FreeLabel v t (pairing_entry v t i) → Partner i
  partner_of i h f =
      let a = another (alike i) (v + 1) i f.twice (omega arith) (eq_z_refl (pairing_entry v t i)) in
      let k = partner v t i in
      let e = eq_z_true (pairing_entry v t k) (pairing_entry v t i) a.passes in
      let b = another (alike k) (v + 1) k (ap (sides v t) e ∙ f.twice) a.below (eq_z_refl (pairing_entry v t k)) in
      let l = a.below in
      record {
        within = omega arith;
        differs = a.differs;
        same = e;
        back = sym (b.others i (omega arith) (eq_eq_z (pairing_entry v t i) (pairing_entry v t k) (sym e)) (λ z. a.differs (sym z)));
      }

  -- ---- generators

  carried_det : (n x m : Mat) → det n ≡ pos 1 → det x ≡ pos 1 → det m ≡ pos 1 → det (carried n x m) ≡ pos 1
  carried_det n x m a b c = det_one (n ⊗ x) (adj m) (det_one n x a b) (det_adj m ∙ c)

  -- what a side is paired as, with what it says of the table
  pub data SideKind (i : ℕ) : Type 0 where
    even : pairing_at v t i ≡ Even → SideKind i
    odd : pairing_at v t i ≡ Odd → SideKind i
    free : (l : ℕ) → pairing_at v t i ≡ Free l → Partner i → SideKind i

  pub side_kind : (i : ℕ) → i ≤ v → SideKind i
  side_kind i h = go (s.pairings i h)
    where
      go : (pairing_entry v t i ≡ negsuc 1) ⊎ (pairing_entry v t i ≡ negsuc 2) ⊎ FreeLabel v t (pairing_entry v t i) → SideKind i
      go (inl e) = even (ap (pairing_of v) e)
      go (inr (inl e)) = odd (ap (pairing_of v) e)
      go (inr (inr f)) = free f.label (ap (pairing_of v) f.is ∙ pairing_free v f.label f.low f.high) (partner_of i h f)

  pub generator_det : (i : ℕ) → i ≤ v → det (generator v t i) ≡ pos 1
  generator_det i h = go (side_kind i h)
    where
      made : (p : Pairing) → pairing_at v t i ≡ p → generator v t i ≡ generator_by p (frame_at v t i) (frame_at v t (partner v t i))
      made p e = ap (λ (q : Pairing). generator_by q (frame_at v t i) (frame_at v t (partner v t i))) e

      go : SideKind i → det (generator v t i) ≡ pos 1
      go (even e) = ap det (made Even e) ∙ carried_det (frame_at v t i) mat_s (frame_at v t i) (frame_det i h) (det_letter S) (frame_det i h)
      go (odd e) = ap det (made Odd e) ∙ carried_det (frame_at v t i) mat_q (frame_at v t i) (frame_det i h) (det_letter Q) (frame_det i h)
      go (free l e p) = ap det (made (Free l) e)
          ∙ carried_det (frame_at v t (partner v t i)) mat_s (frame_at v t i) (frame_det (partner v t i) p.within) (det_letter S) (frame_det i h)

-- ---- the generator of a number

pub map_at : {A B : Type 0} (f : A → B) (l : List A) (n : ℕ) (d : A) (e : B) → n < length l → get_or (map f l) n e ≡ f (get_or l n d)
map_at f [] n d e h = absurd (omega arith)
map_at f (x ∷ l) zero d e h = refl
map_at f (x ∷ l) (suc n) d e h = map_at f l n d e (omega arith)

-- generator j + 1 is that of the side before which j sides lead
pub generator_at : (v : ℕ) (t : List ℤ) (i : ℕ) → i ≤ v → is_leader v t i ≡ true → get_or (generators v t) (count (is_leader v t) i) 𝟙 ≡ generator v t i
generator_at v t i h e =
    let a = count_yes (is_leader v t) i e in
    let b = count_mono (is_leader v t) (suc i) (v + 1) (omega arith) in
    map_at (generator v t) (leaders v t) (count (is_leader v t) i) 0 𝟙 (omega (arith, length_those (is_leader v t) (v + 1)))
    ∙ ap (generator v t) (those_at (is_leader v t) i (v + 1) 0 (omega arith) e)
