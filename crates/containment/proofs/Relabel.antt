-- Symbols that differ in their labels only have the same generators: `relabelled_generators`.
-- In order: equal lists (`map_those`); sides of one kind with one partner (`Both`, `relabelled_both`); equal leading sides and equal generators of
-- sides (`leader_same`, `generator_same`); the law.
-- Why: two free labels have one number exactly where they have one leftmost side, so where numbers agree, partners do.
-- Assumes nothing.
use mathlib.Core.Path.{◌≡◌, refl, sym, ◌∙◌, ap}
use mathlib.Core.Bool.{Bool, true, false}
use mathlib.Core.List.{List, [], ◌∷◌, ◌++◌, map, map-append}
use Prim.Native.Nat.{ℕ, zero, suc, ◌+◌, ◌*◌, ◌<◌, ◌≤◌}
use native.Mathlib.Omega.{arith}
use lib.Dec.{ltb}
use lib.IntN.{ℤ, negsuc}
use Rattle.matrix.specs.Matrix.{Mat, nth, mat_s, mat_q}
use Rattle.basics.specs.Choice.{pick}
use Rattle.basics.specs.Count.{those}
use Rattle.basics.proofs.Choice.{clash}
use Rattle.symbol.specs.Table.{pairing_entry, pairing_of, carried}
use Rattle.symbol.specs.Check.{eq_z}
use Rattle.symbol.specs.Symbol.{IsSymbol}
use Rattle.symbol.specs.declared.Pairing.{Pairing}
use Rattle.symbol.proofs.Choice.{eq_eq_z}
use Rattle.symbol.proofs.Vertices.{frame_same}
use Rattle.pairing.specs.Generator.{partner, is_leader_by, is_leader, frame_at, generator_by, generator, generators}
use Rattle.containment.specs.Relabel.{relabelled, Relabelled}
use Rattle.containment.proofs.Sides.{FreeSide, Kind, even, odd, free, kind_of, relabelled_even, relabelled_odd, relabelled_free, relabelled_partner}
use Rattle.containment.proofs.Sides.{number_apart}

-- ---- lists

-- the images of those that pass, where tests and maps agree below n
map_those : (f g : ℕ → Bool) (a b : ℕ → Mat) (n : ℕ) → ((i : ℕ) → i < n → f i ≡ g i) → ((i : ℕ) → i < n → a i ≡ b i)
    → map a (those f n) ≡ map b (those g n)
map_those f g a b zero p q = refl
map_those f g a b (suc n) p q =
    map-append a (those f n) (pick (f n) (n ∷ []) [])
    ∙ ap (λ (k : List Mat). k ++ map a (pick (f n) (n ∷ []) [])) (map_those f g a b n (λ i h. p i (omega arith)) (λ i h. q i (omega arith)))
    ∙ ap (λ (k : List Mat). map b (those g n) ++ k)
    (ap (λ (x : Bool). map a (pick x (n ∷ []) [])) (p n (omega arith)) ∙ one (g n))
    ∙ sym (map-append b (those g n) (pick (g n) (n ∷ []) []))
  where
    one : (x : Bool) → map a (pick x (n ∷ []) []) ≡ map b (pick x (n ∷ []) [])
    one true = ap (λ (m : Mat). m ∷ []) (q n (omega arith))
    one false = refl

-- ---- sides of one kind

-- even in both, or odd in both, or free in both with one partner
data Both (v : ℕ) (t t' : List ℤ) (i : ℕ) : Type 0 where
  evens : pairing_entry v t i ≡ negsuc 1 → pairing_entry v t' i ≡ negsuc 1 → Both v t t' i
  odds : pairing_entry v t i ≡ negsuc 2 → pairing_entry v t' i ≡ negsuc 2 → Both v t t' i
  frees : FreeSide v t i → FreeSide v t' i → partner v t i ≡ partner v t' i → Both v t t' i

module _ (v : ℕ) (t t' : List ℤ) (s : IsSymbol v t) (s' : IsSymbol v t') (all : (i : ℕ) → i ≤ v → relabelled v t i ≡ relabelled v t' i) where
  relabelled_both : (i : ℕ) → i ≤ v → Both v t t' i
  relabelled_both i h = go (kind_of v t s i h) (kind_of v t' s' i h)
    where
      apart : {A : Type 0} (x y : ℤ) → relabelled v t i ≡ x → relabelled v t' i ≡ y → eq_z x y ≡ false → A
      apart x y a b e = clash (eq_eq_z x y (sym a ∙ all i h ∙ b)) e

      -- the partner in t, seen in t', where side i has a number
      paired : (g : FreeSide v t' i) → relabelled v t' (partner v t i) ≡ relabelled v t' i → Kind v t' (partner v t i)
          → pairing_entry v t' (partner v t i) ≡ pairing_entry v t' i
      paired g e (even b) = clash (eq_eq_z _ _ (sym (relabelled_even v t' (partner v t i) b) ∙ e ∙ relabelled_free v t' i g)) refl
      paired g e (odd b) = clash (eq_eq_z _ _ (sym (relabelled_odd v t' (partner v t i) b) ∙ e ∙ relabelled_free v t' i g)) refl
      paired g e (free k) = number_apart v t' (partner v t i) i k g e

      go : Kind v t i → Kind v t' i → Both v t t' i
      go (even a) (even b) = evens a b
      go (even a) (odd b) = apart _ _ (relabelled_even v t i a) (relabelled_odd v t' i b) refl
      go (even a) (free g) = apart _ _ (relabelled_even v t i a) (relabelled_free v t' i g) refl
      go (odd a) (even b) = apart _ _ (relabelled_odd v t i a) (relabelled_even v t' i b) refl
      go (odd a) (odd b) = odds a b
      go (odd a) (free g) = apart _ _ (relabelled_odd v t i a) (relabelled_free v t' i g) refl
      go (free f) (even b) = apart _ _ (relabelled_free v t i f) (relabelled_even v t' i b) refl
      go (free f) (odd b) = apart _ _ (relabelled_free v t i f) (relabelled_odd v t' i b) refl
      go (free f) (free g) =
          let k = partner v t i in
          let e = sym (all k f.within) ∙ relabelled_partner v t i f ∙ all i h in
          let p = paired g e (kind_of v t' s' k f.within) in
          frees f g (g.others k f.within p f.differs)

-- ---- equal vertices

module _ (v : ℕ) (t t' : List ℤ) (same : (i : ℕ) → i < 2 * v → nth t i ≡ nth t' i) where
  -- ---- equal generators

  leader_same : (i : ℕ) → Both v t t' i → is_leader v t i ≡ is_leader v t' i
  leader_same i (evens a b) =
      ap (λ (x : ℤ). is_leader_by (pairing_of v x) i (partner v t i)) a ∙ sym (ap (λ (x : ℤ). is_leader_by (pairing_of v x) i (partner v t' i)) b)
  leader_same i (odds a b) =
      ap (λ (x : ℤ). is_leader_by (pairing_of v x) i (partner v t i)) a ∙ sym (ap (λ (x : ℤ). is_leader_by (pairing_of v x) i (partner v t' i)) b)
  leader_same i (frees f g e) =
      ap (λ (p : Pairing). is_leader_by p i (partner v t i)) f.is ∙ ap (ltb i) e ∙ sym (ap (λ (p : Pairing). is_leader_by p i (partner v t' i)) g.is)

  generator_same : (i : ℕ) → i ≤ v → Both v t t' i → generator v t i ≡ generator v t' i
  generator_same i h (evens a b) =
      ap (λ (x : ℤ). generator_by (pairing_of v x) (frame_at v t i) (frame_at v t (partner v t i))) a
      ∙ ap (λ (m : Mat). carried m mat_s m) (frame_same v t t' same i h)
      ∙ sym (ap (λ (x : ℤ). generator_by (pairing_of v x) (frame_at v t' i) (frame_at v t' (partner v t' i))) b)
  generator_same i h (odds a b) =
      ap (λ (x : ℤ). generator_by (pairing_of v x) (frame_at v t i) (frame_at v t (partner v t i))) a
      ∙ ap (λ (m : Mat). carried m mat_q m) (frame_same v t t' same i h)
      ∙ sym (ap (λ (x : ℤ). generator_by (pairing_of v x) (frame_at v t' i) (frame_at v t' (partner v t' i))) b)
  generator_same i h (frees f g e) =
      let m = frame_at v t' i in
      ap (λ (p : Pairing). generator_by p (frame_at v t i) (frame_at v t (partner v t i))) f.is
      ∙ ap (λ (x : Mat). carried (frame_at v t (partner v t i)) mat_s x) (frame_same v t t' same i h)
      ∙ ap (λ (x : Mat). carried x mat_s m) (frame_same v t t' same (partner v t i) f.within ∙ ap (frame_at v t') e)
      ∙ sym (ap (λ (p : Pairing). generator_by p m (frame_at v t' (partner v t' i))) g.is)

-- ---- the law

pub relabelled_generators : (v : ℕ) (t : List ℤ) (v' : ℕ) (t' : List ℤ) → IsSymbol v t → IsSymbol v' t' → Relabelled v t v' t' → generators v t
    ≡ generators v' t'
relabelled_generators v t v' t' s s' r =
    let e = r.count in
    let s₂ : IsSymbol v t' = rw e s' in
    let p : (i : ℕ) → i ≤ v → relabelled v t i ≡ relabelled v t' i = λ i h. r.pairings i h ∙ ap (λ (n : ℕ). relabelled n t' i) (sym e) in
    let b : (i : ℕ) → i < v + 1 → Both v t t' i = λ i h. relabelled_both v t t' s s₂ p i (omega arith) in
    map_those (is_leader v t) (is_leader v t') (generator v t) (generator v t') (v + 1)
    (λ i h. leader_same v t t' r.vertices i (b i h))
    (λ i h. generator_same v t t' r.vertices i (omega arith) (b i h))
    ∙ ap (λ (n : ℕ). generators n t') e
