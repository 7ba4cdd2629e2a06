-- The array of other sides while the polygon is cut: which edges have both their sides already, and what is true of those.
--
-- In order: positions that are there so far (`Known`) and the frames of positions (`frames`); edges whose two sides have found each
-- other (`Way`, `Shut`) and the state of the array (`Fits`), where a list names the positions that have no other side yet; the three
-- things that happen to it: a side comes in (`open_side_lem`), a triangle comes in (`open_triangle`), two open positions are joined (`join`).
--
-- Why: each position is open until it is joined, once, with another open one; all later stores are at positions that are open or new.
-- That corner 0 of a triangle meets a corner of a LATER triangle, or the last side, is all that is kept of the tree of triangles.
-- Assumes nothing.
use mathlib.Core.Path.{◌≡◌, refl, sym, ◌∙◌, ap}
use mathlib.Core.Logic.{◌⊎◌}
use mathlib.Core.Bool.{Bool}
use mathlib.Core.List.{List, [], ◌∷◌}
use Prim.Native.Nat.{ℕ, zero, suc, ◌+◌, ◌*◌, ◌-◌, ◌/◌, ◌%◌, ◌≤◌, ◌<◌}
use native.Mathlib.Omega.{arith}
use native.Mathlib.Decide.{ℕ_discrete, dec_lt}
use lib.Dec.{ltb, eqb}
use lib.ListN.{length, get_or, set, length-set}
use lib.Seq.{get_or-set_same, get_or-set_other}
use lib.IntN.{pos}
use borrow.Author.Tests.{lt-ltb, le-ltb, eq-eqb, ne_eqb}
use Rattle.matrix.specs.Matrix.{Mat, ◌⊗◌, det, mat_s, mat_q, mat_p, ◌≈◌}
use Rattle.matrix.specs.Words.{Q, P, letter}
use Rattle.basics.specs.Choice.{pick}
use Rattle.matrix.proofs.Matrix.{det_one, det_letter}
use Rattle.polygon.specs.Cut.{corners, outer, places, link}
use Rattle.polygon.proofs.Mediant.{turn_back}

-- ---- positions

-- p is a corner of the first m triangles, or the outer face of one of the first o sides
pub data Known (v m o p : ℕ) : Type 0 where
  corner : p < 3 * m → Known v m o p
  face : corners v ≤ p → p < outer v o → Known v m o p

pub known_more : {v m o m' o' p : ℕ} → Known v m o p → m ≤ m' → o ≤ o' → Known v m' o' p
known_more (corner a) h k = corner (omega arith)
known_more (face a b) h k = face a (omega arith)

pub known_in : {v m o p : ℕ} → Known v m o p → 3 * m ≤ corners v → o ≤ v + 1 → p < places v
known_in (corner a) h k = omega arith
known_in (face a b) h k = omega arith

known_side : {v m o p : ℕ} → Known v m (suc o) p → (p ≡ outer v o → ⊥) → Known v m o p
known_side (corner a) n = corner a
known_side (face a b) n = face a (omega arith)

known_triangle : {v m o p : ℕ} → Known v (m + 1) o p → (p ≡ 3 * m → ⊥) → (p ≡ 3 * m + 1 → ⊥) → (p ≡ 3 * m + 2 → ⊥) → Known v m o p
known_triangle (corner a) x y z = corner (omega arith)
known_triangle (face a b) x y z = face a b

new_side : {v m o p : ℕ} → Known v m o p → 3 * m ≤ corners v → p ≡ outer v o → ⊥
new_side (corner a) h e = omega arith
new_side (face a b) h e = omega arith

new_corner : {v m o p : ℕ} (c : ℕ) → Known v m o p → 3 * m + c < corners v → p ≡ 3 * m + c → ⊥
new_corner c (corner a) h e = omega arith
new_corner c (face a b) h e = omega arith

-- p isn't in the list; no two in the list are the same; all of the list are known
abbrev pub Out : ℕ → List ℕ → Type 0
Out p [] = Unit {0}
Out p (h ∷ l) = (p ≡ h → ⊥) × Out p l

abbrev pub Apart : List ℕ → Type 0
Apart [] = Unit {0}
Apart (h ∷ l) = Out h l × Apart l

abbrev pub Knowns : ℕ → ℕ → ℕ → List ℕ → Type 0
Knowns v m o [] = Unit {0}
Knowns v m o (h ∷ l) = Known v m o h × Knowns v m o l

knowns_more : (v m o m' o' : ℕ) (l : List ℕ) → Knowns v m o l → m ≤ m' → o ≤ o' → Knowns v m' o' l
knowns_more v m o m' o' [] k h i = tt
knowns_more v m o m' o' (p ∷ l) k h i = (known_more k.0 h i, knowns_more v m o m' o' l k.1 h i)

-- what isn't known is out of a list of known positions
fresh : (v m o p : ℕ) (l : List ℕ) → Knowns v m o l → ((q : ℕ) → Known v m o q → q ≡ p → ⊥) → Out p l
fresh v m o p [] k n = tt
fresh v m o p (h ∷ l) k n = ((λ e. n h k.0 (sym e)), fresh v m o p l k.1 n)

-- ---- frames

abbrev pub spun : Mat → ℕ → Mat
spun m zero = m
spun m (suc zero) = m ⊗ mat_q
spun m (suc (suc c)) = m ⊗ mat_p

-- `side i` is the frame of side i, `top m` that of the top chord of triangle m
abbrev pub frames : ℕ → (ℕ → Mat) → (ℕ → Mat) → ℕ → Mat
frames v side top p = pick (ltb p (corners v)) (spun (top (p / 3)) (p % 3)) (side (p - corners v))

-- one triangle more
abbrev pub put : ℕ → Mat → (ℕ → Mat) → ℕ → Mat
put m x top k = pick (eqb k m) x (top k)

pub frame_outer : (v : ℕ) (side top : ℕ → Mat) (i : ℕ) → frames v side top (outer v i) ≡ side i
frame_outer v side top i = let e : outer v i - corners v ≡ i = omega arith in rw (le-ltb (outer v i) (corners v) (omega arith), e)

pub frame_corner : (v : ℕ) (side top : ℕ → Mat) (m c : ℕ) → c < 3 → 3 * m + c < corners v → frames v side top (3 * m + c) ≡ spun (top m) c
frame_corner v side top m c h k =
    let e : (3 * m + c) / 3 ≡ m = omega arith in
    let f : (3 * m + c) % 3 ≡ c = omega arith in
    rw (lt-ltb (3 * m + c) (corners v) k, e, f)

-- what is known keeps its frame
pub frame_same : (v : ℕ) (side top : ℕ → Mat) (m o : ℕ) (x : Mat) (p : ℕ) → 3 * m ≤ corners v → Known v m o p → frames v side (put m x top) p
    ≡ frames v side top p
frame_same v side top m o x p h (corner a) = rw (lt-ltb p (corners v) (omega arith), ne_eqb (p / 3) m (omega arith))
frame_same v side top m o x p h (face a b) = rw (le-ltb p (corners v) a)

-- ---- edges

-- how an edge leads from p to q: up from a corner 0, and inside from an outer face
pub record Way (v p q : ℕ) : Type 0 where
  pub up : p < corners v → p % 3 ≡ 0 → (p + 2 < q) × ((q < corners v) ⊎ (q ≡ outer v v))
  pub inside : corners v ≤ p → (q < corners v) ⊎ (v ≡ 1)

module _ (v : ℕ) (side : ℕ → Mat) where
  -- p has found its other side, which is not open either
  pub record Shut (a : List ℕ) (m o : ℕ) (opens : List ℕ) (top : ℕ → Mat) (p : ℕ) : Type 0 where
    pub other : ℕ
    pub is : get_or a p p ≡ other
    pub differs : p ≡ other → ⊥
    pub known : Known v m o other
    pub out : Out other opens
    pub back : get_or a other other ≡ p
    pub turn : frames v side top p ⊗ mat_s ≈ frames v side top other
    pub way : Way v p other

  pub record Fits (a : List ℕ) (m o : ℕ) (opens : List ℕ) (top : ℕ → Mat) : Type 0 where
    pub size : length a ≡ places v
    pub room : 3 * m ≤ corners v
    pub most : o ≤ v + 1
    pub apart : Apart opens
    pub known : Knowns v m o opens
    pub unit : (p : ℕ) → Known v m o p → det (frames v side top p) ≡ pos 1
    pub shut : (p : ℕ) → Known v m o p → Out p opens → Shut a m o opens top p

  -- ---- a side comes in

  pub open_side_lem : (a : List ℕ) (m o : ℕ) (opens : List ℕ) (top : ℕ → Mat) → Fits a m o opens top → o ≤ v → det (side o) ≡ pos 1
      → Fits a m (suc o) (outer v o ∷ opens) top
  open_side_lem a m o opens top f h d = record {
    size = f.size;
    room = f.room;
    most = omega arith;
    apart = (fresh v m o (outer v o) opens f.known (λ q k e. new_side k f.room e), f.apart);
    known = (face (omega arith) (omega arith), knowns_more v m o m (suc o) opens f.known (omega arith) (omega arith));
    unit = λ p k. elim (ℕ_discrete p (outer v o)) [
      | yes e ↦ ap (λ (q : ℕ). det (frames v side top q)) e ∙ ap det (frame_outer v side top o) ∙ d
      | no e ↦ f.unit p (known_side k e)
    ];
    shut = λ p k n.
        let s = f.shut p (known_side k n.0) n.1 in
        record {
          other = s.other;
          is = s.is;
          differs = s.differs;
          known = known_more s.known (omega arith) (omega arith);
          out = ((λ e. new_side s.known f.room e), s.out);
          back = s.back;
          turn = s.turn;
          way = s.way;
        };
  }

  -- ---- a triangle comes in, over the open positions h and hl

  pub open_triangle : (a : List ℕ) (m o h hl : ℕ) (opens : List ℕ) (top : ℕ → Mat) (x : Mat) → Fits a m o (h ∷ hl ∷ opens) top → 3 * (m + 1) ≤ corners v → det x
      ≡ pos 1
      → Fits a (m + 1) o ((3 * m + 1) ∷ hl ∷ (3 * m + 2) ∷ h ∷ (3 * m) ∷ opens) (put m x top)
  open_triangle a m o h hl opens top x f r d = record {
    size = f.size;
    room = r;
    most = f.most;
    apart = (
      ((λ e. new 1 kl (omega arith) (sym e)), ((λ e. omega arith), ((λ e. new 1 kh (omega arith) (sym e)), ((λ e. omega arith), new_out 1 (omega arith))))),
      (
        ((λ e. new 2 kl (omega arith) e), ((λ e. f.apart.0.0 (sym e)), ((λ e. zeroth kl e), f.apart.1.0))),
        (
          ((λ e. new 2 kh (omega arith) (sym e)), ((λ e. omega arith), new_out 2 (omega arith))),
          (
            ((λ e. zeroth kh e), f.apart.0.1),
            (
              fresh v m o (3 * m) opens f.known.1.1 (λ q k e. zeroth k e),
              f.apart.1.1,
            ),
          ),
        ),
      ),
    );
    known = (
      corner (omega arith),
      (
        more kl,
        (
          corner (omega arith),
          (
            more kh,
            (
              corner (omega arith),
              knowns_more v m o (m + 1) o opens f.known.1.1 (omega arith) (omega arith),
            ),
          ),
        ),
      ),
    );
    unit = λ p k. elim (dec_lt p (3 * m)) [
      | yes b ↦ old p (corner b)
      | no b ↦ elim k [ corner c ↦ unit_corner p (omega arith) (omega arith) | face c e ↦ old p (face c e) ]
    ];
    shut = λ p k n.
        let i = n.1.1.1 in
        let j = known_triangle k i.1.0 n.0 n.1.1.0 in
        let s = f.shut p j (i.0, (n.1.0, i.1.1)) in
        let z = s.known in
        record {
          other = s.other;
          is = s.is;
          differs = s.differs;
          known = more z;
          out = ((λ e. new 1 z (omega arith) e), (s.out.1.0, ((λ e. new 2 z (omega arith) e), (s.out.0, ((λ e. zeroth z e), s.out.1.1)))));
          back = s.back;
          turn = rw (frame_same v side top m o x p f.room j, frame_same v side top m o x s.other f.room z) s.turn;
          way = s.way;
        };
  }
    where
      kh : Known v m o h
      kh = f.known.0

      kl : Known v m o hl
      kl = f.known.1.0

      more : {p : ℕ} → Known v m o p → Known v (m + 1) o p
      more k = known_more k (omega arith) (omega arith)

      new : (c : ℕ) {p : ℕ} → Known v m o p → c < 3 → p ≡ 3 * m + c → ⊥
      new c k l e = new_corner c k (omega arith) e

      zeroth : {p : ℕ} → Known v m o p → p ≡ 3 * m → ⊥
      zeroth k e = new 0 k (omega arith) (e ∙ omega arith)

      new_out : (c : ℕ) → c < 3 → Out (3 * m + c) opens
      new_out c l = fresh v m o (3 * m + c) opens f.known.1.1 (λ q k e. new c k l e)

      old : (p : ℕ) → Known v m o p → det (frames v side (put m x top) p) ≡ pos 1
      old p k = ap det (frame_same v side top m o x p f.room k) ∙ f.unit p k

      unit_spun : (c : ℕ) → det (spun x c) ≡ pos 1
      unit_spun zero = d
      unit_spun (suc zero) = det_one x (letter Q) d (det_letter Q)
      unit_spun (suc (suc c)) = det_one x (letter P) d (det_letter P)

      unit_corner : (p : ℕ) → 3 * m ≤ p → p < 3 * m + 3 → det (frames v side (put m x top) p) ≡ pos 1
      unit_corner p b c =
          let e : p ≡ 3 * m + (p - 3 * m) = omega arith in
          ap (λ (q : ℕ). det (frames v side (put m x top) q)) e
          ∙ ap det (frame_corner v side (put m x top) m (p - 3 * m) (omega arith) (omega arith)
          ∙ ap (λ (b : Bool). spun (pick b x (top m)) (p - 3 * m)) (eq-eqb m m refl))
          ∙ unit_spun (p - 3 * m)

  -- ---- two open positions are joined

  pub join : (a : List ℕ) (m o p q : ℕ) (opens : List ℕ) (top : ℕ → Mat) → Fits a m o (p ∷ q ∷ opens) top → frames v side top p ⊗ mat_s ≈ frames v side top q
      → Way v p q → Way v q p → Fits (link a p q) m o opens top
  join a m o p q opens top f e w w' = record {
    size = length-set (set a p q) q p ∙ length-set a p q ∙ f.size;
    room = f.room;
    most = f.most;
    apart = f.apart.1.1;
    known = f.known.1.1;
    unit = f.unit;
    shut = λ x k n. elim (ℕ_discrete x p) [
      | yes h ↦ rw h (record { other = q; is = at_p; differs = apart; known = f.known.1.0; out = f.apart.1.0; back = at_q; turn = e; way = w })
      | no h ↦ elim (ℕ_discrete x q) [
        | yes i ↦ rw i (record {
          other = p;
          is = at_q;
          differs = λ z. apart (sym z);
          known = f.known.0;
          out = f.apart.0.1;
          back = at_p;
          turn =
              turn_back (frames v side top p) (frames v side top q) e;
          way = w';
        })
        | no i ↦
            (let s = f.shut x k (h, (i, n)) in
            let y = s.other in
            record {
              other = y;
              is = else x h i ∙ s.is;
              differs = s.differs;
              known = s.known;
              out = s.out.1.1;
              back = else y s.out.0 s.out.1.0 ∙ s.back;
              turn = s.turn;
              way = s.way;
            })
      ]
    ];
  }
    where
      apart : p ≡ q → ⊥
      apart = f.apart.0.0

      in_a : {x : ℕ} → Known v m o x → x < length a
      in_a k = omega (arith, known_in k f.room f.most, f.size)

      at_q : get_or (link a p q) q q ≡ p
      at_q = get_or-set_same (set a p q) q p q (omega (arith, in_a f.known.1.0, length-set a p q))

      at_p : get_or (link a p q) p p ≡ q
      at_p = get_or-set_other (set a p q) q p p p apart ∙ get_or-set_same a p q p (in_a f.known.0)

      else : (x : ℕ) → (x ≡ p → ⊥) → (x ≡ q → ⊥) → get_or (link a p q) x x ≡ get_or a x x
      else x h i = get_or-set_other (set a p q) q x p x i ∙ get_or-set_other a p x q x h
