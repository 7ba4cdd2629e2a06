-- The scan cuts the whole polygon: after its last vertex one position is open, and it lies under the chord from -1/0 to the last vertex.
--
-- In order: what the stack keeps (`Stacked`, `Rising`); a triangle
-- cut off (`cut_off`); a vertex pushed (`push_ready`); the scan (`Ready`, `ready`); a vertex of denominator 1 is alone on the stack (`alone`); the
-- array at the end (`Whole`, `whole`).
--
-- Why: denominators rise strictly up the stack, since a top that isn't the mediant is at most half of the sum of its neighbours. So under a
-- vertex of denominator 1 nothing is left; 0/1 is one, and the last vertex is one by the last side.
-- Assumes nothing.
use mathlib.Core.Path.{◌≡◌, refl, sym, ◌∙◌, ap}
use mathlib.Core.Logic.{◌⊎◌, inl, inr}
use mathlib.Core.Bool.{Bool, true, false}
use mathlib.Core.List.{List, [], ◌∷◌}
use Prim.Native.Nat.{ℕ, zero, suc, ◌+◌, ◌*◌, ◌-◌, ◌≤◌, ◌<◌}
use native.Mathlib.Omega.{arith}
use native.Mathlib.Decide.{ℕ_discrete}
use native.Mathlib.Numerals.{add-one}
use lib.Dec.{eqb}
use lib.ListN.{length, length-replicate}
use lib.IntN.{ℤ, pos, negsuc, nat_abs, ◌+ℤ◌}
use borrow.Author.Tests.{eqb-true, eqb-false, eq-eqb, ne_eqb}
use Rattle.matrix.specs.Matrix.{Mat, mat, ◌⊗◌, 𝟙, det, mat_s, ◌≈◌}
use Rattle.basics.specs.Choice.{pick}
use Rattle.matrix.proofs.Matrix.{≈-neg, ◌∙≈◌, ≈-right}
use Rattle.matrix.proofs.Ring.{con, var, lit, const, ◌⊛◌, ring_m, mat_eq}
use Rattle.basics.specs.Count.{first}
use Rattle.symbol.specs.Table.{numer, denom, left_num}
use Rattle.symbol.specs.Check.{is_zero, eq_z}
use Rattle.symbol.specs.Symbol.{IsSymbol}
use Rattle.pairing.specs.Generator.{frame_at}
use Rattle.polygon.specs.Cut.{corners, outer, places, den, Cell, below, handle, Scan, link, attach, push, pushed, scanned, flip_of, under_zero}
use Rattle.pairing.proofs.Facts.{last_integer}
use Rattle.basics.proofs.Count.{found}
use Rattle.symbol.proofs.Choice.{eq_z_true}
use Rattle.basics.proofs.Choice.{either, and_left, and_right}
use Rattle.polygon.proofs.SymbolFacts.{below_suc, first_below}
use Rattle.polygon.proofs.Chord.{chord, Over, side_chord, last_side}
use Rattle.polygon.proofs.Mediant.{S_twice, sum_or_half, mediant, Triangle, triangle}
use Rattle.polygon.proofs.Edges.{Known, corner, face, known_more, known_in, Knowns, frames, put, spun, frame_outer, frame_corner, frame_same}
use Rattle.polygon.proofs.Edges.{Way, Fits, open_side_lem, open_triangle, join}

-- ---- chords

triangle_at : (t : List ℤ) (x m y : ℕ) → left_num t m ≡ left_num t x +ℤ left_num t y → den t m ≡ den t x + den t y
    → Triangle (chord t x m) (chord t m y) (chord t x y)
triangle_at t x m y n d = rw (n, d) (triangle (left_num t x) (pos (den t x)) (left_num t y) (pos (den t y)))

abbrev pub handles : List Cell → List ℕ
handles [] = []
handles (c ∷ l) = c.under ∷ handles l

pick_true : {A : Type 0} (P : A → Type 0) (b : Bool) (x y : A) → b ≡ true → P x → P (pick b x y)
pick_true P b x y e p = rw e p

pick_false : {A : Type 0} (P : A → Type 0) (b : Bool) (x y : A) → b ≡ false → P y → P (pick b x y)
pick_false P b x y e p = rw e p

-- each cell lies under the chord to its vertex, and denominators rise
abbrev pub Stacked : List ℤ → (ℕ → Mat) → List Cell → Type 0
Stacked t F [] = Unit {0}
Stacked t F (c ∷ l) = (F c.under ≡ chord t (below l) c.vertex) × (den t (below l) < den t c.vertex) × Stacked t F l

-- vertices rise up the stack
abbrev pub Rising : List Cell → Type 0
Rising [] = Unit {0}
Rising (c ∷ l) = (below l < c.vertex) × Rising l

-- a vertex of denominator 1 is alone
pub alone : (t : List ℤ) (F : ℕ → Mat) (l : List Cell) → Stacked t F l → den t (below l) ≡ 1 → (F (handle l) ≡ chord t 0 (below l))
    × (handles l ≡ handle l ∷ []) × (length l ≡ 1)
alone t F [] s e = absurd (omega arith)
alone t F (c ∷ []) s e = (s.0, refl, refl)
alone t F (c ∷ d ∷ l) s e = let a = s.1 in let b = s.2.1 in absurd (omega arith)

stacked_same : (t : List ℤ) (v m o : ℕ) (F G : ℕ → Mat) (l : List Cell) → ((p : ℕ) → Known v m o p → G p ≡ F p) → Knowns v m o (handles l) → Stacked t F l
    → Stacked t G l
stacked_same t v m o F G [] h k s = tt
stacked_same t v m o F G (c ∷ l) h k s = (h c.under k.0 ∙ s.0, s.1, stacked_same t v m o F G l h k.1 s.2)

-- an edge up to a corner of the new triangle m, and back
way_up : {v m o x : ℕ} (c : ℕ) → Known v m o x → 3 * (m + 1) ≤ corners v → 1 ≤ c → c < 3 → Way v x (3 * m + c)
way_up c (corner a) r h k = record { up = λ b z. (omega arith, inl (omega arith)); inside = λ b. absurd (omega arith) }
way_up c (face a e) r h k = record { up = λ b z. absurd (omega arith); inside = λ b. inl (omega arith) }

way_down : (v m x c : ℕ) → 3 * (m + 1) ≤ corners v → 1 ≤ c → c < 3 → Way v (3 * m + c) x
way_down v m x c r h k = record { up = λ b z. absurd (omega arith); inside = λ b. absurd (omega arith) }

module _ (v : ℕ) (t : List ℤ) where
  -- the frames of all positions, where `top m` is that of the top chord of triangle m
  abbrev pub framed : (ℕ → Mat) → ℕ → Mat
  framed top = frames v (frame_at v t) top

  -- ---- a triangle is cut off

  module _ (a : List ℕ) (m o h hl : ℕ) (opens : List ℕ) (top : ℕ → Mat) (f : Fits v (frame_at v t) a m o (h ∷ hl ∷ opens) top) (r : 3 * (m + 1) ≤ corners v)
      (x : Mat) (d : det x ≡ pos 1) (tri : Triangle (framed top hl) (framed top h) x) where
    top_is : framed (put m x top) (3 * m) ≡ x
    top_is =
        let e : 3 * m ≡ 3 * m + 0 = omega arith in
        ap (framed (put m x top)) e ∙ frame_corner v (frame_at v t) (put m x top) m 0 (omega arith) (omega arith)
        ∙ ap (λ (b : Bool). pick b x (top m)) (eq-eqb m m refl)

    corner_is : (c : ℕ) → c < 3 → framed (put m x top) (3 * m + c) ≡ spun x c
    corner_is c k = frame_corner v (frame_at v t) (put m x top) m c k (omega arith) ∙ ap (λ (b : Bool). spun (pick b x (top m)) c) (eq-eqb m m refl)

    old_is : (p : ℕ) → Known v m o p → framed (put m x top) p ≡ framed top p
    old_is p k = frame_same v (frame_at v t) top m o x p f.room k

    meets_left : framed (put m x top) (3 * m + 1) ⊗ mat_s ≈ framed (put m x top) hl
    meets_left = rw (corner_is 1 (omega arith), old_is hl f.known.1.0, tri.left) (S_twice (framed top hl))

    meets_right : framed (put m x top) (3 * m + 2) ⊗ mat_s ≈ framed (put m x top) h
    meets_right = rw (corner_is 2 (omega arith), old_is h f.known.0, tri.right) (≈-right mat_s (≈-neg (framed top h ⊗ mat_s)) ∙≈ S_twice (framed top h))

    cut_off : Fits v (frame_at v t) (attach a m hl h) (m + 1) o ((3 * m) ∷ opens) (put m x top)
    cut_off =
        let f₁ = open_triangle v (frame_at v t) a m o h hl opens top x f r d in
        let f₂ = join v (frame_at v t) a (m + 1) o (3 * m + 1) hl _ (put m x top) f₁ meets_left (way_down v m hl 1 r (omega arith) (omega arith))
        (way_up 1 f.known.1.0 r (omega arith) (omega arith)) in
        join v (frame_at v t) _ (m + 1) o (3 * m + 2) h _ (put m x top) f₂ meets_right (way_down v m h 2 r (omega arith) (omega arith))
        (way_up 2 f.known.0 r (omega arith) (omega arith))

  -- ---- a vertex is pushed

  pub record Pushed (m o y : ℕ) (top : ℕ → Mat) (s : Scan) : Type 0 where
    pub tops : ℕ → Mat
    pub fits : Fits v (frame_at v t) s.flips s.cut o (handles s.stack) tops
    pub stacked : Stacked t (framed tops) s.stack
    pub count : s.cut + length s.stack ≡ o
    pub on_top : below s.stack ≡ y
    pub cuts : m ≤ s.cut
    pub same : (p : ℕ) → Known v m o p → framed tops p ≡ framed top p
    pub rising : Rising s.stack
    pub overs : (k : ℕ) → k < s.cut → Over v t (tops k)

  abbrev Chords : ℕ → ℕ → ℕ → Type 0
  Chords x m y = (det (chord t x m) ≡ pos 1) × (det (chord t m y) ≡ pos 1) × (den t x < den t m)

  -- a top that isn't the mediant is below the next denominator
  rises : (x m y : ℕ) → Chords x m y → 0 < den t y → (den t m ≡ den t x + den t y → ⊥) → den t m < den t y
  rises x m y k p n = elim (sum_or_half (left_num t x) (left_num t m) (left_num t y) (den t x) (den t m) (den t y) k.0 k.1 (omega arith))
      [ inl z ↦ absurd (n z) | inr z ↦ (let r = k.2 in omega arith) ]

  -- one that is makes a triangle
  num_of : (x m y : ℕ) → Chords x m y → den t m ≡ den t x + den t y → left_num t m ≡ left_num t x +ℤ left_num t y
  num_of x m y k e = mediant (left_num t x) (left_num t m) (left_num t y) (den t x) (den t m) (den t y) k.0 k.1 e (let r = k.2 in omega arith)

  triangle_of : (x m y : ℕ) → Chords x m y → den t m ≡ den t x + den t y → Triangle (chord t x m) (chord t m y) (chord t x y)
  triangle_of x m y k e = triangle_at t x m y (num_of x m y k e) e

  -- one triangle more
  overs_put : (m : ℕ) (x : Mat) (top : ℕ → Mat) → Over v t x → ((k : ℕ) → k < m → Over v t (top k)) → (k : ℕ) → k < m + 1 → Over v t (put m x top k)
  overs_put m x top o f k h = elim (ℕ_discrete k m) [
    | yes e ↦ pick_true (Over v t) (eqb k m) x (top k) (eq-eqb k m e) o
    | no e ↦ pick_false (Over v t) (eqb k m) x (top k) (ne_eqb k m e) (f k (omega arith))
  ]

  -- the push goes on below the triangle
  over : (m o y : ℕ) (top top' : ℕ → Mat) (s : Scan) → ((p : ℕ) → Known v m o p → framed top' p ≡ framed top p) → Pushed (m + 1) o y top' s → Pushed m o y top s
  over m o y top top' s h i = record {
    tops = i.tops;
    fits = i.fits;
    stacked = i.stacked;
    count = i.count;
    on_top = i.on_top;
    cuts = let z = i.cuts in omega arith;
    same = λ q z. i.same q (known_more z (omega arith) (omega arith)) ∙ h q z;
    rising = i.rising;
    overs = i.overs;
  }

  pub push_ready : (l : List Cell) (a : List ℕ) (m o h y : ℕ) (top : ℕ → Mat) → Fits v (frame_at v t) a m o (h ∷ handles l) top → m + suc (length l) ≡ o → o ≤ v
      → Stacked t (framed top) l → framed top h ≡ chord t (below l) y → 0 < den t y
      → Rising l → below l < y → y ≤ v → ((k : ℕ) → k < m → Over v t (top k)) → Pushed m o y top (push t l a m h y)
  push_ready [] a m o h y top f n k s e p ri b b' ov =
      record { tops = top; fits = f; stacked = (e, p, tt); count = n; on_top = refl; cuts = omega arith; same = λ q z. refl; rising = (b, tt); overs = ov }
  push_ready (c ∷ l) a m o h y top f n k s e p ri b' b'' ov =
      let ch : Chords (below l) c.vertex y = (ap det (sym s.0) ∙ f.unit c.under f.known.1.0, ap det (sym e) ∙ f.unit h f.known.0, s.1) in
      let test = eqb (den t c.vertex) (den t (below l) + den t y) in
      let x = chord t (below l) y in
      elim (either test) [
        | inl b ↦
            (let sum = eqb-true (den t c.vertex) (den t (below l) + den t y) b in
            let tri₀ = triangle_of (below l) c.vertex y ch sum in
            let over₀ : Over v t x = record {
              left = below l;
              middle = c.vertex;
              right = y;
              ordered = (ri.0, b', b'');
              num_is = num_of (below l) c.vertex y ch sum;
              den_is = sum;
              is = refl;
            } in
            let tri : Triangle (framed top c.under) (framed top h) x = rw (s.0, e) tri₀ in
            let d : det x ≡ pos 1 = tri₀.unit ∙ ch.0 in
            let r : 3 * (m + 1) ≤ corners v = omega (n, k, arith) in
            let old = old_is a m o h c.under (handles l) top f r x d tri in
            pick_true (Pushed m o y top) test _ _ b
            (over m o y top (put m x top) _ old
            (push_ready l (attach a m c.under h) (m + 1) o (3 * m) y (put m x top)
            (cut_off a m o h c.under (handles l) top f r x d tri) (omega (n, arith)) k
            (stacked_same t v m o (framed top) (framed (put m x top)) l old f.known.1.1 s.2)
            (top_is a m o h c.under (handles l) top f r x d tri) p ri.1 (omega (arith, ri.0)) b'' (overs_put m x top over₀ ov))))
        | inr b ↦
            (let up = rises (below l) c.vertex y ch p (eqb-false (den t c.vertex) (den t (below l) + den t y) b) in
            pick_false (Pushed m o y top) test _ _ b
            (record {
              tops = top;
              fits = f;
              stacked = (e, up, s);
              count = n;
              on_top = refl;
              cuts = omega arith;
              same = λ q z. refl;
              rising = (b', ri);
              overs = ov;
            }))
      ]

-- ---- the sides are chords

close : (a b : ℤ) → mat (pos 1) a (pos 0) b ⊗ mat_s ≡ mat a (negsuc 0) b (pos 0)
unfolding mat_s
close a b = ring_m (a ∷ b ∷ []) (lit (con (pos 1)) (var 0) (con (pos 0)) (var 1) ⊛ const mat_s) (lit (var 0) (con (negsuc 0)) (var 1) (con (pos 0))) tt

to_zero : mat (pos 0) (negsuc 0) (pos 1) (pos 0) ≡ mat_s
unfolding mat_s
to_zero = refl

module _ (v : ℕ) (t : List ℤ) (ok : IsSymbol v t) where
  -- the last vertex is an integer
  last_den : den t v ≡ 1
  last_den = let one = ok.some in let e : v ≡ suc (v - 1) = omega arith in ap (den t) e ∙ ap nat_abs (last_integer v t ok)

  -- the first vertex that is 0/1
  abbrev pub zeroth : ℕ
  zeroth = first (is_zero t) v

  pub zeroth_below : zeroth < v
  zeroth_below = let z = ok.zero in first_below (is_zero t) z.at v z.below (rw (z.num, z.den) refl)

  pub zeroth_is : (numer t zeroth ≡ pos 0) × (denom t zeroth ≡ pos 1)
  zeroth_is =
      let b = (found (is_zero t) v zeroth_below).passes in (
        eq_z_true (numer t zeroth) (pos 0) (and_left (eq_z (numer t zeroth) (pos 0)) (eq_z (denom t zeroth) (pos 1)) b),
        eq_z_true (denom t zeroth) (pos 1) (and_right (eq_z (numer t zeroth) (pos 0)) (eq_z (denom t zeroth) (pos 1)) b),
      )

  chord_zeroth : chord t 0 (suc zeroth) ≡ mat_s
  chord_zeroth = mat_eq zeroth_is.0 refl (ap (λ (x : ℤ). pos (nat_abs x)) zeroth_is.1) refl ∙ to_zero

  -- ---- the scan

  pub record Ready (n : ℕ) (s : Scan) : Type 0 where
    pub tops : ℕ → Mat
    pub fits : Fits v (frame_at v t) s.flips s.cut n (handles s.stack) tops
    pub stacked : Stacked t (framed v t tops) s.stack
    pub count : s.cut + length s.stack ≡ n
    pub on_top : below s.stack ≡ n
    pub rising : Rising s.stack
    pub overs : (k : ℕ) → k < s.cut → Over v t (tops k)
    pub zero : zeroth < n → Known v s.cut n (under_zero v t) × (framed v t tops (under_zero v t) ≡ mat_s)

  nothing : {p : ℕ} → Known v 0 0 p → ⊥
  nothing (corner a) = omega arith
  nothing (face a b) = omega arith

  step_pushed : (n : ℕ) (s : Scan) (r : Ready n s) → suc n ≤ v → Pushed v t s.cut (suc n) (suc n) r.tops (pushed t s (outer v n) (suc n))
  step_pushed n s r h =
      let f = open_side_lem v (frame_at v t) s.flips s.cut n (handles s.stack) r.tops r.fits (omega arith) (ok.neighbours n (omega arith)) in
      push_ready v t s.stack s.flips s.cut (suc n) (outer v n) (suc n) r.tops f (let c = r.count in omega arith) h r.stacked
      (frame_outer v (frame_at v t) r.tops n ∙ side_chord v t ok n (omega arith) ∙ ap (λ (x : ℕ). chord t x (suc n)) (sym r.on_top))
      (let d = (ok.denoms n (omega arith)).0 in omega arith)
      r.rising (let e = r.on_top in omega arith) h r.overs

  -- 0/1 has been pushed just now
  zero_now : (n : ℕ) (r : Ready n (scanned v t n)) (p : Pushed v t (scanned v t n).cut (suc n) (suc n) r.tops (scanned v t (suc n))) → zeroth ≡ n
      → Known v (scanned v t (suc n)).cut (suc n) (under_zero v t) × (framed v t p.tops (under_zero v t) ≡ mat_s)
  unfolding under_zero
  zero_now n r p e =
      let s = scanned v t (suc n) in
      let is : handle (scanned v t (suc zeroth)).stack ≡ handle s.stack = ap (λ (k : ℕ). handle (scanned v t (suc k)).stack) e in
      let one : den t (below s.stack) ≡ 1 = ap (den t) p.on_top ∙ ap (λ (k : ℕ). den t (suc k)) (sym e) ∙ ap nat_abs zeroth_is.1 in
      let a = alone t (framed v t p.tops) s.stack p.stacked one in
      let k : Knowns v s.cut (suc n) (handle s.stack ∷ []) = rw a.1 at p.fits.known in
      rw is (k.0, a.0 ∙ ap (chord t 0) (p.on_top ∙ ap suc (sym e)) ∙ chord_zeroth)

  pub ready : (n : ℕ) → n ≤ v → Ready n (scanned v t n)
  ready zero h = record {
    tops = λ k. 𝟙;
    fits = record {
      size = length-replicate (places v) 0;
      room = omega arith;
      most = omega arith;
      apart = tt;
      known = tt;
      unit = λ p k. absurd (nothing k);
      shut = λ p k n. absurd (nothing k);
    };
    stacked = tt;
    count = refl;
    on_top = refl;
    rising = tt;
    overs = λ k h. absurd (omega arith);
    zero = λ l. absurd (omega arith);
  }
  ready (suc n) h =
      let r = ready n (omega arith) in
      let p = step_pushed n (scanned v t n) r h in
      record {
        tops = p.tops;
        fits = p.fits;
        stacked = p.stacked;
        count = p.count;
        on_top = p.on_top;
        rising = p.rising;
        overs = p.overs;
        zero = λ l. elim (below_suc zeroth n l) [
          | inl z ↦
              (let q = r.zero z in (
                known_more q.0 p.cuts (omega arith),
                p.same (under_zero v t) (known_more q.0 (omega arith) (omega arith)) ∙ q.1,
              ))
          | inr z ↦ zero_now n r p z
        ];
      }

  -- ---- the array at the end: every position has its other side

  pub record Whole : Type 0 where
    pub tops : ℕ → Mat
    pub fits : Fits v (frame_at v t) (flip_of v t) (v - 1) (v + 1) [] tops
    pub overs : (k : ℕ) → k < v - 1 → Over v t (tops k)
    pub zero : (under_zero v t < places v) × (framed v t tops (under_zero v t) ≡ mat_s)

  -- the one position that is open before the last side comes in is a corner, unless there is no triangle
  last_handle : (a : List ℕ) (h : ℕ) (top : ℕ → Mat) → Fits v (frame_at v t) a (v - 1) v (h ∷ []) top → (h < corners v) ⊎ (v ≡ 1)
  last_handle a h top f = elim f.known.0 [
    | corner b ↦ inl b
    | face b c ↦ elim (ℕ_discrete v 1) [
      | yes e ↦ inr e
      | no e ↦
          (let one = ok.some in
          let p = 3 * (v - 2) in
          let s = f.shut p (corner (omega arith)) ((λ z. omega arith), tt) in
          let u = s.way.up (omega arith) (omega arith) in
          let w = u.0 in
          elim u.1 [
            | inl z ↦ absurd (omega arith)
            | inr z ↦ elim s.known [ corner x ↦ absurd (omega arith) | face x y ↦ absurd (omega arith) ]
          ])
    ]
  ]

  closing : (a : List ℕ) (h : ℕ) (top : ℕ → Mat) → Fits v (frame_at v t) a (v - 1) v (h ∷ []) top → framed v t top h ≡ chord t 0 v
      → Fits v (frame_at v t) (link a (outer v v) h) (v - 1) (suc v) [] top
  closing a h top f e =
      let low = last_handle a h top f in
      join v (frame_at v t) a (v - 1) (suc v) (outer v v) h [] top
      (open_side_lem v (frame_at v t) a (v - 1) v (h ∷ []) top f (omega arith) (ok.neighbours v (omega arith)))
      (inl (ap (λ (m : Mat). m ⊗ mat_s) (frame_outer v (frame_at v t) top v ∙ last_side v t ok) ∙ close (left_num t v) (pos (den t v)) ∙ sym e))
      (record { up = λ b z. absurd (omega arith); inside = λ b. low })
      (record { up = λ b z. (omega arith, inr refl); inside = λ b. elim low [ inl z ↦ absurd (omega arith) | inr z ↦ inr z ] })

  pub whole : Whole
  unfolding flip_of
  whole =
      let r = ready v (omega arith) in
      let s = scanned v t v in
      let a = alone t (framed v t r.tops) s.stack r.stacked (ap (den t) r.on_top ∙ last_den) in
      let m : s.cut ≡ v - 1 = omega (arith, r.count, a.2) in
      let f : Fits v (frame_at v t) s.flips (v - 1) v (handle s.stack ∷ []) r.tops = rw (m, a.1) at r.fits in
      let z = r.zero zeroth_below in
      record {
        tops = r.tops;
        fits = rw (add-one v) (closing s.flips (handle s.stack) r.tops f (a.0 ∙ ap (chord t 0) r.on_top));
        overs = λ k h. r.overs k (omega (arith, m));
        zero = (known_in z.0 r.fits.room r.fits.most, z.1);
      }
