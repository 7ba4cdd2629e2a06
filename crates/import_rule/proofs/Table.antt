-- The table of a list of placed sides, each marked by its point: what stands where.
--
--   rows_of l          the sides with the marks that their points say
--   At i u l          u is the side number i of l
--   inner l           the finite vertices: the right ends of all sides but the last
--   Chained x l       the sides follow one another from x to 1/0, with finite vertices between them
--
-- In order: numbers of sides; the vertex entries and the pairings of the table (`table_num`, `table_den`, `table_pairing`), its frames
-- (`table_frame`); labels (`labels_in`, `labels_few`) and the pairings that points say (`pair_even`, `pair_odd`, `pair_free`).
-- Assumes nothing.
use mathlib.Core.Path.{◌≡◌, refl, sym, ◌∙◌, ap}
use mathlib.Core.Logic.{◌⊎◌, inl, inr}
use mathlib.Core.Bool.{Bool, true, false}
use mathlib.Core.List.{List, [], ◌∷◌, ◌++◌}
use Prim.Native.Nat.{ℕ, zero, suc, ◌+◌, ◌*◌, ◌-◌, ◌<◌, ◌≤◌}
use native.Mathlib.Omega.{arith}
use native.Mathlib.Decide.{dec_lt, ℕ_discrete}
use lib.Dec.{eqb, ltb}
use lib.ListN.{length, get_or, drop, length-append, get_or-append}
use lib.Seq.{drop_at}
use lib.IntN.{ℤ, pos, negsuc}
use borrow.Author.Tests.{lt-ltb, le-ltb, eq-eqb, ne_eqb}
use Rattle.matrix.specs.Matrix.{Mat, mat, nth}
use Rattle.basics.specs.Choice.{pick}
use Rattle.symbol.specs.Table.{numer, denom, pairing_entries, pairing_entry, left_num, left_den, right_num, right_den}
use Rattle.pairing.specs.Generator.{frame_at}
use Rattle.basics.proofs.Choice.{pick_true, pick_false}
use Rattle.symbol.proofs.Sides.{right_inside, right_last}
use Rattle.numbering.specs.Find.{find, ◌∈◌}
use Rattle.numbering.specs.Order.{add}
use Rattle.numbering.proofs.Find as places
use Rattle.numbering.proofs.Order.{add_old, add_new}
use Rattle.import_rule.specs.Side.{Vertex, vertex, minus_infinity, infinity}
use Rattle.import_rule.specs.Rule.{Mark, unpaired, even, odd, free, Row, row, least}
use Rattle.import_rule.specs.Symbol.{noted, labels_from, labels_of, entry, row_entries, vertices_of, symbol_table}
use Rattle.import_rule.specs.Inner.Placed.{Placed, bare, pts, mark_of, row_of, rows_of}
use Rattle.import_rule.proofs.Member.{In, Apart, in_is}
use Rattle.import_rule.proofs.Split.{framed, in_pts}

-- ---- numbers of sides

abbrev pub At : ℕ → Placed → List Placed → Type 0
At i u [] = ⊥
At zero u (s ∷ l) = u ≡ s
At (suc i) u (s ∷ l) = At i u l

pub record Numbered (u : Placed) (l : List Placed) : Type 0 where
  pub number : ℕ
  pub is : At number u l

pub in_at : (u : Placed) (l : List Placed) → In u l → Numbered u l
in_at u [] h = absurd h
in_at u (s ∷ l) (inl e) = record { number = 0; is = e }
in_at u (s ∷ l) (inr h) = let k = in_at u l h in record { number = suc k.number; is = k.is }

pub at_in : (i : ℕ) (u : Placed) (l : List Placed) → At i u l → In u l
at_in i u [] h = h
at_in zero u (s ∷ l) h = inl h
at_in (suc i) u (s ∷ l) h = inr (at_in i u l h)

pub record Standing (i : ℕ) (l : List Placed) : Type 0 where
  pub side : Placed
  pub is : At i side l

pub at_get : (i : ℕ) (l : List Placed) → i < length l → Standing i l
at_get i [] h = absurd (omega arith)
at_get zero (s ∷ l) h = record { side = s; is = refl }
at_get (suc i) (s ∷ l) h = let k = at_get i l (omega arith) in record { side = k.side; is = k.is }

pub at_low : (i : ℕ) (u : Placed) (l : List Placed) → At i u l → i < length l
at_low i u [] h = absurd h
at_low zero u (s ∷ l) h = omega arith
at_low (suc i) u (s ∷ l) h = let k = at_low i u l h in omega arith

pub at_one : (i : ℕ) (u w : Placed) (l : List Placed) → At i u l → At i w l → u ≡ w
at_one i u w [] h k = absurd h
at_one zero u w (s ∷ l) h k = h ∙ sym k
at_one (suc i) u w (s ∷ l) h k = at_one i u w l h k

-- where the points differ, a point has one number
pub at_place : (i k : ℕ) (u w : Placed) (l : List Placed) → Apart (pts l) → At i u l → At k w l → u.pt ≡ w.pt → i ≡ k
at_place i k u w [] a h g e = absurd h
at_place zero zero u w (s ∷ l) a h g e = refl
at_place zero (suc k) u w (s ∷ l) a h g e = absurd (a.0 (in_is _ _ (pts l) (sym e ∙ ap (λ (x : Placed). x.pt) h) (in_pts w l (at_in k w l g))))
at_place (suc i) zero u w (s ∷ l) a h g e = absurd (a.0 (in_is _ _ (pts l) (e ∙ ap (λ (x : Placed). x.pt) g) (in_pts u l (at_in i u l h))))
at_place (suc i) (suc k) u w (s ∷ l) a h g e = ap suc (at_place i k u w l a.1 h g e)

-- ---- the chain of sides

abbrev pub inner : List Placed → List Vertex
inner [] = []
inner (s ∷ []) = []
inner (s ∷ t ∷ l) = s.hi ∷ inner (t ∷ l)

abbrev pub Chained : Vertex → List Placed → Type 0
Chained x [] = ⊥
Chained x (s ∷ []) = (s.lo ≡ x) × (s.hi ≡ infinity)
Chained x (s ∷ t ∷ l) = (s.lo ≡ x) × (0 < s.hi.den) × Chained s.hi (t ∷ l)

chain_first : (x : Vertex) (u : Placed) (l : List Placed) → Chained x l → At 0 u l → u.lo ≡ x
chain_first x u [] c h = absurd h
chain_first x u (s ∷ []) c h = ap (λ (y : Placed). y.lo) h ∙ c.0
chain_first x u (s ∷ t ∷ l) c h = ap (λ (y : Placed). y.lo) h ∙ c.0

chain_next : (x : Vertex) (i : ℕ) (w u : Placed) (l : List Placed) → Chained x l → At i w l → At (suc i) u l → u.lo ≡ w.hi
chain_next x i w u [] c g h = absurd g
chain_next x zero w u (s ∷ []) c g h = absurd h
chain_next x (suc i) w u (s ∷ []) c g h = absurd h
chain_next x zero w u (s ∷ t ∷ l) c g h = chain_first s.hi u (t ∷ l) c.2 h ∙ ap (λ (y : Placed). y.hi) (sym g)
chain_next x (suc i) w u (s ∷ t ∷ l) c g h = chain_next s.hi i w u (t ∷ l) c.2 g h

chain_last : (x : Vertex) (i : ℕ) (u : Placed) (l : List Placed) → Chained x l → At i u l → suc i ≡ length l → u.hi ≡ infinity
chain_last x i u [] c h e = absurd h
chain_last x zero u (s ∷ []) c h e = ap (λ (y : Placed). y.hi) h ∙ c.1
chain_last x (suc i) u (s ∷ []) c h e = absurd h
chain_last x zero u (s ∷ t ∷ l) c h e = absurd (omega arith)
chain_last x (suc i) u (s ∷ t ∷ l) c h e = chain_last s.hi i u (t ∷ l) c.2 h (omega arith)

pub chain_den : (x : Vertex) (i : ℕ) (u : Placed) (l : List Placed) → Chained x l → At i u l → suc i < length l → 0 < u.hi.den
chain_den x i u [] c h e = absurd h
chain_den x i u (s ∷ []) c h e = absurd (omega arith)
chain_den x zero u (s ∷ t ∷ l) c h e = rw h c.1
chain_den x (suc i) u (s ∷ t ∷ l) c h e = chain_den s.hi i u (t ∷ l) c.2 h (omega arith)

-- an inner vertex is the right end of a side that isn't the last
pub record Ending (x : Vertex) (l : List Placed) : Type 0 where
  pub number : ℕ
  pub side : Placed
  pub is : At number side l
  pub more : suc number < length l
  pub end : side.hi ≡ x

pub inner_at : (x : Vertex) (l : List Placed) → In x (inner l) → Ending x l
inner_at x [] h = absurd h
inner_at x (s ∷ []) h = absurd h
inner_at x (s ∷ t ∷ l) (inl e) = record { number = 0; side = s; is = refl; more = omega arith; end = sym e }
inner_at x (s ∷ t ∷ l) (inr h) =
    let k = inner_at x (t ∷ l) h in
    let m = k.more in
    record { number = suc k.number; side = k.side; is = k.is; more = omega arith; end = k.end }

-- ---- the table

module _ (σ κ : ℕ → ℕ) where
  pub length_rows : (l : List Placed) → length (rows_of σ κ l) ≡ length l
  length_rows [] = refl
  length_rows (u ∷ l) = ap suc (length_rows l)

  pub length_vertices : (s : Placed) (l : List Placed) → length (vertices_of (rows_of σ κ (s ∷ l))) ≡ 2 * length l
  length_vertices s [] = refl
  length_vertices s (t ∷ l) = let k = length_vertices t l in omega arith

  pub length_entries : (L : List ℕ) (l : List Placed) → length (row_entries L (rows_of σ κ l)) ≡ length l
  length_entries L [] = refl
  length_entries L (u ∷ l) = ap suc (length_entries L l)

  two_more : (i : ℕ) → 2 * suc i ≡ suc (suc (2 * i))
  two_more i = omega arith

  three_more : (i : ℕ) → 2 * suc i + 1 ≡ suc (suc (2 * i + 1))
  three_more i = omega arith

  vertex_num : (i : ℕ) (u : Placed) (l : List Placed) (ps : List ℤ) → At i u l → suc i < length l → nth (vertices_of (rows_of σ κ l) ++ ps) (2 * i) ≡ u.hi.num
  vertex_num i u [] ps h e = absurd h
  vertex_num i u (s ∷ []) ps h e = absurd (omega arith)
  vertex_num zero u (s ∷ t ∷ l) ps h e = ap (λ (y : Placed). y.hi.num) (sym h)
  vertex_num (suc i) u (s ∷ t ∷ l) ps h e = ap (nth (vertices_of (rows_of σ κ (s ∷ t ∷ l)) ++ ps)) (two_more i) ∙ vertex_num i u (t ∷ l) ps h (omega arith)

  vertex_den : (i : ℕ) (u : Placed) (l : List Placed) (ps : List ℤ) → At i u l → suc i < length l → nth (vertices_of (rows_of σ κ l) ++ ps) (2 * i + 1)
      ≡ pos u.hi.den
  vertex_den i u [] ps h e = absurd h
  vertex_den i u (s ∷ []) ps h e = absurd (omega arith)
  vertex_den zero u (s ∷ t ∷ l) ps h e = ap (λ (y : Placed). pos y.hi.den) (sym h)
  vertex_den (suc i) u (s ∷ t ∷ l) ps h e = ap (nth (vertices_of (rows_of σ κ (s ∷ t ∷ l)) ++ ps)) (three_more i) ∙ vertex_den i u (t ∷ l) ps h (omega arith)

  entry_at : (L : List ℕ) (i : ℕ) (u : Placed) (l : List Placed) → At i u l → nth (row_entries L (rows_of σ κ l)) i ≡ entry L (mark_of σ κ u.pt)
  entry_at L i u [] h = absurd h
  entry_at L zero u (s ∷ l) h = ap (λ (y : Placed). entry L (mark_of σ κ y.pt)) (sym h)
  entry_at L (suc i) u (s ∷ l) h = entry_at L i u l h

  -- ---- labels

  in_add_old : (l : List ℕ) (x y : ℕ) → x ∈ l → x ∈ add l y
  in_add_old l x y h = elim (dec_lt (find l y) (length l)) [
    | yes k ↦ rw (add_old l y k) h
    | no k ↦ rw (add_new l y (omega arith)) (places.in_left l (y ∷ []) x h)
  ]

  in_add_new : (l : List ℕ) (x : ℕ) → x ∈ add l x
  in_add_new l x = elim (dec_lt (find l x) (length l)) [
    | yes k ↦ rw (add_old l x k) k
    | no k ↦ rw (add_new l x (omega arith)) (places.in_last l x)
  ]

  length_add : (l : List ℕ) (x : ℕ) → length (add l x) ≤ suc (length l)
  length_add l x = elim (dec_lt (find l x) (length l)) [
    | yes k ↦ rw (add_old l x k) (omega arith)
    | no k ↦ rw (add_new l x (omega arith)) (omega (arith, length-append l (x ∷ [])))
  ]

  noted_keeps : (l : List ℕ) (x : ℕ) (m : Mark) → x ∈ l → x ∈ noted l m
  noted_keeps l x unpaired h = h
  noted_keeps l x even h = h
  noted_keeps l x odd h = h
  noted_keeps l x (free y) h = in_add_old l x y h

  from_keeps : (l : List ℕ) (x : ℕ) (rows : List Row) → x ∈ l → x ∈ labels_from l rows
  from_keeps l x [] h = h
  from_keeps l x (r ∷ rows) h = from_keeps (noted l r.mark) x rows (noted_keeps l x r.mark h)

  from_in : (l : List ℕ) (x : ℕ) (r : Row) (rows : List Row) → In r rows → r.mark ≡ free x → x ∈ labels_from l rows
  from_in l x r [] h e = absurd h
  from_in l x r (q ∷ rows) (inl k) e =
      let m : q.mark ≡ free x = sym (ap (λ (y : Row). y.mark) k) ∙ e in
      from_keeps (noted l q.mark) x rows (rw m (in_add_new l x))
  from_in l x r (q ∷ rows) (inr k) e = from_in (noted l q.mark) x r rows k e

  length_noted : (l : List ℕ) (m : Mark) → length (noted l m) ≤ suc (length l)
  length_noted l unpaired = omega arith
  length_noted l even = omega arith
  length_noted l odd = omega arith
  length_noted l (free x) = length_add l x

  length_from : (l : List ℕ) (rows : List Row) → length (labels_from l rows) ≤ length l + length rows
  length_from l [] = omega arith
  length_from l (r ∷ rows) = omega (arith, length_from (noted l r.mark) rows, length_noted l r.mark)

  in_rows : (u : Placed) (l : List Placed) → In u l → In (row_of σ κ u) (rows_of σ κ l)
  in_rows u [] h = h
  in_rows u (s ∷ l) (inl e) = inl (ap (row_of σ κ) e)
  in_rows u (s ∷ l) (inr h) = inr (in_rows u l h)

  pub labels_in : (u : Placed) (l : List Placed) (x : ℕ) → In u l → mark_of σ κ u.pt ≡ free x → x ∈ labels_of (rows_of σ κ l)
  labels_in u l x h e = from_in [] x (row_of σ κ u) (rows_of σ κ l) (in_rows u l h) e

  pub labels_few : (l : List Placed) → length (labels_of (rows_of σ κ l)) ≤ length l
  labels_few l = omega (arith, length_from [] (rows_of σ κ l), length_rows l)

  -- ---- the marks that points say

  pub mark_even : (m : ℕ) → σ m ≡ m → mark_of σ κ m ≡ even
  mark_even m e = pick_true (eqb (σ m) m) _ _ (eq-eqb (σ m) m e)

  pub mark_odd : (m : ℕ) → ¬ (σ m ≡ m) → κ m ≡ m → mark_of σ κ m ≡ odd
  mark_odd m n e = pick_false (eqb (σ m) m) even (pick (eqb (κ m) m) odd (free (least m (σ m)))) (ne_eqb (σ m) m n)
      ∙ pick_true (eqb (κ m) m) _ _ (eq-eqb (κ m) m e)

  pub mark_free : (m : ℕ) → ¬ (σ m ≡ m) → ¬ (κ m ≡ m) → mark_of σ κ m ≡ free (least m (σ m))
  mark_free m n e = pick_false (eqb (σ m) m) even (pick (eqb (κ m) m) odd (free (least m (σ m)))) (ne_eqb (σ m) m n)
      ∙ pick_false (eqb (κ m) m) odd (free (least m (σ m))) (ne_eqb (κ m) m e)

  -- ---- the whole table

  module _ (l : List Placed) (some : 1 ≤ length l) where
    abbrev pub v_of : ℕ
    v_of = length (rows_of σ κ l) - 1

    abbrev pub t_of : List ℤ
    t_of = symbol_table (rows_of σ κ l)

    abbrev pub labels : List ℕ
    labels = labels_of (rows_of σ κ l)

    pub v_is : suc v_of ≡ length l
    v_is = omega (arith, length_rows l)

    vertices_long : length (vertices_of (rows_of σ κ l)) ≡ 2 * v_of
    vertices_long = go l some v_is
      where
        go : (l' : List Placed) → 1 ≤ length l' → suc v_of ≡ length l' → length (vertices_of (rows_of σ κ l')) ≡ 2 * v_of
        go [] h e = absurd (omega arith)
        go (s ∷ l') h e = length_vertices s l' ∙ omega arith

    pub table_long : length t_of ≡ 3 * v_of + 1
    table_long = length-append (vertices_of (rows_of σ κ l)) (row_entries labels (rows_of σ κ l)) ∙ omega (arith, vertices_long, length_entries labels l, v_is)

    pub table_num : (i : ℕ) (u : Placed) → At i u l → i < v_of → numer t_of i ≡ u.hi.num
    table_num i u h e = vertex_num i u l (row_entries labels (rows_of σ κ l)) h (omega (arith, v_is))

    pub table_den : (i : ℕ) (u : Placed) → At i u l → i < v_of → denom t_of i ≡ pos u.hi.den
    table_den i u h e = vertex_den i u l (row_entries labels (rows_of σ κ l)) h (omega (arith, v_is))

    pub table_pairing : (i : ℕ) (u : Placed) → At i u l → pairing_entry v_of t_of i ≡ entry labels (mark_of σ κ u.pt)
    table_pairing i u h = ap (λ (p : List ℤ). nth p i) (drop_at (vertices_of (rows_of σ κ l)) (row_entries labels (rows_of σ κ l)) (2 * v_of) vertices_long)
        ∙ entry_at labels i u l h

    pub pair_even : (i : ℕ) (u : Placed) → At i u l → σ u.pt ≡ u.pt → pairing_entry v_of t_of i ≡ negsuc 1
    pair_even i u h e = table_pairing i u h ∙ ap (entry labels) (mark_even u.pt e)

    pub pair_odd : (i : ℕ) (u : Placed) → At i u l → ¬ (σ u.pt ≡ u.pt) → κ u.pt ≡ u.pt → pairing_entry v_of t_of i ≡ negsuc 2
    pair_odd i u h n e = table_pairing i u h ∙ ap (entry labels) (mark_odd u.pt n e)

    pub pair_free : (i : ℕ) (u : Placed) → At i u l → ¬ (σ u.pt ≡ u.pt) → ¬ (κ u.pt ≡ u.pt)
        → pairing_entry v_of t_of i ≡ pos (suc (find labels (least u.pt (σ u.pt))))
    pair_free i u h n e = table_pairing i u h ∙ ap (entry labels) (mark_free u.pt n e)

    -- ---- frames

    mat_eq : {a a' b b' c c' d d' : ℤ} → a ≡ a' → b ≡ b' → c ≡ c' → d ≡ d' → mat a b c d ≡ mat a' b' c' d'
    mat_eq p q r s = λ i. mat (p i) (q i) (r i) (s i)

    right_end : (i : ℕ) (u : Placed) → Chained minus_infinity l → At i u l → (right_num v_of t_of i ≡ u.hi.num) × (right_den v_of t_of i ≡ pos u.hi.den)
    right_end i u c h = elim (dec_lt i v_of) [
      | yes k ↦ (let r = right_inside v_of t_of i k in (r.0 ∙ table_num i u h k, r.1 ∙ table_den i u h k))
      | no k ↦
          (let low = at_low i u l h in
          let r = right_last v_of t_of i (omega arith) in
          let e = chain_last minus_infinity i u l c h (omega (arith, v_is)) in
          (r.0 ∙ ap (λ (x : Vertex). x.num) (sym e), r.1 ∙ ap (λ (x : Vertex). pos x.den) (sym e)))
    ]

    left_end : (i : ℕ) (u : Placed) → Chained minus_infinity l → At i u l → (left_num t_of i ≡ u.lo.num) × (left_den t_of i ≡ pos u.lo.den)
    left_end zero u c h = let e = chain_first minus_infinity u l c h in (ap (λ (x : Vertex). x.num) (sym e), ap (λ (x : Vertex). pos x.den) (sym e))
    left_end (suc i) u c h =
        let low = at_low (suc i) u l h in
        let w = at_get i l (omega arith) in
        let e = chain_next minus_infinity i w.side u l c w.is h in (
          table_num i w.side w.is (omega (arith, v_is)) ∙ ap (λ (x : Vertex). x.num) (sym e),
          table_den i w.side w.is (omega (arith, v_is))
              ∙ ap (λ (x : Vertex). pos x.den) (sym e),
        )

    pub table_frame : (i : ℕ) (u : Placed) → Chained minus_infinity l → At i u l → frame_at v_of t_of i ≡ framed u
    table_frame i u c h = let r = right_end i u c h in let s = left_end i u c h in mat_eq r.0 s.0 r.1 s.1
