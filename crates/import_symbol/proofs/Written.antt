-- Writing the symbol: what the small functions show, and the table from its parts.
--
-- In order: labels and their numbers (`Labelled` with its start, turn and end); vertices (`vertices_are`); the whole table (`table_written_lem`).
-- Assumes nothing.
use mathlib.Core.Path.{◌≡◌, refl, sym, ◌∙◌, ap}
use mathlib.Core.List.{List, [], ◌∷◌, ◌++◌, append_assoc, append-nil}
use Prim.Native.Nat.{ℕ, zero, suc, ◌+◌, ◌-◌, ◌*◌, ◌≤◌, ◌<◌}
use native.Mathlib.Omega.{arith}
use native.Mathlib.Decide.{dec_lt, ℕ_discrete}
use lib.ListN.{length, get_or, set, take, drop, length-set, length-append, length-drop, get_or-eq_default}
use lib.Seq.{take_at, drop_at, drop-drop, length-take-le, get_or-set_same, get_or-set_other}
use lib.IntN.{ℤ, pos, negsuc}
use Rattle.numbering.specs.Find.{find, ◌∈◌, ◌∉◌}
use Rattle.numbering.proofs.Find as places
use Rattle.numbering.proofs.Order.{add_old, add_new}
use Rattle.permutations.specs.Pair.{image}
use Rattle.import_rule.specs.Fixed.{by_q}
use Rattle.import_rule.specs.Rule.{Row, least}
use Rattle.import_rule.specs.Symbol.{noted, labels_of, entry, row_entries, vertices_of}
use Rattle.import_rule.specs.Inner.Placed.{Placed, placed_side, mark_of, row_of, rows_of}
use Rattle.import_sides.specs.Inner.Work.{LABEL, DONE, TODO, cell_place, end_at, point_at, last_in, done_in, Done}
use Rattle.import_symbol.specs.Inner.Writing.{vertices_to, Paired, is_even, is_odd_is, is_new, is_old, pairings_in, paired, table_written, SideToWrite}
use Rattle.import_rule.proofs.Table.{length_entries, labels_in, labels_few, mark_even, mark_odd, mark_free}
use Rattle.import_sides.proofs.Held.{Same, length_done}
use Rattle.import_symbol.proofs.Stored.{least_low, one_store, length_vertices_to, rows_snoc, entries_more, labels_snoc, entries_snoc, number_in}
use Rattle.import_symbol.proofs.Stored.{number_in_lem, number_out, number_old}

-- ---- the pairings of the first i sides

module _ (σ κ : ℕ → ℕ) (w₀ : List ℕ) (o : List ℤ) (d : ℕ) where
  abbrev labels_to : ℕ → List ℕ
  labels_to i = labels_of (rows_of σ κ (done_in w₀ i))

  abbrev entries_to : ℕ → List ℤ
  entries_to i = row_entries (labels_to i) (rows_of σ κ (done_in w₀ i))

  pub record Labelled (w : List ℕ) (out : List ℤ) (i c : ℕ) : Type 0 where
    pub same : Same DONE TODO w₀ w
    pub long : length w ≡ length w₀
    pub count : c ≡ length (labels_to i)
    pub table : (x : ℕ) → x < 4096 → get_or w (LABEL + x) 0 ≡ number_in (labels_to i) x
    pub front : out ≡ (take (2 * (d - 1)) o ++ entries_to i) ++ drop (2 * (d - 1) + i) o

  pub labelled_none : ((x : ℕ) → x < 4096 → get_or w₀ (LABEL + x) 0 ≡ 0) → Labelled w₀ o 0 0
  labelled_none clear = record {
    same = record { each = λ j h k. refl };
    long = refl;
    count = refl;
    table = λ x h. clear x h ∙ sym (number_out [] x (omega arith));
    front = sym (ap (λ (l : List ℤ). l ++ drop (2 * (d - 1) + 0) o) (append-nil (take (2 * (d - 1)) o))
        ∙ ap (λ (k : ℕ). take (2 * (d - 1)) o ++ drop k o) nought ∙ take_drop (2 * (d - 1)) o);
  }
    where
      nought : 2 * (d - 1) + 0 ≡ 2 * (d - 1)
      nought = omega arith

      take_drop : (n : ℕ) (l : List ℤ) → take n l ++ drop n l ≡ l
      take_drop zero l = refl
      take_drop (suc n) [] = refl
      take_drop (suc n) (x ∷ l) = ap (λ (y : List ℤ). x ∷ y) (take_drop n l)

  pub labelled_few : (w : List ℕ) (out : List ℤ) (i c : ℕ) → Labelled w out i c → c ≤ i
  labelled_few w out i c t = omega (arith, t.count, labels_few σ κ (done_in w₀ i), length_done w₀ i)

  pub labelled_length : (w : List ℕ) (out : List ℤ) (i c : ℕ) → Labelled w out i c → 2 * (d - 1) + i ≤ length o → length out ≡ length o
  labelled_length w out i c t h =
      ap length t.front ∙ length-append (take (2 * (d - 1)) o ++ entries_to i) (drop (2 * (d - 1) + i) o)
      ∙ omega (
        arith,
        length-append (take (2 * (d - 1)) o) (entries_to i),
        length-take-le (2 * (d - 1)) o (omega arith),
        length_entries σ κ (labels_to i)
            (done_in w₀ i),
        length_done w₀ i,
        length-drop (2 * (d - 1) + i) o,
      )

  module _ (small : (j : ℕ) → j < d → point_at w₀ (cell_place DONE j) < 4096) (σ_small : (x : ℕ) → x < 4096 → σ x < 4096) (most : d ≤ 1024) (w : List ℕ)
      (out : List ℤ) (i c : ℕ) (t : Labelled w out i c) (next : i < d) (room : 3 * (d - 1) + 1 ≤ length o) (long : 32768 ≤ length w₀) where
    abbrev L : List ℕ
    L = labels_to i

    abbrev u : Placed
    u = placed_side (last_in w₀ i) (end_at w₀ (cell_place DONE i)) (point_at w₀ (cell_place DONE i))

    abbrev m : ℕ
    m = point_at w₀ (cell_place DONE i)

    point_kept : point_at w (cell_place DONE i) ≡ m
    point_kept = t.same.each (cell_place DONE i + 4) (omega arith) (omega arith)

    F_long : length (take (2 * (d - 1)) o ++ entries_to i) ≡ 2 * (d - 1) + i
    F_long = length-append (take (2 * (d - 1)) o) (entries_to i)
        ∙ omega (arith, length-take-le (2 * (d - 1)) o (omega arith), length_entries σ κ (labels_to i) (done_in w₀ i), length_done w₀ i)

    -- one more entry, where the labels become L'
    stored : (L' : List ℕ) (x : ℤ) (out' : List ℤ) → labels_to (suc i) ≡ L' → row_entries L' (rows_of σ κ (done_in w₀ i)) ≡ entries_to i
        → entry L' (mark_of σ κ m) ≡ x → out' ≡ set out (2 * (d - 1) + i) x
        → out' ≡ (take (2 * (d - 1)) o ++ entries_to (suc i)) ++ drop (2 * (d - 1) + suc i) o
    stored L' x out' el ee ex es =
        let more : suc (2 * (d - 1) + i) ≡ 2 * (d - 1) + suc i = omega arith in
        let rows = rows_of σ κ (done_in w₀ i) in
        let en : entries_to (suc i) ≡ entries_to i ++ (x ∷ []) =
        ap (λ (l : List ℕ). row_entries l (rows_of σ κ (done_in w₀ (suc i)))) el
        ∙ ap (row_entries L') (rows_snoc σ κ (done_in w₀ i) u)
        ∙ entries_snoc L' rows (row_of σ κ u)
        ∙ ap (λ (l : List ℤ). l ++ (entry L' (mark_of σ κ m) ∷ [])) ee
        ∙ ap (λ (y : ℤ). entries_to i ++ (y ∷ [])) ex in
        es
        ∙ ap (λ (l : List ℤ). set l (2 * (d - 1) + i) x) t.front
        ∙ one_store (take (2 * (d - 1)) o ++ entries_to i) o (2 * (d - 1) + i) x F_long (omega arith)
        ∙ ap (λ (l : List ℤ). l ++ drop (suc (2 * (d - 1) + i)) o)
        (append_assoc (take (2 * (d - 1)) o) (entries_to i) (x ∷ []) ∙ ap (λ (l : List ℤ). take (2 * (d - 1)) o ++ l) (sym en))
        ∙ ap (λ (k : ℕ). (take (2 * (d - 1)) o ++ entries_to (suc i)) ++ drop k o) more

    labels_next : labels_to (suc i) ≡ noted L (mark_of σ κ m)
    labels_next = ap labels_of (rows_snoc σ κ (done_in w₀ i) u) ∙ labels_snoc [] (rows_of σ κ (done_in w₀ i)) (row_of σ κ u)

    -- the labels stay
    keep : (x : ℤ) (out' : List ℤ) → labels_to (suc i) ≡ L → entry L (mark_of σ κ m) ≡ x → out' ≡ set out (2 * (d - 1) + i) x → Labelled w out' (suc i) c
    keep x out' el ex es = record {
      same = t.same;
      long = t.long;
      count = t.count ∙ ap length (sym el);
      table = λ y h. t.table y h ∙ ap (λ (l : List ℕ). number_in l y) (sym el);
      front = stored L x out' el refl ex es;
    }

    m_low : m < 4096
    m_low = small i next

    label_low : least m (σ m) < 4096
    label_low = least_low m (σ m) 4096 m_low (σ_small m m_low)

    pub labelled_more : (w' : List ℕ) (out' : List ℤ) (c' : ℕ) → Paired σ κ w out (point_at w (cell_place DONE i)) (2 * (d - 1) + i) c w' out' c'
        → Labelled w' out' (suc i) c'
    labelled_more w' out' c' p = go (rw point_kept at p)
      where
        go : Paired σ κ w out m (2 * (d - 1) + i) c w' out' c' → Labelled w' out' (suc i) c'
        go (is_even e a b k) = rw (a, k) (keep (negsuc 1) out' (labels_next ∙ ap (noted L) (mark_even σ κ m e)) (ap (entry L) (mark_even σ κ m e)) b)
        go (is_odd_is ne e a b k) = rw (a, k) (keep (negsuc 2) out' (labels_next ∙ ap (noted L) (mark_odd σ κ m ne e)) (ap (entry L) (mark_odd σ κ m ne e)) b)
        go (is_old ne nq h a b k) =
            let x = least m (σ m) in
            let mk = mark_free σ κ m ne nq in
            let n = t.table x label_low in
            let inside : x ∈ L = elim (dec_lt (find L x) (length L)) [ yes q ↦ q | no q ↦ absurd (h (n ∙ number_out L x (omega arith))) ] in
            rw (a, k) (keep (pos (get_or w (LABEL + x) 0)) out' (labels_next ∙ ap (noted L) mk ∙ add_old L x inside)
            (ap (entry L) mk ∙ ap pos (sym (n ∙ number_in_lem L x inside))) b)
        go (is_new ne nq h a b k) =
            let x = least m (σ m) in
            let mk = mark_free σ κ m ne nq in
            let n = t.table x label_low in
            let outside : x ∉ L = elim (dec_lt (find L x) (length L)) [ yes q ↦ (let z = number_in_lem L x q in absurd (omega arith)) | no q ↦ omega arith ] in
            let el : labels_to (suc i) ≡ L ++ (x ∷ []) = labels_next ∙ ap (noted L) mk ∙ add_new L x outside in
            let cc1 : suc (find (L ++ (x ∷ [])) x) ≡ c + 1 = omega (arith, places.find_last L x outside, t.count) in
            record {
              same = record {
                each = λ j p q. ap (λ (l : List ℕ). get_or l j 0) a ∙ get_or-set_other w (LABEL + x) j (c + 1) 0 (λ z. omega (arith, label_low))
                    ∙ t.same.each j p q;
              };
              long = ap length a ∙ length-set w (LABEL + x) (c + 1) ∙ t.long;
              count = k ∙ omega (arith, t.count, ap length el, length-append L (x ∷ []));
              table = λ y q. ap (λ (l : List ℕ). get_or l (LABEL + y) 0) a ∙ at_label x el cc1 outside y q (ℕ_discrete y x);
              front = stored (L ++ (x ∷ [])) (pos (c + 1)) out' el (entries_more σ κ L x (done_in w₀ i) (λ v h z e. labels_in σ κ v (done_in w₀ i) z h e))
                  (ap (entry (L ++ (x ∷ []))) mk ∙ ap pos cc1) b;
            }
          where
            at_label : (x : ℕ) → labels_to (suc i) ≡ L ++ (x ∷ []) → suc (find (L ++ (x ∷ [])) x) ≡ c + 1 → x ∉ L → (y : ℕ) → y < 4096 → Dec (y ≡ x)
                → get_or (set w (LABEL + x) (c + 1)) (LABEL + y) 0 ≡ number_in (labels_to (suc i)) y
            at_label x el cc1 outside y q (yes e) =
                ap (λ (z : ℕ). get_or (set w (LABEL + x) (c + 1)) (LABEL + z) 0) e
                ∙ get_or-set_same w (LABEL + x) (c + 1) 0 (omega (arith, t.long))
                ∙ sym cc1 ∙ sym (number_in_lem (L ++ (x ∷ [])) x (places.in_last L x))
                ∙ ap (λ (l : List ℕ). number_in l x) (sym el) ∙ ap (number_in (labels_to (suc i))) (sym e)
            at_label x el cc1 outside y q (no e) =
                get_or-set_other w (LABEL + x) (LABEL + y) (c + 1) 0 (λ z. e (omega arith))
                ∙ t.table y q ∙ sym (number_old L x y e) ∙ ap (λ (l : List ℕ). number_in l y) (sym el)

  pub labelled_all : (w : List ℕ) (out : List ℤ) (c : ℕ) → 1 ≤ d → Labelled w out d c → out ≡ paired σ κ w₀ d o
  labelled_all w out c some t =
      let e : 2 * (d - 1) + d ≡ 3 * (d - 1) + 1 = omega arith in
      t.front ∙ ap (λ (k : ℕ). (take (2 * (d - 1)) o ++ entries_to d) ++ drop k o) e

-- ---- the whole table

module _ (σ κ : ℕ → ℕ) where
  vertices_last : (rows : List Row) (r q : Row) → vertices_of (rows ++ (r ∷ q ∷ []))
      ≡ vertices_of (rows ++ (r ∷ [])) ++ (r.side.hi.num ∷ pos r.side.hi.den ∷ [])
  vertices_last [] r q = refl
  vertices_last (x ∷ []) r q = refl
  vertices_last (x ∷ y ∷ rows) r q = ap (λ (l : List ℤ). x.side.hi.num ∷ pos x.side.hi.den ∷ l) (vertices_last (y ∷ rows) r q)

  vertices_are : (w : List ℕ) (i : ℕ) → vertices_of (rows_of σ κ (done_in w (suc i))) ≡ vertices_to w i
  vertices_are w zero = refl
  vertices_are w (suc i) =
      let u = placed_side (last_in w i) (end_at w (cell_place DONE i)) (point_at w (cell_place DONE i)) in
      let v = placed_side (last_in w (suc i)) (end_at w (cell_place DONE (suc i))) (point_at w (cell_place DONE (suc i))) in
      let rows = rows_of σ κ (done_in w i) in
      ap vertices_of (rows_snoc σ κ (done_in w (suc i)) v ∙ ap (λ (l : List Row). l ++ (row_of σ κ v ∷ [])) (rows_snoc σ κ (done_in w i) u)
      ∙ append_assoc rows (row_of σ κ u ∷ []) (row_of σ κ v ∷ []))
      ∙ vertices_last rows (row_of σ κ u) (row_of σ κ v)
      ∙ ap (λ (l : List ℤ). l ++ ((end_at w (cell_place DONE i)).num ∷ pos (end_at w (cell_place DONE i)).den ∷ []))
      (ap vertices_of (sym (rows_snoc σ κ (done_in w i) u)) ∙ vertices_are w i)

  pub table_written_lem : (w : List ℕ) (o x y : List ℤ) (d : ℕ) → 1 ≤ d → 3 * (d - 1) + 1 ≤ length o → x ≡ vertices_to w (d - 1) ++ drop (2 * (d - 1)) o
      → y ≡ paired σ κ w d x → y ≡ table_written σ κ w d o
  table_written_lem w o x y d some room ex ey =
      let v = d - 1 in
      let vs = vertices_to w (d - 1) in
      let len = length_vertices_to w (d - 1) in
      let a : take (2 * v) x ≡ vs = ap (take (2 * v)) ex ∙ take_at vs (drop (2 * v) o) (2 * v) len in
      let e : 2 * v + (v + 1) ≡ 3 * v + 1 = omega arith in
      let b : drop (3 * v + 1) x ≡ drop (3 * v + 1) o =
      ap (λ (k : ℕ). drop k x) (sym e) ∙ sym (drop-drop (v + 1) (2 * v) x) ∙ ap (λ (l : List ℤ). drop (v + 1) (drop (2 * v) l)) ex
      ∙ ap (drop (v + 1)) (drop_at vs (drop (2 * v) o) (2 * v) len) ∙ drop-drop (v + 1) (2 * v) o ∙ ap (λ (k : ℕ). drop k o) e in
      let f : suc (d - 1) ≡ d = omega arith in
      let g : vertices_of (rows_of σ κ (done_in w d)) ≡ vs = ap (λ (k : ℕ). vertices_of (rows_of σ κ (done_in w k))) (sym f) ∙ vertices_are w (d - 1) in
      ey
      ∙ ap (λ (l : List ℤ). l ++ pairings_in σ κ w d ++ drop (3 * v + 1) x) (a ∙ sym g)
      ∙ ap (λ (l : List ℤ). vertices_of (rows_of σ κ (done_in w d)) ++ pairings_in σ κ w d ++ l) b

-- ---- for the sides that the walk leaves

module _ (s r w₀ : List ℕ) (o : List ℤ) (d : ℕ) (whole : Done s r w₀ d) (room : 3 * (d - 1) + 1 ≤ length o) where
  abbrev σ : ℕ → ℕ
  σ = image s

  abbrev κ : ℕ → ℕ
  κ = by_q (image s) (image r)

  image_small : (x : ℕ) → x < 4096 → image s x < 4096
  image_small x h = elim (dec_lt x (length s)) [
    | yes k ↦ (let a = whole.pair.permuting.σ_low x k in let b = whole.pair.most in omega arith)
    | no k ↦ (let e : image s x ≡ x = get_or-eq_default s x (omega arith) in omega arith)
  ]

  pub pairs_more : (w : List ℕ) (out : List ℤ) (i c : ℕ) → Labelled σ κ w₀ o d w out i c → i < d → (w' : List ℕ) (out' : List ℤ) (c' : ℕ)
      → Paired σ κ w out (point_at w (cell_place DONE i)) (2 * (d - 1) + i) c w' out' c' → Labelled σ κ w₀ o d w' out' (suc i) c'
  pairs_more w out i c t h w' out' c' p =
      labelled_more σ κ w₀ o d (λ j k. let a = whole.points j k in let b = whole.pair.most in omega arith) image_small whole.most w out i c t h room
      whole.long w' out' c' p

  pub pairs_side : (w : List ℕ) (out : List ℤ) (i c : ℕ) → Labelled σ κ w₀ o d w out i c → i < d → SideToWrite s r w out i (2 * (d - 1) + i) c
  pairs_side w out i c t h =
      let m = whole.most in
      let e : point_at w (cell_place DONE i) ≡ point_at w₀ (cell_place DONE i) = t.same.each (cell_place DONE i + 4) (omega arith) (omega arith) in
      record {
        pair = whole.pair;
        long = rw t.long whole.long;
        side = omega arith;
        low = rw e (whole.points i h);
        few = omega (arith, labelled_few σ κ w₀ o d w out i c t);
        room = omega (arith, labelled_length σ κ w₀ o d w out i c t (omega arith));
      }
