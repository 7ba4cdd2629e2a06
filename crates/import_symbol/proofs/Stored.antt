-- Laws of what is stored one by one: signed numbers, one more entry behind a front, vertices, rows and labels with one side more, numbers of labels.
-- Assumes nothing.
use mathlib.Core.Path.{◌≡◌, refl, sym, ◌∙◌, ap}
use mathlib.Core.Logic.{inl, inr}
use mathlib.Core.List.{List, [], ◌∷◌, ◌++◌, append_assoc}
use Prim.Native.Nat.{ℕ, zero, suc, ◌+◌, ◌-◌, ◌*◌, ◌^◌, ◌≤◌, ◌<◌}
use native.Mathlib.Omega.{arith}
use native.Mathlib.Decide.{dec_lt}
use lib.Dec.{ltb}
use lib.ListN.{length, get_or, set, drop, length-append, length-drop}
use lib.Seq.{sets-eq, take_at, drop_at, drop-drop}
use lib.IntN.{ℤ, pos, ◌-ℤ◌}
use lib.Signed.{mag}
use mir.Syntax.{w64}
use mir.Val.{SFits, to_z, of_z}
use mir.Facts.{to_z_pos}
use borrow.Author.Tests.{lt-ltb, le-ltb, ne_eqb}
use Rattle.basics.specs.Choice.{pick}
use Rattle.matrix.proofs.Bounds.{fits, kept}
use Rattle.basics.proofs.Choice.{pick_true, pick_false}
use Rattle.numbering.specs.Find.{find, ◌∈◌, ◌∉◌, is_in}
use Rattle.numbering.proofs.Find as places
use Rattle.import_rule.specs.Rule.{Mark, unpaired, even, odd, free, Row, least}
use Rattle.import_rule.specs.Symbol.{noted, labels_from, entry, row_entries}
use Rattle.import_rule.specs.Inner.Placed.{Placed, mark_of, row_of, rows_of}
use Rattle.import_sides.specs.Inner.Work.{LABEL, DONE, cell_place, two_cells, end_at}
use Rattle.import_symbol.specs.Inner.Writing.{vertices_to, Paired, is_new, is_old}
use Rattle.import_rule.proofs.Member.{In}
use Rattle.import_sides.proofs.Decode.{abs_diff}

-- ---- signed numbers

pub signed_is : (x : ℕ) → x < 4294967296 → to_z w64 x ≡ pos x
signed_is x h = to_z_pos w64 (omega arith)

less_fits : (e : ℕ) → e < 4294967296 → SFits w64 (pos e -ℤ pos 1000000000)
less_fits e h = fits (pos e -ℤ pos 1000000000) (omega (arith, abs_diff e 1000000000))

module _ (z : ℤ) (e : ℕ) (is : z ≡ pos e) (ok : mag z < 2 ^ 63) (h : e < 4294967296) where
  same_number : to_z w64 (of_z w64 z) -ℤ pos 1000000000 ≡ pos e -ℤ pos 1000000000
  same_number = ap (λ (x : ℤ). x -ℤ pos 1000000000) (kept z ok ∙ is)

  pub numerator_fits : SFits w64 (to_z w64 (of_z w64 z) -ℤ pos 1000000000)
  numerator_fits = rw same_number (less_fits e h)

  pub numerator_is : to_z w64 (of_z w64 (to_z w64 (of_z w64 z) -ℤ pos 1000000000)) ≡ pos e -ℤ pos 1000000000
  numerator_is = ap (λ (x : ℤ). to_z w64 (of_z w64 x)) same_number ∙ kept (pos e -ℤ pos 1000000000) (less_fits e h).sfits

pub least_yes : (x y : ℕ) → x < y → x ≡ least x y
least_yes x y h = sym (pick_true (ltb x y) x y (lt-ltb x y h))

pub least_no : (x y : ℕ) → y ≤ x → y ≡ least x y
least_no x y h = sym (pick_false (ltb x y) x y (le-ltb x y h))

pub least_low : (x y n : ℕ) → x < n → y < n → least x y < n
least_low x y n a b = elim (dec_lt x y) [
  | yes h ↦ rw (pick_true (ltb x y) x y (lt-ltb x y h)) a
  | no h ↦ rw (pick_false (ltb x y) x y (le-ltb x y (omega arith))) b
]

-- ---- one more entry

pub one_store : (F o : List ℤ) (j : ℕ) (x : ℤ) → length F ≡ j → j < length o → set (F ++ drop j o) j x ≡ (F ++ (x ∷ [])) ++ drop (suc j) o
one_store F o j x e h =
    let room : j + 1 ≤ length (F ++ drop j o) = omega (arith, length-append F (drop j o), length-drop j o) in
    let next : j + 1 ≡ suc j = omega arith in
    sets-eq (x ∷ []) (F ++ drop j o) j room
    ∙ ap (λ (l : List ℤ). l ++ (x ∷ []) ++ drop (j + 1) (F ++ drop j o)) (take_at F (drop j o) j e)
    ∙ ap (λ (l : List ℤ). F ++ (x ∷ []) ++ l)
    (sym (drop-drop 1 j (F ++ drop j o)) ∙ ap (drop 1) (drop_at F (drop j o) j e) ∙ drop-drop 1 j o ∙ ap (λ (k : ℕ). drop k o) next)

-- ---- what the stores come to

pub vertex_stored : (w : List ℕ) (at i e c : ℕ) (a b : ℤ) (out x y : List ℤ) → e ≡ two_cells w at → c ≡ two_cells w (at + 2) → a ≡ pos e -ℤ pos 1000000000
    → b ≡ pos c → mag a < 2 ^ 63 → mag b < 2 ^ 63
    → x ≡ set out (2 * i) (to_z w64 (of_z w64 a)) → y ≡ set x (2 * i + 1) (to_z w64 (of_z w64 b))
    → y ≡ set (set out (2 * i) (end_at w at).num) (2 * i + 1) (pos (end_at w at).den)
vertex_stored w at i e c a b out x y ee ec ea eb ma mb ex ey =
    let fa : to_z w64 (of_z w64 a) ≡ pos (two_cells w at) -ℤ pos 1000000000 = kept a ma ∙ ea ∙ ap (λ (k : ℕ). pos k -ℤ pos 1000000000) ee in
    let fb : to_z w64 (of_z w64 b) ≡ pos (two_cells w (at + 2)) = kept b mb ∙ eb ∙ ap pos ec in
    ey ∙ ap (λ (l : List ℤ). set l (2 * i + 1) (to_z w64 (of_z w64 b))) (ex ∙ ap (set out (2 * i)) fa)
    ∙ ap (set (set out (2 * i) (pos (two_cells w at) -ℤ pos 1000000000)) (2 * i + 1)) fb

module _ (σ κ : ℕ → ℕ) (w : List ℕ) (out : List ℤ) (j c m₀ m x q l k : ℕ) (em : m ≡ m₀) (ex : x ≡ σ m) (nx : x ≡ m → ⊥) (eq : q ≡ κ m) (nq : q ≡ m → ⊥)
    (el : l ≡ least m x) (ek : k ≡ get_or w (LABEL + l) 0) where
  label_is : l ≡ least m₀ (σ m₀)
  label_is = el ∙ ap (least m) (ex ∙ ap σ em) ∙ ap (λ (y : ℕ). least y (σ m₀)) em

  not_even : ¬ (σ m₀ ≡ m₀)
  not_even t = nx (ex ∙ ap σ em ∙ t ∙ sym em)

  not_odd : ¬ (κ m₀ ≡ m₀)
  not_odd t = nq (eq ∙ ap κ em ∙ t ∙ sym em)

  found : k ≡ get_or w (LABEL + least m₀ (σ m₀)) 0
  found = ek ∙ ap (λ (y : ℕ). get_or w (LABEL + y) 0) label_is

  pub pair_new : k ≡ 0 → (z : ℤ) (out' : List ℤ) → z ≡ pos (c + 1) → mag z < 2 ^ 63 → out' ≡ set out j (to_z w64 (of_z w64 z))
      → Paired σ κ w out m₀ j c (set w (LABEL + l) (c + 1)) out' (c + 1)
  pair_new k0 z out' ez mz eo = is_new not_even not_odd (sym found ∙ k0) (ap (λ (y : ℕ). set w (LABEL + y) (c + 1)) label_is)
      (eo ∙ ap (set out j) (kept z mz ∙ ez)) refl

  pub pair_old : (k ≡ 0 → ⊥) → (z : ℤ) (out' : List ℤ) → z ≡ pos k → mag z < 2 ^ 63 → out' ≡ set out j (to_z w64 (of_z w64 z)) → Paired σ κ w out m₀ j c w out' c
  pair_old k0 z out' ez mz eo = is_old not_even not_odd (λ t. k0 (found ∙ t)) refl (eo ∙ ap (set out j) (kept z mz ∙ ez ∙ ap pos found)) refl

-- ---- vertices

pub length_vertices_to : (w : List ℕ) (i : ℕ) → length (vertices_to w i) ≡ 2 * i
length_vertices_to w zero = refl
length_vertices_to w (suc i) = length-append (vertices_to w i) ((end_at w (cell_place DONE i)).num ∷ pos (end_at w (cell_place DONE i)).den ∷ [])
    ∙ omega (arith, length_vertices_to w i)

pub vertices_more : (w : List ℕ) (o out out' : List ℤ) (i : ℕ) → out ≡ vertices_to w i ++ drop (2 * i) o → 2 * i + 2 ≤ length o
    → out' ≡ set (set out (2 * i) (end_at w (cell_place DONE i)).num) (2 * i + 1) (pos (end_at w (cell_place DONE i)).den) → out' ≡ vertices_to w (suc i)
    ++ drop (2 * suc i) o
vertices_more w o out out' i e h s =
    let F = vertices_to w i in
    let a = (end_at w (cell_place DONE i)).num in
    let b = pos (end_at w (cell_place DONE i)).den in
    let l : 2 * i + 1 ≡ suc (2 * i) = omega arith in
    let l2 : suc (suc (2 * i)) ≡ 2 * suc i = omega arith in
    let len : length (F ++ (a ∷ [])) ≡ suc (2 * i) = length-append F (a ∷ []) ∙ omega (arith, length_vertices_to w i) in
    s
    ∙ ap (λ (x : List ℤ). set (set x (2 * i) a) (2 * i + 1) b) e
    ∙ ap (λ (x : List ℤ). set x (2 * i + 1) b) (one_store F o (2 * i) a (length_vertices_to w i) (omega arith))
    ∙ ap (λ (k : ℕ). set ((F ++ (a ∷ [])) ++ drop (suc (2 * i)) o) k b) l
    ∙ one_store (F ++ (a ∷ [])) o (suc (2 * i)) b len (omega arith)
    ∙ ap (λ (x : List ℤ). x ++ drop (suc (suc (2 * i))) o) (append_assoc F (a ∷ []) (b ∷ []))
    ∙ ap (λ (k : ℕ). (F ++ (a ∷ b ∷ [])) ++ drop k o) l2

-- ---- rows, labels and entries with one side more

module _ (σ κ : ℕ → ℕ) where
  pub rows_snoc : (l : List Placed) (u : Placed) → rows_of σ κ (l ++ (u ∷ [])) ≡ rows_of σ κ l ++ (row_of σ κ u ∷ [])
  rows_snoc [] u = refl
  rows_snoc (x ∷ l) u = ap (λ (y : List Row). row_of σ κ x ∷ y) (rows_snoc l u)

  pub entries_more : (L : List ℕ) (y : ℕ) (l : List Placed) → ((u : Placed) → In u l → (x : ℕ) → mark_of σ κ u.pt ≡ free x → x ∈ L)
      → row_entries (L ++ (y ∷ [])) (rows_of σ κ l) ≡ row_entries L (rows_of σ κ l)
  entries_more L y [] f = refl
  entries_more L y (u ∷ l) f =
      let a = same (mark_of σ κ u.pt) refl in
      let b = entries_more L y l (λ w h. f w (inr h)) in
      λ i. a i ∷ b i
    where
      same : (m : Mark) → mark_of σ κ u.pt ≡ m → entry (L ++ (y ∷ [])) m ≡ entry L m
      same unpaired e = refl
      same even e = refl
      same odd e = refl
      same (free x) e = ap (λ (k : ℕ). pos (suc k)) (places.find_left L (y ∷ []) x (f u (inl refl) x e))

pub labels_snoc : (L : List ℕ) (rows : List Row) (r : Row) → labels_from L (rows ++ (r ∷ [])) ≡ noted (labels_from L rows) r.mark
labels_snoc L [] r = refl
labels_snoc L (q ∷ rows) r = labels_snoc (noted L q.mark) rows r

pub entries_snoc : (L : List ℕ) (rows : List Row) (r : Row) → row_entries L (rows ++ (r ∷ [])) ≡ row_entries L rows ++ (entry L r.mark ∷ [])
entries_snoc L [] r = refl
entries_snoc L (q ∷ rows) r = ap (λ (y : List ℤ). entry L q.mark ∷ y) (entries_snoc L rows r)

-- ---- numbers of labels

abbrev pub number_in : List ℕ → ℕ → ℕ
number_in L x = pick (is_in L x) (suc (find L x)) 0

pub number_in_lem : (L : List ℕ) (x : ℕ) → x ∈ L → number_in L x ≡ suc (find L x)
number_in_lem L x h = pick_true (is_in L x) (suc (find L x)) 0 (lt-ltb (find L x) (length L) h)

pub number_out : (L : List ℕ) (x : ℕ) → x ∉ L → number_in L x ≡ 0
number_out L x h = pick_false (is_in L x) (suc (find L x)) 0 (le-ltb (find L x) (length L) h)

find_one : (y x : ℕ) → ¬ (x ≡ y) → find (y ∷ []) x ≡ 1
unfolding find
find_one y x n = rw (ne_eqb y x (λ q. n (sym q))) refl

pub number_old : (L : List ℕ) (y x : ℕ) → ¬ (x ≡ y) → number_in (L ++ (y ∷ [])) x ≡ number_in L x
number_old L y x n = elim (dec_lt (find L x) (length L)) [
  | yes h ↦ number_in_lem (L ++ (y ∷ [])) x (places.in_left L (y ∷ []) x h) ∙ ap suc (places.find_left L (y ∷ []) x h) ∙ sym (number_in_lem L x h)
  | no h ↦ number_out (L ++ (y ∷ [])) x (omega (arith, places.find_right L (y ∷ []) x (omega arith), length-append L (y ∷ []), find_one y x n))
      ∙ sym (number_out L x (omega arith))
]

pub vertices_length : (w : List ℕ) (o out : List ℤ) (i : ℕ) → out ≡ vertices_to w i ++ drop (2 * i) o → 2 * i ≤ length o → length out ≡ length o
vertices_length w o out i e h = ap length e ∙ length-append (vertices_to w i) (drop (2 * i) o) ∙ omega (arith, length_vertices_to w i, length-drop (2 * i) o)
