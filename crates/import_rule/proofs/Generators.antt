-- The symbol of a list of placed sides that are all closed, and its generators.
--
--   Shape l         the sides follow one another from -1/0 to 1/0, 0/1 is an inner vertex, there are two or more, and their entries keep
--                   to the limit
--   Finishing C l   the sides l are all closed, the sides C were split, and what every split keeps holds
--   Mates u w       two sides of a free pair: the point of w is the one beyond u
--
-- In order: the kinds of sides (`sorts`); labels tell pairs apart (`same_label`) and stand just twice (`twice`); the symbol (`is_symbol`);
-- partners (`partner_is`); generators (`generator_is`), which fix point 0 (`fix`), and are in H with their inverses (`in_even`, `in_odd`, `in_first`).
-- Assumes nothing.
use mathlib.Core.Path.{◌≡◌, refl, sym, ◌∙◌, ap}
use mathlib.Core.Logic.{◌⊎◌, inl, inr}
use mathlib.Core.Bool.{true}
use mathlib.Core.List.{List}
use Prim.Native.Nat.{ℕ, zero, suc, ◌+◌, ◌*◌, ◌-◌, ◌<◌, ◌≤◌}
use native.Mathlib.Omega.{arith}
use native.Mathlib.Decide.{ℕ_discrete}
use lib.Dec.{ltb}
use lib.ListN.{length, get_or, length-map}
use lib.IntN.{ℤ, pos, negsuc, nat_abs}
use borrow.Author.Tests.{lt-ltb}
use Rattle.matrix.specs.Matrix.{Mat, ◌⊗◌, 𝟙, adj, det, mat_s, mat_q, ◌≈◌}
use Rattle.matrix.specs.Words as word
use Rattle.basics.specs.Count.{count}
use Rattle.symbol.specs.Table.{pairing_entry, pairing_of, carried}
use Rattle.symbol.specs.Check.{eq_z, sides}
use Rattle.symbol.specs.Symbol.{ZeroAt, FreeLabel, IsSymbol}
use Rattle.pairing.specs.Generator.{partner, pairing_at, is_leader_by, is_leader, leaders, frame_at, generator_by, generator, generators}
use Rattle.pairing.specs.Subgroup.{InH}
use Rattle.symbol.specs.declared.Pairing.{Pairing}
use Rattle.symbol.specs.declared.Pairing.TheVariants.{Even, Odd, Free}
use Rattle.symbol.proofs.Choice.{eq_z_true, eq_eq_z, eq_z_refl}
use Rattle.basics.proofs.Count.{count_yes, count_mono, length_those}
use Rattle.symbol.proofs.Pairings.{pairing_free}
use Rattle.pairing.proofs.Facts.{partner_of, map_at, generator_at}
use Rattle.numbering.specs.Find.{find, ◌∈◌}
use Rattle.numbering.proofs.Find as places
use Rattle.import_rule.specs.Side.{Vertex, vertex, minus_infinity, limit}
use Rattle.import_rule.specs.Rule.{least}
use Rattle.import_rule.specs.Symbol.{labels_of, symbol_table}
use Rattle.import_rule.specs.Inner.Placed.{Placed, pts, rows_of}
use Rattle.import_rule.proofs.Member.{In}
use Rattle.import_rule.proofs.Lead.{Turning, Leads, leads-≈, leads_to, leads_step, leads_back}
use Rattle.import_rule.proofs.Split.{framed, Closed, AllClosed, pt_of}
use Rattle.import_rule.proofs.Corners.{corner_free, triangles}
use Rattle.import_rule.proofs.Stabiliser.{in_gen, in_inv}
use Rattle.import_rule.proofs.Table.{At, in_at, at_in, at_get, at_low, at_one, at_place, inner, Chained, chain_den}
use Rattle.import_rule.proofs.Table.{inner_at, labels_in, labels_few, mark_free, v_is, table_long, table_num, table_den, pair_even, pair_odd}
use Rattle.import_rule.proofs.Table.{pair_free, table_frame}
use Rattle.import_rule.proofs.Counting.{least_is, least_turn, those_pass, count_two}
use Rattle.import_rule.proofs.Kept.{Inv}

pub record Shape (l : List Placed) : Type 0 where
  pub chained : Chained minus_infinity l
  pub zero_in : In (vertex (pos 0) 1) (inner l)
  pub many : 3 ≤ length l
  pub small : (u : Placed) → In u l → (nat_abs u.hi.num ≤ limit) × (u.hi.den ≤ limit)

-- all sides are closed
pub record Finishing (σ κ : ℕ → ℕ) (n : ℕ) (C l : List Placed) : Type 0 where
  pub turning : Turning σ κ n
  pub top : n ≤ 3066
  pub inv : Inv σ κ n C l
  pub all : AllClosed σ κ (pts l) l
  pub shape : Shape l
  pub counted : length l ≡ length C + 2

module _ {σ κ : ℕ → ℕ} {n : ℕ} {C l : List Placed} (F : Finishing σ κ n C l) where
  abbrev T : Turning σ κ n
  T = F.turning

  abbrev inv : Inv σ κ n C l
  inv = F.inv

  abbrev shape : Shape l
  shape = F.shape

  abbrev pub v : ℕ
  v = length (rows_of σ κ l) - 1

  abbrev pub t : List ℤ
  t = symbol_table (rows_of σ κ l)

  abbrev L : List ℕ
  L = labels_of (rows_of σ κ l)

  some : 1 ≤ length l
  some = let h = shape.many in omega arith

  size : suc v ≡ length l
  size = v_is σ κ l some

  pub few : 3 * v ≤ n + 3
  few = omega (arith, size, F.counted, triangles σ κ n T C inv.tops)

  -- ---- the kinds of sides

  not_both : (u : Placed) → In u l → κ u.pt ≡ u.pt → ¬ (σ u.pt ≡ u.pt)
  not_both u h o e = corner_free σ κ n T inv.tops (inv.under u h) (rw (← e) at o)

  -- the point beyond a side is moved by κ
  partner_moved : (u w : Placed) → In u l → w.pt ≡ σ u.pt → ¬ (κ w.pt ≡ w.pt)
  partner_moved u w h e o = corner_free σ κ n T inv.tops (inv.under u h) (rw e at o)

  pub record Mates (u w : Placed) : Type 0 where
    pub pt : w.pt ≡ σ u.pt
    pub not_even : ¬ (σ u.pt ≡ u.pt)
    pub not_odd : ¬ (κ u.pt ≡ u.pt)

  pub mates_back : (u w : Placed) → In u l → Mates u w → Mates w u
  mates_back u w h m = record {
    pt = sym (ap σ m.pt ∙ T.twice u.pt);
    not_even = λ e. m.not_even (sym m.pt ∙ sym e ∙ ap σ m.pt ∙ T.twice u.pt);
    not_odd = partner_moved u w h m.pt;
  }

  pub record Mated (u : Placed) : Type 0 where
    pub side : Placed
    pub among : In side l
    pub mates : Mates u side

  pub sorts : (u : Placed) → In u l → (σ u.pt ≡ u.pt) ⊎ (κ u.pt ≡ u.pt) ⊎ Mated u
  sorts u h = go (ℕ_discrete (σ u.pt) u.pt) (ℕ_discrete (κ u.pt) u.pt) (F.all u h)
    where
      go : Dec (σ u.pt ≡ u.pt) → Dec (κ u.pt ≡ u.pt) → Closed σ κ (pts l) u.pt → (σ u.pt ≡ u.pt) ⊎ (κ u.pt ≡ u.pt) ⊎ Mated u
      go (yes e) d c = inl e
      go (no e) (yes o) c = inr (inl o)
      go (no e) (no o) (inl c) = absurd (o c)
      go (no e) (no o) (inr c) = let k = pt_of _ l c in
          inr (inr (record { side = k.side; among = k.among; mates = record { pt = sym k.pt; not_even = e; not_odd = o } }))

  -- ---- labels

  abbrev label_of : Placed → ℕ
  label_of u = least u.pt (σ u.pt)

  even_is : (i : ℕ) (u : Placed) → At i u l → σ u.pt ≡ u.pt → pairing_entry v t i ≡ negsuc 1
  even_is i u a e = pair_even σ κ l some i u a e

  odd_is : (i : ℕ) (u : Placed) → At i u l → κ u.pt ≡ u.pt → pairing_entry v t i ≡ negsuc 2
  odd_is i u a e = pair_odd σ κ l some i u a (not_both u (at_in i u l a) e) e

  free_is : (i : ℕ) (u w : Placed) → At i u l → Mates u w → pairing_entry v t i ≡ pos (suc (find L (label_of u)))
  free_is i u w a m = pair_free σ κ l some i u a m.not_even m.not_odd

  listed : (u w : Placed) → In u l → Mates u w → label_of u ∈ L
  listed u w h m = labels_in σ κ u l (label_of u) h (mark_free σ κ u.pt m.not_even m.not_odd)

  label_back : (u w : Placed) → Mates u w → label_of w ≡ label_of u
  label_back u w m = ap (λ (x : ℕ). least x (σ x)) m.pt ∙ ap (least (σ u.pt)) (T.twice u.pt) ∙ least_turn (σ u.pt) u.pt

  -- a label tells the points of its sides
  label_tells : (u w : Placed) → label_of u ≡ label_of w → (u.pt ≡ w.pt) ⊎ (u.pt ≡ σ w.pt)
  label_tells u w e = go (least_is u.pt (σ u.pt)) (least_is w.pt (σ w.pt))
    where
      go : (label_of u ≡ u.pt) ⊎ (label_of u ≡ σ u.pt) → (label_of w ≡ w.pt) ⊎ (label_of w ≡ σ w.pt) → (u.pt ≡ w.pt) ⊎ (u.pt ≡ σ w.pt)
      go (inl a) (inl b) = inl (sym a ∙ e ∙ b)
      go (inl a) (inr b) = inr (sym a ∙ e ∙ b)
      go (inr a) (inl b) = inr (sym (T.twice u.pt) ∙ ap σ (sym a ∙ e ∙ b))
      go (inr a) (inr b) = inl (sym (T.twice u.pt) ∙ ap σ (sym a ∙ e ∙ b) ∙ T.twice w.pt)

  -- a side with the pairing of a free side is that side or its partner
  same_label : (i k j : ℕ) (u w : Placed) → At i u l → At k w l → Mates u w → j ≤ v → pairing_entry v t j ≡ pairing_entry v t i → (j ≡ i) ⊎ (j ≡ k)
  same_label i k j u w a b m h e =
      let g = at_get j l (omega (arith, size)) in
      go g.side g.is (sorts g.side (at_in j g.side l g.is))
    where
      go : (y : Placed) → At j y l → (σ y.pt ≡ y.pt) ⊎ (κ y.pt ≡ y.pt) ⊎ Mated y → (j ≡ i) ⊎ (j ≡ k)
      go y c (inl p) = let q : negsuc 1 ≡ pos (suc (find L (label_of u))) = sym (even_is j y c p) ∙ e
          ∙ free_is i u w a m in let z : ◌≡◌ {A = ℕ} 0 1 = cc in absurd (omega arith)
      go y c (inr (inl p)) = let q : negsuc 2 ≡ pos (suc (find L (label_of u))) = sym (odd_is j y c p) ∙ e
          ∙ free_is i u w a m in let z : ◌≡◌ {A = ℕ} 0 1 = cc in absurd (omega arith)
      go y c (inr (inr p)) =
          let q : pos (suc (find L (label_of y))) ≡ pos (suc (find L (label_of u))) = sym (free_is j y p.side c p.mates) ∙ e ∙ free_is i u w a m in
          let r : find L (label_of y) ≡ find L (label_of u) = let s = ap nat_abs q in omega arith in
          let x : label_of y ≡ label_of u = sym (places.get_d_find L (label_of y) (listed y p.side (at_in j y l c) p.mates)) ∙ ap (λ (z : ℕ). get_or L z 0) r
          ∙ places.get_d_find L (label_of u) (listed u w (at_in i u l a) m) in
          elim (label_tells y u x) [
            | inl z ↦ inl (at_place j i y u l inv.apart c a z)
            | inr z ↦ inr (at_place j k y w l inv.apart c b (z ∙ sym m.pt))
          ]

  pub other_place : (i k : ℕ) (u w : Placed) → At i u l → At k w l → Mates u w → ¬ (k ≡ i)
  other_place i k u w a b m z = m.not_even (sym m.pt ∙ ap (λ (x : Placed). x.pt) (at_one i w u l (rw z at b) a))

  twice : (i k : ℕ) (u w : Placed) → At i u l → At k w l → Mates u w → sides v t (pairing_entry v t i) ≡ 2
  twice i k u w a b m =
      let x = at_low i u l a in
      let y = at_low k w l b in
      let q : pairing_entry v t k ≡ pairing_entry v t i = free_is k w u b (mates_back u w (at_in i u l a) m)
      ∙ ap (λ (z : ℕ). pos (suc (find L z))) (label_back u w m) ∙ sym (free_is i u w a m) in
      count_two (λ (j : ℕ). eq_z (pairing_entry v t j) (pairing_entry v t i)) (v + 1) i k (omega (arith, size)) (omega (arith, size)) (other_place i k u w a b m)
      (eq_z_refl (pairing_entry v t i)) (eq_eq_z (pairing_entry v t k) (pairing_entry v t i) q)
      (λ j h e. same_label i k j u w a b m (omega arith) (eq_z_true (pairing_entry v t j) (pairing_entry v t i) e))

  free_label : (i : ℕ) (u : Placed) → At i u l → Mated u → FreeLabel v t (pairing_entry v t i)
  free_label i u a p =
      let b = in_at p.side l p.among in
      let h = listed u p.side (at_in i u l a) p.mates in
      let f = labels_few σ κ l in
      record {
        label = suc (find L (label_of u));
        is = free_is i u p.side a p.mates;
        low = omega arith;
        high = omega (arith, size);
        twice = twice i b.number u p.side a b.is p.mates;
      }

  -- ---- THE SYMBOL

  det_at : (i : ℕ) → i ≤ v → det (frame_at v t i) ≡ pos 1
  det_at i h =
      let g = at_get i l (omega (arith, size)) in
      ap det (table_frame σ κ l some i g.side shape.chained g.is) ∙ inv.dets g.side (at_in i g.side l g.is)

  kinds : (i : ℕ) → i ≤ v → (pairing_entry v t i ≡ negsuc 1) ⊎ (pairing_entry v t i ≡ negsuc 2) ⊎ FreeLabel v t (pairing_entry v t i)
  kinds i h =
      let g = at_get i l (omega (arith, size)) in
      go g.side g.is (sorts g.side (at_in i g.side l g.is))
    where
      go : (u : Placed) → At i u l → (σ u.pt ≡ u.pt) ⊎ (κ u.pt ≡ u.pt) ⊎ Mated u → (pairing_entry v t i ≡ negsuc 1) ⊎ (pairing_entry v t i ≡ negsuc 2)
          ⊎ FreeLabel v t (pairing_entry v t i)
      go u a (inl e) = inl (even_is i u a e)
      go u a (inr (inl e)) = inr (inl (odd_is i u a e))
      go u a (inr (inr m)) = inr (inr (free_label i u a m))

  zero_at : ZeroAt v t
  zero_at =
      let k = inner_at (vertex (pos 0) 1) l shape.zero_in in
      let m = k.more in
      let h : k.number < v = omega (arith, size) in
      record {
        at = k.number;
        below = h;
        num = table_num σ κ l some k.number k.side k.is h ∙ ap (λ (x : Vertex). x.num) k.end;
        den = table_den σ κ l some k.number k.side k.is h ∙ ap (λ (x : Vertex). pos x.den) k.end;
      }

  pub is_symbol : IsSymbol v t
  is_symbol = record {
    some = let h = shape.many in omega (arith, size);
    most = omega (arith, few, F.top);
    long = table_long σ κ l some;
    numers = λ i h. let g = at_get i l (omega (arith, size)) in
        rw (table_num σ κ l some i g.side g.is h) (shape.small g.side (at_in i g.side l g.is)).0;
    denoms = λ i h. let g = at_get i l (omega (arith, size)) in
        rw (table_den σ κ l some i g.side g.is h)
        (chain_den minus_infinity i g.side l shape.chained g.is (omega (arith, size)), (shape.small g.side (at_in i g.side l g.is)).1, refl);
    neighbours = det_at;
    zero = zero_at;
    pairings = kinds;
    odd = λ e. let h = shape.many in let z : ⊥ = omega (arith, size) in absurd z;
  }

  -- ---- partners and generators

  partner_is : (i k : ℕ) (u w : Placed) → At i u l → At k w l → Mates u w → partner v t i ≡ k
  partner_is i k u w a b m =
      let x = at_low i u l a in
      let p = partner_of v t is_symbol i (omega (arith, size)) (free_label i u a (record { side = w; among = at_in k w l b; mates = m })) in
      elim (same_label i k (partner v t i) u w a b m p.within p.same) [
        | inl z ↦ absurd (p.differs z)
        | inr z ↦ z
      ]

  frame_is : (i : ℕ) (u : Placed) → At i u l → frame_at v t i ≡ framed u
  frame_is i u a = table_frame σ κ l some i u shape.chained a

  made_by_lem : (i : ℕ) (q : Pairing) → pairing_at v t i ≡ q → generator v t i ≡ generator_by q (frame_at v t i) (frame_at v t (partner v t i))
  made_by_lem i q e = ap (λ (x : Pairing). generator_by x (frame_at v t i) (frame_at v t (partner v t i))) e

  even_at_lem : (i : ℕ) (u : Placed) → At i u l → σ u.pt ≡ u.pt → pairing_at v t i ≡ Even
  even_at_lem i u a e = ap (pairing_of v) (even_is i u a e)

  odd_at_lem : (i : ℕ) (u : Placed) → At i u l → κ u.pt ≡ u.pt → pairing_at v t i ≡ Odd
  odd_at_lem i u a e = ap (pairing_of v) (odd_is i u a e)

  free_at : (i : ℕ) (u w : Placed) → At i u l → In w l → Mates u w → pairing_at v t i ≡ Free (suc (find L (label_of u)))
  free_at i u w a b m =
      let f = labels_few σ κ l in
      let h = listed u w (at_in i u l a) m in
      ap (pairing_of v) (free_is i u w a m) ∙ pairing_free v (suc (find L (label_of u))) (omega arith) (omega (arith, size))

  generator_even : (i : ℕ) (u : Placed) → At i u l → σ u.pt ≡ u.pt → generator v t i ≡ carried (framed u) mat_s (framed u)
  generator_even i u a e = made_by_lem i Even (even_at_lem i u a e) ∙ ap (λ (m : Mat). carried m mat_s m) (frame_is i u a)

  generator_odd : (i : ℕ) (u : Placed) → At i u l → κ u.pt ≡ u.pt → generator v t i ≡ carried (framed u) mat_q (framed u)
  generator_odd i u a e = made_by_lem i Odd (odd_at_lem i u a e) ∙ ap (λ (m : Mat). carried m mat_q m) (frame_is i u a)

  generator_free : (i k : ℕ) (u w : Placed) → At i u l → At k w l → Mates u w → generator v t i ≡ carried (framed w) mat_s (framed u)
  generator_free i k u w a b m =
      made_by_lem i (Free (suc (find L (label_of u)))) (free_at i u w a (at_in k w l b) m)
      ∙ ap (λ (x : Mat). carried (frame_at v t (partner v t i)) mat_s x) (frame_is i u a)
      ∙ ap (λ (x : ℕ). carried (frame_at v t x) mat_s (framed u)) (partner_is i k u w a b m)
      ∙ ap (λ (x : Mat). carried x mat_s (framed u)) (frame_is k w b)

  -- what a side's generator is
  pub data Is (g : Mat) : Type 0 where
    is_even : (u : Placed) → In u l → σ u.pt ≡ u.pt → g ≡ carried (framed u) mat_s (framed u) → Is g
    is_odd_is : (u : Placed) → In u l → κ u.pt ≡ u.pt → g ≡ carried (framed u) mat_q (framed u) → Is g
    is_free : (u w : Placed) → In u l → In w l → w.pt ≡ σ u.pt → g ≡ carried (framed w) mat_s (framed u) → Is g

  generator_is : (i : ℕ) → i ≤ v → Is (generator v t i)
  generator_is i h = let g = at_get i l (omega (arith, size)) in go g.side g.is (sorts g.side (at_in i g.side l g.is))
    where
      go : (u : Placed) → At i u l → (σ u.pt ≡ u.pt) ⊎ (κ u.pt ≡ u.pt) ⊎ Mated u → Is (generator v t i)
      go u a (inl e) = is_even u (at_in i u l a) e (generator_even i u a e)
      go u a (inr (inl e)) = is_odd_is u (at_in i u l a) e (generator_odd i u a e)
      go u a (inr (inr m)) = let b = in_at m.side l m.among in
          is_free u m.side (at_in i u l a) m.among m.mates.pt (generator_free i b.number u m.side a b.is m.mates)

  abbrev pub gens : List Mat
  gens = generators v t

  fixes_0 : (g : Mat) → Is g → Leads σ κ g 0
  fixes_0 g i = go i
    where
      by_two : (m k : Mat) (x y : ℕ) → Leads σ κ m x → Leads σ κ k y → x ≡ y → g ≡ m ⊗ adj k → Leads σ κ g 0
      by_two m k x y p q e f = leads-≈ σ κ n T (inl f) (leads_back σ κ n T p (leads_to σ κ n T (sym e) q))

      go : Is g → Leads σ κ g 0
      go (is_even u h e p) = by_two _ _ _ _ (leads_step σ κ n T word.S (inv.leads u h)) (inv.leads u h) e p
      go (is_odd_is u h e p) = by_two _ _ _ _ (leads_step σ κ n T word.Q (inv.leads u h)) (inv.leads u h) e p
      go (is_free u w h k e p) = by_two _ _ _ _ (leads_step σ κ n T word.S (inv.leads w k)) (inv.leads u h) (ap σ e ∙ T.twice u.pt) p

  gens_long : length gens ≡ count (is_leader v t) (v + 1)
  gens_long = length-map (leaders v t) (generator v t) ∙ length_those (is_leader v t) (v + 1)

  pub fix : (j : ℕ) → j < length gens → Leads σ κ (get_or gens j 𝟙) 0
  fix j h =
      let low : j < length (leaders v t) = omega (arith, gens_long, length_those (is_leader v t) (v + 1)) in
      let p = those_pass (is_leader v t) (v + 1) j low in
      let k = p.low in
      leads-≈ σ κ n T (inl (map_at (generator v t) (leaders v t) j 0 𝟙 low)) (fixes_0 _ (generator_is (get_or (leaders v t) j 0) (omega arith)))

  -- a leading side's generator and its inverse are in H
  pub record Member (g : Mat) : Type 0 where
    pub there : InH gens g
    pub inverse : InH gens (adj g)

  leading : (i : ℕ) → i ≤ v → is_leader v t i ≡ true → Member (generator v t i)
  leading i h e =
      let j = count (is_leader v t) i in
      let a = count_yes (is_leader v t) i e in
      let b = count_mono (is_leader v t) (suc i) (v + 1) (omega arith) in
      let low : j < length gens = omega (arith, gens_long) in
      let is = generator_at v t i h e in
      record { there = rw is at (in_gen gens j low); inverse = rw is at (in_inv gens j low) }

  at_most_v : (i : ℕ) (u : Placed) → At i u l → i ≤ v
  at_most_v i u a = let k = at_low i u l a in omega (arith, size)

  pub in_even : (u : Placed) → In u l → σ u.pt ≡ u.pt → Member (carried (framed u) mat_s (framed u))
  in_even u h e =
      let a = in_at u l h in
      let i = a.number in
      let lead : is_leader v t i ≡ true = ap (λ (q : Pairing). is_leader_by q i (partner v t i)) (even_at_lem i u a.is e) in
      rw (generator_even i u a.is e) at (leading i (at_most_v i u a.is) lead)

  pub in_odd : (u : Placed) → In u l → κ u.pt ≡ u.pt → Member (carried (framed u) mat_q (framed u))
  in_odd u h e =
      let a = in_at u l h in
      let i = a.number in
      let lead : is_leader v t i ≡ true = ap (λ (q : Pairing). is_leader_by q i (partner v t i)) (odd_at_lem i u a.is e) in
      rw (generator_odd i u a.is e) at (leading i (at_most_v i u a.is) lead)

  pub in_first : (i k : ℕ) (u w : Placed) → At i u l → At k w l → Mates u w → i < k → Member (carried (framed w) mat_s (framed u))
  in_first i k u w a b m h =
      let lead : is_leader v t i ≡ true = ap (λ (q : Pairing). is_leader_by q i (partner v t i)) (free_at i u w a (at_in k w l b) m)
      ∙ ap (ltb i) (partner_is i k u w a b m) ∙ lt-ltb i k h in
      rw (generator_free i k u w a b m) at (leading i (at_most_v i u a) lead)
