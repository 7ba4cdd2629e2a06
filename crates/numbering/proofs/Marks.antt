-- Laws of the tables that the numbering leaves, one for each place in the code: `compose`; a whole table put; `rename`; `tables`.
-- Assumes nothing.
use mathlib.Core.Path.{◌≡◌, refl, sym, ap, ◌∙◌}
use mathlib.Core.Logic.{inl, inr}
use mathlib.Core.List.{List}
use Prim.Native.Nat.{ℕ, ◌+◌, ◌-◌, ◌≤◌, ◌<◌}
use native.Mathlib.Omega.{arith}
use native.Mathlib.Decide.{dec_lt}
use lib.ListN.{length, get_or, set}
use lib.Seq.{ext_get_or}
use Rattle.numbering.specs.Find.{find, ◌∈◌}
use Rattle.numbering.specs.Table.{image_at, ◌then◌, renamed, ◌then_table◌}
use Rattle.numbering.specs.Inner.Space.{WORK, ROOM, S_TABLE, SIGMA, RHO, NUMBER, ORDER, R_TABLE, T_TABLE, put_to, Apart}
use Rattle.call.specs.Space.{entries}
use Rattle.numbering.specs.Inner.Marks.{listed, Sparse, NowListed, Images, order_in, Renames, Composes, TablesLeft}
use Rattle.numbering.proofs.Find.{get_d_in}
use Rattle.numbering.proofs.Order.{numbering}
use Rattle.numbering.proofs.Table.{renamed_length, renamed_at, then_length, then_at, renaming}
use Rattle.numbering.proofs.Space.{entries_length, entries_at}
use Rattle.numbering.proofs.Space.{put_more, put_length, put_below, put_in, put_above, put_other, put_entries_other, put_entries, apart_part}
use Rattle.numbering.proofs.Listing.{still, listed_length, listed_number, listed_low, image_kept}

-- ---- `compose`: after j turns the first j entries stand at `to`
module _ {a b to n m : ℕ} {w₀ : List ℕ} (p : Composes a b to n m w₀) where
  abbrev composed_in : List ℕ
  composed_in = entries a n w₀ then_table entries b m w₀

  compose_long : length composed_in ≡ n
  compose_long = then_length (entries a n w₀) (entries b m w₀) ∙ entries_length a n w₀ (omega arith)

  module _ {w : List ℕ} {j : ℕ} (e : w ≡ put_to w₀ to composed_in j) (h : j < n) where
    -- a table apart is as before, and so is what stands past the entries that were put
    compose_kept : (c k i : ℕ) → Apart c k to n → i < k → get_or w (c + i) 0 ≡ get_or w₀ (c + i) 0
    compose_kept c k i apart g =
        let l = compose_long in
        rw e (put_other w₀ to composed_in j (omega arith) (omega arith) c k i (apart_part k j apart (omega arith) (omega arith)) g)

    compose_past : a ≡ to → get_or w (a + j) 0 ≡ get_or w₀ (a + j) 0
    compose_past d = let l = compose_long in rw e (put_above w₀ to composed_in j (omega arith) (omega arith) (a + j) (omega arith))

    module _ {x : ℕ} (ex : x ≡ get_or w (a + j) 0) where
      compose_point : x ≡ image_at (entries a n w₀) j
      compose_point = ex ∙ elim p.apart_a [ inl d ↦ compose_kept a n j d h | inr d ↦ compose_past d ] ∙ sym (entries_at a n w₀ j h)

      pub compose_low : x < m
      compose_low = rw compose_point (p.low j h)

      pub compose_more : set w (to + j) (get_or w (b + x) 0) ≡ put_to w₀ to composed_in (j + 1)
      compose_more =
          let l = compose_long in
          let k = entries_length a n w₀ (omega arith) in
          let d = compose_kept b m x p.apart_b compose_low ∙ sym (entries_at b m w₀ x compose_low)
          ∙ ap (image_at (entries b m w₀)) compose_point ∙ sym (then_at (entries a n w₀) (entries b m w₀) j (omega arith)) in
          rw e (put_more w₀ to composed_in j _ (omega arith) (omega arith) (rw e at d))

-- ---- a whole table put
-- w' is w with the table l, of n entries, at off
record Put (off n : ℕ) (l w w' : List ℕ) : Type 0 where
  pub is : w' ≡ put_to w off l n
  pub long : length l ≡ n
  pub fits : off + n ≤ length w

module _ {off n : ℕ} {l w w' : List ℕ} (p : Put off n l w w') where
  put_same : length w' ≡ length w
  put_same = rw p.is (put_length w off l n p.fits (omega (arith, p.long)))

  put_under : (k : ℕ) → k < off → get_or w' k 0 ≡ get_or w k 0
  put_under k h = rw p.is (put_below w off l n p.fits (omega (arith, p.long)) k h)

  put_over : (k : ℕ) → off + n ≤ k → get_or w' k 0 ≡ get_or w k 0
  put_over k h = rw p.is (put_above w off l n p.fits (omega (arith, p.long)) k h)

  put_table : entries off n w' ≡ l
  put_table = rw p.is (put_entries w off l n p.long p.fits)

  put_apart : (a m : ℕ) → Apart a m off n → a + m ≤ length w → entries a m w' ≡ entries a m w
  put_apart a m apart h = rw p.is (put_entries_other w off l n p.fits (omega (arith, p.long)) a m apart h)

  put_sparse : {size m : ℕ} → Sparse size m w → Apart NUMBER ROOM off n → Apart ORDER ROOM off n → Sparse size m w'
  put_sparse {size} {m} g an ao =
      let at-order : (j : ℕ) → j < m → get_or w' (ORDER + j) 0 ≡ get_or w (ORDER + j) 0 = λ j h.
      rw p.is (put_other w off l n p.fits (omega (arith, p.long)) ORDER ROOM j ao (omega (arith, g.few, g.room))) in
      record {
        long = still put_same g.long;
        room = g.room;
        few = g.few;
        low = λ j h. rw (at-order j h) (g.low j h);
        number = λ j h.
            let x = g.low j h in
            rw (at-order j h, p.is) (put_other w off l n p.fits (omega (arith, p.long)) NUMBER ROOM (get_or w (ORDER + j) 0) an (omega (arith, g.room))
            ∙ g.number j h);
      }

  -- another table put over it
  put_again : (l' : List ℕ) {w'' : List ℕ} → length l' ≡ n → w'' ≡ put_to w' off l' n → w'' ≡ put_to w off l' n
  put_again l' d e =
      let fits = p.fits in
      let same = put_same in
      let one = put_length w' off l' n (omega arith) (omega arith) in
      let other = put_length w off l' n fits (omega arith) in
      e ∙ ext_get_or 0 (put_to w' off l' n) (put_to w off l' n) (omega arith) (λ i h. elim (dec_lt i off) [
        | yes b ↦ put_below w' off l' n (omega arith) (omega arith) i b ∙ put_under i b ∙ sym (put_below w off l' n fits (omega arith) i b)
        | no b ↦ elim (dec_lt i (off + n)) [
          | yes k ↦
              let g : off + (i - off) ≡ i = omega arith in
              let x = put_in w' off l' n (omega arith) (omega arith) (i - off) (omega arith) in
              let y = put_in w off l' n fits (omega arith) (i - off) (omega arith) in
              rw g at (x ∙ sym y)
          | no k ↦
              let x = put_above w' off l' n (omega arith) (omega arith) i (omega arith) in
              x ∙ put_over i (omega arith) ∙ sym (put_above w off l' n fits (omega arith) i (omega arith))
        ]
      ])

-- ---- `rename`: the images of what is listed, and then their numbers
module _ {from to size n : ℕ} {w₀ : List ℕ} (p : Renames from to size n w₀) where
  abbrev points : List ℕ
  points = listed n w₀

  abbrev table : List ℕ
  table = entries from size w₀

  abbrev images : List ℕ
  images = points then_table table

  points_long : length points ≡ n
  points_long = listed_length p.sparse

  image_at_lem : (j : ℕ) → j < n → image_at images j ≡ image_at table (image_at points j)
  image_at_lem j h = let l = points_long in then_at points table j (omega arith)

  image_in : (j : ℕ) → j < n → image_at images j ∈ points
  image_in j h = let l = points_long in rw (image_at_lem j h) (p.closed (image_at points j) (get_d_in points j (omega arith)))

  pub rename_first : Composes ORDER from to n size w₀
  rename_first = let l = points_long in record {
    long = p.sparse.long;
    fits_a = omega (arith, p.sparse.few, p.sparse.room);
    fits_b = p.fits_from;
    fits_to = p.fits_to;
    apart_a = inl (apart_part {m = ROOM} n n p.apart_order (omega (arith, p.sparse.few, p.sparse.room)) (omega arith));
    apart_b = p.apart_from;
    low = λ j h. listed_low p.sparse (image_at points j) (get_d_in points j (omega arith));
  }

  module _ {w : List ℕ} (e : w ≡ put_to w₀ to images n) where
    images_put : Put to n images w₀ w
    images_put = record { is = e; long = then_length points table ∙ points_long; fits = omega (arith, p.fits_to, p.sparse.long) }

    apart_numbers : Apart NUMBER size to n
    apart_numbers = apart_part {m = ROOM} size n p.apart_number p.sparse.room (omega arith)

    pub rename_second : Composes to NUMBER to n size w
    rename_second = record {
      long = still (put_same images_put) p.sparse.long;
      fits_a = p.fits_to;
      fits_b = omega (arith, p.sparse.room);
      fits_to = p.fits_to;
      apart_a = inr refl;
      apart_b = apart_numbers;
      low = λ j h. rw (put_table images_put) (listed_low p.sparse (image_at images j) (image_in j h));
    }

    numbers : images then_table entries NUMBER size w₀ ≡ renamed points (image_at table)
    numbers =
        let numbers-in = entries NUMBER size w₀ in
        let l = points_long in
        let k = then_length points table in
        let long = then_length images numbers-in ∙ k ∙ sym (renamed_length points (image_at table)) in
        ext_get_or 0 (images then_table numbers-in) (renamed points (image_at table)) long (λ j h.
        let i : j < n = omega (arith, then_length images numbers-in) in
        let y = image_at images j in
        then_at images numbers-in j (omega arith) ∙ entries_at NUMBER size w₀ y (listed_low p.sparse y (image_in j i))
        ∙ listed_number p.sparse y (image_in j i)
        ∙ ap (find points) (image_at_lem j i) ∙ sym (renamed_at points (image_at table) j (omega arith)))

    pub rename_both : {w' : List ℕ} → w' ≡ put_to w to (entries to n w then_table entries NUMBER size w) n
        → w' ≡ put_to w₀ to (renamed points (image_at table)) n
    rename_both d =
        let kept = put_apart images_put NUMBER size apart_numbers (omega (arith, p.sparse.room, p.sparse.long)) in
        put_again images_put (renamed points (image_at table)) (renamed_length points (image_at table) ∙ points_long)
        (rw (put_table images_put, kept, numbers) at d)

-- ---- `tables`: three tables put one after another
module _ {start size n : ℕ} {w w1 : List ℕ} (p : Images start size w) (m : NowListed size w w1 (order_in start size w) n) where
  abbrev L : List ℕ
  L = order_in start size w

  abbrev σ : ℕ → ℕ
  σ = image_at (entries SIGMA size w)

  abbrev ρ : ℕ → ℕ
  ρ = image_at (entries RHO size w)

  tables_count : n ≡ length L
  tables_count = sym (rw m.list at (listed_length m.sparse))

  tables_few : n ≤ ROOM
  tables_few = omega (arith, m.sparse.few, m.sparse.room)

  w1_long : WORK ≤ length w1
  w1_long = m.sparse.long

  σ_is : entries SIGMA size w1 ≡ entries SIGMA size w
  σ_is = image_kept SIGMA size m.frame (omega (arith, p.room)) p.long

  ρ_is : entries RHO size w1 ≡ entries RHO size w
  ρ_is = image_kept RHO size m.frame (omega (arith, p.room)) p.long

  pub tables_S : Renames SIGMA S_TABLE size n w1
  tables_S = let f = tables_few in record {
    sparse = m.sparse;
    fits_from = omega (arith, p.room);
    fits_to = omega arith;
    apart_from = inr (omega arith);
    apart_number = inr (omega arith);
    apart_order = inr (omega arith);
    closed = rw (m.list, σ_is) (numbering σ ρ start size p.maps).σ_closed;
  }

  module _ {w2 : List ℕ} (e2 : w2 ≡ put_to w1 S_TABLE (renamed (listed n w1) (image_at (entries SIGMA size w1))) n) where
    put_S : Put S_TABLE n (renamed L σ) w1 w2
    put_S = let f = tables_few in record {
      is = rw (m.list, σ_is) at e2;
      long = renamed_length L σ ∙ sym tables_count;
      fits = omega (arith, w1_long);
    }

    w2_long : WORK ≤ length w2
    w2_long = still (put_same put_S) w1_long

    list2 : listed n w2 ≡ L
    list2 = let f = tables_few in put_apart put_S ORDER n (inr (omega arith)) (omega (arith, w1_long)) ∙ m.list

    ρ_is2 : entries RHO size w2 ≡ entries RHO size w
    ρ_is2 = let f = tables_few in put_apart put_S RHO size (inr (omega arith)) (omega (arith, w1_long, p.room)) ∙ ρ_is

    pub tables_R : Renames RHO R_TABLE size n w2
    tables_R = let f = tables_few in record {
      sparse = put_sparse put_S m.sparse (inr (omega arith)) (inr (omega arith));
      fits_from = omega (arith, p.room);
      fits_to = omega arith;
      apart_from = inl (omega (arith, p.room));
      apart_number = inl (omega arith);
      apart_order = inl (omega arith);
      closed = rw (list2, ρ_is2) (numbering σ ρ start size p.maps).ρ_closed;
    }

    module _ {w3 : List ℕ} (e3 : w3 ≡ put_to w2 R_TABLE (renamed (listed n w2) (image_at (entries RHO size w2))) n) where
      put_R : Put R_TABLE n (renamed L ρ) w2 w3
      put_R = let f = tables_few in record {
        is = rw (list2, ρ_is2) at e3;
        long = renamed_length L ρ ∙ sym tables_count;
        fits = omega (arith, w2_long);
      }

      w3_long : WORK ≤ length w3
      w3_long = still (put_same put_R) w2_long

      marks3 : Sparse size n w3
      marks3 = let f = tables_few in put_sparse put_R tables_R.sparse (inl (omega arith)) (inl (omega arith))

      S_is3 : entries S_TABLE n w3 ≡ renamed L σ
      S_is3 = let f = tables_few in put_apart put_R S_TABLE n (inl (omega arith)) (omega (arith, w2_long)) ∙ put_table put_S

      R_is3 : entries R_TABLE n w3 ≡ renamed L ρ
      R_is3 = put_table put_R

      pub tables_T : Composes S_TABLE R_TABLE T_TABLE n n w3
      tables_T = let f = tables_few in let c = tables_count in record {
        long = w3_long;
        fits_a = omega arith;
        fits_b = omega arith;
        fits_to = omega arith;
        apart_a = inl (inl (omega arith));
        apart_b = inl (omega arith);
        low = λ j h. rw S_is3 (omega (arith, (renaming σ ρ start size p.maps).S.low j (omega arith)));
      }

      module _ {w4 : List ℕ} (e4 : w4 ≡ put_to w3 T_TABLE (entries S_TABLE n w3 then_table entries R_TABLE n w3) n) where
        put_T : Put T_TABLE n (renamed L (σ then ρ)) w3 w4
        put_T = let f = tables_few in record {
          is = rw (S_is3, R_is3, ← (renaming σ ρ start size p.maps).T_is) at e4;
          long = renamed_length L (σ then ρ) ∙ sym tables_count;
          fits = omega (arith, w3_long);
        }

        pub tables_are : TablesLeft start size w w4 n
        tables_are = let f = tables_few in record {
          tables = record {
            count = tables_count;
            marks = put_sparse put_T marks3 (inl (omega arith)) (inl (omega arith));
            list = put_apart put_T ORDER n (inl (omega arith)) (omega (arith, w3_long)) ∙ put_apart put_R ORDER n (inl (omega arith)) (omega (arith, w2_long))
                ∙ list2;
            S_is = put_apart put_T S_TABLE n (inl (omega arith)) (omega (arith, w3_long)) ∙ S_is3;
            R_is = put_apart put_T R_TABLE n (inl (omega arith)) (omega (arith, w3_long)) ∙ R_is3;
            T_is = put_table put_T;
          };
          same = put_same put_T ∙ put_same put_R ∙ put_same put_S ∙ m.frame.same;
          below = λ k h. put_under put_T k (omega arith) ∙ put_under put_R k (omega arith) ∙ put_under put_S k h ∙ m.frame.below k (omega arith);
          between = λ k h g. put_under put_T k (omega arith) ∙ put_under put_R k (omega arith) ∙ put_over put_S k h ∙ m.frame.below k g;
          past_R = λ k h g. put_under put_T k g ∙ put_over put_R k h ∙ put_over put_S k (omega arith) ∙ m.frame.above k (omega arith);
          past_T = λ k h. put_over put_T k h ∙ put_over put_R k (omega arith) ∙ put_over put_S k (omega arith) ∙ m.frame.above k (omega arith);
        }
