-- Laws of the list that the work space holds: the place of a coset, and a coset that joins.
-- Why a coset is found: entries of one coset have the same pair (`meets_same`), and entries of two have two (`same_meets`); so the place of a coset's pair in
-- the list of pairs is the place of the coset (`place_is`).
-- Assumes nothing.
use mathlib.Core.Path.{◌≡◌, refl, sym, ◌∙◌, ap, subst}
use mathlib.Core.Logic.{inl, inr}
use mathlib.Core.List.{List, [], ◌∷◌, ◌++◌}
use Prim.Native.Nat.{ℕ, ◌+◌, ◌≤◌, ◌<◌}
use native.Mathlib.Omega.{arith}
use native.Mathlib.Decide.{dec_lt}
use lib.ListN.{length, get_or, length-append, get_or-append}
use lib.Seq.{get_or-append-add}
use Rattle.matrix.specs.Matrix.{Mat, ◌⊗◌, adj}
use Rattle.call.specs.Space.{work_length}
use Rattle.basics.proofs.Count.{first_clear}
use Rattle.basics.proofs.Choice.{either}
use Rattle.numbering.specs.Find.{find}
use Rattle.numbering.specs.Order.{add}
use Rattle.numbering.proofs.Find.{get_d_find, find_last}
use Rattle.numbering.proofs.Order.{add_old, add_new}
use Rattle.buckets.proofs.Chain.{find_le}
use Rattle.right_cosets.specs.Condition.{Condition}
use Rattle.congruence.specs.Congruence.{Meets, meets}
use Rattle.right_cosets.specs.Cosets.{coset_in, with_coset}
use Rattle.congruence.specs.declared.Family.{Family}
use Rattle.right_cosets.proofs.Transversal.{self}
use Rattle.congruence.proofs.Meets.{decided}
use Rattle.congruence.proofs.Theorem.{families, indexes}
use Rattle.right_cosets.specs.Inner.Listed.{matrix_at, CosetList}
use Rattle.right_cosets.proofs.Listed.{in_is, joined_old, joined_new, joined_listed, listed_few, last_extends, entry_last}
use Rattle.congruence_tables.specs.declared.residues.Residues.{Residues}
use Rattle.congruence_tables.specs.Inner.Residues.{Stands, row_code}
use Rattle.congruence_tables.proofs.Keys.{same_meets, meets_same, LowOf, same_code, code_same}
use Rattle.congruence_tables.specs.Inner.Held.{residues_at, Group, ColumnsFor, Keys, HoldsCosets}
use Rattle.congruence_tables.specs.Inner.Held.{Enters, EntersAs}
use Rattle.congruence_tables.proofs.Entries.{entry_low, code_at, columns_kept, row_length, enters, keys_are, place_in, joined_same, joined_above}
use Rattle.congruence_tables.proofs.Entries.{entry_old, entry_new}

-- ---- the place of a coset

pub stands_as : (f : Family) {n : ℕ} {x y : Residues} (l m : Mat) → x ≡ y → l ≡ m → Stands f n y m → Stands f n x l
stands_as f {n} {x} {y} l m e d h = subst (λ (z : Residues). Stands f n z l) (sym e) (subst (λ (z : Mat). Stands f n y z) (sym d) h)

module _ {f : Family} {n : ℕ} (grp : Group f n) {l : List Mat} {w : List ℕ} {count : ℕ} (g : HoldsCosets f n l w count) {x : Residues} {m : Mat}
    (s : Stands f n x m) where
  abbrev c : Condition (Meets f n)
  c = families f n

  abbrev k : List ℕ
  k = g.pairs

  abbrev z : ℕ
  z = row_code f x

  low_at_lem : (j : ℕ) → j < count → LowOf f (residues_at f w j)
  low_at_lem j i = entry_low f n (residues_at f w j) grp (g.stands j i).entry

  pub place_is : find k z ≡ coset_in (meets f n) l m
  place_is = elim (dec_lt (find k z) (length k)) [
    | yes i ↦
        let j = find k z in
        let q : j < count = omega (arith, g.keys.size) in
        let same = code_same x (residues_at f w j) f (entry_low f n x grp s.entry) (low_at_lem j q) (sym (get_d_find k z i) ∙ code_at f n g.keys j q) in
        sym (in_is c (decided f n) g.listed m s.unit j (omega (arith, g.size))
        (same_meets n grp.modulus.some x (residues_at f w j) m (matrix_at l j) f s (g.stands j q) same))
    | no i ↦
        let end : find k z ≡ length l = omega (arith, find_le k z, g.keys.size, g.size) in
        end ∙ sym (first_clear (λ (j : ℕ). meets f n (m ⊗ adj (matrix_at l j))) (length l) (record {
          none = λ j q. elim (either (meets f n (m ⊗ adj (matrix_at l j)))) [
            | inl t ↦
                let o : j < count = rw g.size at q in
                let same = meets_same n grp.modulus.some x (residues_at f w j) m (matrix_at l j) f s (g.stands j o)
                ((decided f n (m ⊗ adj (matrix_at l j))).0 t) in
                let e : get_or k j 0 ≡ z = code_at f n g.keys j o ∙ sym (same_code x (residues_at f w j) f same) in
                let found : find k z ≡ j = ap (find k) (sym e) ∙ g.keys.once.place j (omega (arith, g.keys.size)) in
                let no : ⊥ = omega (arith, g.keys.size) in
                absurd no
            | inr t ↦ t
          ];
        }))
  ]

  -- ---- an entry joins

  pub held_enters : Enters f n w count x
  held_enters = enters grp g.keys g.room s.entry

  new_listed : length l ≤ coset_in (meets f n) l m → CosetList (Meets f n) (l ++ (m ∷ []))
  new_listed h = rw (joined_new c (decided f n) l m h) at (joined_listed c (decided f n) g.listed m s.unit)

  module _ {w' : List ℕ} {place count' : ℕ} (e : EntersAs f n w count x w' place count') where
    keys' : Keys f n w' count' (add k z)
    keys' = keys_are grp g.keys g.room s.entry e

    place' : place ≡ find (add k z) z
    place' = place_in grp g.keys g.room s.entry e

    long' : work_length ≤ length w'
    long' = omega (arith, joined_same grp g.keys g.room s.entry e, g.long)

    columns' : ColumnsFor f n w'
    columns' = columns_kept f n w w' (joined_above grp g.keys g.room s.entry e) g.columns

    -- the coset has a number already
    module _ (i : find k z < length k) where
      old_in : coset_in (meets f n) l m < length l
      old_in = omega (arith, place_is, g.keys.size, g.size)

      same_pairs : add k z ≡ k
      same_pairs = add_old k z i

      same_count : count' ≡ count
      same_count = sym keys'.size ∙ ap length same_pairs ∙ g.keys.size

      old_held : HoldsCosets f n l w' count'
      old_held = record {
        long = long';
        room = omega (arith, same_count, g.room);
        size = g.size ∙ sym same_count;
        listed = g.listed;
        columns = columns';
        stands = λ j q.
            let o : j < count = omega (arith, same_count) in
            stands_as f (matrix_at l j) (matrix_at l j)
            (entry_old grp g.keys g.room s.entry e j o q (ap (λ (v : List ℕ). get_or v j 0) same_pairs)) refl (g.stands j o);
        pairs = add k z;
        keys = keys';
      }

      old_joined : HoldsCosets f n (with_coset (meets f n) l m) w' count'
      old_joined = rw (joined_old c (decided f n) l m old_in) old_held

      old_place : place ≡ coset_in (meets f n) (with_coset (meets f n) l m) m
      old_place = rw (joined_old c (decided f n) l m old_in) (place' ∙ ap (λ (v : List ℕ). find v z) same_pairs ∙ place_is)

    -- it is new
    module _ (i : length k ≤ find k z) where
      new_in : length l ≤ coset_in (meets f n) l m
      new_in = omega (arith, place_is, g.keys.size, g.size)

      more_pairs : add k z ≡ k ++ (z ∷ [])
      more_pairs = add_new k z i

      one_more : count' ≡ count + 1
      one_more = sym keys'.size ∙ ap length more_pairs ∙ omega (arith, length-append k (z ∷ []), g.keys.size)

      begins : (j : ℕ) → j < count → get_or (add k z) j 0 ≡ get_or k j 0
      begins j o = ap (λ (v : List ℕ). get_or v j 0) more_pairs ∙ get_or-append k (z ∷ []) 0 j (omega (arith, g.keys.size))

      ends : get_or (add k z) count 0 ≡ z
      ends =
          let d : count ≡ length k + 0 = omega (arith, g.keys.size) in
          ap (λ (v : List ℕ). get_or v count 0) more_pairs ∙ ap (λ (j : ℕ). get_or (k ++ (z ∷ [])) j 0) d ∙ get_or-append-add k (z ∷ []) 0 0

      new_held : HoldsCosets f n (l ++ (m ∷ [])) w' count'
      new_held =
          let listed = new_listed new_in in
          let len = length-append l (m ∷ []) in
          record {
            long = long';
            room = omega (arith, listed_few c (decided f n) (indexes f n grp.modulus.some) listed, g.size, one_more, grp.few);
            size = omega (arith, g.size, one_more);
            listed = listed;
            columns = columns';
            stands = λ j q. elim (dec_lt j count) [
              | yes o ↦ stands_as f (matrix_at (l ++ (m ∷ [])) j) (matrix_at l j) (entry_old grp g.keys g.room s.entry e j o q (begins j o))
                  ((last_extends l m).same j (rw g.size o)) (g.stands j o)
              | no o ↦
                  let d : j ≡ count = omega (arith, one_more) in
                  let last : matrix_at (l ++ (m ∷ [])) count ≡ m = rw g.size at (entry_last l m) in
                  rw d (stands_as f (matrix_at (l ++ (m ∷ [])) count) m (entry_new grp g.keys g.room s.entry e (omega (arith, one_more)) ends) last s)
            ];
            pairs = add k z;
            keys = keys';
          }

      new_joined : HoldsCosets f n (with_coset (meets f n) l m) w' count'
      new_joined = rw (joined_new c (decided f n) l m new_in) new_held

      new_place : place ≡ coset_in (meets f n) (with_coset (meets f n) l m) m
      new_place =
          let at = in_is c (decided f n) (new_listed new_in) m s.unit (length l) (omega (arith, length-append l (m ∷ [])))
          (rw (entry_last l m) (self c m s.unit)) in
          rw (joined_new c (decided f n) l m new_in)
          (place' ∙ ap (λ (v : List ℕ). find v z) more_pairs ∙ find_last k z i ∙ g.keys.size ∙ sym g.size ∙ sym at)

    held_joined : HoldsCosets f n (with_coset (meets f n) l m) w' count'
    held_joined = elim (dec_lt (find k z) (length k)) [
      | yes i ↦ old_joined i
      | no i ↦ new_joined (omega arith)
    ]

    held_place : place ≡ coset_in (meets f n) (with_coset (meets f n) l m) m
    held_place = elim (dec_lt (find k z) (length k)) [
      | yes i ↦ old_place i
      | no i ↦ new_place (omega arith)
    ]

-- the coset of x has joined whatever list w holds
pub record Joined (f : Family) (n : ℕ) (w : List ℕ) (count : ℕ) (x : Residues) (w' : List ℕ) (place count' : ℕ) : Type 0 where
  pub same : length w' ≡ length w
  pub holds : (l : List Mat) (m : Mat) → HoldsCosets f n l w count → Stands f n x m → HoldsCosets f n (with_coset (meets f n) l m) w' count'
  pub place_is : (l : List Mat) (m : Mat) → HoldsCosets f n l w count → Stands f n x m → place ≡ coset_in (meets f n) (with_coset (meets f n) l m) m

pub joined : {f : Family} {n : ℕ} {w : List ℕ} {count : ℕ} {x : Residues} {w' : List ℕ} {place count' : ℕ} → Group f n
    → EntersAs f n w count x w' place count' → Joined f n w count x w' place count'
joined {f} {n} {w} {count} {x} grp e = record {
  same = e.joined.same ∙ row_length w count x f;
  holds = λ l m g s. held_joined grp g s e;
  place_is = λ l m g s. held_place grp g s e;
}
