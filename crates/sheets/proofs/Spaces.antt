-- The word space from pair to pair: it keeps its length (`kept`), the next word never starts earlier (`stays`), and what lies before that place stays as it
-- is; so a word that was returned still stands when the sheet is done (`line_means`). First one query, by its claim (`word_stood`): what it leaves in
-- the space, and where the next word starts. Assumes nothing.
use Rattle.std.specs.Prelude.{Ok, Err}
use mathlib.Core.Path.{◌≡◌, refl, sym, ◌∙◌, ap, subst}
use mathlib.Core.Logic.{inl}
use mathlib.Core.Bool.{Bool}
use mathlib.Core.List.{List, [], ◌++◌, append_assoc}
use Prim.Native.Nat.{ℕ, zero, suc, ◌+◌, ◌≤◌, ◌<◌}
use native.Mathlib.Omega.{arith}
use native.Mathlib.Decide.{dec_le}
use lib.ListN.{length, take, drop}
use lib.Seq.{sets-eq, length-sets, length-take-le, take-append-le, take-take, take-add, drop_at}
use lib.IntN.{ℤ}
use Rattle.basics.specs.Choice.{pick}
use Rattle.matrix.specs.Matrix.{of_list}
use Rattle.call.specs.Refusal.{Answer, outcome}
use Rattle.word.specs.Answer.{found_word, found_sign, word_fits, query_of, placed, word_left, part_of, word_at}
use Rattle.word.specs.Claim.{Claim}
use Rattle.word.specs.declared.FoundWord.{FoundWord}
use Rattle.word.proofs.Claim.{outcome_number}
use Rattle.word.proofs.Order.{claim}
use Rattle.sheets.specs.Sheet.{matrix_a, matrix_b, word_end, WordSpace, space_at, answer_at}
use Rattle.sheets.specs.Meaning.{LineMeans}

-- ---- one query

length_placed : (start : ℕ) (l out : List ℤ) → start + length l ≤ length out → length (placed start l out) ≡ length out
length_placed start l out h = ap length (sym (sets-eq l out start h)) ∙ length-sets out start l

take_placed : (e start : ℕ) (l out : List ℤ) → e ≤ start → start ≤ length out → take e (placed start l out) ≡ take e out
take_placed e start l out h k =
    let rest = drop (start + length l) out in
    ap (take e) (append_assoc (take start out) l rest)
    ∙ take-append-le e (take start out) (l ++ rest) (omega (arith, length-take-le start out k))
    ∙ take-take e start out h

module _ (v : ℕ) (t a b : List ℤ) (w : List ℕ) (out : List ℤ) (start : ℕ) where
  abbrev l : List ℤ
  l = found_word v t (of_list a) (of_list b)

  abbrev r : (Answer FoundWord)
  r = query_of v t a b (length w) (length out) start

  pub record Stood (s n : ℕ) : Type 0 where
    pub place : s ≡ start
    pub long : n ≡ length l
    pub inside : start + length l ≤ length out
    pub part : part_of (word_left r l out) start (length l) ≡ l

  all : Claim v t a b w out start r (word_left r l out)
  all = claim refl refl

  pub word_stood : (s n : ℕ) (sign : Bool) → r ≡ Ok (word_at s n sign) → Stood s n
  word_stood s n sign e =
      let z : outcome r ≡ (Ok tt) = ap outcome e in
      let k = all.answered (all.asked (inl (outcome_number r z))) in
      let f = (k.returned.0 z).1 in
      let both : Ok (word_at s n sign) ≡ Ok (word_at start (length l) (found_sign v t (of_list a) (of_list b))) = sym e ∙ k.names z in
      let u : word_at s n sign ≡ word_at start (length l) (found_sign v t (of_list a) (of_list b)) = cc in
      record { place = ap (λ (x : FoundWord). x.start) u; long = ap (λ (x : FoundWord). x.letters) u; inside = omega (arith, f.inside, f.enough); part = (k.stands z).1 }

  length_left : (x : Answer FoundWord) → r ≡ x → length (word_left x l out) ≡ length out
  length_left (Ok u) e = let k = word_stood u.start u.letters u.plus e in length_placed u.start l out (omega (arith, k.place, k.inside))
  length_left (Err f) e = refl

  end_in : start ≤ length out → (x : Answer FoundWord) → r ≡ x → word_end x start ≤ length out
  end_in h (Ok u) e = let k = word_stood u.start u.letters u.plus e in omega (arith, k.place, k.long, k.inside)
  end_in h (Err f) e = h

  end_grows : (x : Answer FoundWord) → r ≡ x → start ≤ word_end x start
  end_grows (Ok u) e = let k = word_stood u.start u.letters u.plus e in omega (arith, k.place)
  end_grows (Err f) e = omega arith

  before_left : (e : ℕ) → e ≤ start → (x : Answer FoundWord) → r ≡ x → take e (word_left x l out) ≡ take e out
  before_left e h (Ok u) q = let k = word_stood u.start u.letters u.plus q in
      take_placed e u.start l out (omega (arith, k.place)) (omega (arith, k.place, k.inside))
  before_left e h (Err f) q = refl

-- ---- the part that an answer names, by what lies before its end

take_part : (s n : ℕ) (o : List ℤ) → s ≤ length o → drop s (take (s + n) o) ≡ take n (drop s o)
take_part s n o h = ap (drop s) (take-add s n o) ∙ drop_at (take s o) (take n (drop s o)) s (length-take-le s o h)

part_same : (s n : ℕ) (o o' : List ℤ) → s ≤ length o → length o ≡ length o' → take (s + n) o ≡ take (s + n) o' → part_of o s n ≡ part_of o' s n
part_same s n o o' h e f =
    ap (λ (k : ℕ). pick (word_fits s n k) (take n (drop s o)) []) e
    ∙ ap (λ (m : List ℤ). pick (word_fits s n (length o')) m [])
    (sym (take_part s n o h) ∙ ap (drop s) f ∙ take_part s n o' (omega (arith, e)))

-- ---- one query after another

module _ (v : ℕ) (t p : List ℤ) (w : List ℕ) (out : List ℤ) where
  abbrev at : ℕ → WordSpace
  at i = space_at v t p (length w) out i

  pub record Kept (s : WordSpace) : Type 0 where
    pub long : length s.letters ≡ length out
    pub next_in : s.next ≤ length out

  kept_step : (i : ℕ) → Kept (at i) → Kept (at (suc i))
  unfolding space_at
  kept_step i k =
      let a = matrix_a p i in
      let b = matrix_b p i in
      let o = (at i).letters in
      let s = (at i).next in
      record {
        long = length_left v t a b w o s (answer_at v t p (length w) out i) refl ∙ k.long;
        next_in = omega (arith, end_in v t a b w o s (omega (arith, k.long, k.next_in)) (answer_at v t p (length w) out i) refl, k.long);
      }

  pub kept : (i : ℕ) → Kept (at i)
  unfolding space_at
  kept zero = record { long = refl; next_in = omega arith }
  kept (suc i) = kept_step i (kept i)

  -- up to the place e nothing changes between the pair i and the pair j
  record Stays (e i j : ℕ) : Type 0 where
    pub grows : (at i).next ≤ (at j).next
    pub same : take e (at j).letters ≡ take e (at i).letters

  stays_self : (e i j : ℕ) → i ≡ j → Stays e i j
  stays_self e i j q = subst (Stays e i) q (record { grows = omega arith; same = refl })

  stays_step : (e i j : ℕ) → e ≤ (at i).next → Stays e i j → Stays e i (suc j)
  unfolding space_at
  stays_step e i j h k =
      let a = matrix_a p j in
      let b = matrix_b p j in
      let o = (at j).letters in
      let s = (at j).next in
      let x = answer_at v t p (length w) out j in
      record {
        grows = omega (arith, k.grows, end_grows v t a b w o s x refl);
        same = before_left v t a b w o s e (omega (arith, k.grows)) x refl ∙ k.same;
      }

  stays : (e i j : ℕ) → i ≤ j → e ≤ (at i).next → Stays e i j
  stays e i zero h k = stays_self e i zero (omega arith)
  stays e i (suc j) h k = elim (dec_le i j) [ yes l ↦ stays_step e i j k (stays e i j l k) | no l ↦ stays_self e i (suc j) (omega arith) ]

  -- a word that was returned, in the space after its pair and in that before the pair n
  stands_at : (i n : ℕ) → i < n → (s k : ℕ) (sign : Bool) → answer_at v t p (length w) out i ≡ Ok (word_at s k sign)
      → part_of (at n).letters s k ≡ found_word v t (of_list (matrix_a p i)) (of_list (matrix_b p i))
  unfolding space_at
  stands_at i n h s k sign e =
      let a = matrix_a p i in
      let b = matrix_b p i in
      let o = (at i).letters in
      let m = word_stood v t a b w o (at i).next s k sign e in
      let end : word_end (answer_at v t p (length w) out i) (at i).next ≡ s + k = ap (λ (x : Answer FoundWord). word_end x (at i).next) e in
      let z = stays (s + k) (suc i) n (omega arith) (omega (arith, end)) in
      part_same s k (at n).letters (at (suc i)).letters (omega (arith, (kept n).long, (kept i).long, m.place, m.inside))
      ((kept n).long ∙ sym (kept (suc i)).long) z.same
      ∙ ap (λ (y : ℕ). part_of (at (suc i)).letters y k) m.place
      ∙ ap (λ (y : ℕ). part_of (at (suc i)).letters (at i).next y) m.long
      ∙ m.part

  pub line_means : (n i : ℕ) → i < n → LineMeans v t p w out (at n).letters i
  unfolding space_at
  line_means n i h = record { claim = claim refl refl; stands = stands_at i n h }
