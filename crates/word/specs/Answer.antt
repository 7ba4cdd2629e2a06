-- The answer of a pair query, and its steps: the refusals in the order of docs/CONVENTIONS.md, and what it leaves.
--
--   FoundWord                   a word in the lent space: its place, how many letters it has, and its sign
--   word_at                     the same from the three
--   query_place                 the number of its letters for a word, the place of the refusal otherwise
--   four ns i                   the four numbers of ns from the number i on: a matrix, row by row
--   entry_at a b i               the entry i of the pair: 0 to 3 in A, 4 to 7 in B
--   beyond most ns i            whether the number i of ns is beyond `most` in size
--   large a b i                 whether the entry i of the pair is beyond 1,000,000 in size
--   unit m                      whether the determinant of m is 1
--   matrices_check a b              8 for the first entry that is large; then 9, for A before B
--   closes v t m n              whether the walk from m to n, which follows n m⁻¹, ends where it began
--   found_word v t m n          the word that it writes
--   found_sign v t m n          the sign that it tells: the word times m is that sign times n, where the walk comes
--                               home
--   sign_number s               the sign s as a number: 1 for plus, -1 for minus
--   word_fits start n room      whether n letters fit in a space of `room` letters from the place `start` on
--   placed start l out          the letters l in place of those that stood from `start` on
--   walk_checks home l start room   10 where the walk doesn't come home, then 11 with the length of its word l
--   word_steps home l out start  these two, and the letters l from the start place on as the result
--   found_checks, found_steps   the same of the walk from A to B
--   query_steps v t a b w out start  THE STEPS OF A QUERY: 1 to 7, then 8 and 9, then the work space, then 10, then the
--                               word space, in which it leaves its word
--   word_if start n sign c      the answer by the verdict c: the word, or the refusal
--   found_if v t a b start c    the same of the walk from A to B
--   query_of v t a b work room start   the answer of a query, by the lengths of its spaces
--   word_left r l out           what a query with the answer r leaves in the word space
--   part_of out start n          the part of n letters from `start` on, empty where it doesn't fit
use Rattle.std.specs.Prelude.{Ok, Err}
use Rattle.std.specs.Prelude.{Bool, true, false, not, ◌&&◌, List, [], ◌∷◌, ◌++◌, ℕ, ◌+◌, ◌-◌, leb, ltb, eqb, length}
use Rattle.std.specs.Prelude.{take, drop, ℤ, pos, negsuc, nat_abs}
use Rattle.matrix.specs.Matrix.{Mat, ◌⊗◌, adj, det, nth, of_list}
use Rattle.basics.specs.Choice.{pick}
use Rattle.call.specs.Space.{work_length}
use Rattle.call.specs.Refusal.{◌or_else◌, refusal_place, Checked, Answer}
use Rattle.call.specs.declared.refusal.Refusal.TheVariants.{MatrixEntry, BadDeterminant, NoWord, TooShort}
use Rattle.basics.specs.Count.{first}
use Rattle.call.specs.Call.{Lent, Step, asks, work, result_in, length_check, verdict}
use Rattle.symbol.specs.Check.{eq_z, refuse, refuse_at, symbol_check}
use Rattle.coset.specs.Positions.{start_of, walk_ends, walk_writes, query_sign}
use Rattle.word.specs.declared.FoundWord.{FoundWord}

abbrev pub word_at : (start n : ℕ) → Bool → FoundWord
word_at start n sign = record { start = start; letters = n; plus = sign }

abbrev pub query_place : Answer FoundWord → ℕ
query_place (Ok u) = u.letters
query_place (Err f) = refusal_place f

-- ---- the pair

unfoldable pub four : List ℤ → ℕ → List ℤ
four ns i = nth ns i ∷ nth ns (i + 1) ∷ nth ns (i + 2) ∷ nth ns (i + 3) ∷ []

abbrev pub entry_at : (a b : List ℤ) → ℕ → ℤ
entry_at a b i = pick (ltb i 4) (nth a i) (nth b (i - 4))

abbrev pub beyond : (most : ℕ) (ns : List ℤ) → ℕ → Bool
beyond most ns i = not (leb (nat_abs (nth ns i)) most)

abbrev pub large : (a b : List ℤ) → ℕ → Bool
large a b i = not (leb (nat_abs (entry_at a b i)) 1000000)

abbrev pub unit : List ℤ → Bool
unit m = eq_z (det (of_list m)) (pos 1)

abbrev pub matrices_check : (a b : List ℤ) → Checked
matrices_check a b =
    refuse_at (first (large a b) 8) 8 MatrixEntry
    or_else refuse (not (unit a)) (BadDeterminant 0)
    or_else refuse (not (unit b)) (BadDeterminant 1)

-- ---- the walk

unfoldable pub closes : ℕ → List ℤ → Mat → Mat → Bool
closes v t m n = eqb (walk_ends v t (n ⊗ adj m)) (start_of v t)

unfoldable pub found_word : ℕ → List ℤ → Mat → Mat → List ℤ
found_word v t m n = walk_writes v t (n ⊗ adj m)

unfoldable pub found_sign : ℕ → List ℤ → Mat → Mat → Bool
found_sign v t m n = query_sign v t (n ⊗ adj m)

abbrev pub sign_number : Bool → ℤ
sign_number true = pos 1
sign_number false = negsuc 0

-- ---- the steps

abbrev pub word_fits : (start n room : ℕ) → Bool
word_fits start n room = leb start room && leb n (room - start)

abbrev pub placed : ℕ → (l out : List ℤ) → List ℤ
placed start l out = take start out ++ l ++ drop (start + length l) out

abbrev pub walk_checks : (home : Bool) (l : List ℤ) (start room : ℕ) → List Step
walk_checks home l start room =
    asks (refuse (not home) NoWord) ++ asks (refuse (not (word_fits start (length l) room)) (TooShort (length l)))

abbrev pub word_steps : (home : Bool) (l : List ℤ) → Lent (List ℤ) → (start : ℕ) → List Step
word_steps home l out start =
    walk_checks home l start (length out.entry.now) ++ result_in (placed start l out.entry.now) out

-- those of the walk from A to B
abbrev pub found_steps : (v : ℕ) (t a b : List ℤ) → Lent (List ℤ) → (start : ℕ) → List Step
found_steps v t a b out start =
    word_steps (closes v t (of_list a) (of_list b)) (found_word v t (of_list a) (of_list b)) out start

abbrev pub query_steps : (v : ℕ) (t a b : List ℤ) → Lent (List ℕ) → Lent (List ℤ) → (start : ℕ) → List Step
query_steps v t a b w out start =
    asks (symbol_check v t) ++ asks (matrices_check a b) ++ work w ++ found_steps v t a b out start

-- ---- the answer

abbrev pub word_if : (start n : ℕ) (sign : Bool) → Checked → (Answer FoundWord)
word_if start n sign (Ok tt) = Ok (word_at start n sign)
word_if start n sign (Err f) = Err f

abbrev pub found_if : (v : ℕ) (t a b : List ℤ) (start : ℕ) → Checked → (Answer FoundWord)
found_if v t a b start =
    word_if start (length (found_word v t (of_list a) (of_list b))) (found_sign v t (of_list a) (of_list b))

abbrev pub found_checks : (v : ℕ) (t a b : List ℤ) (start room : ℕ) → List Step
found_checks v t a b start room =
    walk_checks (closes v t (of_list a) (of_list b)) (found_word v t (of_list a) (of_list b)) start room

abbrev pub query_of : (v : ℕ) (t a b : List ℤ) (work room start : ℕ) → (Answer FoundWord)
query_of v t a b work room start =
    found_if v t a b start
    (verdict (asks (symbol_check v t) ++ asks (matrices_check a b) ++ asks (length_check work_length work)
    ++ found_checks v t a b start room))

abbrev pub word_left : Answer FoundWord → (l out : List ℤ) → List ℤ
word_left (Ok u) l out = placed u.start l out
word_left (Err f) l out = out

abbrev pub part_of : List ℤ → (start n : ℕ) → List ℤ
part_of out start n = pick (word_fits start n (length out)) (take n (drop start out)) []
