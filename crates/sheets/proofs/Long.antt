-- How long the word of a query can be: at most twice the sum of the sizes of the entries of B A⁻¹, and three letters more, which is far below 2⁶⁰
-- (`letters_most`). Why: each turn of the Euclidean algorithm writes at most two letters, and the sum bounds the turns (`word_most`).
-- Assumes nothing.
use mathlib.Core.Bool.{Bool, true, false}
use mathlib.Core.List.{List, [], ◌∷◌}
use Prim.Native.Nat.{ℕ, zero, suc, ◌+◌, ◌*◌, ◌-◌, ◌^◌, ◌≤◌}
use native.Mathlib.Omega.{arith}
use lib.Dec.{leb, eqb}
use lib.ListN.{length}
use lib.IntN.{ℤ}
use Rattle.matrix.specs.Matrix.{Mat, ◌⊗◌, adj, of_list}
use Rattle.matrix.specs.Bounds.{Small}
use Rattle.matrix.specs.Words.{Letter, S, Q, P}
use Rattle.matrix.specs.Euclid.{Form, form, sizes, total, swap, agree, turn, tail_of, spell, word_of}
use Rattle.basics.specs.Choice.{pick}
use Rattle.symbol.specs.Symbol.{IsSymbol}
use Rattle.word.specs.Answer.{found_word}
use Rattle.word.proofs.Pair.{unit_is}
use Rattle.word.proofs.Claim.{answered}
use Rattle.word.proofs.Refused.{Passed}
use Rattle.word.proofs.Order.{passed_small}
use Rattle.word.proofs.Finding.{between_small}

most_pick : (k : ℕ) (b : Bool) (x y : List Letter) → length x ≤ k → length y ≤ k → length (pick b x y) ≤ k
most_pick k true x y h i = h
most_pick k false x y h i = i

turn_most : (k : ℕ) (next : Form → List Letter) (f : Form) → ((g : Form) → length (next g) ≤ k) → length (turn next f) ≤ suc k
turn_most k next f h =
    let by_Q = form (f.r - f.p) (f.t - f.q) f.p f.q in
    let by-P = form f.r f.t (f.p - f.r) (f.q - f.t) in
    most_pick (suc k) (leb (f.p + f.q) (f.r + f.t)) (Q ∷ next by_Q) (P ∷ next by-P) (omega (arith, h by_Q)) (omega (arith, h by-P))

tail_step : (n : ℕ) (f : Form) → ((g : Form) → length (tail_of n g) ≤ 2 * n) → length (tail_of (suc n) f) ≤ 2 * suc n
tail_step n f h =
    let more = S ∷ turn (tail_of n) (swap f) in
    most_pick (2 * suc n) (eqb (f.q + f.r) 0) [] (pick (eqb (f.p + f.t) 0) (S ∷ []) more) (omega arith)
    (most_pick (2 * suc n) (eqb (f.p + f.t) 0) (S ∷ []) more (omega arith) (omega (arith, turn_most (2 * n) (tail_of n) (swap f) h)))

tail_most : (n : ℕ) (f : Form) → length (tail_of n f) ≤ 2 * n
tail_most zero f = omega arith
tail_most (suc n) f = tail_step n f (λ g. tail_most n g)

spell_most : (b : Bool) (f : Form) → length (spell b f) ≤ 2 * total f + 1
spell_most true f = omega (arith, turn_most (2 * total f) (tail_of (total f)) f (λ g. tail_most (total f) g))
spell_most false f = omega (arith, tail_most (total f) f)

pub word_most : (m : Mat) → length (word_of m) ≤ 2 * total (sizes m) + 1
word_most m = spell_most (agree m) (sizes m)

total_most : (h : ℕ) (m : Mat) → Small h m → total (sizes m) ≤ 4 * h
total_most h m s = omega (arith, s.in_a, s.in_b, s.in_c, s.in_d)

pub letters_most : {v : ℕ} {t : List ℤ} → IsSymbol v t → (a b : List ℤ) → Passed a b → length (found_word v t (of_list a) (of_list b)) ≤ 2 ^ 60
letters_most ok a b p =
    let s = passed_small a b p.entries in
    let m = of_list b ⊗ adj (of_list a) in
    omega (
      arith,
      (answered ok a b (unit_is a p.A) (unit_is b p.B) [] 0).bound,
      word_most m,
      total_most (2 * (1000000 * 1000000)) m (between_small (of_list a) (of_list b) s.0 s.1),
    )
