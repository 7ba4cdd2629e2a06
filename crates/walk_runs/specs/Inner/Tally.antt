-- What the walk by runs leaves: no letters, only where it ends and how many there are.
--
--   Stop                    a position, and how many letters are written on the way there
--   Ran v t x p k s         s is where k blocks of S and x lead from p, and how many letters they write
--   Stepping v t x p k i q n  i of k blocks of S and x have led from p to q, and written n letters
--   Led v t p k s           k blocks of S Q lead from s to p, and write so many letters
--   Entrance v t p b u      the round that blocks of S Q from p go along is entered at u: at p itself; or at S p, for
--                           blocks of S Q⁻¹, where b holds
--   OneProper f             the form f is one apart, and more than S is left
--   row_sum b f             the sum of the lower row where b holds, else of the upper one
--   RunTakes b k f          k blocks of S Q, or of S Q⁻¹ where b holds, can be taken from the form f so that something
--                           is left
--   NextRun f k             so it is from the larger row
--   Ahead v t a b           from the state b on it is the same walk as from a: it ends at the same position, with as
--                           many letters
--   WalkTallied v t m x s       the walk along the matrix m from x ends at s, with so many letters
use Rattle.std.specs.Prelude.{◌≡◌, Bool, true, not, List, ℕ, ◌+◌, ◌*◌, ◌^◌, ◌≤◌, ◌<◌, ltb, length, ℤ}
use Rattle.basics.specs.Choice.{pick}
use Rattle.matrix.specs.Matrix.{Mat}
use Rattle.matrix.specs.Words.{Letter, Q}
use Rattle.matrix.specs.Euclid.{Form, total, word_of}
use Rattle.coset.specs.Positions.{Real, step_s, ends, writes}
use Rattle.walk.specs.Inner.Way.{rest_of, proper_of, OneApart, Sound}
use Rattle.walk.specs.declared.Way.{Way}
use Rattle.walk_runs.specs.Runs.{stepped, counted, block_to, block_count}
use Rattle.walk_runs.specs.declared.Stop.{Stop}

pub record Ran (v : ℕ) (t : List ℤ) (x : Letter) (p k : ℕ) (s : Stop) : Type 0 where
  pub at : s.at ≡ stepped (block_to v t x) k p
  pub count : s.count ≡ counted (block_to v t x) (block_count v t x) k p

pub record Stepping (v : ℕ) (t : List ℤ) (x : Letter) (p k i q n : ℕ) : Type 0 where
  pub real : Real v t q
  pub so_far : i ≤ k
  pub at : q ≡ stepped (block_to v t x) i p
  pub count : n ≡ counted (block_to v t x) (block_count v t x) i p

pub record Led (v : ℕ) (t : List ℤ) (p k : ℕ) (s : Stop) : Type 0 where
  pub real : Real v t s.at
  pub at : stepped (block_to v t Q) k s.at ≡ p
  pub count : s.count ≡ counted (block_to v t Q) (block_count v t Q) k s.at

pub record Entrance (v : ℕ) (t : List ℤ) (p : ℕ) (inverse : Bool) (u : ℕ) : Type 0 where
  pub real : Real v t u
  pub is : u ≡ pick inverse (step_s v t p) p

pub record OneProper (f : Form) : Type 0 where
  pub apart : OneApart f
  pub proper : proper_of f ≡ true
  pub low : total f ≤ 2 ^ 62

abbrev pub row_sum : Bool → Form → ℕ
row_sum below f = pick below (f.r + f.t) (f.p + f.q)

pub record RunTakes (inverse : Bool) (k : ℕ) (f : Form) : Type 0 where
  pub some : 0 < k
  pub leaves : k * row_sum (not inverse) f < row_sum inverse f

abbrev pub NextRun : Form → ℕ → Type 0
NextRun f k = RunTakes (ltb (f.p + f.q) (f.r + f.t)) k f

pub record Ahead (v : ℕ) (t : List ℤ) (a b : Way) : Type 0 where
  pub sound : Sound v t (2 ^ 63) b
  pub ends_at : ends v t b.at (rest_of b) ≡ ends v t a.at (rest_of a)
  pub count : b.count + length (writes v t b.at (rest_of b)) ≡ a.count + length (writes v t a.at (rest_of a))

pub record WalkTallied (v : ℕ) (t : List ℤ) (m : Mat) (x : ℕ) (s : Stop) : Type 0 where
  pub at : s.at ≡ ends v t x (word_of m)
  pub count : s.count ≡ length (writes v t x (word_of m))
