-- WHAT THE CUT POLYGON OF AN ACCEPTED SYMBOL PROMISES, in one record. The proof is `polygon`, in proofs/Polygon.antt:
-- every symbol has it.
--
--   SameCoset gens m n     some word in the generators takes m to n, up to sign: H m and H n are the same coset
--   Connected v t p q      some word leads from p to q
--   Polygon v t            the promise, in these parts:
--     steps        S is an involution on positions and Q has order three; both keep to the real positions, which all
--                  lie below `places v`
--     frames       each position is an edge of the cut into Farey triangles (`Triangles`), and the frame is that edge's
--                  matrix; the start's is the identity up to sign, or S
--     promise      along a step: the frame times the letter is what is written, one letter at most, times the frame of
--                  where it leads
--     H            m is in H exactly where its walk comes home, and then the walk writes a word for m
--     cosets       two matrices lead from the coset H to the same position exactly where they are in one coset of H
--     all          every real position is reached, and there are 3 (v - 1) of them and one for each odd side: the index
--                  of H
--     walks        what follows from these
--   Walks v t frame        what follows for walks: the promise along any word; the coset H has a real position, from
--                          which the frame of each real position leads there
use Rattle.std.specs.Prelude.{◌≡◌, ◌↔◌, List, ℕ, ◌+◌, ◌≤◌, ◌<◌, length, ℤ, pos}
use Rattle.matrix.specs.Matrix.{Mat, ◌⊗◌, det, ◌≈◌}
use Rattle.matrix.specs.Words.{Letter, letter, value}
use Rattle.matrix.specs.Action.{Involution, OrderThree}
use Rattle.basics.specs.Count.{count}
use Rattle.pairing.specs.Generator.{generators}
use Rattle.pairing.specs.Subgroup.{IsWord, value_of, InH}
use Rattle.polygon.specs.Cut.{corners, places}
use Rattle.polygon.specs.Step.{odd_at, real, Real, step_s, turn_q, written, start_of, start_frame, origin_of}
use Rattle.polygon.specs.Triangles.{Triangles}
use Rattle.polygon.specs.Walk.{goes, ends, writes, arrives, walk_ends, walk_writes}

pub record SameCoset (gens : List Mat) (m n : Mat) : Type 0 where
  pub word : List ℤ
  pub letters : IsWord (length gens) word
  pub is : value_of gens word ⊗ m ≈ n

pub record Connected (v : ℕ) (t : List ℤ) (p q : ℕ) : Type 0 where
  pub word : List Letter
  pub is : ends v t p word ≡ q

pub record Walks (v : ℕ) (t : List ℤ) (frame : ℕ → Mat) : Type 0 where
  pub walk_real : (l : List Letter) (p : ℕ) → Real v t p → Real v t (ends v t p l)
  pub walk_letters : (l : List Letter) (p : ℕ) → Real v t p → IsWord (length (generators v t)) (writes v t p l)
  pub walk_short : (l : List Letter) (p : ℕ) → length (writes v t p l) ≤ length l
  pub walk : (l : List Letter) (p : ℕ) → Real v t p
      → frame p ⊗ value l ≈ value_of (generators v t) (writes v t p l) ⊗ frame (ends v t p l)
  pub origin : Real v t (origin_of v t)
  pub by_frame : (p : ℕ) → Real v t p → arrives v t (origin_of v t) (frame p) ≡ p

pub record Polygon (v : ℕ) (t : List ℤ) : Type 0 where
  -- steps
  pub involution : Involution (step_s v t)
  pub order_three : OrderThree (turn_q v)
  pub within : (p : ℕ) → Real v t p → p < places v
  pub closed : (x : Letter) (p : ℕ) → Real v t p → Real v t (goes v t x p)
  pub start : Real v t (start_of v t)
  -- frames
  pub frame : ℕ → Mat
  pub cut : Triangles v t frame
  pub start_frame_is : frame (start_of v t) ≈ start_frame v t
  -- promise
  pub letters : (x : Letter) (p : ℕ) → Real v t p → IsWord (length (generators v t)) (written v t x p)
  pub short : (x : Letter) (p : ℕ) → length (written v t x p) ≤ 1
  pub promise : (x : Letter) (p : ℕ) → Real v t p
      → frame p ⊗ letter x ≈ value_of (generators v t) (written v t x p) ⊗ frame (goes v t x p)
  -- H
  pub stabiliser : (m : Mat) → det m ≡ pos 1 → InH (generators v t) m ↔ (walk_ends v t m ≡ start_of v t)
  pub found : (m : Mat) → det m ≡ pos 1 → walk_ends v t m ≡ start_of v t
      → m ≈ value_of (generators v t) (walk_writes v t m)
  -- cosets
  pub cosets : (m n : Mat) → det m ≡ pos 1 → det n ≡ pos 1
      → (arrives v t (origin_of v t) m ≡ arrives v t (origin_of v t) n) ↔ SameCoset (generators v t) m n
  -- all
  pub reached : (p : ℕ) → Real v t p → Connected v t (start_of v t) p
  pub index : count (real v t) (places v) ≡ corners v + count (odd_at v t) (v + 1)
  -- walks
  pub walks : Walks v t frame
