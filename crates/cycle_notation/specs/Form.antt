-- Which texts are of the form: the index, then S and R as disjoint cycles. `X ps .. rest` says that the pieces ps are
-- an X and then rest.
--
--     Blanks ps rest           blanks (byte 32), or none
--     More ps xs rest          behind a point of a cycle: `)`, or a comma, a point x and more; xs are these points
--     Cycles ps cs rest        the cycles cs with blanks around them or none; there may be no cycle
--     Written semi ps cs rest  a permutation with blanks around it: cycles, or `()` alone. Beside a semicolon (semi is
--                              true) there may be any number of cycles, and none written is the identity; without it a
--                              permutation is one cycle or `()` (`Enough`)
--     Reading semi ps n sc rc  the whole text: the index n, S with the cycles sc, a semicolon or none (`behind_s`), R
--                              with the cycles rc
--     points_of cs             the points that the cycles cs name, in their order
--     free n seen x            x is a point from 1 to n, and not among those seen
--     Disjoint n seen xs       each of xs is free when those before it have been seen
--     in_range n               n is an index from 1 to 3,066
--     Right ps n sc rc         the pieces ps are of the form, by one of the two readings, with such an index, and
--                              disjoint cycles in S and in R
--     Completes ps             some ending makes the pieces ps right
use Rattle.std.specs.Prelude.{◌≡◌, Bool, true, false, not, ◌&&◌, List, [], ◌∷◌, ◌++◌, ℕ, leb, length}
use Rattle.numbering.specs.Find.{is_in}
use Rattle.cycle_notation.specs.Piece.{CyclePiece, number, blank, opening, closing, comma, semicolon}

pub data Blanks : List CyclePiece → List CyclePiece → Type 0 where
  here : {ps : List CyclePiece} → Blanks ps ps
  past : {ps rest : List CyclePiece} → Blanks ps rest → Blanks (blank ∷ ps) rest

pub data More : List CyclePiece → List ℕ → List CyclePiece → Type 0 where
  last : {ps : List CyclePiece} → More (closing ∷ ps) [] ps
  further : {ps rest : List CyclePiece} {x : ℕ} {xs : List ℕ} → More ps xs rest
      → More (comma ∷ number x ∷ ps) (x ∷ xs) rest

pub data Cycles : List CyclePiece → List (List ℕ) → List CyclePiece → Type 0 where
  end : {ps : List CyclePiece} → Cycles ps [] ps
  gap : {ps rest : List CyclePiece} {cs : List (List ℕ)} → Cycles ps cs rest → Cycles (blank ∷ ps) cs rest
  cycle : {ps mid rest : List CyclePiece} {x : ℕ} {xs : List ℕ} {cs : List (List ℕ)}
      → More ps xs mid → Cycles mid cs rest → Cycles (opening ∷ number x ∷ ps) ((x ∷ xs) ∷ cs) rest

abbrev pub Enough : (semi : Bool) → List (List ℕ) → Type 0
Enough true cs = Unit {0}
Enough false cs = length cs ≡ 1

pub data Written (semi : Bool) : List CyclePiece → List (List ℕ) → List CyclePiece → Type 0 where
  cycles : {ps rest : List CyclePiece} {cs : List (List ℕ)} → Enough semi cs → Cycles ps cs rest
      → Written semi ps cs rest
  identity : {ps mid rest : List CyclePiece} → Blanks ps (opening ∷ closing ∷ mid) → Blanks mid rest
      → Written semi ps [] rest

-- what stands between S and R: their own blanks aside, the semicolon or nothing
abbrev pub behind_s : (semi : Bool) → List CyclePiece → List CyclePiece
behind_s true ps = semicolon ∷ ps
behind_s false ps = ps

pub record Reading (semi : Bool) (ps : List CyclePiece) (n : ℕ) (sc rc : List (List ℕ)) : Type 0 where
  pub behind_n : List CyclePiece
  pub of_R : List CyclePiece
  pub n_is : Blanks ps (number n ∷ behind_n)
  pub S_is : Written semi behind_n sc (behind_s semi of_R)
  pub R_is : Written semi of_R rc []

unfoldable pub points_of : List (List ℕ) → List ℕ
points_of [] = []
points_of (c ∷ cs) = c ++ points_of cs

abbrev pub free : ℕ → List ℕ → ℕ → Bool
free n seen x = (leb 1 x && leb x n) && not (is_in seen x)

pub data Disjoint (n : ℕ) : List ℕ → List ℕ → Type 0 where
  all : {seen : List ℕ} → Disjoint n seen []
  next : {seen xs : List ℕ} {x : ℕ} → free n seen x ≡ true → Disjoint n (x ∷ seen) xs → Disjoint n seen (x ∷ xs)

abbrev pub in_range : ℕ → Bool
in_range n = leb 1 n && leb n 3066

pub record Right (ps : List CyclePiece) (n : ℕ) (sc rc : List (List ℕ)) : Type 0 where
  pub semi : Bool
  pub reading : Reading semi ps n sc rc
  pub index : in_range n ≡ true
  pub points_S : Disjoint n [] (points_of sc)
  pub points_R : Disjoint n [] (points_of rc)

pub record Completes (ps : List CyclePiece) : Type 0 where
  pub ending : List CyclePiece
  pub n : ℕ
  pub sc : List (List ℕ)
  pub rc : List (List ℕ)
  pub right : Right (ps ++ ending) n sc rc
