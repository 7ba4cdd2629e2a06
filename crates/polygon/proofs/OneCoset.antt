-- Two matrices are in one coset of H exactly where m l⁻¹ is in H: `from_coset`, `to_coset`. Why: a word that takes l to m is one for m l⁻¹ (`coset_value`), and
-- the other way round.
-- Assumes nothing.
use mathlib.Core.Path.{◌≡◌, ◌∙◌, ap}
use mathlib.Core.List.{List}
use lib.IntN.{pos}
use Rattle.matrix.specs.Matrix.{Mat, ◌⊗◌, adj, det, ◌≈◌}
use Rattle.matrix.proofs.Matrix.{⊗-assoc, ⊗-idr, ⊗-adj, adj-⊗, ≈-sym, ≈-right}
use Rattle.pairing.specs.Subgroup.{value_of, InH}
use Rattle.polygon.specs.Theorem.{SameCoset}

module _ (gens : List Mat) (l m : Mat) (u : det l ≡ pos 1) where
  -- (h l) l⁻¹ = h, and (m l⁻¹) l = m
  over : (h : Mat) → h ⊗ l ⊗ adj l ≡ h
  over h = ⊗-assoc h l (adj l) ∙ ap (λ (x : Mat). h ⊗ x) (⊗-adj l u) ∙ ⊗-idr h

  away : m ⊗ adj l ⊗ l ≡ m
  away = ⊗-assoc m (adj l) l ∙ ap (λ (x : Mat). m ⊗ x) (adj-⊗ l u) ∙ ⊗-idr m

  pub coset_value : (c : SameCoset gens l m) → m ⊗ adj l ≈ value_of gens c.word
  coset_value c = ≈-sym (rw (over (value_of gens c.word)) at (≈-right (adj l) c.is))

  pub from_coset : SameCoset gens l m → InH gens (m ⊗ adj l)
  from_coset c = record { word = c.word; letters = c.letters; is = coset_value c }

  pub to_coset : InH gens (m ⊗ adj l) → SameCoset gens l m
  to_coset h = record { word = h.word; letters = h.letters; is = ≈-sym (rw away at (≈-right l h.is)) }
