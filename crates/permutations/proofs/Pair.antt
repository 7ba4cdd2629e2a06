-- The tables of a passport are permutations: `passport_S`, `passport_R`.
-- Assumes nothing.
use mathlib.Core.Path.{sym, ◌∙◌}
use mathlib.Core.List.{List}
use Prim.Native.Nat.{ℕ}
use Rattle.numbering.specs.Table.{Permutes}
use Rattle.permutations.specs.Check.{Passport}
use Rattle.permutations.proofs.Images.{image_in}

module _ (s r : List ℕ) (g : Passport s r) where
  pub passport_S : Permutes s
  passport_S = record {
    low = λ j h. rw (← image_in s j 0 h) (g.points_S j h);
    one = λ j k h i e. g.one_S j k h i (image_in s j 0 h ∙ e ∙ sym (image_in s k 0 i));
  }

  pub passport_R : Permutes r
  passport_R = record {
    low = λ j h. rw (← image_in r j 0 h) (g.points_R j h);
    one = λ j k h i e. g.one_R j k h i (image_in r j 0 h ∙ e ∙ sym (image_in r k 0 i));
  }
