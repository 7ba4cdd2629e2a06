-- The bytes of a name, and that no two jobs have one name:
--   Spells byte name   the bytes are those of the name; `spelled`: then a list of that length is the name
--   one_job            a name finds one job, or nothing, and not both
-- Why no two jobs have one name: length and first byte together tell them apart (`place`). Assumes nothing.
use mathlib.Core.Path.{◌≡◌, refl, sym, ◌∙◌, ap}
use mathlib.Core.Bool.{Bool, true, false}
use mathlib.Core.List.{List, [], ◌∷◌}
use Prim.Native.Nat.{ℕ, suc, ◌+◌, ◌*◌}
use native.Mathlib.Omega.{arith}
use lib.ListN.{length, get_or}
use lib.Dec.{eqb}
use Rattle.farey.specs.Jobs.{name_of, FindsJob}
use Rattle.farey.specs.declared.Job.{Job}
use Rattle.farey.specs.declared.Job.TheVariants as job
use Rattle.std.specs.Prelude.{Option, None, Some}

-- the bytes of a name, one after another
abbrev pub Spells : (ℕ → ℕ) → List ℕ → Type 0
Spells byte [] = Unit {0}
Spells byte (b ∷ name) = (byte 0 ≡ b) × Spells (λ i. byte (suc i)) name

pub spelled : (xs ys : List ℕ) → length xs ≡ length ys → Spells (λ i. get_or xs i 0) ys → xs ≡ ys
spelled [] [] e h = refl
spelled [] (y ∷ ys) e h = absurd (omega arith)
spelled (x ∷ xs) [] e h = absurd (omega arith)
spelled (x ∷ xs) (y ∷ ys) e h = let same : x ≡ y = h.0 in let rest = spelled xs ys (omega arith) h.1 in cc

-- ---- the ten names

choose : Bool → Job → Job → Job
choose true a b = a
choose false a b = b

-- a number for each name, and the job whose name has that number
abbrev place : List ℕ → ℕ
place name = 1000 * length name + get_or name 0 0

abbrev job_at : ℕ → Job
unfolding choose
job_at n =
    choose (eqb n 5115) job.Sheet
    (choose (eqb n 6105) job.Import
    (choose (eqb n 11105) job.ImportWide
    (choose (eqb n 5110) job.Named
    (choose (eqb n 4115) job.Same
    (choose (eqb n 8101) job.Exchange
    (choose (eqb n 12105) job.Intersection
    (choose (eqb n 5116) job.Tower
    (choose (eqb n 6099) job.Cycles job.ToCycles))))))))

at_place : (j : Job) → job_at (place (name_of j)) ≡ j
unfolding choose
at_place job.Sheet = refl
at_place job.Import = refl
at_place job.ImportWide = refl
at_place job.Named = refl
at_place job.Same = refl
at_place job.Exchange = refl
at_place job.Intersection = refl
at_place job.Tower = refl
at_place job.Cycles = refl
at_place job.ToCycles = refl

pub one_job : (name : List ℕ) (a b : Option Job) → FindsJob name a → FindsJob name b → a ≡ b
one_job name (Some a) (Some b) e f =
    ap Some (sym (at_place a) ∙ ap (λ (l : List ℕ). job_at (place l)) (sym e ∙ f) ∙ at_place b)
one_job name (Some a) None e none = absurd (none a e)
one_job name None (Some b) none f = absurd (none b f)
one_job name None None none none' = refl
