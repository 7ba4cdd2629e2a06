-- What a number 0 of `farey_write_cycles` says (`write_says`). Assumes nothing.
use mathlib.Core.Path.{◌≡◌}
use mathlib.Core.List.{List}
use Prim.Native.Nat.{ℕ}
use lib.ListN.{length, take}
use Rattle.call.specs.Refusal.{answer_number, answer_place}
use Rattle.call.specs.Call.{verdict, if_accepted, Leaves}
use Rattle.call.proofs.Laws.{made_says}
use Rattle.cycle_writing.specs.Bytes.{export_of}
use Rattle.cycle_writing.specs.Export.{Exported}
use Rattle.cycle_writing.proofs.Answers.{export_run, numbered, export_means}
use Rattle.engine.specs.CycleCalls.{ExportReadBack}
use Rattle.engine.proofs.CycleCalls.{read_back}

module _ (s r o o' : List ℕ) (l : Leaves (export_run s r o o')) where
  abbrev Means : ℕ → Type 0
  Means n = Exported s r (take n o') × ExportReadBack s r (take n o')

  pub write_says : answer_number (verdict (export_run s r o o')) ≡ 0
      → Means (if_accepted (verdict (export_run s r o o')) (length (export_of s r)) (answer_place (verdict (export_run s r o o'))))
  write_says =
      made_says (record { steps = export_run s r o o'; count = length (export_of s r); Says = λ number place. Unit {0} }) Means (numbered s r o o')
      (λ e. (let x = export_means s r o o' l e in (x, read_back x)))
