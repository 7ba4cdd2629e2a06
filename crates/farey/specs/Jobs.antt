-- THE JOBS OF THE PROGRAM `farey`: their names, and what each writes.
--
--   name_of job                   the name of a job
--   FindsJob name found          the job that has this name, or that none has it
--   bytes_of job longer t         the bytes for a text t, where `longer` says whether the input goes on behind it
--   MeansOf job longer t bytes   what they mean
--   AnswersName name buffer e out out' input
--                                the answer to a name and an input: of the job that has the name, the bytes for the
--                                input's text are printed, and they mean what they should; where none has it, nothing
--                                is written; and it ends within the slice
-- No two jobs have one name (`one_job` in proofs/Names.antt).
use Rattle.std.specs.Prelude.{Option, None, Some, ℕ, ◌≤◌, ◌≡◌, Bool, List, length}
use Rattle.decimal.specs.Ascii.{ascii}
use Rattle.text.specs.Input.{AnswersInput}
use Rattle.text.specs.declared.input.Input.{Input}
use Rattle.import_rule.specs.Order.{leftmost, longest_open}
use Rattle.query_text.specs.Printed.{sheet_bytes, SheetPrintMeans}
use Rattle.symbol_texts.specs.ImportAnswer.{request_of, imported_by}
use Rattle.symbol_texts.specs.ReadBack.{PrintMeans}
use Rattle.symbol_texts.specs.NamedAnswer.{group_request, named_bytes, NamedPrintMeans}
use Rattle.symbol_texts.specs.ExchangeAnswer.{exchanged_text, ExchangePrintMeans}
use Rattle.subgroup_texts.specs.SameAnswer.{same_bytes, SamePrintMeans}
use Rattle.subgroup_texts.specs.IntersectionAnswer.{intersection_bytes, IntersectionPrintMeans}
use Rattle.subgroup_texts.specs.TowerAnswer.{tower_bytes, TowerPrintMeans}
use Rattle.cycle_texts.specs.CyclesAnswer.{cycles_text, CyclesPrinted}
use Rattle.cycle_texts.specs.ToCyclesAnswer.{to_cycles_text, ExportPrintMeans}
use Rattle.farey.specs.declared.Job.{Job}
use Rattle.farey.specs.declared.Job.TheVariants as job

abbrev pub name_of : Job → List ℕ
name_of job.Sheet = ascii "sheet"
name_of job.Import = ascii "import"
name_of job.ImportWide = ascii "import-wide"
name_of job.Named = ascii "named"
name_of job.Same = ascii "same"
name_of job.Exchange = ascii "exchange"
name_of job.Intersection = ascii "intersection"
name_of job.Tower = ascii "tower"
name_of job.Cycles = ascii "cycles"
name_of job.ToCycles = ascii "to-cycles"

abbrev pub FindsJob : List ℕ → Option Job → Type 0
FindsJob name (Some j) = name ≡ name_of j
FindsJob name None = (j : Job) → name ≡ name_of j → ⊥

abbrev pub bytes_of : Job → (longer : Bool) (t : List ℕ) → List ℕ
bytes_of job.Sheet longer t = sheet_bytes longer t
bytes_of job.Import longer t = imported_by leftmost longer t
bytes_of job.ImportWide longer t = imported_by longest_open longer t
bytes_of job.Named longer t = named_bytes longer t
bytes_of job.Same longer t = same_bytes longer t
bytes_of job.Exchange longer t = exchanged_text longer t
bytes_of job.Intersection longer t = intersection_bytes longer t
bytes_of job.Tower longer t = tower_bytes longer t
bytes_of job.Cycles longer t = cycles_text longer t
bytes_of job.ToCycles longer t = to_cycles_text longer t

abbrev pub MeansOf : Job → (longer : Bool) (t bytes : List ℕ) → Type 0
MeansOf job.Sheet longer t bytes = SheetPrintMeans longer t bytes
MeansOf job.Import longer t bytes = PrintMeans leftmost (request_of longer t) bytes
MeansOf job.ImportWide longer t bytes = PrintMeans longest_open (request_of longer t) bytes
MeansOf job.Named longer t bytes = NamedPrintMeans (group_request longer t) bytes
MeansOf job.Same longer t bytes = SamePrintMeans longer t bytes
MeansOf job.Exchange longer t bytes = ExchangePrintMeans longer t bytes
MeansOf job.Intersection longer t bytes = IntersectionPrintMeans longer t bytes
MeansOf job.Tower longer t bytes = TowerPrintMeans longer t bytes
MeansOf job.Cycles longer t bytes = CyclesPrinted t longer bytes
MeansOf job.ToCycles longer t bytes = ExportPrintMeans (request_of longer t) bytes

pub record AnswersName (name buffer : List ℕ) (e : ℕ) (out out' : List ℕ) (input : Input) : Type 0 where
  pub job : (j : Job) → name ≡ name_of j → AnswersInput (bytes_of j) (MeansOf j) buffer e out out' input
  pub no_job : ((j : Job) → name ≡ name_of j → ⊥) → (e ≡ 0) × (out' ≡ out)
  pub inside : e ≤ length out'
