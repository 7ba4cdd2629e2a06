-- The bytes of each job mean what they should (`means`), by the crate of its text. Assumes nothing.
use mathlib.Core.Path.{refl}
use mathlib.Core.Bool.{Bool}
use mathlib.Core.List.{List}
use Prim.Native.Nat.{ℕ}
use Rattle.import_rule.specs.Order.{leftmost, longest_open}
use Rattle.query_text.proofs.SheetAnswers as sheet
use Rattle.symbol_texts.specs.ImportAnswer.{request_of, imported_by}
use Rattle.symbol_texts.proofs.ImportReadBack as imports
use Rattle.symbol_texts.specs.NamedAnswer.{group_request, named_bytes}
use Rattle.symbol_texts.proofs.NamedAsked as named
use Rattle.symbol_texts.proofs.ExchangePrinting as exchange
use Rattle.subgroup_texts.proofs.SameLines as same
use Rattle.subgroup_texts.proofs.IntersectionPrinting as intersection
use Rattle.subgroup_texts.proofs.TowerLines as tower
use Rattle.cycle_texts.proofs.CyclesPrinting as cycles
use Rattle.cycle_texts.proofs.ToCyclesPrinting as exports
use Rattle.farey.specs.Jobs.{bytes_of, MeansOf}
use Rattle.farey.specs.declared.Job.{Job}
use Rattle.farey.specs.declared.Job.TheVariants as job

pub means : (j : Job) (longer : Bool) (t : List ℕ) → MeansOf j longer t (bytes_of j longer t)
unfolding imported_by named_bytes
means job.Sheet longer t = sheet.print_means longer t refl
means job.Import longer t = imports.print_means leftmost (request_of longer t) _ refl
means job.ImportWide longer t = imports.print_means longest_open (request_of longer t) _ refl
means job.Named longer t = named.print_means (group_request longer t) _ refl
means job.Same longer t = same.print_means longer t _ refl
means job.Exchange longer t = exchange.print_means longer t _ refl
means job.Intersection longer t = intersection.print_means longer t _ refl
means job.Tower longer t = tower.print_means longer t _ refl
means job.Cycles longer t = cycles.printed t longer _ refl
means job.ToCycles longer t = exports.print_means longer t _ refl
