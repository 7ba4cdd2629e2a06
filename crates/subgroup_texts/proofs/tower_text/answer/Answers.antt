-- `answer` meets its contract: each answer of `read_tower` has its bytes. Assumes nothing.
use Rattle.std.specs.Prelude.{Ok, Err}
use mathlib.Core.Path.{◌≡◌, sym, ap, ◌∙◌}
use mathlib.Core.List.{List}
use Prim.Native.Nat.{ℕ}
use native.Mathlib.Omega.{arith}
use lib.IntN.{ℤ}
use Rattle.text.specs.Piece.{pieces, numbers}
use Rattle.text.proofs.OnceRead.{Standing, stands}
use Rattle.decimal.proofs.Placing.{puts_as}
use Rattle.subgroup_texts.specs.TowerAnswer.{tower_reading, tower_answer, tower_line}
use Rattle.subgroup_texts.proofs.TowerReadings.{All, all_reading}
use Rattle.subgroup_texts.proofs.TowerLines.{by_reading_lem}
use Rattle.subgroup_texts.proofs.tower_text.answer.Goals.{After-read_tower-read, In-Ok, Start}
use Rattle.subgroup_texts.proofs.tower_text.answer.Goals as goal

-- the numbers that were read
module _ (d : In-Ok) where
  abbrev read : After-read_tower-read
  read = (goal.at.In-Ok d).After-read_tower-read

  abbrev start : Start
  start = (goal.at.After-read_tower-read read).Start

  abbrev stood : List ℤ
  stood = read.read_tower-read.new.ns

  abbrev all : List ℤ
  all = numbers (pieces start.args.text.now)

  abbrev count : ℕ
  count = d.in-Ok.k

  numbered : Ok count ≡ tower_reading start.args.longer start.args.text.now
  numbered = sym d.in-Ok.is ∙ read.read_tower-read.ensures.0

  whole : All all count
  whole = all_reading start.args.longer start.args.text.now count (sym numbered)

  standing : Standing all 32768 count stood
  standing = stands _ whole.some whole.most (omega (arith, whole.all)) read.read_tower-read.ensures.1 d.in-Ok.is

pub slice_bounds-ns-end : goal.slice_bounds-ns-end
slice_bounds-ns-end c = (standing (goal.at.slice_bounds-ns-end c).In-Ok).inside

pub slice_bounds-tower_numbers-end : goal.slice_bounds-tower_numbers-end
slice_bounds-tower_numbers-end c = (standing (goal.at.slice_bounds-tower_numbers-end c).In-Ok).long

pub tower_numbers-requires : goal.tower_numbers-requires
tower_numbers-requires c =
    let d = c in
    (omega (arith, (standing (goal.at.tower_numbers-requires c).In-Ok).long, (standing (goal.at.tower_numbers-requires c).In-Ok).some_one), (start (goal.at.tower_numbers-requires c).In-Ok).requires)

pub returns-in-Err : goal.returns-in-Err
returns-in-Err c =
    let x = Err c.in-Err.refusal in
    puts_as (by_reading_lem c.args.longer c.args.text.now x (sym c.in-Err.is ∙ c.read_tower-read.ensures.0)) c.refusal_line.ensures

pub returns-in-Ok : goal.returns-in-Ok
returns-in-Ok c =
    let d = c in
    let s = start (goal.at.returns-in-Ok c).In-Ok in
    puts_as (ap (λ (m : List ℤ). tower_line (tower_answer m)) (standing (goal.at.returns-in-Ok c).In-Ok).front
    ∙ by_reading_lem s.args.longer s.args.text.now (Ok (count (goal.at.returns-in-Ok c).In-Ok)) (numbered (goal.at.returns-in-Ok c).In-Ok))
    c.tower_numbers.ensures
