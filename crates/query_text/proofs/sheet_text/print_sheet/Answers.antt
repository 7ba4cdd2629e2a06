-- `print_sheet` meets its contract: the symbol and the pairs lie in the numbers as `table_of` and `pairs_of` say, and each answer of `sheet` is printed. Assumes
-- nothing.
use mathlib.Core.Path.{◌≡◌, refl, ap, ◌∙◌}
use mathlib.Core.List.{List}
use Prim.Native.Nat.{ℕ, ◌+◌, ◌*◌, ◌≤◌}
use native.Mathlib.Omega.{arith}
use lib.IntN.{ℤ}
use lib.ListN.{length}
use mir.Syntax.{w64}
use mir.Facts.{to_z-of_z}
use Rattle.matrix.specs.Matrix.{nth}
use Rattle.text.specs.Reading.{vertex_count}
use Rattle.decimal.proofs.Placing.{puts_as}
use Rattle.text.specs.Reading.{count_in}
use Rattle.query_text.specs.Printed.{table_of, pairs_of}
use Rattle.query_text.proofs.SheetAnswers.{Called, symbol_part, pairs_part, called_as, refused_printed, made_room, made_printed}
use Rattle.query_text.proofs.sheet_text.print_sheet.Goals.{After-sheet, After-vertex_count-v, Start}
use Rattle.query_text.proofs.sheet_text.print_sheet.Goals as goal

-- v, and the symbol that fits
module _ (n : After-vertex_count-v) where
  abbrev begun : Start
  begun = (goal.at.After-vertex_count-v n).Start

  v_is : n.vertex_count-v.result ≡ count_in begun.args.ns.now
  v_is =
      n.vertex_count-v.ensures
      ∙ ap vertex_count (to_z-of_z {w = w64} {z = nth begun.args.ns.now 0} (record { sfits = n.vertex_count-arg-1.given }))

  few : n.vertex_count-v.result ≤ 1023
  few = omega (arith, v_is, begun.requires.0.most)

  whole : 3 * n.vertex_count-v.result + 2 ≤ length begun.args.ns.now
  whole = omega (arith, v_is, begun.requires.0.whole)

-- the answer of `sheet`
module _ (m : After-sheet) where
  abbrev start : Start
  start = (goal.at.After-sheet m).Start

  abbrev numbers : List ℤ
  numbers = start.args.ns.now

  abbrev v : ℕ
  v = m.vertex_count-v.result

  called : Called start.args.w.now start.args.lines.now start.args.letters.now m.sheet.result m.sheet.new.w
      m.sheet.new.lines m.sheet.new.out (count_in numbers) (table_of numbers) (pairs_of numbers)
  called =
      let e = v_is (goal.at.After-sheet m).After-vertex_count-v in
      called_as e (symbol_part numbers v (3 * v + 2) e refl) (pairs_part numbers v (3 * v + 2) e refl) (record { fills = m.sheet.ensures })

pub overflow_mul-k : goal.overflow_mul-k
overflow_mul-k c = record { fits = omega (arith, few (goal.at.overflow_mul-k c).After-vertex_count-v) }

pub overflow_add-k : goal.overflow_add-k
overflow_add-k c = record { fits = omega (arith, few (goal.at.overflow_add-k c).After-vertex_count-v) }

pub slice_bounds-sheet-end : goal.slice_bounds-sheet-end
slice_bounds-sheet-end c = omega (arith, whole (goal.at.slice_bounds-sheet-end c).After-vertex_count-v)

pub offset_bounds-ns-k : goal.offset_bounds-ns-k
offset_bounds-ns-k c = record { fits = omega (arith, few (goal.at.offset_bounds-ns-k c).After-vertex_count-v) }

pub slice_bounds-sheet-count-2 : goal.slice_bounds-sheet-count-2
slice_bounds-sheet-count-2 c = omega (arith, whole (goal.at.slice_bounds-sheet-count-2 c).After-vertex_count-v)

pub slice_bounds-sheet-start-2 : goal.slice_bounds-sheet-start-2
slice_bounds-sheet-start-2 c = omega (arith, whole (goal.at.slice_bounds-sheet-start-2 c).After-vertex_count-v)

pub print_lines-requires : goal.print_lines-requires
print_lines-requires c =
    let m = c in
    let s = m in
    made_room s.args.ns.now s.requires.1 (called (goal.at.print_lines-requires c).After-sheet) c.in-Ok.n
    c.in-Ok.is c.lines-1.given

pub returns-in-Err : goal.returns-in-Err
returns-in-Err c =
    let m = c in
    let s = m in
    let ns = s.args.ns.now in
    puts_as (refused_printed ns s.requires.1 (called (goal.at.returns-in-Err c).After-sheet) c.in-Err.refusal
    c.in-Err.is) c.refusal_line.ensures

pub returns-in-Ok : goal.returns-in-Ok
returns-in-Ok c =
    let m = c in
    let s = m in
    let ns = s.args.ns.now in
    puts_as (made_printed ns s.requires.1 (called (goal.at.returns-in-Ok c).After-sheet) c.in-Ok.n
    c.in-Ok.is) c.print_lines.ensures
