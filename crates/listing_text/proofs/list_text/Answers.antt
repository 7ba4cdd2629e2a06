-- `list_text` meets its contract: each answer of `read_symbol` has its lines. Assumes nothing.
use Rattle.std.specs.Prelude.{Ok, Err}
use mathlib.Core.Path.{◌≡◌, sym, ap, ◌∙◌}
use native.Mathlib.Omega.{arith}
use mathlib.Core.List.{List}
use Prim.Native.Nat.{ℕ, ◌-◌}
use lib.IntN.{ℤ, pos}
use lib.ListN.{get_or, take, drop}
use mir.Syntax.{w64}
use mir.Facts.{to_z-of_z}
use Rattle.text.specs.Piece.{pieces, numbers}
use Rattle.text.specs.Reading.{symbol_format, vertex_count}
use Rattle.call.specs.Refusal.{Filled}
use Rattle.text.proofs.OnceRead.{Standing, told, input_numbers, standing_first, standing_others}
use Rattle.decimal.proofs.Placing.{puts_as}
use Rattle.listing_text.specs.Listing.{listing_lines, read_by, listing_of}
use Rattle.listing_text.proofs.Listed.{listing_by}
use Rattle.listing_text.proofs.list_text.Goals.{After-read_symbol, In-Ok, Start}
use Rattle.listing_text.proofs.list_text.Goals as goal

abbrev begun : After-read_symbol → Start
begun r = (goal.at.After-read_symbol r).Start

-- the answer of `read_symbol` has its lines
lines : (r : After-read_symbol) (x : Filled) → r.read_symbol.result ≡ x
    → read_by x (numbers (pieces (begun r).args.text.now)) ≡ listing_of (begun r).args.longer (begun r).args.text.now
lines r x e =
    let s = begun r in
    listing_by s.args.longer s.args.text.now x
    (sym e ∙ told s.args.longer symbol_format s.args.text.now s.args.numbers.now s.requires.0 r.read_symbol.ensures)

-- the numbers that were read
module _ (d : In-Ok) where
  abbrev read : After-read_symbol
  read = (goal.at.In-Ok d).After-read_symbol

  abbrev s : Start
  s = begun read

  abbrev ns : List ℤ
  ns = numbers (pieces s.args.text.now)

  abbrev stood : List ℤ
  stood = read.read_symbol.new.out

  abbrev count : ℕ
  count = d.in-Ok.k

  standing : Standing ns 3071 count stood
  standing =
      input_numbers s.args.longer symbol_format s.args.text.now s.args.numbers.now s.requires.0 read.read_symbol.ensures (omega arith) count
      d.in-Ok.is

pub slice_bounds-list_symbol-count : goal.slice_bounds-list_symbol-count
slice_bounds-list_symbol-count c = omega (arith, (standing (goal.at.slice_bounds-list_symbol-count c).In-Ok).some_one)

pub slice_bounds-list_symbol-start : goal.slice_bounds-list_symbol-start
slice_bounds-list_symbol-start c = let h = standing (goal.at.slice_bounds-list_symbol-start c).In-Ok in omega (arith, h.some_one, h.inside)

pub slice_bounds-list_symbol-end : goal.slice_bounds-list_symbol-end
slice_bounds-list_symbol-end c = let h = standing (goal.at.slice_bounds-list_symbol-end c).In-Ok in omega (arith, h.some_one, h.inside)

pub returns-in-Err : goal.returns-in-Err
returns-in-Err c =
    let a = c in
    puts_as (lines (goal.at.returns-in-Err c).After-read_symbol (Err a.in-Err.refusal) a.in-Err.is) c.refusal_line.ensures

pub returns-in-Ok : goal.returns-in-Ok
returns-in-Ok c =
    let l = c in
    let v = l in
    let d = v in
    let k = count (goal.at.returns-in-Ok c).In-Ok in
    let t = take (k - 1) (drop 1 (stood (goal.at.returns-in-Ok c).In-Ok)) in
    let n =
    (v.vertex_count-v.ensures
    ∙ ap vertex_count (to_z-of_z {w = w64} {z = get_or (stood (goal.at.returns-in-Ok c).In-Ok) 0 (pos 0)} (record { sfits = v.vertex_count-arg-1.given })
    ∙ standing_first (standing (goal.at.returns-in-Ok c).In-Ok))) in
    puts_as (ap (λ (m : ℕ). listing_lines m t) n ∙ ap (listing_lines _) (standing_others (standing (goal.at.returns-in-Ok c).In-Ok)) ∙ lines (read (goal.at.returns-in-Ok c).In-Ok) (Ok k) d.in-Ok.is)
    l.list_symbol.ensures
