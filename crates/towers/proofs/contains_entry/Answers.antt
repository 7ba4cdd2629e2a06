-- `contains_entry` finds both entries, which have symbols, and asks for containment (`EntryPart`). Assumes nothing.
use mathlib.Core.Path.{◌∙◌}
use Prim.Native.Nat.{◌+◌, ◌<◌}
use native.Mathlib.Omega.{arith}
use lib.ListN.{length}
use borrow.Author.Rules.{rules}
use Rattle.matrix.specs.Matrix.{nth}
use Rattle.matrix.proofs.Bounds.{kept}
use Rattle.towers.proofs.Entries.{whole_symbols, two_here, EntryPart, entry_part, part_symbol, parts_contained}
use Rattle.towers.proofs.contains_entry.Goals.{After-or_zero-m, After-or_zero-v, After-start_of-q, Start}
use Rattle.towers.proofs.contains_entry.Goals as goal

pub start_of-p-requires : goal.start_of-p-requires
start_of-p-requires c = let s = c in whole_symbols s.args.n s.args.t.now s.requires.0.symbols s.args.j (omega (arith, s.requires.1))

pub start_of-q-requires : goal.start_of-q-requires
start_of-q-requires c = let s = c in
    whole_symbols s.args.n s.args.t.now s.requires.0.symbols s.args.e (omega (arith, s.requires.2))

-- both entries are inside the table
module _ (c : After-start_of-q) where
  abbrev st : Start
  st = (goal.at.After-start_of-q c).Start

  room_j : c.start_of-p.result + 1 < length st.args.t.now
  room_j = two_here st.args.n c.start_of-p.ensures (st.requires.0.symbols st.args.j st.requires.1)

  room_e : c.start_of-q.result + 1 < length st.args.t.now
  room_e = two_here st.args.n c.start_of-q.ensures (st.requires.0.symbols st.args.e st.requires.2)

pub overflow_add-p : goal.overflow_add-p
overflow_add-p c = let h = room_j (goal.at.overflow_add-p c).After-start_of-q in search rules

pub offset_bounds-t-p : goal.offset_bounds-t-p
offset_bounds-t-p c = let h = room_j (goal.at.offset_bounds-t-p c).After-start_of-q in search rules

pub bounds-t-p : goal.bounds-t-p
bounds-t-p c = let h = room_j (goal.at.bounds-t-p c).After-start_of-q in search rules

pub overflow_add-q : goal.overflow_add-q
overflow_add-q c = let h = room_e (goal.at.overflow_add-q c).After-start_of-q in search rules

pub offset_bounds-t-q : goal.offset_bounds-t-q
offset_bounds-t-q c = let h = room_e (goal.at.offset_bounds-t-q c).After-start_of-q in search rules

pub bounds-t-q : goal.bounds-t-q
bounds-t-q c = let h = room_e (goal.at.bounds-t-q c).After-start_of-q in search rules

-- and their parts are those of the entries
module _ (c : After-or_zero-m) where
  abbrev o : After-or_zero-v
  o = (goal.at.After-or_zero-m c).After-or_zero-v

  abbrev b : After-start_of-q
  b = (goal.at.After-or_zero-v o).After-start_of-q

  part_j : EntryPart (st b).args.n (st b).args.t.now (st b).args.j b.start_of-p.result o.or_zero-v.result
  part_j =
      let s = st b in
      let p = b.start_of-p.result in
      entry_part s.args.n b.start_of-p.ensures (s.requires.0.symbols s.args.j s.requires.1) o.or_zero-v.result
      (rw (kept (nth s.args.t.now (p + 1)) o.or_zero-arg-1.given) at o.or_zero-v.ensures)

  part_e : EntryPart (st b).args.n (st b).args.t.now (st b).args.e b.start_of-q.result c.or_zero-m.result
  part_e =
      let s = st b in
      let p = b.start_of-q.result in
      entry_part s.args.n b.start_of-q.ensures (s.requires.0.symbols s.args.e s.requires.2) c.or_zero-m.result
      (rw (kept (nth s.args.t.now (p + 1)) c.or_zero-arg-2-1.given) at c.or_zero-m.ensures)

pub overflow_add-p-2 : goal.overflow_add-p-2
overflow_add-p-2 c = let h = (part_j (goal.at.overflow_add-p-2 c).After-or_zero-m).room in search rules

pub overflow_mul-v : goal.overflow_mul-v
overflow_mul-v c = let h = (part_j (goal.at.overflow_mul-v c).After-or_zero-m).room in search rules

pub overflow_add-p-3 : goal.overflow_add-p-3
overflow_add-p-3 c = let h = (part_j (goal.at.overflow_add-p-3 c).After-or_zero-m).room in search rules

pub overflow_add-p-4 : goal.overflow_add-p-4
overflow_add-p-4 c = let h = (part_j (goal.at.overflow_add-p-4 c).After-or_zero-m).room in search rules

pub offset_bounds-t-p-2 : goal.offset_bounds-t-p-2
offset_bounds-t-p-2 c = let h = (part_j (goal.at.offset_bounds-t-p-2 c).After-or_zero-m).room in search rules

pub slice_bounds-contains_accepted-count : goal.slice_bounds-contains_accepted-count
slice_bounds-contains_accepted-count c = let h = (part_j (goal.at.slice_bounds-contains_accepted-count c).After-or_zero-m).room in search rules

pub slice_bounds-contains_accepted-start : goal.slice_bounds-contains_accepted-start
slice_bounds-contains_accepted-start c = let h = (part_j (goal.at.slice_bounds-contains_accepted-start c).After-or_zero-m).room in search rules

pub slice_bounds-contains_accepted-end : goal.slice_bounds-contains_accepted-end
slice_bounds-contains_accepted-end c = let h = (part_j (goal.at.slice_bounds-contains_accepted-end c).After-or_zero-m).room in search rules

pub overflow_add-q-2 : goal.overflow_add-q-2
overflow_add-q-2 c = let h = (part_e (goal.at.overflow_add-q-2 c).After-or_zero-m).room in search rules

pub overflow_mul-m : goal.overflow_mul-m
overflow_mul-m c = let h = (part_e (goal.at.overflow_mul-m c).After-or_zero-m).room in search rules

pub overflow_add-q-3 : goal.overflow_add-q-3
overflow_add-q-3 c = let h = (part_e (goal.at.overflow_add-q-3 c).After-or_zero-m).room in search rules

pub overflow_add-q-4 : goal.overflow_add-q-4
overflow_add-q-4 c = let h = (part_e (goal.at.overflow_add-q-4 c).After-or_zero-m).room in search rules

pub offset_bounds-t-q-2 : goal.offset_bounds-t-q-2
offset_bounds-t-q-2 c = let h = (part_e (goal.at.offset_bounds-t-q-2 c).After-or_zero-m).room in search rules

pub slice_bounds-contains_accepted-count-2 : goal.slice_bounds-contains_accepted-count-2
slice_bounds-contains_accepted-count-2 c = let h = (part_e (goal.at.slice_bounds-contains_accepted-count-2 c).After-or_zero-m).room in search rules

pub slice_bounds-contains_accepted-start-2 : goal.slice_bounds-contains_accepted-start-2
slice_bounds-contains_accepted-start-2 c = let h = (part_e (goal.at.slice_bounds-contains_accepted-start-2 c).After-or_zero-m).room in search rules

pub slice_bounds-contains_accepted-end-2 : goal.slice_bounds-contains_accepted-end-2
slice_bounds-contains_accepted-end-2 c = let h = (part_e (goal.at.slice_bounds-contains_accepted-end-2 c).After-or_zero-m).room in search rules

pub contains_accepted-requires : goal.contains_accepted-requires
contains_accepted-requires c =
    let a = c in
    let s = st (b (goal.at.contains_accepted-requires c).After-or_zero-m) in (
      part_symbol (part_j (goal.at.contains_accepted-requires c).After-or_zero-m) (s.requires.0.symbols s.args.j s.requires.1),
      part_symbol (part_e (goal.at.contains_accepted-requires c).After-or_zero-m) (s.requires.0.symbols s.args.e s.requires.2),
      s.requires.0.work,
    )

pub returns : goal.returns
returns c =
    let k = c in
    let a = k in
    k.contains_accepted.ensures.0 ∙ parts_contained (part_e (goal.at.returns c).After-or_zero-m) (part_j (goal.at.returns c).After-or_zero-m)
