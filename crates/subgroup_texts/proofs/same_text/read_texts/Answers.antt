-- `read_texts` meets its contract: the first text is read up to where it ends, and the rest where the first has more than v (`outcome`).
-- Assumes nothing.
use Rattle.std.specs.Prelude.{Ok, Err}
use mathlib.Core.Path.{◌≡◌, refl, sym, ap, ◌∙◌}
use mathlib.Core.List.{List}
use Prim.Native.Nat.{ℕ, ◌≤◌}
use native.Mathlib.Omega.{arith}
use lib.IntN.{ℤ}
use lib.ListN.{length, take, length-drop}
use lib.Seq.{length-take-le}
use Rattle.call.specs.declared.refusal.Refusal.TheVariants.{BadVertexCount}
use Rattle.call.specs.declared.refusal.Refusal.{Refusal}
use Rattle.text.proofs.Exits.{handed_out}
use Rattle.text.proofs.OnceRead.{Standing}
use Rattle.text.specs.Piece.{pieces, numbers}
use Rattle.subgroup_texts.specs.SameAnswer.{cut_at, first_text, second_text, first_reading, two, none, in_whole}
use Rattle.subgroup_texts.proofs.SamePlaces.{refused_place}
use Rattle.subgroup_texts.proofs.SameReadings.{PartRead, outcome, part_as, second_is, few, enough, counts, no_counts}
use Rattle.subgroup_texts.proofs.same_text.read_texts.Goals.{After-part_end-at, After-read, After-read-2, In_ok-k, In-Ok, Start}
use Rattle.subgroup_texts.proofs.same_text.read_texts.Goals as goal

-- where the second text begins
module _ (p : After-part_end-at) where
  abbrev start : Start
  start = (goal.at.After-part_end-at p).Start

  abbrev text : List ℕ
  text = start.args.text.now

  abbrev at : ℕ
  at = p.part_end-at.result

  cut : at ≡ cut_at text
  cut = p.part_end-at.ensures.0

  inside : at ≤ length text
  inside = p.part_end-at.ensures.1

-- the first reading
module _ (r : After-read) where
  abbrev parted : After-part_end-at
  parted = (goal.at.After-read r).After-part_end-at

  abbrev stood : List ℤ
  stood = r.read.new.out

  first_read : PartRead (first_text (text parted)) r.read.result stood
  first_read = part_as (start parted).args.one.now (start parted).requires.1 (ap (λ (n : ℕ). take n (text parted)) (cut parted)) r.read.ensures

-- the first text's numbers
module _ (f : In_ok-k) where
  abbrev read1 : After-read
  read1 = (goal.at.In_ok-k f).After-read

  abbrev count : ℕ
  count = f.in_ok-k.k

  numbered : Ok count ≡ first_reading (text (parted read1))
  numbered = sym f.in_ok-k.was ∙ (first_read read1).told

  ones : Standing (numbers (pieces (first_text (text (parted read1))))) 3071 count (stood read1)
  ones = (first_read read1).standing count f.in_ok-k.was

-- the second reading
module _ (q : After-read-2) where
  abbrev first : In_ok-k
  first = (goal.at.After-read-2 q).In_ok-k

  abbrev begun : After-part_end-at
  begun = parted (read1 first)

  several : 2 ≤ count first
  several = omega (arith, q.if-k-lt2.false)

  abbrev stood2 : List ℤ
  stood2 = q.read-2.new.out

  second_read : PartRead (second_text (text begun)) q.read-2.result stood2
  second_read = part_as (start begun).args.other.now (start begun).requires.2 (second_is (text begun) (at begun) (cut begun)) q.read-2.ensures

-- the second text's numbers
module _ (d : In-Ok) where
  abbrev read2 : After-read-2
  read2 = (goal.at.In-Ok d).After-read-2

  abbrev count2 : ℕ
  count2 = d.in-Ok.j

  others : Standing (numbers (pieces (second_text (text (begun read2))))) 3071 count2 (stood2 read2)
  others = (second_read read2).standing count2 d.in-Ok.is

pub slice_bounds-read-end : goal.slice_bounds-read-end
slice_bounds-read-end c = sym (length-take-le (at (goal.at.slice_bounds-read-end c).After-part_end-at) (text (goal.at.slice_bounds-read-end c).After-part_end-at) (inside (goal.at.slice_bounds-read-end c).After-part_end-at))

pub returns-then-k-lt2 : goal.returns-then-k-lt2
returns-then-k-lt2 c =
    let f = c in
    let p = parted (read1 (goal.at.returns-then-k-lt2 c).In_ok-k) in
    outcome (text p) (start p).requires.0 (Ok (count (goal.at.returns-then-k-lt2 c).In_ok-k)) (numbered (goal.at.returns-then-k-lt2 c).In_ok-k) (Err BadVertexCount) (few (text p) (count (goal.at.returns-then-k-lt2 c).In_ok-k) c.if-k-lt2.true)
    (no_counts BadVertexCount)

pub moved-requires : goal.moved-requires
moved-requires c =
    let g = c in
    let q = g in
    let p = begun (goal.at.moved-requires c).After-read-2 in
    let short : length (second_text (text p)) ≤ 65536 = omega (arith, length-drop (cut_at (text p)) (text p), (start p).requires.0) in
    let place = refused_place (second_text (text p)) g.in-Err.refusal short (sym g.in-Err.is ∙ (second_read (goal.at.moved-requires c).After-read-2).told) in
    omega (arith, inside p, (start p).requires.0, place)

pub returns-in_err-k : goal.returns-in_err-k
returns-in_err-k c =
    let r = (goal.at.returns-in_err-k c).After-read in
    let p = parted r in
    let f = c.in_err-k.field-0.0 in
    rw (handed_out c.from_residual.result c.from_residual.ensures.1)
    (outcome (text p) (start p).requires.0 (Err f) (sym c.in_err-k.was ∙ (first_read r).told) (Err f) refl (no_counts f))

pub returns-in-Err : goal.returns-in-Err
returns-in-Err c =
    let g = c in
    let q = g in
    let f = first (goal.at.returns-in-Err c).After-read-2 in
    let p = begun (goal.at.returns-in-Err c).After-read-2 in
    let refusal = g.in-Err.refusal in
    let x = Err refusal in
    let e = sym g.in-Err.is ∙ (second_read (goal.at.returns-in-Err c).After-read-2).told in
    let place = ap (λ (a : Refusal). none a) (c.moved.ensures ∙ ap (λ (n : ℕ). in_whole n refusal) (cut p)) in
    outcome (text p) (start p).requires.0 (Ok (count f)) (numbered f) (Err c.moved.result)
    (place ∙ enough (text p) (count f) (several (goal.at.returns-in-Err c).After-read-2) x e) (no_counts c.moved.result)

pub returns-in-Ok : goal.returns-in-Ok
returns-in-Ok c =
    let d = c in
    let q = read2 (goal.at.returns-in-Ok c).In-Ok in
    let f = first q in
    let p = begun q in
    let x = Ok (count2 (goal.at.returns-in-Ok c).In-Ok) in
    let ns = take (count f) (numbers (pieces (first_text (text p)))) in
    let ms = take (count2 (goal.at.returns-in-Ok c).In-Ok) (numbers (pieces (second_text (text p)))) in
    let pair : two (take (count f) (stood (read1 f))) (take (count2 (goal.at.returns-in-Ok c).In-Ok) (stood2 q)) ≡ two ns ms =
    ap (λ (l : List ℤ). two l (take (count2 (goal.at.returns-in-Ok c).In-Ok) (stood2 q))) (ones f).front ∙ ap (two ns) (others (goal.at.returns-in-Ok c).In-Ok).front in
    outcome (text p) (start p).requires.0 (Ok (count f)) (numbered f) (Ok (count f, count2 (goal.at.returns-in-Ok c).In-Ok))
    (pair ∙ enough (text p) (count f) (several q) x (sym d.in-Ok.is ∙ (second_read q).told))
    (counts (record { some = (ones f).some_one; most = (ones f).fitting; some' = (others (goal.at.returns-in-Ok c).In-Ok).some_one; most' = (others (goal.at.returns-in-Ok c).In-Ok).fitting }))
