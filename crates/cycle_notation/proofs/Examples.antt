-- What the definitions say of some texts: each is computed. Offsets count from 0, and `\n` is a line end.
-- Assumes nothing.
use mathlib.Core.Path.{◌≡◌, refl}
use mathlib.Core.List.{[], ◌∷◌}
use Rattle.cycle_notation.specs.Piece.{run_value, cycle_pieces_from, cycle_pieces, without_offsets}
use Rattle.cycle_notation.specs.Verdict.{reads, index_out, leaves}
use Rattle.cycle_notation.specs.Inner.Reader.{read_all, lost, bad_index, verdict_of}
use Rattle.numbering.specs.Find.{find}

-- `3 (1,2) (1,3,2)`
two_groups : verdict_of (51 ∷ 32 ∷ 40 ∷ 49 ∷ 44 ∷ 50 ∷ 41 ∷ 32 ∷ 40 ∷ 49 ∷ 44 ∷ 51 ∷ 44 ∷ 50 ∷ 41 ∷ [])
    ≡ reads (record { index = 3; of_s = (1 ∷ 2 ∷ []) ∷ []; of_r = (1 ∷ 3 ∷ 2 ∷ []) ∷ [] })
unfolding verdict_of cycle_pieces cycle_pieces_from run_value without_offsets read_all lost bad_index find
two_groups = refl

-- ` 003(2,1)(3) ;(1,3,2)`
with_semicolon : verdict_of (32 ∷ 48 ∷ 48 ∷ 51 ∷ 40 ∷ 50 ∷ 44 ∷ 49 ∷ 41 ∷ 40 ∷ 51 ∷ 41 ∷ 32 ∷ 59 ∷ 40 ∷ 49 ∷ 44 ∷ 51 ∷ 44 ∷ 50 ∷ 41 ∷ [])
    ≡ reads (record { index = 3; of_s = (2 ∷ 1 ∷ []) ∷ (3 ∷ []) ∷ []; of_r = (1 ∷ 3 ∷ 2 ∷ []) ∷ [] })
unfolding verdict_of cycle_pieces cycle_pieces_from run_value without_offsets read_all lost bad_index find
with_semicolon = refl

-- `3 (1,2)(3)(1,3,2)`
three_groups : verdict_of (51 ∷ 32 ∷ 40 ∷ 49 ∷ 44 ∷ 50 ∷ 41 ∷ 40 ∷ 51 ∷ 41 ∷ 40 ∷ 49 ∷ 44 ∷ 51 ∷ 44 ∷ 50 ∷ 41 ∷ []) ≡ leaves 10
unfolding verdict_of cycle_pieces cycle_pieces_from run_value without_offsets read_all lost bad_index find
three_groups = refl

-- `4 (1,2)(1`
second_group_repeats : verdict_of (52 ∷ 32 ∷ 40 ∷ 49 ∷ 44 ∷ 50 ∷ 41 ∷ 40 ∷ 49 ∷ []) ≡ leaves 9
unfolding verdict_of cycle_pieces cycle_pieces_from run_value without_offsets read_all lost bad_index find
second_group_repeats = refl

-- `0 x`
no_index : verdict_of (48 ∷ 32 ∷ 120 ∷ []) ≡ index_out
unfolding verdict_of cycle_pieces cycle_pieces_from run_value without_offsets read_all lost bad_index find
no_index = refl

-- `00030670`
long_index : verdict_of (48 ∷ 48 ∷ 48 ∷ 51 ∷ 48 ∷ 54 ∷ 55 ∷ 48 ∷ []) ≡ index_out
unfolding verdict_of cycle_pieces cycle_pieces_from run_value without_offsets read_all lost bad_index find
long_index = refl

-- ``
nothing : verdict_of [] ≡ leaves 0
unfolding verdict_of cycle_pieces cycle_pieces_from run_value without_offsets read_all lost bad_index find
nothing = refl

-- `  `
blanks : verdict_of (32 ∷ 32 ∷ []) ≡ leaves 2
unfolding verdict_of cycle_pieces cycle_pieces_from run_value without_offsets read_all lost bad_index find
blanks = refl

-- `3 (1,2) (1,3,2)\n`
line_end : verdict_of (51 ∷ 32 ∷ 40 ∷ 49 ∷ 44 ∷ 50 ∷ 41 ∷ 32 ∷ 40 ∷ 49 ∷ 44 ∷ 51 ∷ 44 ∷ 50 ∷ 41 ∷ 10 ∷ []) ≡ leaves 15
unfolding verdict_of cycle_pieces cycle_pieces_from run_value without_offsets read_all lost bad_index find
line_end = refl

-- `3 ;`
none_written : verdict_of (51 ∷ 32 ∷ 59 ∷ []) ≡ reads (record { index = 3; of_s = []; of_r = [] })
unfolding verdict_of cycle_pieces cycle_pieces_from run_value without_offsets read_all lost bad_index find
none_written = refl

-- `3 () (1,2,3)`
identity_first : verdict_of (51 ∷ 32 ∷ 40 ∷ 41 ∷ 32 ∷ 40 ∷ 49 ∷ 44 ∷ 50 ∷ 44 ∷ 51 ∷ 41 ∷ [])
    ≡ reads (record { index = 3; of_s = []; of_r = (1 ∷ 2 ∷ 3 ∷ []) ∷ [] })
unfolding verdict_of cycle_pieces cycle_pieces_from run_value without_offsets read_all lost bad_index find
identity_first = refl

-- `3 ()(1,2);`
identity_beside_cycle : verdict_of (51 ∷ 32 ∷ 40 ∷ 41 ∷ 40 ∷ 49 ∷ 44 ∷ 50 ∷ 41 ∷ 59 ∷ []) ≡ leaves 9
unfolding verdict_of cycle_pieces cycle_pieces_from run_value without_offsets read_all lost bad_index find
identity_beside_cycle = refl

-- `2 (1,2,`
all_named : verdict_of (50 ∷ 32 ∷ 40 ∷ 49 ∷ 44 ∷ 50 ∷ 44 ∷ []) ≡ leaves 6
unfolding verdict_of cycle_pieces cycle_pieces_from run_value without_offsets read_all lost bad_index find
all_named = refl

-- `3 (1, 2);`
blank_in_cycle : verdict_of (51 ∷ 32 ∷ 40 ∷ 49 ∷ 44 ∷ 32 ∷ 50 ∷ 41 ∷ 59 ∷ []) ≡ leaves 5
unfolding verdict_of cycle_pieces cycle_pieces_from run_value without_offsets read_all lost bad_index find
blank_in_cycle = refl

-- `3`
index_alone : verdict_of (51 ∷ []) ≡ leaves 1
unfolding verdict_of cycle_pieces cycle_pieces_from run_value without_offsets read_all lost bad_index find
index_alone = refl

-- `3 (1,2)`
one_group : verdict_of (51 ∷ 32 ∷ 40 ∷ 49 ∷ 44 ∷ 50 ∷ 41 ∷ []) ≡ leaves 7
unfolding verdict_of cycle_pieces cycle_pieces_from run_value without_offsets read_all lost bad_index find
one_group = refl

-- `3 (1,4)`
outside : verdict_of (51 ∷ 32 ∷ 40 ∷ 49 ∷ 44 ∷ 52 ∷ 41 ∷ []) ≡ leaves 5
unfolding verdict_of cycle_pieces cycle_pieces_from run_value without_offsets read_all lost bad_index find
outside = refl
