-- `prepare` makes the tables by place from the coset record, S first: ends and widths stand where the table of S and the places of the points were.
-- Assumes nothing.
use Rattle.same_coset.proofs.ByPlace.{turn_source, end_source, symbol_places}
use Rattle.same_coset.proofs.t_runs.prepare.Goals as goal

pub enter_turns-requires : goal.enter_turns-requires
enter_turns-requires c =
    let e = c in
    turn_source e.requires.0 e.arrange_record-n.ensures

pub enter_ends-requires : goal.enter_ends-requires
enter_ends-requires c =
    let a = c in
    let e = a in
    end_source e.requires.0 e.arrange_record-n.ensures (a.enter_turns.ensures.turns_at, a.enter_turns.ensures.changed_within)

pub returns : goal.returns
returns c =
    let b = c in
    let a = b in
    let e = a in
    symbol_places e.requires.0 e.arrange_record-n.ensures (a.enter_turns.ensures.turns_at, a.enter_turns.ensures.changed_within) (b.enter_ends.ensures.ends_to, b.enter_ends.ensures.ends_frame)
