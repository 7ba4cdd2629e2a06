-- `named_groups::make_symbol` meets its contract: the family's tables are imported.
-- Assumes nothing.
use Rattle.named_groups.proofs.Answers.{front, front_length, length_S, length_R, symbol_made}
use Rattle.import_symbol.specs.Answer.{order_by}
use Rattle.congruence.specs.Cosets.{family_s, family_r}
use Rattle.named_groups.proofs.make_symbol.Goals as goal

pub slice_bounds-import_by-end : goal.slice_bounds-import_by-end
slice_bounds-import_by-end c =
    let t = c in
    let s = t in
    front_length (family_s s.args.f s.args.n) _ t.tables-k.ensures.value (length_S s.args.f s.args.n s.requires.0) t.tables-k.ensures.s_after

pub slice_bounds-import_by-end-2 : goal.slice_bounds-import_by-end-2
slice_bounds-import_by-end-2 c =
    let t = c in
    let s = t in
    front_length (family_r s.args.f s.args.n) _ t.tables-k.ensures.value (length_R s.args.f s.args.n s.requires.0) t.tables-k.ensures.r_after

pub returns : goal.returns
returns c =
    let m = c in
    let t = m in
    let s = t in
    let f = s.args.f in
    let n = s.args.n in
    let g = s.requires.0 in
    let k = t.tables-k.ensures in
    let made =
    symbol_made f n g (order_by s.args.wide) _ _ s.args.w.now t.tables-k.new.w s.args.out.now
    (front (family_s f n) _ k.value (length_S f n g) k.s_after) (front (family_r f n) _ k.value (length_R f n g) k.r_after)
    m.tables-k.auto.w s.requires.1 m.import_by.ensures in
    record { fills = made.0; w_after = made.1 }
