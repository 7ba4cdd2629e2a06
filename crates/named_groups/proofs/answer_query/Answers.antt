-- `named_groups::answer_query` meets its contract: the group's symbol is made, or 16; and then it is queried.
-- Assumes nothing.
use Rattle.named_groups.proofs.Asking.{most, front_long, query_over, query_made}
use Rattle.import_symbol.specs.Answer.{order_by}
use Rattle.std.specs.Prelude.{Err}
use Rattle.std.proofs.lemmas.Result.{err_from_is_err_and}
use mathlib.Core.Path.{◌≡◌, ap, ◌∙◌}
use Rattle.call.proofs.Laws.{answer_is}
use mathlib.Core.List.{List}
use lib.IntN.{ℤ, pos}
use lib.ListN.{length, replicate, length-replicate}
use native.Mathlib.Omega.{arith}
use Rattle.named_groups.proofs.answer_query.Goals as goal

-- the space for the symbol's table
abbrev zeros3070 : List ℤ
zeros3070 = replicate 3070 (pos 0)

zeros3070_long : length zeros3070 ≡ 3070
zeros3070_long = length-replicate {A = ℤ} 3070 (pos 0)

pub overflow_mul-t : goal.overflow_mul-t
overflow_mul-t c =
    let s = c in
    let m = c.make_symbol in
    let o = order_by s.args.wide in
    omega (arith, most s.args.f s.args.n s.requires.group o zeros3070 m.new.out zeros3070_long m.ensures.fills c.in_ok-v.was)

pub overflow_add-t : goal.overflow_add-t
overflow_add-t c =
    let s = c in
    let m = c.make_symbol in
    let o = order_by s.args.wide in
    omega (arith, most s.args.f s.args.n s.requires.group o zeros3070 m.new.out zeros3070_long m.ensures.fills c.in_ok-v.was)

pub slice_bounds-t-end : goal.slice_bounds-t-end
slice_bounds-t-end c =
    let s = c in
    let m = c.make_symbol in
    let o = order_by s.args.wide in
    omega (
      arith,
      most s.args.f s.args.n s.requires.group o zeros3070 m.new.out zeros3070_long m.ensures.fills c.in_ok-v.was,
      c.make_symbol.auto.out,
    )

pub slice_bounds-query-end : goal.slice_bounds-query-end
slice_bounds-query-end c =
    let s = c in
    let m = c.make_symbol in
    let o = order_by s.args.wide in
    front_long s.args.f s.args.n s.requires.group o zeros3070 m.new.out zeros3070_long m.ensures.fills c.in_ok-v.was

pub returns-in_err-v : goal.returns-in_err-v
returns-in_err-v c =
    let e = err_from_is_err_and _ c.from_residual.ensures.1 in
    let m = c.make_symbol in
    record {
      fills = answer_is (e.1 ∙ ap Err e.2)
          (query_over c.args.f c.args.n c.requires.group (order_by c.args.wide) zeros3070 m.new.out zeros3070_long m.ensures.fills
          c.in_err-v.was c.args.a c.args.b c.args.out.now c.args.start);
      w_after = m.ensures.w_after;
    }

pub returns : goal.returns
returns c =
    let m = c.make_symbol in
    let q = c.query in
    let made =
    query_made c.args.f c.args.n c.requires.group (order_by c.args.wide) zeros3070 m.new.out zeros3070_long m.ensures.fills
    c.in_ok-v.was
    c.args.a c.args.b c.args.w.now m.new.w q.new.w c.args.out.now q.new.out c.args.start
    c.requires
    m.auto.w q.ensures in
    record { fills = made.0; w_after = made.1 }
