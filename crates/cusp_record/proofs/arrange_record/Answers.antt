-- `arrange_record` arranges the tables, scans the cusps and enters them: `symbol_record`. Assumes nothing.
use Rattle.coset.proofs.Answer.{made}
use Rattle.cusp_record.proofs.Answer.{lists_are, symbol_record}
use borrow.Author.Rules.{rules}
use Rattle.cusp_record.proofs.arrange_record.Goals as goal

pub cusp_widths-k-requires : goal.cusp_widths-k-requires
cusp_widths-k-requires c =
    let a = c in
    (made a.requires.0 a.arrange-n.ensures.0).permuted

pub enter_cusps-requires : goal.enter_cusps-requires
enter_cusps-requires c =
    let f = c in
    let a = f in
    let ok = a.requires.0 in
    lists_are ok (made ok a.arrange-n.ensures.0) f.cusp_widths-k.ensures

pub returns : goal.returns
returns c =
    let e = c in
    let f = e in
    let a = f in
    let ok = a.requires.0 in
    symbol_record ok (made ok a.arrange-n.ensures.0) f.cusp_widths-k.ensures a.arrange-n.ensures.1 e.enter_cusps.ensures
