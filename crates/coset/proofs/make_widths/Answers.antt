-- `make_widths` copies the lengths of the cycles of T: the arranged table of T is a permutation (`made`), as `cusp_widths` asks, and
-- clearing comes last. Assumes nothing.
use mathlib.Core.Path.{◌∙◌, ap}
use mathlib.Core.List.{List}
use Prim.Native.Nat.{ℕ}
use lib.ListN.{length}
use Rattle.call.specs.Space.{zeros}
use Rattle.figures.specs.Cusps as cusps
use Rattle.coset.proofs.Stored.{stored_as}
use Rattle.coset.proofs.Answer.{made}
use borrow.Author.Rules.{rules}
use Rattle.coset.proofs.make_widths.Goals as goal

pub cusp_widths-k-requires : goal.cusp_widths-k-requires
cusp_widths-k-requires c =
    let a = c in
    (made a.requires.0 a.arrange-n.ensures.0).permuted

pub returns : goal.returns
returns c =
    let k = c in
    let m = k in
    let q = m in
    let a = q in
    let st = a in
    let g = made st.requires.0 a.arrange-n.ensures.0 in
    let f = q.cusp_widths-k.ensures in record {
      fills = stored_as _ _ st.args.out.now m.copy_widths-made.ensures (f.table ∙ ap cusps.widths g.T_is)
          (f.count ∙ ap (λ (l : List ℕ). length (cusps.widths l)) g.T_is);
      w_after = k.clear.ensures ∙ ap zeros (f.frame.same ∙ a.arrange-n.ensures.1);
    }
