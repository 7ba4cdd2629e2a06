-- `intersections::intersect` meets its contract: the tables of both symbols are kept, their pairs are listed (`walks`, `listed_common`) and the tables given;
-- clearing comes last, so zeros stay. Assumes nothing.
use borrow.Author.Rules.{rules}
use mathlib.Core.Path.{◌≡◌, ◌∙◌, ap}
use mathlib.Core.List.{List}
use Prim.Native.Nat.{ℕ}
use native.Mathlib.Omega.{arith}
use lib.ListN.{length, get_or, replicate, length-replicate}
use Rattle.call.specs.Space.{zeros}
use Rattle.call.proofs.Zeros.{length_zeros, get_d_zeros}
use Rattle.intersections.proofs.Symbols.{walks, listed_common, gives, given_common}
use Rattle.intersections.proofs.intersect.Goals as goal

abbrev fresh : List ℕ
fresh = replicate 4096 0

nothing : (j : ℕ) → get_or fresh j 0 ≡ 0
unfolding zeros
nothing = get_d_zeros 4096

fresh_size : length fresh ≡ 4096
fresh_size = length-replicate {A = ℕ} 4096 0

pub list_pairs-count-requires : goal.list_pairs-count-requires
list_pairs-count-requires c =
    let k4 = c in
    let k3 = k4 in
    let a2 = k3 in
    let k2 = a2 in
    let k1 = k2 in
    let a1 = k1 in
    let st = a1 in
    walks st.requires.0 st.requires.1 a1.arrange-k.ensures.0 a2.arrange-m.ensures.0 fresh nothing k1.keep.ensures k2.keep-2.ensures
    k3.keep-3.ensures k4.keep-4.ensures fresh_size

pub give-made-requires : goal.give-made-requires
give-made-requires c =
    let lp = c in
    let k4 = lp in
    let k3 = k4 in
    let a2 = k3 in
    let k2 = a2 in
    let k1 = k2 in
    let a1 = k1 in
    let st = a1 in
    let held =
    listed_common st.requires.0 st.requires.1 a1.arrange-k.ensures.0 a2.arrange-m.ensures.0 fresh nothing k1.keep.ensures k2.keep-2.ensures
    k3.keep-3.ensures k4.keep-4.ensures fresh_size
    lp.list_pairs-count.ensures in
    gives st.requires.0 st.requires.1 held (omega (arith, lp.list_pairs-count.ensures.same, a2.arrange-m.ensures.0.long))

pub shape_of-w : goal.shape_of-w
shape_of-w c =
    let cl = c in
    let gv = cl in
    let lp = gv in
    let k4 = lp in
    let k3 = k4 in
    let a2 = k3 in
    let k2 = a2 in
    let k1 = k2 in
    let a1 = k1 in
    let st = a1 in
    let same = gv.give-made.ensures.w_len_unchanged ∙ lp.list_pairs-count.ensures.same ∙ a2.arrange-m.ensures.1 ∙ a1.arrange-k.ensures.1 in
    ap length cl.clear.ensures ∙ length_zeros _ ∙ same

pub returns : goal.returns
returns c =
    let cl = c in
    let gv = cl in
    let lp = gv in
    let k4 = lp in
    let k3 = k4 in
    let a2 = k3 in
    let k2 = a2 in
    let k1 = k2 in
    let a1 = k1 in
    let st = a1 in
    let held =
    listed_common st.requires.0 st.requires.1 a1.arrange-k.ensures.0 a2.arrange-m.ensures.0 fresh nothing k1.keep.ensures k2.keep-2.ensures
    k3.keep-3.ensures k4.keep-4.ensures fresh_size
    lp.list_pairs-count.ensures in
    let same = gv.give-made.ensures.w_len_unchanged ∙ lp.list_pairs-count.ensures.same ∙ a2.arrange-m.ensures.1 ∙ a1.arrange-k.ensures.1 in
    let left = gv.give-made in record {
      fills = given_common st.requires.0 st.requires.1 held st.args.a.now left.new.s st.args.b.now left.new.r st.args.c.now left.new.u _
          gv.give-made.ensures.fills;
      w_after = cl.clear.ensures ∙ ap zeros same;
    }
