-- `decimal::put` meets its contract. Assumes nothing.
use mathlib.Core.Path.{refl, ◌∙◌}
use native.Mathlib.Omega.{arith}
use Rattle.std.proofs.lemmas.Slice.{put_mid-paste}
use Rattle.decimal.proofs.Places.{put_end}
use Rattle.decimal.proofs.put.Goals as goal

pub returns : goal.returns
returns c =
    let a = c.args in
    record {
      end_is = refl;
      left =
          put_mid-paste a.at _ a.out.now _ a.bytes.now _ c.copy_from_slice.ensures.after (omega arith) refl
          ∙ put_end a.out.now a.at a.bytes.now;
    }
