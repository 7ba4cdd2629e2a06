-- `decide` builds the tables of steps, walks by them (`one_ready`) and clears the work space. Assumes nothing.
use Rattle.std.specs.Prelude.{Ok}
use mathlib.Core.Path.{◌∙◌, ap}
use mathlib.Core.Bool.{Bool}
use Rattle.call.specs.Space.{zeros}
use Rattle.call.specs.Refusal.{Decision}
use Rattle.matrix_word.proofs.Along.{one_ready}
use Rattle.matrix_word.proofs.decide.Goals as goal

pub comes_home-yes-requires : goal.comes_home-yes-requires
comes_home-yes-requires c = one_ready c.requires c.build-home.ensures.built_steps

pub returns : goal.returns
returns c = record {
  value = ap {B = Decision} (λ (b : Bool). Ok b) c.comes_home-yes.ensures;
  w_after = c.clear.ensures ∙ ap zeros c.build-home.ensures.w_len_unchanged;
}
