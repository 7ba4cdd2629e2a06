-- `answer` builds the tables of steps, answers by them (`pair_ready`) and clears the work space. Assumes nothing.
use mathlib.Core.Path.{◌∙◌, ap}
use Rattle.call.specs.Space.{zeros}
use Rattle.word.proofs.Finding.{pair_ready}
use Rattle.word.proofs.answer.Goals as goal

pub answer_ready-found-requires : goal.answer_ready-found-requires
answer_ready-found-requires c =
    pair_ready c.requires c.build-home.ensures.built_steps

pub returns : goal.returns
returns c = record { fills = c.answer_ready-found.ensures; w_after = c.clear.ensures ∙ ap zeros c.build-home.ensures.w_len_unchanged }
