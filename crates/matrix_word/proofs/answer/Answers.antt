-- `answer` builds the tables of steps, answers by them (`one_ready`) and clears the work space. Assumes nothing.
use mathlib.Core.Path.{◌∙◌, ap}
use Rattle.call.specs.Space.{zeros}
use Rattle.matrix_word.proofs.Along.{one_ready}
use Rattle.matrix_word.proofs.answer.Goals as goal

pub word_along-found-requires : goal.word_along-found-requires
word_along-found-requires c =
    one_ready c.requires c.build-home.ensures.built_steps

pub returns : goal.returns
returns c = record { fills = c.word_along-found.ensures; w_after = c.clear.ensures ∙ ap zeros c.build-home.ensures.w_len_unchanged }
