-- `reply_pair` meets its contract: a word has its line, and any other answer has its number and place. Assumes nothing.
use Rattle.std.specs.Prelude.{Ok}
use mathlib.Core.Path.{◌≡◌, sym, ap, ◌∙◌}
use mathlib.Core.Bool.{Bool}
use mathlib.Core.List.{List}
use Prim.Native.Nat.{ℕ, ◌≤◌}
use native.Mathlib.Omega.{arith}
use lib.IntN.{ℤ}
use lib.ListN.{length}
use Rattle.matrix.specs.Matrix.{of_list}
use Rattle.text.specs.Line.{line}
use Rattle.decimal.proofs.Placing.{puts_as}
use Rattle.word.specs.Answer.{found_word, query_of, word_at, word_left, part_of}
use Rattle.call.specs.Refusal.{Answer}
use Rattle.word.specs.declared.FoundWord.{FoundWord}
use Rattle.word.proofs.Order.{query_left}
use Rattle.word.proofs.Returned.{part_found, word_most}
use Rattle.query_text.specs.Reply.{word_head, said}
use Rattle.query_text.proofs.Replied.{replied_as}
use Rattle.query_text.proofs.reply_pair.Goals.{After-query-answer, After-word_part-word, In-Ok, Start}
use Rattle.query_text.proofs.reply_pair.Goals as goal

-- the word that was found
module _ (n : After-word_part-word) where
  abbrev told : In-Ok
  told = (goal.at.After-word_part-word n).In-Ok

  abbrev asked : After-query-answer
  asked = (goal.at.In-Ok told).After-query-answer

  abbrev start : Start
  start = (goal.at.After-query-answer asked).Start

  abbrev letters : List ℤ
  letters = start.args.letters.now

  abbrev word : List ℤ
  word = found_word start.args.v start.args.t.now (of_list start.args.a) (of_list start.args.b)

  abbrev from : ℕ
  from = told.in-Ok.found.start

  abbrev count : ℕ
  count = told.in-Ok.found.letters

  abbrev sign : Bool
  sign = told.in-Ok.found.plus

  named : Ok (word_at from count sign) ≡ query_of start.args.v start.args.t.now start.args.a start.args.b (length start.args.w.now)
      (length letters) 0
  named = sym told.in-Ok.is ∙ asked.query-answer.ensures.answer

  left : asked.query-answer.new.out ≡ word_left asked.query-answer.result word letters
  left =
      query_left start.args.v start.args.t.now start.args.a start.args.b start.args.w.now asked.query-answer.new.w letters
      asked.query-answer.new.out 0 asked.query-answer.ensures

  part_is : n.word_part-word.result.now ≡ word
  part_is =
      n.word_part-word.ensures
      ∙ ap (λ (x : List ℤ). part_of x from count) (left ∙ ap (λ (x : Answer FoundWord). word_left x word letters) told.in-Ok.is)
      ∙ part_found from count sign start.args.v start.args.t.now start.args.a start.args.b (length start.args.w.now) 0 letters named

  part_most : length n.word_part-word.result.now ≤ 16384
  part_most = omega (
    arith,
    ap length part_is,
    start.requires.lent,
    word_most from count sign start.args.v start.args.t.now start.args.a start.args.b
        (length start.args.w.now) 0 letters named,
  )

pub returns-in_default : goal.returns-in_default
returns-in_default c =
    let s = c.args in
    let v = s.v in
    let t = s.t.now in
    let l = found_word v t (of_list s.a) (of_list s.b) in
    let same =
    ap (λ (x : Answer FoundWord). said x l) (sym c.unwrap_err.ensures)
    ∙ replied_as v t s.a s.b c.query-answer.result (length s.w.now) (length s.letters.now) c.requires.work c.requires.lent c.query-answer.ensures.answer in
    puts_as same c.refusal_line.ensures

pub word_line-requires : goal.word_line-requires
word_line-requires c = omega (
  arith,
  part_most (goal.at.word_line-requires c).After-word_part-word,
  c.requires.out_long,
)

pub returns : goal.returns
returns c =
    let earlier = c in
    let n = c in
    let q = earlier in
    let s = earlier in
    let r = q.query-answer.result in
    let v = s.args.v in
    let t = s.args.t.now in
    let a = s.args.a in
    let b = s.args.b in
    let same =
    ap (line (word_head (sign (goal.at.returns c).After-word_part-word))) (part_is (goal.at.returns c).After-word_part-word)
    ∙ ap (λ (x : Answer FoundWord). said x (word (goal.at.returns c).After-word_part-word)) (sym (told (goal.at.returns c).After-word_part-word).in-Ok.is)
    ∙ replied_as v t a b r (length s.args.w.now) (length s.args.letters.now) s.requires.work s.requires.lent q.query-answer.ensures.answer in
    puts_as same c.word_line.ensures.0
