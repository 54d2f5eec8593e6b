use Rattle.std.proofs.Common.{◌∙◌, sym, rules}
use Rattle.std.proofs.lemmas.Result.{err_from_is_err_and}
use Rattle.de_blocks.proofs.Walking.{counted, fails_in, few_in, front_in, is_on}
use Rattle.de_blocks.proofs.walk.read_numbers.Goals as goal

pub push_number-requires : goal.push_number-requires
push_number-requires c = few_in c.args.block.now c.loop-count.block c.args.words.now c.loop-count.words c.loop-count.invariant.0 (search rules)

pub push_word-requires : goal.push_word-requires
push_word-requires c = few_in c.args.block.now c.loop-count.block c.args.words.now c.loop-count.words c.loop-count.invariant.0 (search rules)

pub loop-count-preserved : goal.loop-count-preserved
loop-count-preserved c = (
  is_on c.args.block.now c.loop-count.block c.push_word.new.self c.args.words.now c.loop-count.words c.next.new.self
      c.args.line c.in-Some-next.word.now c.loop-count.invariant.0 (sym c.in-None.ensures.other ∙ c.in-Some-next.ensures.steps) (search rules)
      c.in_ok-push_word-in-Some-next.ensures.pushed c.in_ok-push_word-in-Some-next.ensures.same,
  counted c.loop-count.block.accepted c.loop-count.block.numbers c.push_word.new.self.numbers c.args.line c.in-Some-next.word.now c.loop-count.count
      c.loop-count.invariant.1 c.in_ok-push_word-in-Some-next.ensures.pushed,
)

pub loop-count-preserved-in-Some : goal.loop-count-preserved-in-Some
loop-count-preserved-in-Some c =
    let (word, first, reads) = c.in-Some.ensures.number in (
      is_on c.args.block.now c.loop-count.block c.push_number.new.self c.args.words.now c.loop-count.words c.next_number.new.self
          c.args.line word c.loop-count.invariant.0 first (search rules)
          (c.in_ok-push_number-in-Some.ensures.pushed word reads) c.in_ok-push_number-in-Some.ensures.same,
      counted c.loop-count.block.accepted c.loop-count.block.numbers c.push_number.new.self.numbers c.args.line word c.loop-count.count
          c.loop-count.invariant.1 (c.in_ok-push_number-in-Some.ensures.pushed word reads),
    )

pub returns-in_err-push_word-in-Some-next-clause-reads : goal.returns-in_err-push_word-in-Some-next-clause-reads
returns-in_err-push_word-in-Some-next-clause-reads c =
    let given = err_from_is_err_and c.from_residual-in_err-push_word-in-Some-next.result c.from_residual-in_err-push_word-in-Some-next.ensures.1 in
    rw (given.1, given.2)
    (fails_in c.args.block.now c.loop-count.block c.push_word.new.self c.args.words.now c.loop-count.words c.next.new.self
    c.args.line c.in-Some-next.word.now _ c.loop-count.invariant.0 (sym c.in-None.ensures.other ∙ c.in-Some-next.ensures.steps) (search rules)
    c.in_err-push_word-in-Some-next.ensures.pushed)

pub returns-in_err-push_word-in-Some-next-clause-front : goal.returns-in_err-push_word-in-Some-next-clause-front
returns-in_err-push_word-in-Some-next-clause-front c =
    front_in c.args.block.now c.loop-count.block c.push_word.new.self c.args.words.now c.loop-count.words
    c.args.line c.in-Some-next.word.now _ c.loop-count.invariant.0 c.in_err-push_word-in-Some-next.ensures.pushed

pub returns-in_err-push_number-in-Some-clause-reads : goal.returns-in_err-push_number-in-Some-clause-reads
returns-in_err-push_number-in-Some-clause-reads c =
    let given = err_from_is_err_and c.from_residual.result c.from_residual.ensures.1 in
    let (word, first, reads) = c.in-Some.ensures.number in
    rw (given.1, given.2)
    (fails_in c.args.block.now c.loop-count.block c.push_number.new.self c.args.words.now c.loop-count.words c.next_number.new.self
    c.args.line word _ c.loop-count.invariant.0 first (search rules)
    (c.in_err-push_number-in-Some.ensures.pushed word reads))

pub returns-in_err-push_number-in-Some-clause-front : goal.returns-in_err-push_number-in-Some-clause-front
returns-in_err-push_number-in-Some-clause-front c =
    let (word, first, reads) = c.in-Some.ensures.number in
    front_in c.args.block.now c.loop-count.block c.push_number.new.self c.args.words.now c.loop-count.words
    c.args.line word _ c.loop-count.invariant.0 (c.in_err-push_number-in-Some.ensures.pushed word reads)
