use Rattle.std.proofs.Common.{◌+◌, ◌<◌, length, drop, refl, arith}
use Rattle.de_blocks.proofs.Triples.{at_place}
use Rattle.de_blocks.proofs.Walking.{counted, is_on}
use Rattle.de_blocks.proofs.walk.push_triple.Goals as goal

pub loop-i-preserved : goal.loop-i-preserved
loop-i-preserved c =
    let words = c.args.line.now.tokens in
    let old = c.args.block.now in
    let mid = c.loop-i.block in
    let new = c.push_coefficient.new.self in
    let here = at_place words c.args.triple _ _ _ c.loop-i.i _ c.requires.triple c.loop-i-test.true c.remade_decimal-first.ensures c.remade_decimal-second.ensures c.remade_decimal-third.ensures in
    let pushed = c.in_ok-push_coefficient.ensures.pushed here.word here.reads in
    let few : length mid.numbers < old.accepted.header.ncoeff =
    omega (arith, c.loop-i.invariant.1, c.requires.few, c.loop-i-test.true) in (
      is_on old mid new words (drop c.loop-i.i words) (drop (c.loop-i.i + 1) words) c.number-number.result here.word c.loop-i.invariant.0 here.here few
          pushed c.in_ok-push_coefficient.ensures.same,
      omega (arith, counted mid.accepted mid.numbers new.numbers c.number-number.result here.word (length mid.numbers) refl pushed, c.loop-i.invariant.1),
    )
