use Rattle.std.proofs.Common.{◌∙◌, ◌<◌, arith, length, sym}
use Rattle.std.proofs.lemmas.List.{length-set}
use Rattle.de_header.proofs.ColumnLoops.{row_more, row_stops}
use Rattle.de_header.proofs.columns.read_whole_numbers.Goals as goal

pub returns-in-None : goal.returns-in-None
returns-in-None c =
    let here : c.loop-i.i < length c.args.line.now.tokens = omega (arith, c.count-i-end.ensures.count, c.loop-i-test.true) in
    let stops = row_stops c.args.line.now.tokens c.loop-i.i _ here (sym c.in-None.is ∙ c.whole_number_at.ensures) in
    rw c.new.ensures (sym stops ∙ c.loop-i.invariant.0)

pub loop-i-preserved : goal.loop-i-preserved
loop-i-preserved c =
    let here : c.loop-i.i < length c.args.line.now.tokens = omega (arith, c.count-i-end.ensures.count, c.loop-i-test.true) in (
      row_more c.args.line.now.tokens c.loop-i.i c.in-Some.n c.loop-i.numbers _ here
          (omega (arith, c.loop-i.invariant.1, here, c.requires.few)) (sym c.in-Some.is ∙ c.whole_number_at.ensures) c.loop-i.invariant.0,
      length-set c.loop-i.numbers c.loop-i.i c.in-Some.n ∙ c.loop-i.invariant.1,
    )
