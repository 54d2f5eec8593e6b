use Rattle.std.proofs.Common.{◌∙◌, arith}
use Rattle.std.proofs.lemmas.List.{length-set}
use Rattle.de_header.proofs.ColumnLoops.{columns_more}
use Rattle.de_header.proofs.columns.join_columns.Goals as goal

pub loop-i-preserved : goal.loop-i-preserved
loop-i-preserved c = (
  columns_more c.loop-i.i c.args.starts.now c.args.coefs.now c.args.granules.now c.loop-i.columns
      (omega (arith, c.loop-i.invariant.1, c.loop-i-test.true, c.requires.few)) (omega (arith, c.told-starts, c.loop-i-test.true, c.requires.few))
      (omega (arith, c.told-coefs, c.loop-i-test.true, c.requires.few)) (omega (arith, c.told-granules, c.loop-i-test.true, c.requires.few)) c.loop-i.invariant.0,
  length-set c.loop-i.columns c.loop-i.i _ ∙ c.loop-i.invariant.1,
)
