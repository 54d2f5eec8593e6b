use Rattle.std.proofs.Common.{◌-◌, arith}
use Rattle.span_models.specs.Sizes.{terms}
use Rattle.span_models.proofs.Numbers.{number_kept}
use Rattle.span_models.proofs.TangentLists.{tangent_more}
use Rattle.span_models.proofs.tangents.tangent_on_line.Goals as goal

pub loop-i-preserved : goal.loop-i-preserved
loop-i-preserved c =
    let t = c.loop-i-test.true in
    record {
      known = tangent_more c.args.line.now c.args.a.now _ c.next_tangent-known.result terms c.loop-i.i _ (omega (arith, t)) c.requires.small.count c.loop-i.invariant.known c.next_tangent-known.ensures (number_kept c.args.a.now (terms - 1 - c.loop-i.i) c.requires.small (omega (arith, t)));
    }
