use Rattle.std.proofs.Common.{w64}
use Rattle.std.proofs.lemmas.Int.{to_z-of_z}
use Rattle.still_spans.proofs.Margins.{margin_if, side_if}
use Rattle.still_spans.proofs.known.Known.outlook_within.Goals as goal

pub returns : goal.returns
returns c =
    let x = c.args.self.now in
    let keep = rw (to_z-of_z w64 c.args.a c.ranges.a, to_z-of_z w64 c.args.b c.ranges.b) at c.outlook_between.ensures in
    record {
      margin = margin_if c.args.search.now x c.args.a c.args.b c.requires c.outlook_between.result.margin keep;
      sign = side_if c.args.search.now x c.args.a c.args.b c.requires c.margins_tell_signs.ensures.above c.margins_tell_signs.ensures.below c.outlook_between.result.margin keep;
    }
