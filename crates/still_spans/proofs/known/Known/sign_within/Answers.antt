use Rattle.std.proofs.Common.{subst, w64}
use Rattle.std.specs.Prelude.{IfSome, ◌-ℤ◌}
use Rattle.std.proofs.lemmas.Int.{to_z-of_z}
use Rattle.still_spans.specs.Knowledge.{KeepAll, argument_of}
use Rattle.still_spans.proofs.Margins.{one_sign_if}
use Rattle.still_spans.proofs.known.Known.sign_within.Goals as goal

pub returns-in-Some : goal.returns-in-Some
returns-in-Some c =
    let x = c.args.self.now in
    let found = c.sign_by_margin.ensures in
    let keep = rw (to_z-of_z w64 c.args.a c.ranges.a, to_z-of_z w64 c.args.b c.ranges.b) at c.outlook_between.ensures in
    one_sign_if c.args.search.now x c.args.a c.args.b c.requires c.in-Some.margin
    (subst (λ found. IfSome found (KeepAll x.model (argument_of x.first x.last c.args.a) (argument_of x.first x.last c.args.b) (x.last -ℤ x.first))) c.in-Some.is keep)
    c.sign_by_margin.result found.sign found.unit found.far
