use Rattle.std.proofs.Common.{arith, ◌≡◌, pos, ◌<ℤ◌, ◌≤ℤ◌}
use Rattle.std.proofs.lemmas.Int.{to_z-of_z}
use Rattle.spec_numbers.proofs.Order.{lin}
use Rattle.spec_chebyshev.specs.Rows.{argument_of}
use Rattle.spec_chebyshev.proofs.Arguments.{HoldsIn-argument, IsArguments-argument}
use Rattle.cheby_laws.proofs.arguments.argument_of.Goals as goal

pub returns : goal.returns
returns c =
    let a = c.ranges.u in
    let e : c.argument_from_one_division.result ≡ argument_of c.args.u c.args.u (pos c.args.divider.now) = simp to_z-of_z at c.argument_from_one_division.ensures in
    let positive : pos 0 <ℤ pos c.args.divider.now = omega (arith, lin) in
    let same : c.args.u ≤ℤ c.args.u = omega (arith, lin) in
    record {
      equals = e;
      unit = rw e (IsArguments-argument c.args.u c.args.u (pos c.args.divider.now) positive c.requires.from_start same c.requires.to_end);
      holds = rw e (HoldsIn-argument c.args.u c.args.u c.args.u (pos c.args.divider.now) positive same same);
    }
