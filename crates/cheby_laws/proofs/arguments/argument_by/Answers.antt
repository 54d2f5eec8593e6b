use Rattle.std.proofs.Common.{arith, ◌≡◌, pos, ◌<ℤ◌}
use Rattle.std.proofs.lemmas.Int.{to_z-of_z}
use Rattle.spec_numbers.proofs.Order.{lin}
use Rattle.spec_chebyshev.specs.Rows.{argument_of}
use Rattle.spec_chebyshev.proofs.Arguments.{HoldsIn-argument, IsArguments-argument}
use Rattle.cheby_laws.proofs.arguments.argument_by.Goals as goal

pub returns-clause-unit : goal.returns-clause-unit
returns-clause-unit c =
    let a = c.ranges.ua in
    let b = c.ranges.ub in
    let e : c.argument_ends.result ≡ argument_of c.args.ua c.args.ub (pos c.args.divider.now) = simp to_z-of_z at c.argument_ends.ensures in
    let positive : pos 0 <ℤ pos c.args.divider.now = omega (arith, lin) in
    rw e (IsArguments-argument c.args.ua c.args.ub (pos c.args.divider.now) positive c.requires.from_start c.requires.ordered c.requires.to_end)

pub returns-clause-holds : goal.returns-clause-holds
returns-clause-holds c u f t =
    let a = c.ranges.ua in
    let b = c.ranges.ub in
    let e : c.argument_ends.result ≡ argument_of c.args.ua c.args.ub (pos c.args.divider.now) = simp to_z-of_z at c.argument_ends.ensures in
    let positive : pos 0 <ℤ pos c.args.divider.now = omega (arith, lin) in
    rw e (HoldsIn-argument c.args.ua c.args.ub u (pos c.args.divider.now) positive f t)
