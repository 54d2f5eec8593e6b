use Rattle.std.proofs.Common.{arith, ◌≡◌, pos, subst, unsigned_abs}
use Rattle.std.proofs.lemmas.Int.{ints, to_z-of_z}
use Rattle.spec_chebyshev.specs.Rows.{HoldsIn}
use Rattle.cheby_laws.proofs.arguments.argument.Goals as goal

pub returns-clause-holds : goal.returns-clause-holds
returns-clause-holds c u f t =
    let a = c.ranges.ua in
    let b = c.ranges.ub in
    let l = c.ranges.seconds in
    let g : c.of.result ≡ unsigned_abs c.args.seconds = simp to_z-of_z at c.of.ensures in
    let d : pos c.of.result ≡ c.args.seconds = omega (arith, ints) in
    let h = simp to_z-of_z at c.argument_by.ensures.holds in
    subst (λ z. HoldsIn 60 c.argument_by.result u z) d (h u f t)
