use Rattle.std.proofs.Common.{rules}
use Rattle.eph_model.proofs.QuickPairs.{near}
use Rattle.eph_model.proofs.quick.quotient_by_guess.Goals as goal

pub returns : goal.returns
returns c =
    near c.args.size c.args.places _ _ _ c.check_guess.result c.unit_numerator.ensures c.unit_denominator.ensures
    (search rules) c.check_guess.ensures.parts c.check_guess.ensures.less
