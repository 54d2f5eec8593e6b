use Rattle.std.proofs.Common.{rules}
use Rattle.eph_model.specs.Quotients.{IsOf}
use Rattle.eph_model.proofs.QuickPairs.{quotient_fits}
use Rattle.eph_model.proofs.Small.{small_below}
use Rattle.eph_model.proofs.quick.rounded_pair_by_guess.Goals as goal

pub pair_of_quotient-requires-clause-small : goal.pair_of_quotient-requires-clause-small
pair_of_quotient-requires-clause-small c = quotient_fits c.args.number c.in_ok-q.q.quotient c.in_ok-q.q.left (search rules)

pub returns : goal.returns
returns c =
    let of : IsOf c.args.number c.in_ok-q.q.quotient c.in_ok-q.q.left = search rules in
    (small_below c.args.number.mant c.args.number.exp of.size of.small, c.pair_of_quotient.ensures)
