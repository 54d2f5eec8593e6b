use Rattle.std.proofs.Common.{◌∙◌, sym}
use Rattle.still_judge.proofs.Fewest.{all_needed, fewer_do, none_fewer}
use Rattle.still_judge.proofs.serving.+fewest_halvings.Goals as goal

pub returns-then-are_enough_halvings-clause-fewest : goal.returns-then-are_enough_halvings-clause-fewest
returns-then-are_enough_halvings-clause-fewest t c =
    c.fewest_halvings.ensures.fewest
    ∙ fewer_do c.args.widest c.args.width c.args.most c.in-Some.fewer c.in-Some.ensures.0 c.in-Some.ensures.1 (sym c.are_enough_halvings.ensures ∙ c.if-are_enough_halvings.true)

pub returns-else-are_enough_halvings-clause-fewest : goal.returns-else-are_enough_halvings-clause-fewest
returns-else-are_enough_halvings-clause-fewest t c =
    all_needed c.args.widest c.args.width c.args.most c.in-Some.fewer c.in-Some.ensures.0 c.in-Some.ensures.1 (sym c.are_enough_halvings.ensures ∙ c.if-are_enough_halvings.false)

pub returns-in-None-clause-fewest : goal.returns-in-None-clause-fewest
returns-in-None-clause-fewest t c = none_fewer c.args.widest c.args.width c.args.most c.in-None.ensures
