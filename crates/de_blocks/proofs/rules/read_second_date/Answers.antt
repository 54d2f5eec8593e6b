use Rattle.std.proofs.Common.{rules}
use Rattle.std.proofs.lemmas.Result.{err_from_is_err_and}
use Rattle.de_blocks.proofs.Pushing.{second_refused}
use Rattle.de_blocks.proofs.rules.read_second_date.Goals as goal

pub returns-in_err-check_succession-clause-rule : goal.returns-in_err-check_succession-clause-rule
returns-in_err-check_succession-clause-rule c = λ first is.
    let given = err_from_is_err_and c.from_residual-in_err-check_succession.result c.from_residual-in_err-check_succession.ensures.1 in
    rw (given.1, given.2)
    (second_refused c.args.before.now.accepted first c.args.date c.args.start c.in_ok-end.end _ is (search rules) (search rules) (search rules))
