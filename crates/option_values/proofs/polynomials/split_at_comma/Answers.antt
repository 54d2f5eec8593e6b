use Rattle.option_values.proofs.Numbers.{comma_found}
use Rattle.option_values.proofs.polynomials.split_at_comma.Goals as goal

pub returns : goal.returns
returns c = comma_found c.args.word.now c.split_once.result c.split_once.ensures.cases
