use Rattle.span_models.proofs.Halvings.{coarser_error_is}
use Rattle.span_models.proofs.sums.error_in_coarser_unit.Goals as goal

pub returns-else-k-eq0-clause-equals : goal.returns-else-k-eq0-clause-equals
returns-else-k-eq0-clause-equals c = coarser_error_is c.args.error c.args.k c.min.result c.requires c.min.ensures c.if-k-eq0.false
