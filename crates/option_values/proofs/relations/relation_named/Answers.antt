use Rattle.spec_requests.specs.Names.{relation_of}
use Rattle.option_values.proofs.relations.relation_named.Goals as goal

pub returns : goal.returns
unfolding relation_of
returns c = c.value_named.ensures
