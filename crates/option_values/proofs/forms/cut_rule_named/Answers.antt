use Rattle.spec_requests.specs.Names.{cut_of}
use Rattle.option_values.proofs.forms.cut_rule_named.Goals as goal

pub returns : goal.returns
unfolding cut_of
returns c = c.value_named.ensures
