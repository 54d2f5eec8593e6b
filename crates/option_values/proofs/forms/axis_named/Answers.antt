use Rattle.spec_requests.specs.Names.{axis_of}
use Rattle.option_values.proofs.forms.axis_named.Goals as goal

pub returns : goal.returns
unfolding axis_of
returns c = c.value_named.ensures
