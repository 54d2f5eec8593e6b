use Rattle.spec_requests.specs.Names.{observer_of}
use Rattle.option_values.proofs.forms.body_named.Goals as goal

pub returns : goal.returns
unfolding observer_of
returns c = c.value_named.ensures
