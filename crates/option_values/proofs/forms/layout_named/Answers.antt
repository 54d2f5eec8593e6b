use Rattle.spec_requests.specs.Names.{layout_of}
use Rattle.option_values.proofs.forms.layout_named.Goals as goal

pub returns : goal.returns
unfolding layout_of
returns c = c.value_named.ensures
