use Rattle.spec_requests.specs.Names.{dir_of}
use Rattle.option_values.proofs.forms.direction_named.Goals as goal

pub returns : goal.returns
unfolding dir_of
returns c = c.value_named.ensures
