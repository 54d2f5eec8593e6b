use Rattle.spec_requests.specs.Names.{command_of}
use Rattle.option_values.proofs.forms.command_named.Goals as goal

pub returns : goal.returns
unfolding command_of
returns c = c.value_named.ensures
