use Rattle.spec_requests.specs.Names.{frame_of}
use Rattle.option_values.proofs.forms.frame_named.Goals as goal

pub returns : goal.returns
unfolding frame_of
returns c = c.value_named.ensures
