use Rattle.spec_requests.specs.Names.{tick_of_word}
use Rattle.option_values.proofs.forms.ticks_named.Goals as goal

pub returns : goal.returns
unfolding tick_of_word
returns c = c.value_named.ensures
