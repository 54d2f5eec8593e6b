use Rattle.std.proofs.Common.{◌∙◌, ap}
use Rattle.std.specs.Result.{result_ok}
use Rattle.spec_requests.specs.Options.{instant_of}
use Rattle.option_values.proofs.forms.read_instant.Goals as goal

pub returns : goal.returns
unfolding instant_of
returns c = c.ok.ensures.value ∙ ap result_ok c.read_time.ensures ∙ ap (instant_of c.args.tick) c.as_bytes.ensures.value
