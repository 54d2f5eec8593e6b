use Rattle.std.proofs.Common.{◌∙◌, ap}
use Rattle.std.specs.Result.{result_ok}
use Rattle.spec_requests.specs.Options.{decimal_of}
use Rattle.option_values.proofs.forms.read_exact_decimal.Goals as goal

pub returns : goal.returns
unfolding decimal_of
returns c = c.ok.ensures.value ∙ ap result_ok c.read_decimal.ensures.reading ∙ ap decimal_of c.as_bytes.ensures.value
