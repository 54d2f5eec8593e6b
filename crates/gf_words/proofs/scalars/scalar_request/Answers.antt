use Rattle.std.proofs.Common.{◌∙◌, Ok, ap, inr, sym}
use Rattle.spec_requests.specs.declared.request.Request.TheVariants.{Scalar}
use Rattle.spec_requests.specs.declared.request.ScalarAsk.{ScalarAsk}
use Rattle.option_values.specs.Readings.{values_of}
use Rattle.gf_words.proofs.Filling.{scalar_bad, scalar_found}
use Rattle.gf_words.proofs.scalars.scalar_request.Goals as goal

pub scalar_of_options-requires : goal.scalar_of_options-requires
scalar_of_options-requires c = (scalar_found (values_of c.args.matches.now) c.in-Ok.options c.in-Ok.ensures).0

pub returns-in-Ok-scalar_of_options : goal.returns-in-Ok-scalar_of_options
returns-in-Ok-scalar_of_options c =
    (scalar_found (values_of c.args.matches.now) c.in-Ok.options c.in-Ok.ensures).1
    ∙ ap (λ (ask : ScalarAsk). Ok (Scalar ask)) (sym c.in-Ok-scalar_of_options.ensures)

pub returns-in-Err : goal.returns-in-Err
returns-in-Err c = inr (scalar_bad (values_of c.args.matches.now) c.in-Err.option c.in-Err.ensures)
