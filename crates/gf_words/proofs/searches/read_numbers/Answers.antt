use Rattle.std.proofs.Common.{◌∙◌, ap}
use Rattle.spec_kinds.specs.declared.table.Use.{Use}
use Rattle.spec_requests.specs.declared.request.Named.TheVariants as opt
use Rattle.spec_requests.specs.Options.{decimal_of}
use Rattle.option_values.specs.Readings.{values_of}
use Rattle.option_values.specs.Parts.{part}
use Rattle.gf_words.specs.Parts.{numbers_of}
use Rattle.gf_words.proofs.Pairs.{along, first_bad}
use Rattle.gf_words.proofs.searches.read_numbers.Goals as goal

pub returns-in-Err : goal.returns-in-Err
returns-in-Err c =
    first_bad (numbers_of c.args.kind) c.in-Err.ensures
    (along (c.decimal_option-reference.ensures ∙ ap (λ (u : Use). part decimal_of opt.Ref u (values_of c.args.matches.now opt.Ref)) c.reference.ensures) c.read_radii.ensures)
