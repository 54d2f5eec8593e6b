use Rattle.option_values.specs.Readings.{values_of}
use Rattle.gf_words.proofs.Filling.{text_found, word_bad}
use Rattle.gf_words.proofs.texts.generated_request.Goals as goal

pub returns-in-Ok : goal.returns-in-Ok
returns-in-Ok c = text_found (values_of c.args.matches.now) c.in-Ok.request c.in-Ok.ensures

pub returns-in-Err : goal.returns-in-Err
returns-in-Err c = word_bad (values_of c.args.matches.now) c.in-Err.option c.in-Err.ensures
