use Rattle.std.proofs.Common.{◌∙◌, ap, map, string_bytes}
use Rattle.clap.specs.Simple.{app_of}
use Rattle.gf_words.specs.Readings.{word_fault}
use Rattle.gf_words.proofs.Faults.{reading_is, refused_is}
use Rattle.gf_words.proofs.readings.read_words.Goals as goal

pub returns-in-Ok-clause-read : goal.returns-in-Ok-clause-read
returns-in-Ok-clause-read c =
    reading_is (app_of c.args.command) (map string_bytes c.args.words.now) c.in-Ok.matches c.requires
    c.in-Ok.ensures.matches (c.in-Ok.ensures.kinds c.requires)

pub returns-in-Err-clause-refused : goal.returns-in-Err-clause-refused
returns-in-Err-clause-refused c =
    refused_is (app_of c.args.command) (map string_bytes c.args.words.now) c.in-Err.error c.fault_of_clap_error.result
    (c.fault_of_clap_error.ensures ∙ ap word_fault c.kind.ensures) (c.in-Err.ensures.kinds c.requires)
