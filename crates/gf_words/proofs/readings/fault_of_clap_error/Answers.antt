use Rattle.gf_words.proofs.Faults.{words_fault}
use Rattle.gf_words.proofs.readings.fault_of_clap_error.Goals as goal

pub returns-in_default : goal.returns-in_default
returns-in_default c = words_fault c.args.kind c.in_default.not-OutOfMemory
