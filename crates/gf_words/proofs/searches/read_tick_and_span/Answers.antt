use Rattle.gf_words.specs.Parts.{ends_of}
use Rattle.gf_words.proofs.Pairs.{along, first_bad}
use Rattle.gf_words.proofs.searches.read_tick_and_span.Goals as goal

pub returns-in-Err : goal.returns-in-Err
returns-in-Err c = first_bad ends_of c.in-Err.ensures (along c.ticks_option.ensures c.read_span.ensures)
