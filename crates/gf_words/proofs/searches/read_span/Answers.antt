use Rattle.spec_requests.proofs.LimitLemmas.{tick_is}
use Rattle.option_values.specs.Readings.{values_of}
use Rattle.gf_words.proofs.searches.read_span.Goals as goal

pub instant_option-from-requires : goal.instant_option-from-requires
instant_option-from-requires c = rw c.ticks_or_default-tick.ensures (tick_is (values_of c.args.matches.now))

pub instant_option-requires : goal.instant_option-requires
instant_option-requires c = rw c.ticks_or_default-tick.ensures (tick_is (values_of c.args.matches.now))
