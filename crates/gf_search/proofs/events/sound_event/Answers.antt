use Rattle.gf_search.proofs.Outcomes.{fault_is}
use Rattle.gf_search.proofs.events.sound_event.Goals as goal

pub returns-in-Err-clause-stopped : goal.returns-in-Err-clause-stopped
returns-in-Err-clause-stopped c = λ most. fault_is most c.args.query.now c.args.ephemeris.now c.args.span c.requires.within c.in-Err.refusal c.in-Err.ensures.refused
