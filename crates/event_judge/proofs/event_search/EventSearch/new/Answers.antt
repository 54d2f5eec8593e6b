use Rattle.std.proofs.Common.{rules, subst}
use Rattle.spec_steps.specs.declared.sights.Sight.{Sight}
use Rattle.event_judge.specs.Listed.{AreStepsOf}
use Rattle.event_judge.proofs.event_search.EventSearch.new.Goals as goal

pub invariant_of-result : goal.invariant_of-result
invariant_of-result c = (c.requires.ephemeris, search rules, subst (λ (x : Sight). AreStepsOf x c.args.event c.new-listed.result) c.sight.ensures c.new-listed.ensures)
