use Rattle.std.proofs.Common.{sym}
use Rattle.std.proofs.lemmas.List.Folds.{list_all-map}
use Rattle.spec_events.specs.Verdict.{is_certified}
use Rattle.spec_steps.specs.ColumnTerms.{sight_of}
use Rattle.event_judge.specs.Moments.{finding_in}
use Rattle.event_judge.proofs.Guards.{guards_at}
use Rattle.event_judge.proofs.valid_node.ValidNode.is_certified.Goals as goal

pub are_certified-requires : goal.are_certified-requires
are_certified-requires c = record { listed = rw (c.requires.steps, c.requires.room, c.guards.ensures, c.event.ensures) (guards_at (sight_of c.args.self.search.now.view) c.args.self.search.now.event c.args.listed.now c.requires.listed) }

pub returns-clause-certified : goal.returns-clause-certified
returns-clause-certified c = rw (c.are_certified.ensures.certified, c.guards.ensures, c.event.ensures) (sym (list_all-map is_certified (finding_in c.args.made.now.moment) c.args.self.search.now.event.conditions))
