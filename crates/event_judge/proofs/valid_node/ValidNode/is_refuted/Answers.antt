use Rattle.std.proofs.Common.{◌≡◌, Bool, List, [], ◌∷◌, map, refl, ap, ◌||◌}
use Rattle.std.specs.List.{list_any}
use Rattle.spec_events.specs.Verdict.{is_refuted}
use Rattle.spec_searches.specs.Event.{Condition}
use Rattle.body_states.specs.Moments.{Moment}
use Rattle.spec_steps.specs.ColumnTerms.{sight_of}
use Rattle.event_judge.specs.Moments.{finding_in}
use Rattle.event_judge.proofs.Guards.{guards_at}
use Rattle.event_judge.proofs.valid_node.ValidNode.is_refuted.Goals as goal

any_map : (m : Moment) (cs : List Condition) → list_any (λ (c : Condition). is_refuted (finding_in m c)) cs ≡ list_any is_refuted (map (finding_in m) cs)
any_map m [] = refl
any_map m (c ∷ cs) = ap (λ (b : Bool). is_refuted (finding_in m c) || b) (any_map m cs)

pub is_one_refuted-requires : goal.is_one_refuted-requires
is_one_refuted-requires c = record { listed = rw (c.requires.steps, c.requires.room, c.guards.ensures, c.event.ensures) (guards_at (sight_of c.args.self.search.now.view) c.args.self.search.now.event c.args.listed.now c.requires.listed) }

pub returns-clause-refuted : goal.returns-clause-refuted
returns-clause-refuted c = rw (c.is_one_refuted.ensures.refuted, c.guards.ensures, c.event.ensures) (any_map c.args.made.now.moment c.args.self.search.now.event.conditions)
