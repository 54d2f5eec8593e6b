use Rattle.std.proofs.Common.{◌∙◌, ap, refl, sym, w64}
use Rattle.std.proofs.lemmas.Int.{to_z-of_z}
use Rattle.spec_steps.specs.ColumnTerms.{sight_of}
use Rattle.event_judge.proofs.Bounds.{bound_by}
use Rattle.event_judge.proofs.event_search.EventSearch.function_bound.Goals as goal

pub bound_over-requires-clause-sight : goal.bound_over-requires-clause-sight
bound_over-requires-clause-sight c = c.function_step.ensures.seen ∙ ap sight_of (sym c.states.ensures)

pub returns : goal.returns
returns c =
    bound_by c.args.self.now.view c.states.result.now _ _ _ c.args.self.now.event.function c.args.a c.args.b _ _ c.bound_over.result c.states.ensures refl
    (to_z-of_z w64 c.args.a c.ranges.a) (to_z-of_z w64 c.args.b c.ranges.b) c.function_step.ensures.made c.bound_over.ensures.range c.bound_over.ensures.step
