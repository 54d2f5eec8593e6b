use Rattle.std.proofs.Common.{[], ◌∷◌, arith, false, pos, ◌<ℤ◌, inl, inr}
use Rattle.std.proofs.lemmas.Int.{ints}
use Rattle.std.proofs.lemmas.List.Elements.{All-head}
use Rattle.spec_events.specs.declared.dir.Dir.TheVariants as D
use Rattle.spec_events.specs.Events.{IsEvent}
use Rattle.spec_events.specs.Functions.{EventsOf, Guard, GuardHolds, GuardsHold}
use Rattle.spec_events.specs.VerdictExamples.{constant_guard, line, passing}
use Rattle.spec_events.proofs.verdict_examples.a_line_has_one_event.Goals as goal

not_below : GuardsHold (constant_guard false ∷ []) passing → ⊥
not_below held =
    let below : pos 2000000000000 <ℤ pos 0 = All-head (λ (g : Guard). GuardHolds g passing) (constant_guard false) [] held in
    absurd (omega (arith, ints, below))

no_event : IsEvent (EventsOf line D.Any (constant_guard false ∷ [])) passing → ⊥
no_event (inl e) = not_below e.guarded
no_event (inr e) = not_below e.guarded

pub returns-clause-refuted : goal.returns-clause-refuted
returns-clause-refuted c = no_event
