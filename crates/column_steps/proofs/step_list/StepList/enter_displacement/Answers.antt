use Rattle.std.proofs.Common.{◌≡◌, ◌∙◌, ap, arith, subst}
use Rattle.spec_bodies.specs.declared.source.Source.{Source}
use Rattle.spec_bodies.specs.declared.source.Source.TheVariants.{OwnColumn, EarthOfPair, MoonOfPair, Origin}
use Rattle.spec_bodies.specs.Coordinates.{displacement}
use Rattle.spec_steps.specs.Parts.{IsSeen}
use Rattle.spec_steps.proofs.Parts.{displacement_seen}
use Rattle.column_steps.specs.Listed.{Listed}
use Rattle.column_steps.specs.Places.{displacement_of}
use Rattle.column_steps.proofs.Apart.{column_apart, entered_as, few_steps, origin_apart, told_apart}
use Rattle.column_steps.proofs.Entered.{enters_more}
use Rattle.column_steps.proofs.step_list.StepList.enter_displacement.Goals as goal
use Rattle.column_steps.proofs.step_list.StepList.enter_displacement.Goals.{After-source_of-source}

-- what is seen is the source from the observer, and may stand in the list
same : (c : After-source_of-source) (observer : Source) → c.self.inside.sight.observer ≡ observer → displacement_of c.args.self.now.sight c.args.target c.args.axis ≡ displacement c.source_of-source.result observer c.args.axis
same c observer is = told_apart c.args.self.now c.self.inside.sight (ap (λ (m : Listed). m.sight) c.self.view_is) c.args.target c.args.axis c.source_of-source.result observer c.source_of-source.ensures is

seen : (c : After-source_of-source) (observer : Source) → c.self.inside.sight.observer ≡ observer → IsSeen c.args.self.now.sight (displacement c.source_of-source.result observer c.args.axis)
seen c observer is = subst (IsSeen c.args.self.now.sight) (same c observer is) (displacement_seen c.args.self.now.sight c.args.target c.args.axis c.requires.axis)

pub enter_difference-requires-clause-few : goal.enter_difference-requires-clause-few
enter_difference-requires-clause-few c = let few = few_steps c.source_of-source.result in omega (arith, few)

pub enter_difference-requires-clause-seen : goal.enter_difference-requires-clause-seen
enter_difference-requires-clause-seen c =
    let d = (goal.at.enter_difference-requires-clause-seen c).After-source_of-source in
    subst (IsSeen c.args.self.now.sight) (column_apart c.source_of-source.result c.in-OwnColumn.number c.args.axis) (seen d (OwnColumn c.in-OwnColumn.number) c.in-OwnColumn.is)

pub enter_displacement_from_earth-requires-clause-seen : goal.enter_displacement_from_earth-requires-clause-seen
enter_displacement_from_earth-requires-clause-seen c = seen (goal.at.enter_displacement_from_earth-requires-clause-seen c).After-source_of-source EarthOfPair c.in-EarthOfPair.is

pub enter_displacement_from_moon-requires-clause-seen : goal.enter_displacement_from_moon-requires-clause-seen
enter_displacement_from_moon-requires-clause-seen c = seen (goal.at.enter_displacement_from_moon-requires-clause-seen c).After-source_of-source MoonOfPair c.in-MoonOfPair.is

pub enter_barycentric-requires-clause-room : goal.enter_barycentric-requires-clause-room
enter_barycentric-requires-clause-room c = let few = few_steps c.source_of-source.result in let room = c.requires.room in omega (arith, few, room)

pub enter_barycentric-requires-clause-seen : goal.enter_barycentric-requires-clause-seen
enter_barycentric-requires-clause-seen c =
    let d = (goal.at.enter_barycentric-requires-clause-seen c).After-source_of-source in
    subst (IsSeen c.args.self.now.sight) (origin_apart c.source_of-source.result c.args.axis) (seen d Origin c.in-Origin.is)

pub returns-in-OwnColumn : goal.returns-in-OwnColumn
returns-in-OwnColumn c =
    let told = same (goal.at.returns-in-OwnColumn c).After-source_of-source (OwnColumn c.in-OwnColumn.number) c.in-OwnColumn.is in
    entered_as _ _ 8 _ c.args.quantity _ _ (told ∙ column_apart c.source_of-source.result c.in-OwnColumn.number c.args.axis) c.enter_difference.ensures

pub returns-in-EarthOfPair : goal.returns-in-EarthOfPair
returns-in-EarthOfPair c = entered_as _ _ 8 _ c.args.quantity _ _ (same (goal.at.returns-in-EarthOfPair c).After-source_of-source EarthOfPair c.in-EarthOfPair.is) c.enter_displacement_from_earth.ensures

pub returns-in-MoonOfPair : goal.returns-in-MoonOfPair
returns-in-MoonOfPair c = entered_as _ _ 8 _ c.args.quantity _ _ (same (goal.at.returns-in-MoonOfPair c).After-source_of-source MoonOfPair c.in-MoonOfPair.is) c.enter_displacement_from_moon.ensures

pub returns-in-Origin : goal.returns-in-Origin
returns-in-Origin c =
    let told = same (goal.at.returns-in-Origin c).After-source_of-source Origin c.in-Origin.is in
    let few = few_steps c.source_of-source.result in
    entered_as _ _ 8 _ c.args.quantity _ _ (told ∙ origin_apart c.source_of-source.result c.args.axis) (enters_more _ _ _ 8 _ _ (omega (arith, few)) c.enter_barycentric.ensures)
