use Rattle.spec_steps.specs.ColumnTerms.{of_leaf}
use Rattle.column_steps.specs.Listed.{Stands}
use Rattle.column_steps.proofs.Framed.{leaf_entry}
use Rattle.column_steps.proofs.coordinate_steps.CoordinateSteps.new.Goals as goal

pub invariant_of-result : goal.invariant_of-result
invariant_of-result c =
    let places = c.enter_leaves-places.ensures in
    let l = c.enter_leaves-places.new.self in
    λ leaf is. leaf_entry (λ own k. Stands l k (of_leaf l.sight own)) c.all_coordinates.result _ places.first_position places.second_position places.first_velocity places.second_velocity leaf is (c.all_coordinates.ensures leaf is)
