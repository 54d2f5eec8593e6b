use Rattle.std.proofs.Common.{rules, sym, ◌∙◌}
use Rattle.spec_kinds.specs.Faults.{fault_of}
use Rattle.event_kinds.proofs.FirstFault.{absent, same, out_of_range, none}
use Rattle.event_kinds.proofs.faults.first_fault.Goals as goal

pub returns-then-not-has_bodies : goal.returns-then-not-has_bodies
unfolding fault_of
returns-then-not-has_bodies c = absent _ _ _ (sym c.has_bodies.ensures ∙ (search rules))

pub returns-then-names_body_twice : goal.returns-then-names_body_twice
unfolding fault_of
returns-then-names_body_twice c = same _ _ _ (sym c.has_bodies.ensures ∙ (search rules)) (sym c.names_body_twice.ensures ∙ (search rules))

pub returns-then-not-are_numbers_in_range : goal.returns-then-not-are_numbers_in_range
unfolding fault_of
returns-then-not-are_numbers_in_range c = out_of_range _ _ _ (sym c.has_bodies.ensures ∙ (search rules)) (sym c.names_body_twice.ensures ∙ (search rules)) (sym c.are_numbers_in_range.ensures ∙ (search rules))

pub returns : goal.returns
unfolding fault_of
returns c = none _ _ _ (sym c.has_bodies.ensures ∙ (search rules)) (sym c.names_body_twice.ensures ∙ (search rules)) (sym c.are_numbers_in_range.ensures ∙ (search rules))
