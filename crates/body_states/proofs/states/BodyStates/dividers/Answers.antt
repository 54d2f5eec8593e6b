use Rattle.body_states.proofs.states.BodyStates.dividers.Goals as goal

pub returns-clause-dividers : goal.returns-clause-dividers
returns-clause-dividers c = rw (← c.self.view_is) (rw c.self.invariant.1 at c.self.invariant.4)
