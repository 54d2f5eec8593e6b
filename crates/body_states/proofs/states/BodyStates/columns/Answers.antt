use Rattle.body_states.proofs.states.BodyStates.columns.Goals as goal

pub returns-clause-view : goal.returns-clause-view
returns-clause-view c = let known = rw c.self.view_is at c.self.invariant in known.0
