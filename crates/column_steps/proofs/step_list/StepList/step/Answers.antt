use Rattle.column_steps.proofs.Pushed.{step_part}
use Rattle.column_steps.proofs.step_list.StepList.step.Goals as goal

pub returns-clause-part : goal.returns-clause-part
returns-clause-part c =
    let s = c.self.inside in
    let laws = c.steps_stand_for_terms.ensures in
    step_part s.sight s.count s.steps c.args.self.now c.args.place _ c.self.view_is c.self.invariant laws.count laws.each c.requires
