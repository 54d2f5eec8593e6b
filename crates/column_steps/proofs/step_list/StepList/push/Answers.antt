use Rattle.std.proofs.Common.{subst, sym, take}
use Rattle.column_steps.specs.Listed.{CanEnter, Listed}
use Rattle.column_steps.proofs.Pushed.{pushed}
use Rattle.column_steps.proofs.step_list.StepList.push.Goals as goal

pub invariant_of-self : goal.invariant_of-self
invariant_of-self c =
    let s = c.self.inside in
    let ss = take s.count s.steps in
    let can = subst (λ (l : Listed). CanEnter l c.args.step) (sym c.self.view_is) c.requires.step in
    pushed s.sight s.count s.steps c.args.step c.args.self.now (sym c.self.view_is) c.self.invariant c.requires.room
    (c.one_step_more.ensures.made ss c.args.step c.self.invariant.2 can.operands)
    (c.one_step_more.ensures.parts s.sight ss c.args.step c.self.invariant.3 can.part)
