use Rattle.std.proofs.Common.{arith}
use Rattle.column_steps.proofs.Entered.{grows_more, grows_none}
use Rattle.column_steps.proofs.Framed.{entered_displaced}
use Rattle.column_steps.proofs.step_list.StepList.enter_displacement_if.Goals as goal

pub returns-then-wanted-clause-made : goal.returns-then-wanted-clause-made
returns-then-wanted-clause-made c = λ wanted. entered_displaced _ _ 8 _ c.args.quantity c.args.target c.args.axis c.enter_displacement.ensures

pub returns-else-wanted-clause-grown : goal.returns-else-wanted-clause-grown
returns-else-wanted-clause-grown c = grows_more _ _ 0 8 (omega arith) (grows_none _)
