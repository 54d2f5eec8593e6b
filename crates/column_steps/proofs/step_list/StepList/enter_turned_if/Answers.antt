use Rattle.std.proofs.Common.{arith}
use Rattle.column_steps.proofs.Entered.{grows_more, grows_none}
use Rattle.column_steps.proofs.step_list.StepList.enter_turned_if.Goals as goal

pub returns-then-wanted-clause-grown : goal.returns-then-wanted-clause-grown
returns-then-wanted-clause-grown c =
    let given = c.requires.operands (c.if-wanted.true) in
    (c.enter_turned.ensures given.first given.second given.of_first given.of_second).grown

pub returns-then-wanted-clause-made : goal.returns-then-wanted-clause-made
returns-then-wanted-clause-made c = λ wanted p q of_y of_z. (c.enter_turned.ensures p q of_y of_z).stands

pub returns-else-wanted-clause-grown : goal.returns-else-wanted-clause-grown
returns-else-wanted-clause-grown c = grows_more _ _ 0 3 (omega arith) (grows_none _)
