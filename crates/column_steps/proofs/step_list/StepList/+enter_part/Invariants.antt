use Rattle.column_steps.proofs.step_list.StepList.+enter_part.Given as goal

abbrev pub decreases-enter_part : goal.decreases-enter_part
decreases-enter_part l = goal.size-enter_part l
