use Rattle.column_steps.proofs.step_list.StepList.+value.Given as goal

abbrev pub decreases-value : goal.decreases-value
decreases-value g l = l.place
