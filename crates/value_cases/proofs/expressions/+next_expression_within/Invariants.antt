use Rattle.value_cases.proofs.expressions.+next_expression_within.Given as goal

abbrev pub decreases-next_expression_within : goal.decreases-next_expression_within
decreases-next_expression_within l = l.room
