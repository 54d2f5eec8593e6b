use Rattle.still_judge.proofs.serving.+fewest_halvings.Given as goal

abbrev pub decreases-fewest_halvings : goal.decreases-fewest_halvings
decreases-fewest_halvings l = l.most
