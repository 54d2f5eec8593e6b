use Rattle.steal_pool.specs.Seats.{rules_within}
use Rattle.steal_pool.proofs.running.run.Given as goal

abbrev pub ghosts-run_by_naming : goal.ghosts-run_by_naming
ghosts-run_by_naming g a = record { rules = rules_within (g.J.Judge.rules a.judge.now) a.root }
