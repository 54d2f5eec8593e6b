use Rattle.steal_pool.proofs.Returning.{cover_ok}
use Rattle.steal_pool.proofs.running.run.Goals as goal

pub returns-clause-cover : goal.returns-clause-cover
returns-clause-cover g c = cover_ok (g.J.Judge.rules c.args.judge.now) c.args.root c.rules_are_sound.ensures c.requires.valid c.run_by_naming.result c.run_by_naming.ensures.leaves
