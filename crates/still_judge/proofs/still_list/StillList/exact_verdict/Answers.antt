use Rattle.std.proofs.Common.{sym}
use Rattle.still_judge.proofs.still_list.StillList.exact_verdict.Goals as goal

pub returns-then-clears_node : goal.returns-then-clears_node
returns-then-clears_node c = sym (c.clears_node.ensures c.args.search.now c.requires.still c.requires.valid c.if-clears_node.true)
