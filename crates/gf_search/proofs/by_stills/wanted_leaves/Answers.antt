use Rattle.gf_search.proofs.by_stills.wanted_leaves.Goals as goal

pub returns-then-is_empty-clause-found : goal.returns-then-is_empty-clause-found
returns-then-is_empty-clause-found g c = c.tree_leaves.ensures.found c.args.wanted
