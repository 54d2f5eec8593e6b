use Rattle.std.proofs.Common.{sym, subst}
use Rattle.std.specs.Prelude.{IfOk}
use Rattle.gf_search.specs.declared.wanted.Wanted.{Wanted}
use Rattle.gf_search.specs.Wanted.{AreWanted}
use Rattle.gf_search.proofs.by_stills.leaves_by_stills.Goals as goal

pub returns-in-Leaves-clause-found : goal.returns-in-Leaves-clause-found
returns-in-Leaves-clause-found g c = c.tree_leaves.ensures.found c.args.wanted

pub returns-in-Windows-clause-found : goal.returns-in-Windows-clause-found
returns-in-Windows-clause-found g c =
    subst (λ (w : Wanted). IfOk c.leaves_with_windows.result (λ found. AreWanted w c.args.most c.args.tree.now.search.now c.args.tree.now.root found.items)) (sym c.in-Windows.is) c.leaves_with_windows.ensures.windows

pub returns-in-Signs-clause-found : goal.returns-in-Signs-clause-found
returns-in-Signs-clause-found g c =
    subst (λ (w : Wanted). IfOk c.leaves_with_signs.result (λ found. AreWanted w c.args.most c.args.tree.now.search.now c.args.tree.now.root found.items)) (sym c.in-Signs.is) c.leaves_with_signs.ensures.signs
