use Rattle.spec_trees.specs.declared.book.Book.{Book}
use Rattle.spec_trees.specs.Order.{ordered_leaves}
use Rattle.gf_uds.proofs.Rules.{windows_of_result}
use Rattle.gf_uds.proofs.finding.find_scalar.Goals as goal

pub returns-clause-windows : goal.returns-clause-windows
returns-clause-windows g c =
    let s = c.args.judge.now.scalar in
    let r = c.requires in
    windows_of_result (g.L.Law.scalar s.law) s.first s.last c.args.judge.now.plan c.law_holds.ensures s.from s.to s.low s.high c.args.judge.now.some_width
    (λ (book : Book). ordered_leaves book.entries.items) c.args.root (record { from = r.from; inside = r.inside; to = r.to; depth = r.depth }) c.run.result c.run.ensures.leaves
