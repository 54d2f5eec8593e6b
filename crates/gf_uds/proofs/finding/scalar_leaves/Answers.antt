use Rattle.gf_uds.proofs.Rules.{windows_of_result}
use Rattle.gf_uds.proofs.finding.scalar_leaves.Goals as goal

pub returns-clause-windows : goal.returns-clause-windows
returns-clause-windows g c =
    let s = c.args.judge.now.scalar in
    let r = c.requires in
    windows_of_result (g.L.Law.scalar s.law) s.first s.last c.args.judge.now.plan c.law_holds.ensures s.from s.to s.low s.high c.args.judge.now.some_width
    (λ found. found.items) c.args.root (record { from = r.from; inside = r.inside; to = r.to; depth = r.depth }) c.run_one.result c.run_one.ensures.leaves
