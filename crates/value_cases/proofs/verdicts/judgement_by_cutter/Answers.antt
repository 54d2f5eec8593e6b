use Rattle.std.proofs.Common.{◌≡◌, ◌∙◌, ◌≤◌, ◌≤ℤ◌, ℕ, sym, ap, subst}
use Rattle.spec_ephemeris.specs.Ephemeris.{Ephemeris, end_of}
use Rattle.spec_searches.specs.Search.{Search}
use Rattle.value_cases.proofs.verdicts.judgement_by_cutter.Goals as goal

pub judgement_on-requires-after_bounds : goal.judgement_on-requires-after_bounds
judgement_on-requires-after_bounds g c κs =
    let n = c.args.node in
    let same : c.new-judge.result.search.view.ephemeris ≡ c.args.ephemeris.now = ap (λ (s : Search). s.view.ephemeris) c.new-judge.ensures ∙ c.in_ok-states.ensures in
    let deep : c.new-judge.result.search.depth ≡ c.args.splitting.depth = ap (λ (s : Search). s.depth) c.new-judge.ensures in
    record {
      from = subst (λ (e : Ephemeris). e.start ≤ℤ n.a) (sym same) c.requires.node.from;
      inside = c.requires.node.inside;
      to = subst (λ (e : Ephemeris). n.b ≤ℤ end_of e) (sym same) c.requires.node.to;
      depth = subst (λ (k : ℕ). n.depth ≤ k) (sym deep) c.requires.node.depth;
    }
