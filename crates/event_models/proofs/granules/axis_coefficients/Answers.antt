use Rattle.std.proofs.Common.{◌≡◌, ◌+◌, ◌-◌, ◌*◌, ◌∙◌, ap, arith, map, take, drop}
use Rattle.spec_motions.specs.Pairs.{term_of}
use Rattle.spec_motions.proofs.Pairs.{ArePairs-axis, terms_of_axis}
use Rattle.event_models.proofs.granules.axis_coefficients.Goals as goal

pub returns-clause-pairs : goal.returns-clause-pairs
returns-clause-pairs c =
    let g = c.args.granule.now in
    let from = c.args.axis * g.n in
    let e : from + g.n - from ≡ g.n = omega arith in
    rw e (ArePairs-axis g.coefs.now g.rounded.now from g.n c.requires.granule.few c.requires.granule.bodies c.requires.granule.pairs)

pub returns-clause-terms : goal.returns-clause-terms
returns-clause-terms c =
    let g = c.args.granule.now in
    let from = c.args.axis * g.n in
    let e : from + g.n - from ≡ g.n = omega arith in
    ap (λ n. map term_of (take n (drop from g.rounded.now))) e
    ∙ terms_of_axis g.coefs.now g.rounded.now from g.n c.requires.granule.pairs
