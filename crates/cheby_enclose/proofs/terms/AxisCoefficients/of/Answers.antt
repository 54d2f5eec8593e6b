use Rattle.std.proofs.Common.{◌≡◌, ◌+◌, ◌-◌, ◌*◌, ◌∙◌, ap, arith, map, take, drop}
use Rattle.std.proofs.lemmas.List.{length-map}
use Rattle.spec_ephemeris.specs.Granules.{series_of}
use Rattle.spec_motions.specs.Sums.{coefficient}
use Rattle.spec_motions.proofs.GranuleSeries.{series_length}
use Rattle.spec_motions.specs.Pairs.{term_of}
use Rattle.spec_motions.proofs.Pairs.{ArePairs-axis, terms_of_axis}
use Rattle.cheby_enclose.proofs.terms.AxisCoefficients.of.Goals as goal
use Rattle.cheby_enclose.proofs.terms.AxisCoefficients.of.Goals.{Start}

-- the pairs that are read are those of the axis
terms_are : (c : Start) → let from = c.args.axis * c.args.g.now.n in
    map term_of (take (from + c.args.g.now.n - from) (drop from c.args.g.now.rounded.now)) ≡ map coefficient (series_of c.args.g.now c.args.axis).coefficients
terms_are c =
    let from = c.args.axis * c.args.g.now.n in
    let e : from + c.args.g.now.n - from ≡ c.args.g.now.n = omega arith in
    ap (λ n. map term_of (take n (drop from c.args.g.now.rounded.now))) e
    ∙ terms_of_axis c.args.g.now.coefs.now c.args.g.now.rounded.now from c.args.g.now.n c.requires.granule.pairs

pub of_pairs-requires : goal.of_pairs-requires
of_pairs-requires c =
    let from = c.args.axis * c.args.g.now.n in
    let e : from + c.args.g.now.n - from ≡ c.args.g.now.n = omega arith in
    rw e (ArePairs-axis c.args.g.now.coefs.now c.args.g.now.rounded.now from c.args.g.now.n c.requires.granule.few c.requires.granule.bodies c.requires.granule.pairs)

pub returns-clause-terms : goal.returns-clause-terms
returns-clause-terms c = c.of_pairs.ensures ∙ terms_are (goal.at.returns-clause-terms c).Start

pub returns-clause-count : goal.returns-clause-count
returns-clause-count c =
    rw (c.of_pairs.ensures, terms_are (goal.at.returns-clause-count c).Start)
    (length-map (series_of c.args.g.now c.args.axis).coefficients coefficient ∙ series_length c.args.g.now c.requires.granule c.args.axis c.requires.axis)
