use Rattle.std.proofs.Common.{◌≡◌, ◌∙◌, ◌^◌, arith, sym, ap, length}
use Rattle.std.proofs.lemmas.List.{length-map}
use Rattle.spec_motions.specs.Pairs.{term_of}
use Rattle.cheby_enclose.specs.ProductSizes.{IsSummable}
use Rattle.cheby_enclose.proofs.ProductSums.{IsSummable-small}
use Rattle.cheby_enclose.proofs.sums.row_sum.Goals as goal
use Rattle.cheby_enclose.proofs.sums.row_sum.Goals.{After-terms}

summable : (c : After-terms) → IsSummable (2 ^ 125) c.args.row.now (length c.terms.inside.pairs.now)
summable c =
    let count : length c.args.terms.now ≡ length c.terms.inside.pairs.now = ap length (sym c.terms.view_is) ∙ length-map c.terms.inside.pairs.now term_of in
    IsSummable-small c.args.row.now (length c.terms.inside.pairs.now) c.terms.invariant.few (rw count at c.requires.small c.terms.invariant.few)

pub sum_of_products-requires-clause-row : goal.sum_of_products-requires-clause-row
sum_of_products-requires-clause-row c = summable (goal.at.sum_of_products-requires-clause-row c).After-terms

pub returns-clause-lo_size : goal.returns-clause-lo_size
returns-clause-lo_size c =
    let t = (summable (goal.at.returns-clause-lo_size c).After-terms).total in
    let p = c.sum_of_products.ensures.lo_size in
    omega (arith, t, p)

pub returns-clause-hi_size : goal.returns-clause-hi_size
returns-clause-hi_size c =
    let t = (summable (goal.at.returns-clause-hi_size c).After-terms).total in
    let p = c.sum_of_products.ensures.hi_size in
    omega (arith, t, p)
