use Rattle.std.proofs.Common.{◌∙◌, ◌+◌, ◌+ℤ◌, ◌*ℤ◌, refl, sym, arith}
use Rattle.spec_models.specs.Models.{coefficient}
use Rattle.spec_models.proofs.Coefficients.{coefficient-zeros}
use Rattle.event_models.specs.Sums.{half, number_of_sum, pair_before, row_before}
use Rattle.event_models.proofs.SumCovers.{number_more}
use Rattle.event_models.proofs.sums.half_sum.Goals as goal

pub loop-i-init : goal.loop-i-init
unfolding number_of_sum
loop-i-init c = record {
  count = refl;
  numbers = λ k below. coefficient-zeros half k;
  small = λ k below. let e = coefficient-zeros half k in rw e (omega arith);
}

pub loop-i-preserved : goal.loop-i-preserved
loop-i-preserved c = record {
  count = c.add_products.ensures.length;
  numbers = λ k below. c.add_products.ensures.numbers k below
      ∙ (λ i. c.loop-i.invariant.numbers k below i +ℤ (pair_before c.args.pairs.now c.loop-i.i).lo *ℤ coefficient (row_before c.args.pairs.now c.args.rows.now c.loop-i.i).coefficients (c.args.from_term + k))
      ∙ sym (number_more c.args.pairs.now c.args.rows.now (c.args.from_term + k) c.loop-i.i);
  small = c.add_products.ensures.small;
}
