use Rattle.std.proofs.Common.{◌∙◌, refl, sym, arith}
use Rattle.event_models.specs.Sums.{added_error, error_of_sum, pair_before, row_before}
use Rattle.event_models.proofs.SumCovers.{error_more, narrow_more}
use Rattle.event_models.proofs.sums.sum_error.Goals as goal

pub loop-i-init : goal.loop-i-init
unfolding error_of_sum
loop-i-init c = record { equals = refl; small = omega arith; narrow = λ k h. absurd (omega (arith, h)) }

pub loop-i-preserved : goal.loop-i-preserved
loop-i-preserved c = record {
  equals = c.error_with_product-error.ensures.equals
      ∙ (λ i. added_error (pair_before c.args.pairs.now c.loop-i.i).lo (row_before c.args.pairs.now c.args.rows.now c.loop-i.i) (c.loop-i.invariant.equals i))
      ∙ sym (error_more c.args.pairs.now c.args.rows.now c.loop-i.i);
  small = c.error_with_product-error.ensures.small;
  narrow = narrow_more c.args.pairs.now c.loop-i.i c.loop-i.invariant.narrow (c.are_ends_apart.ensures c.if-are_ends_apart.false);
}
