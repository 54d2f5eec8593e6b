use Rattle.std.proofs.Common.{◌≡◌, ◌∙◌, ◌<◌, ◌≤◌, ◌*ℤ◌, pos, length, arith, unsigned_abs}
use Rattle.std.proofs.lemmas.List.{length-set}
use Rattle.spec_models.specs.Models.{coefficient}
use Rattle.event_models.specs.Rows.{sum_limit}
use Rattle.event_models.proofs.Entries.{one_more}
use Rattle.event_models.proofs.Steps.{kept60, number_kept}
use Rattle.event_models.proofs.multiples.coefficient_multiples.Goals as goal

pub loop-j-preserved : goal.loop-j-preserved
loop-j-preserved c =
    let below = c.loop-j-test.true in
    let count = c.loop-j.invariant.count in
    let place : c.loop-j.j < length c.loop-j.numbers = omega (arith, below, count) in
    let made = kept60 c.coefficient_multiple.result c.coefficient_multiple.ensures.small in
    let own = number_kept c.args.coefficients.now c.loop-j.j c.requires.numbers below in
    record {
      count = length-set c.loop-j.numbers c.loop-j.j _ ∙ count;
      numbers = one_more (pos 0) (λ j z. z ≡ pos c.args.k *ℤ coefficient c.args.coefficients.now j) c.loop-j.j c.loop-j.numbers _ place c.loop-j.invariant.numbers
          (made ∙ c.coefficient_multiple.ensures.equals ∙ (λ i. pos c.args.k *ℤ own i));
      small = one_more (pos 0) (λ j z. unsigned_abs z ≤ sum_limit) c.loop-j.j c.loop-j.numbers _ place c.loop-j.invariant.small (rw made c.coefficient_multiple.ensures.small);
    }
