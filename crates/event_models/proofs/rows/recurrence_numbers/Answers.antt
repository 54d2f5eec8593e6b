use Rattle.std.proofs.Common.{◌≡◌, ◌∙◌, arith, pos}
use Rattle.std.proofs.lemmas.List.{length-set}
use Rattle.event_models.specs.Rows.{step_number}
use Rattle.event_models.proofs.Entries.{one_more}
use Rattle.event_models.proofs.Steps.{kept58}
use Rattle.event_models.proofs.rows.recurrence_numbers.Goals as goal

pub loop-k-preserved : goal.loop-k-preserved
loop-k-preserved c =
    let below = c.loop-k-test.true in
    let count = c.loop-k.invariant.count in
    record {
      count = length-set c.loop-k.numbers c.loop-k.k _ ∙ count;
      numbers = one_more (pos 0) (λ j z. z ≡ step_number c.args.line.now c.args.last.now.coefficients c.args.before.now.coefficients j) c.loop-k.k c.loop-k.numbers _ (omega (arith, below, count)) c.loop-k.invariant.numbers
          (kept58 c.recurrence_number.result c.recurrence_number.ensures.small ∙ c.recurrence_number.ensures.equals);
    }
