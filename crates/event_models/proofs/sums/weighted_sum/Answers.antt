use Rattle.std.proofs.Common.{◌≡◌, ◌∙◌, ℕ, ◌+◌, ◌-◌, ap, arith, length, subst}
use Rattle.event_models.specs.Sums.{IsSumFrom, number_of_sum}
use Rattle.event_models.proofs.SumCovers.{of_halves, sum_covers}
use Rattle.event_models.proofs.sums.weighted_sum.Goals as goal

pub returns-clause-covers : goal.returns-clause-covers
returns-clause-covers c =
    let from = c.requires.from in
    let error = c.in_ok-error.ensures in
    let same : length c.args.pairs.now - (length c.args.pairs.now - c.args.from) ≡ c.args.from = omega (arith, from) in
    subst (λ (n : ℕ). IsSumFrom c.args.pairs.now c.args.rows.now n (record { coefficients = c.joined.result; error = c.in_ok-error.error })) same
    (sum_covers c.args.pairs.now c.args.rows.now c.requires.pairs c.requires.rows (length c.args.pairs.now - c.args.from) (record { coefficients = c.joined.result; error = c.in_ok-error.error }) (omega arith) error.narrow
    (record {
      count = c.joined.ensures.count;
      numbers = of_halves (λ k z. z ≡ number_of_sum c.args.pairs.now c.args.rows.now k (length c.args.pairs.now - c.args.from)) c.joined.result c.half_sum-low.result c.half_sum-high.result c.joined.ensures.low c.joined.ensures.high
          (λ k below. let none : 0 + k ≡ k = omega arith in c.half_sum-low.ensures.numbers k below ∙ ap (λ (j : ℕ). number_of_sum c.args.pairs.now c.args.rows.now j (length c.args.pairs.now - c.args.from)) none)
          c.half_sum-high.ensures.numbers;
      error = error.equals;
    }))
