use Rattle.std.proofs.Common.{◌∙◌, ◌^◌, ◌+ℤ◌, ap, arith, w64}
use Rattle.std.proofs.lemmas.Int.{to_z-of_z}
use Rattle.spec_numbers.specs.Numbers.{floor_div}
use Rattle.spec_numbers.proofs.Floor.{capped_shift, shift_small}
use Rattle.span_models.proofs.Halvings.{two_fit, two_kept, two_wide}
use Rattle.spec_numbers.proofs.Sizes.{sum_size}
use Rattle.span_models.proofs.sums.coefficient_sum.Goals as goal

pub returns-clause-equals : goal.returns-clause-equals
returns-clause-equals c =
    let small = c.requires.a_small in
    rw (to_z-of_z w64 c.args.a c.ranges.a) (two_kept (floor_div c.args.a (2 ^ c.min.result)) c.args.b (shift_small c.args.a c.min.result (2 ^ 60) c.requires.a_small) c.requires.b_small ∙ ap (λ z. z +ℤ c.args.b) (capped_shift c.args.a c.args.k c.min.result (omega (arith, small)) c.min.ensures))

pub overflow_add-result : goal.overflow_add-result
overflow_add-result c = rw (to_z-of_z w64 c.args.a c.ranges.a) (two_fit (floor_div c.args.a (2 ^ c.min.result)) c.args.b (shift_small c.args.a c.min.result (2 ^ 60) c.requires.a_small) c.requires.b_small)

pub returns-clause-small : goal.returns-clause-small
returns-clause-small c =
    let s = shift_small c.args.a c.min.result (2 ^ 60) c.requires.a_small in
    rw (to_z-of_z w64 c.args.a c.ranges.a, two_kept (floor_div c.args.a (2 ^ c.min.result)) c.args.b s c.requires.b_small) (sum_size (floor_div c.args.a (2 ^ c.min.result)) c.args.b (2 ^ 60) (2 ^ 60) s c.requires.b_small)

pub overflow_cast-result-2 : goal.overflow_cast-result-2
overflow_cast-result-2 c = rw (to_z-of_z w64 c.args.a c.ranges.a) (two_wide (floor_div c.args.a (2 ^ c.min.result)) c.args.b (shift_small c.args.a c.min.result (2 ^ 60) c.requires.a_small) c.requires.b_small)
