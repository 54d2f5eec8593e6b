use Rattle.std.proofs.Common.{◌^◌, pos, ◌*ℤ◌}
use Rattle.std.proofs.lemmas.Int.{to_z-of_z}
use mir.Syntax.{w128}
use Rattle.span_models.proofs.Lifting.{one_lifted, lifted_fits, number_size, widened_number}
use Rattle.span_models.proofs.making.power_multiple.Goals as goal

pub overflow_mul-result : goal.overflow_mul-result
overflow_mul-result c = rw (one_lifted c.args.j c.requires, widened_number c.args.z c.ranges.z) (lifted_fits c.args.z c.args.j c.requires (number_size c.args.z c.ranges.z))

pub returns : goal.returns
returns c = rw (one_lifted c.args.j c.requires, widened_number c.args.z c.ranges.z) (to_z-of_z w128 (pos (2 ^ c.args.j) *ℤ c.args.z) (lifted_fits c.args.z c.args.j c.requires (number_size c.args.z c.ranges.z)))
