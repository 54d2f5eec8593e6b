use mir.Syntax.{w128}
use Rattle.std.proofs.lemmas.Int.{to_z-of_z}
use Rattle.span_models.proofs.Halvings.{left, left_kept}
use Rattle.span_models.proofs.settling.floor_shift.Goals as goal

pub returns-clause-equals : goal.returns-clause-equals
returns-clause-equals c = rw (to_z-of_z w128 c.args.z c.ranges.z) (left_kept c.args.z c.args.k c.requires.small)

pub returns-clause-small : goal.returns-clause-small
returns-clause-small c = rw (to_z-of_z w128 c.args.z c.ranges.z, left_kept c.args.z c.args.k c.requires.small) (left c.args.z c.args.k c.requires.small)
