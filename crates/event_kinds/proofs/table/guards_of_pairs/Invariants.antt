use Rattle.std.proofs.Common.{◌≡◌, map}
use Rattle.occult_spheres.specs.Guards.{condition_of}
use Rattle.event_kinds.proofs.table.guards_of_pairs.Given as goal

abbrev pub invariant-loop-g : goal.invariant-loop-g
invariant-loop-g l = l.guards.items ≡ map condition_of l.yielded
