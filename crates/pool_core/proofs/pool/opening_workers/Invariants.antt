use Rattle.std.proofs.Common.{◌≡◌, ◌-◌, ◌∷◌, [], Some, replicate}
use Rattle.pool_core.specs.States.{holding, nothing}
use Rattle.pool_core.proofs.pool.opening_workers.Given as goal

abbrev pub invariant-loop : goal.invariant-loop
invariant-loop l = l.made.items ≡ holding (Some l.fn.root) [] [] ∷ replicate (l.counter - 1) nothing
