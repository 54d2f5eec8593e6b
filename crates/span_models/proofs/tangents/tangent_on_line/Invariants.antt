use Rattle.std.proofs.Common.{◌≡◌, ◌-◌, drop}
use Rattle.span_models.specs.Sizes.{terms}
use Rattle.span_models.specs.Tangents.{tangent}
use Rattle.span_models.proofs.tangents.tangent_on_line.Given as goal

abbrev pub invariant-loop-i : goal.invariant-loop-i
invariant-loop-i l = record { known : l.known ≡ tangent l.line (drop (terms - l.i) l.a) }
