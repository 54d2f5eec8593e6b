-- The polynomial that is searched is the one that is asked for.
use Rattle.std.proofs.Common.{◌≡◌, Bool, true, false, None, Some}
use Rattle.std.specs.Prelude.{if◌then◌else◌}
use Rattle.spec_scalars.specs.Quads.{Quadratic}

pub taken : (small : Bool) (k found : Quadratic) → (if small then Some k else None) ≡ Some found → found ≡ k
taken true k found is = cc
taken false k found is = absurd (cc)
