-- Times of dates are within bounds.
use Rattle.std.proofs.Common.{◌≡◌, Result, Ok, Err, subst, sym, ℤ}
use Rattle.std.specs.Prelude.{IfOk}
use Rattle.spec_text.specs.declared.decimals.Decimal.{Decimal}
use Rattle.spec_ephemeris.specs.Ephemeris.{IsStart}
use Rattle.spec_files.specs.declared.rules.BrokenRule.{BrokenRule}
use Rattle.spec_files.proofs.Holding.{Holds}
use Rattle.spec_files.specs.BlockRules.{time_of}
use Rattle.spec_files.proofs.Blocks.{time_holds}

of_held : (r : Result ℤ BrokenRule) → Holds IsStart r → IfOk r IsStart
of_held (Ok t) holds = holds
of_held (Err b) holds = tt

pub time_is_start : (d : Decimal) (r : Result ℤ BrokenRule) → r ≡ time_of d → IfOk r IsStart
time_is_start d r is = of_held r (subst (Holds IsStart) (sym is) (time_holds d))
