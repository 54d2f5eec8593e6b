-- What is cut is no wider than a signed number of 64 bits holds.
use Rattle.std.proofs.Common.{ℤ, ◌-ℤ◌, arith}
use Rattle.std.proofs.lemmas.Int.{ints}
use Rattle.spec_trees.specs.Cuts.{CanCut}
use mir.Syntax.{w64}
use mir.Val.{SFits}

pub width_fits : (a b : ℤ) → CanCut a b → SFits w64 (b -ℤ a)
width_fits a b c = omega (arith, ints, c.wide, c.low, c.high)
