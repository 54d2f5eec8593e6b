-- Intervals of arguments of the worked examples, in units of 2^-60.
use Rattle.std.specs.Prelude.{◌^◌, ℤ, pos}
use Rattle.spec_numbers.specs.Numbers.{minus}
use Rattle.spec_chebyshev.specs.Rows.{ends}
use Rattle.spec_chebyshev.specs.declared.ends.Ival62.{Ival62}

-- one number
abbrev pub exactly : ℤ → Ival62
exactly z = ends z z

abbrev pub half : Ival62
half = exactly (pos (2 ^ 59))

abbrev pub minus_one_to_one : Ival62
minus_one_to_one = ends (minus (2 ^ 60)) (pos (2 ^ 60))
