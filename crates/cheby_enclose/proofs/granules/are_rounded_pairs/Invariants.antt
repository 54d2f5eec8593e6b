use Rattle.std.proofs.Common.{◌≡◌, map, take}
use Rattle.spec_ephemeris.specs.Rounding.{pair_of}
use Rattle.cheby_enclose.proofs.granules.are_rounded_pairs.Given as goal

-- the pairs so far are those of the coefficients so far
abbrev pub invariant-loop-k : goal.invariant-loop-k
invariant-loop-k l = take l.k l.pairs ≡ map pair_of (take l.k l.coefs)
