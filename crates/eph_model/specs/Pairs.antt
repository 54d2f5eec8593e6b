-- The pairs that are kept beside the numbers of an ephemeris.
use Rattle.std.specs.Prelude.{◌≡◌, List, [], ◌∷◌}
use Rattle.spec_text.specs.declared.decimals.Decimal.{Decimal}
use Rattle.spec_intervals.specs.Interval.{IsDistance}
use Rattle.spec_ephemeris.specs.declared.granule.Rounded.{Rounded}
use Rattle.spec_ephemeris.specs.Rounding.{pair_of}

-- where a number can be one of a body, this is its pair
abbrev pub IsPair : Decimal → Rounded → Type 0
IsPair d p = IsDistance d.mant d.exp → p ≡ pair_of d

-- one pair for each number, in their order
abbrev pub ArePairs : List Decimal → List Rounded → Type 0
ArePairs [] [] = Unit {0}
ArePairs [] (p ∷ ps) = ⊥
ArePairs (d ∷ ds) [] = ⊥
ArePairs (d ∷ ds) (p ∷ ps) = IsPair d p × ArePairs ds ps

-- the first of these numbers have these pairs, one each
abbrev pub BeginWithPairs : List Decimal → List Rounded → Type 0
BeginWithPairs [] [] = Unit {0}
BeginWithPairs [] (p ∷ ps) = ⊥
BeginWithPairs (d ∷ ds) [] = Unit {0}
BeginWithPairs (d ∷ ds) (p ∷ ps) = IsPair d p × BeginWithPairs ds ps
