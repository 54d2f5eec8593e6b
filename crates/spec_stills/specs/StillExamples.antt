-- Short names for worked values.
use Rattle.std.specs.Prelude.{List, [], ◌∷◌, pos}
use Rattle.spec_intervals.specs.declared.signs.Sign.TheVariants.{No, Yes}
use Rattle.spec_trees.specs.declared.cuts.CutRule.{CutRule}
use Rattle.spec_searches.specs.Search.{Search}
use Rattle.spec_stills.specs.declared.still.StillSpan.{StillSpan}

-- a search by a rule, for nodes that are split down to a width of 2 ticks and a depth of 40
abbrev pub cutting : CutRule → Search → Search
cutting rule s = record s { width = 2; depth = 40; cut = rule }

-- 64 ticks, in which nodes of 3 ticks are clear after three halvings at most
abbrev pub early : StillSpan
early = record { from = pos 0; upto = pos 64; widest = 3; halvings = 3; sign = Yes }

-- and the 64 after them, after five
abbrev pub late : StillSpan
late = record { from = pos 64; upto = pos 128; widest = 3; halvings = 5; sign = No }

-- the first of them, for nodes that may be twice as wide
abbrev pub early_again : StillSpan
early_again = record early { widest = 6 }

abbrev pub both : List StillSpan
both = early ∷ late ∷ []
