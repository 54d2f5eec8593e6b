-- Still spans that follow one another.
use Rattle.std.specs.Prelude.{Bool, true, ◌&&◌, nat_le, int_le, int_lt, ℤ, List, [], ◌∷◌, if◌then◌else◌}
use Rattle.spec_stills.specs.declared.still.StillSpan.{StillSpan}
use Rattle.still_judge.specs.declared.limits.TheConstants.{MAX_HALVINGS}

-- a span begins no earlier than a time, it has some time, and nodes in it are not halved too often
abbrev pub is_next : ℤ → StillSpan → Bool
is_next time x = int_le time x.from && (int_lt x.from x.upto && nat_le x.halvings MAX_HALVINGS)

-- each span begins no earlier than the one before it ends, and the first no earlier than a time
abbrev pub follow : ℤ → List StillSpan → Bool
follow time [] = true
follow time (x ∷ xs) = is_next time x && follow x.upto xs

-- each begins no earlier than the one before it ends
abbrev pub are_in_order : List StillSpan → Bool
are_in_order [] = true
are_in_order (x ∷ xs) = follow x.from (x ∷ xs)

-- the spans where they stand in order, and none where they do not
abbrev pub in_order_or_none : List StillSpan → List StillSpan
in_order_or_none xs = if are_in_order xs then xs else []
