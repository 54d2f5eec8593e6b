use Rattle.std.proofs.Common.{take}
use Rattle.spec_ephemeris.specs.Ephemeris.{IsNearestBorder}
use Rattle.eph_model.proofs.ephemeris.Ephemeris.border_near.Given as goal

-- the nearest border of the columns so far
abbrev pub invariant-loop-column : goal.invariant-loop-column
invariant-loop-column l = IsNearestBorder l.fn.self (take l.column-index l.fn.columns) l.fn.a l.fn.b l.nearest
