-- A span within a granule is one of the series of its axis.
use Rattle.std.proofs.Common.{ℕ, ℤ}
use Rattle.spec_ephemeris.specs.declared.granule.Granule.{Granule}
use Rattle.spec_ephemeris.specs.Granules.{series_of}
use Rattle.spec_motions.specs.Enclosures.{IsSeries, IsSpanOf}
use Rattle.spec_motions.proofs.GranuleSeries.{IsSeries-of, IsSpan-of}
use Rattle.cheby_enclose.specs.Spans.{IsSpanWithin}

pub IsSeries-within : {g : Granule} {axis : ℕ} {a b : ℤ} → IsSpanWithin g axis a b → IsSeries (series_of g axis)
IsSeries-within {g} {axis} s = IsSeries-of g s.granule axis s.axis

pub IsSpan-within : {g : Granule} {axis : ℕ} {a b : ℤ} → IsSpanWithin g axis a b → IsSpanOf (series_of g axis) a b
IsSpan-within {g} {axis} {a} {b} s = IsSpan-of g s.granule axis s.axis a b s.from s.order s.upto
