-- What each rule on intervals holds, as one set for the calls' clauses.
use Rattle.std.proofs.Common.{ℤ}
use Rattle.spec_intervals.specs.Interval.{narrow}
use Rattle.spec_intervals.specs.Fraction.{Fraction, Holds}
use Rattle.spec_intervals.proofs.Narrow.{Holds-narrow}
pub use Rattle.spec_intervals.proofs.Sums.{Holds-sum}
pub use Rattle.spec_intervals.proofs.Products.{Holds-product}

pub Holds-narrowed : (lo hi s : ℤ) (r : Fraction) → Holds (record { lo = lo; hi = hi; s = s }) r → Holds (narrow lo hi s) r
Holds-narrowed lo hi s r h = Holds-narrow lo hi s r h.low h.high
