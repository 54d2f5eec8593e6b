-- When the ends of an entry of a row lie round those of another, in the same unit.
use Rattle.std.proofs.Common.{◌≤ℤ◌}
use Rattle.spec_chebyshev.specs.declared.ends.Ival62.{Ival62}

pub record Covers (outer inner : Ival62) : Type 0 where
  pub low : outer.lo ≤ℤ inner.lo
  pub high : inner.hi ≤ℤ outer.hi

abbrev pub IsOrdered : Ival62 → Type 0
IsOrdered e = e.lo ≤ℤ e.hi
