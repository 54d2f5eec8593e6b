-- The arguments of a span of times lie in those of a longer span.
use Rattle.std.proofs.Common.{ℕ, ◌^◌, ◌<◌, arith, ℤ, pos, ◌*ℤ◌, ◌≤ℤ◌}
use Rattle.std.proofs.lemmas.Int.{ints}
use Rattle.spec_numbers.proofs.Order.{lin, le-mul}
use Rattle.spec_chebyshev.specs.Rows.{argument_of, IsArguments}
use Rattle.spec_chebyshev.proofs.Arguments.{IsArguments-argument}
use Rattle.spec_ephemeris.specs.Series.{Series, argument_at}
use Rattle.spec_motions.specs.Enclosures.{IsSeries, IsSpanOf, arguments}
use Rattle.spec_bounds.proofs.Covers.{Covers}
use Rattle.spec_bounds.proofs.Products.{floor_div-grows, ceil_div-grows}

Covers-argument : (uc ua ub ud : ℤ) (l : ℕ) → 0 < l → uc ≤ℤ ua → ub ≤ℤ ud → Covers (argument_of uc ud (pos l)) (argument_of ua ub (pos l))
unfolding argument_of
Covers-argument uc ua ub ud l l0 p q =
    let low = le-mul uc ua (pos (2 ^ 60)) (omega (arith, lin)) p in
    let high = le-mul ub ud (pos (2 ^ 60)) (omega (arith, lin)) q in
    record {
      low = floor_div-grows (uc *ℤ pos (2 ^ 60)) (ua *ℤ pos (2 ^ 60)) l l0 low;
      high = ceil_div-grows (ub *ℤ pos (2 ^ 60)) (ud *ℤ pos (2 ^ 60)) l l0 high;
    }

module _ (s : Series) (a b c d : ℤ) (is : IsSeries s) (span : IsSpanOf s c d) (from : c ≤ℤ a) (ordered : a ≤ℤ b) (to : b ≤ℤ d) where
  pub Covers-arguments : Covers (arguments s c d) (arguments s a b)
  Covers-arguments =
      let long = is.long in
      Covers-argument (argument_at s c) (argument_at s a) (argument_at s b) (argument_at s d) s.duration (omega (arith, long)) (omega (arith, ints)) (omega (arith, ints))

  pub IsArguments-within : IsArguments (arguments s a b)
  IsArguments-within =
      let long = is.long in
      let first = span.from in
      let last = span.to in
      IsArguments-argument (argument_at s a) (argument_at s b) (pos s.duration) (omega (arith, ints)) (omega (arith, ints)) (omega (arith, ints)) (omega (arith, ints))
