-- The polynomials of a scene that the functions and the conditions of the table are.
use Rattle.std.proofs.Common.{ℕ, ◌*◌, ◌<◌, arith, ℤ, ◌+ℤ◌, ◌-ℤ◌, ◌*ℤ◌}
use Rattle.std.proofs.Math.Nat.{mul-pos}
use Rattle.spec_text.specs.declared.decimals.Decimal.{Decimal}
use Rattle.spec_intervals.specs.Fraction.{Fraction}
use Rattle.spec_expressions.specs.Term.{Leaf, position, velocity, exact_of}
use Rattle.spec_expressions.specs.Vectors.{dot as dot_term}
use Rattle.spec_kinds.specs.declared.kind.Kind.TheVariants as K
use Rattle.spec_kinds.specs.Vectors.{target, second, target_velocity, second_velocity, plane_dot as plane_dot_term}
use Rattle.spec_kinds.specs.Shadows.{farther, larger}
use Rattle.spec_kinds.specs.Kinds.{kind_function}
use Rattle.spec_meanings.specs.Ratios.{IsRatio}
use Rattle.spec_meanings.specs.Space.{along, dot, plane_dot, plane_cross}
use Rattle.spec_meanings.specs.Scenes.{Scene, Shows, IsLong, IsCosineOf}
use Rattle.spec_meanings.specs.Polynomials.{separation, separation_change, discs, disc_difference}
use Rattle.spec_meanings.proofs.Ratios.{sum_ratio, difference_ratio, product_ratio, square_ratio, scaled_ratio}

module _ (exact : Leaf → ℤ → Fraction) (t : ℤ) (s : Scene) (shows : Shows exact t s) where
  a : (axis : ℕ) → axis < 3 → IsRatio (exact (position 0 axis) t) (along s.target axis) s.unit
  a axis h = shows (position 0 axis) (omega arith, h)

  b : (axis : ℕ) → axis < 3 → IsRatio (exact (position 1 axis) t) (along s.second axis) s.unit
  b axis h = shows (position 1 axis) (omega arith, h)

  a' : (axis : ℕ) → axis < 3 → IsRatio (exact (velocity 0 axis) t) (along s.target_velocity axis) s.unit
  a' axis h = shows (velocity 0 axis) (omega arith, h)

  b' : (axis : ℕ) → axis < 3 → IsRatio (exact (velocity 1 axis) t) (along s.second_velocity axis) s.unit
  b' axis h = shows (velocity 1 axis) (omega arith, h)

  aa : IsRatio (exact_of exact (dot_term target target) t) (dot s.target s.target) (s.unit * s.unit)
  aa = sum_ratio (sum_ratio (product_ratio (a 0 (omega arith)) (a 0 (omega arith))) (product_ratio (a 1 (omega arith)) (a 1 (omega arith)))) (product_ratio (a 2 (omega arith)) (a 2 (omega arith)))

  bb : IsRatio (exact_of exact (dot_term second second) t) (dot s.second s.second) (s.unit * s.unit)
  bb = sum_ratio (sum_ratio (product_ratio (b 0 (omega arith)) (b 0 (omega arith))) (product_ratio (b 1 (omega arith)) (b 1 (omega arith)))) (product_ratio (b 2 (omega arith)) (b 2 (omega arith)))

  ab : IsRatio (exact_of exact (dot_term target second) t) (dot s.target s.second) (s.unit * s.unit)
  ab = sum_ratio (sum_ratio (product_ratio (a 0 (omega arith)) (b 0 (omega arith))) (product_ratio (a 1 (omega arith)) (b 1 (omega arith)))) (product_ratio (a 2 (omega arith)) (b 2 (omega arith)))

  aa' : IsRatio (exact_of exact (dot_term target target_velocity) t) (dot s.target s.target_velocity) (s.unit * s.unit)
  aa' = sum_ratio (sum_ratio (product_ratio (a 0 (omega arith)) (a' 0 (omega arith))) (product_ratio (a 1 (omega arith)) (a' 1 (omega arith)))) (product_ratio (a 2 (omega arith)) (a' 2 (omega arith)))

  bb' : IsRatio (exact_of exact (dot_term second second_velocity) t) (dot s.second s.second_velocity) (s.unit * s.unit)
  bb' = sum_ratio (sum_ratio (product_ratio (b 0 (omega arith)) (b' 0 (omega arith))) (product_ratio (b 1 (omega arith)) (b' 1 (omega arith)))) (product_ratio (b 2 (omega arith)) (b' 2 (omega arith)))

  a'b : IsRatio (exact_of exact (dot_term target_velocity second) t) (dot s.target_velocity s.second) (s.unit * s.unit)
  a'b = sum_ratio (sum_ratio (product_ratio (a' 0 (omega arith)) (b 0 (omega arith))) (product_ratio (a' 1 (omega arith)) (b 1 (omega arith)))) (product_ratio (a' 2 (omega arith)) (b 2 (omega arith)))

  ab' : IsRatio (exact_of exact (dot_term target second_velocity) t) (dot s.target s.second_velocity) (s.unit * s.unit)
  ab' = sum_ratio (sum_ratio (product_ratio (a 0 (omega arith)) (b' 0 (omega arith))) (product_ratio (a 1 (omega arith)) (b' 1 (omega arith)))) (product_ratio (a 2 (omega arith)) (b' 2 (omega arith)))

  -- ---- conjunctions, oppositions, stations
  pub conjunction_row : (axis : ℕ) (one other : Decimal) → IsRatio (exact_of exact (kind_function K.Conj axis one other) t) (plane_cross s.target s.second) (s.unit * s.unit)
  conjunction_row axis one other = difference_ratio (product_ratio (a 0 (omega arith)) (b 1 (omega arith))) (product_ratio (a 1 (omega arith)) (b 0 (omega arith)))

  pub side_row : IsRatio (exact_of exact (plane_dot_term target second) t) (plane_dot s.target s.second) (s.unit * s.unit)
  side_row = sum_ratio (product_ratio (a 0 (omega arith)) (b 0 (omega arith))) (product_ratio (a 1 (omega arith)) (b 1 (omega arith)))

  pub station_row : (axis : ℕ) (one other : Decimal) → IsRatio (exact_of exact (kind_function K.Station axis one other) t) (plane_cross s.target s.target_velocity) (s.unit * s.unit)
  station_row axis one other = difference_ratio (product_ratio (a 0 (omega arith)) (a' 1 (omega arith))) (product_ratio (a 1 (omega arith)) (a' 0 (omega arith)))

  -- ---- coordinates and distances
  pub coordinate_row : (axis : ℕ) (one other : Decimal) (n : ℤ) → axis < 3 → IsLong s one n → IsRatio (exact_of exact (kind_function K.Coord axis one other) t) (along s.target axis -ℤ n) s.unit
  coordinate_row axis one other n h p = difference_ratio (a axis h) p

  pub radius_row : (axis : ℕ) (one other : Decimal) (n : ℤ) → IsLong s one n → IsRatio (exact_of exact (kind_function K.Radius axis one other) t) (dot s.target s.target -ℤ n *ℤ n) (s.unit * s.unit)
  radius_row axis one other n p = difference_ratio aa (product_ratio p p)

  pub apsis_row : (axis : ℕ) (one other : Decimal) → IsRatio (exact_of exact (kind_function K.Apsis axis one other) t) (dot s.target s.target_velocity) (s.unit * s.unit)
  apsis_row axis one other = aa'

  -- ---- separations
  pub separation_row : (axis : ℕ) (one other : Decimal) (c : ℤ) (d : ℕ) → IsCosineOf one c d → IsRatio (exact_of exact (kind_function K.Sep axis one other) t) (separation s c d) ((d * d) * ((s.unit * s.unit) * (s.unit * s.unit)))
  separation_row axis one other c d p = difference_ratio (scaled_ratio (d * d) (mul-pos p.positive p.positive) (square_ratio ab)) (product_ratio (square_ratio p) (product_ratio aa bb))

  pub separation_change_row : (axis : ℕ) (one other : Decimal) → IsRatio (exact_of exact (kind_function K.SepExt axis one other) t) (separation_change s) ((s.unit * s.unit) * ((s.unit * s.unit) * (s.unit * s.unit)))
  separation_change_row axis one other = difference_ratio (product_ratio (sum_ratio a'b ab') (product_ratio aa bb)) (product_ratio ab (sum_ratio (product_ratio aa' bb) (product_ratio aa bb')))

  -- ---- discs
  pub overlap_row : (axis : ℕ) (front back : Decimal) (r q : ℤ) → IsLong s front r → IsLong s back q → IsRatio (exact_of exact (kind_function K.Any axis front back) t) (discs (dot s.target s.second +ℤ r *ℤ q) s r q) ((s.unit * s.unit) * (s.unit * s.unit))
  overlap_row axis front back r q p g = difference_ratio (square_ratio (sum_ratio ab (product_ratio p g))) (product_ratio (difference_ratio aa (product_ratio p p)) (difference_ratio bb (product_ratio g g)))

  pub full_row : (axis : ℕ) (front back : Decimal) (r q : ℤ) → IsLong s front r → IsLong s back q → IsRatio (exact_of exact (kind_function K.Full axis front back) t) (discs (dot s.target s.second -ℤ r *ℤ q) s r q) ((s.unit * s.unit) * (s.unit * s.unit))
  full_row axis front back r q p g = difference_ratio (square_ratio (difference_ratio ab (product_ratio p g))) (product_ratio (difference_ratio aa (product_ratio p p)) (difference_ratio bb (product_ratio g g)))

  pub annular_row : (axis : ℕ) (front back : Decimal) (r q : ℤ) → IsLong s front r → IsLong s back q → IsRatio (exact_of exact (kind_function K.Annular axis front back) t) (discs (dot s.target s.second -ℤ r *ℤ q) s r q) ((s.unit * s.unit) * (s.unit * s.unit))
  annular_row axis front back r q p g = full_row axis front back r q p g

  pub farther_row : IsRatio (exact_of exact farther t) (dot s.second s.second -ℤ dot s.target s.target) (s.unit * s.unit)
  farther_row = difference_ratio bb aa

  pub larger_row : (front back : Decimal) (r q : ℤ) → IsLong s front r → IsLong s back q → IsRatio (exact_of exact (larger front back) t) (disc_difference s r q) ((s.unit * s.unit) * (s.unit * s.unit))
  larger_row front back r q p g = difference_ratio (product_ratio (product_ratio p p) bb) (product_ratio (product_ratio g g) aa)
