-- In each arithmetic, the term of a coordinate means what the coordinate does, and that of a formula what the formula does.
use Rattle.std.proofs.Common.{◌≡◌, zero, suc, ℤ, refl}
use Rattle.spec_intervals.specs.Interval.{sum as interval_sum, difference as interval_difference, product as interval_product, signed_square as interval_square}
use Rattle.spec_intervals.specs.Enclosure.{constant_of, sum_of, difference_of, product_of, signed_square_of}
use Rattle.spec_expressions.specs.Term.{Leaf, Term, leaf, length, cosine, sum, difference, product, signed_square, position as position_of, velocity as velocity_of}
use Rattle.spec_bodies.specs.declared.quantity.Quantity.{Quantity}
use Rattle.spec_bodies.specs.declared.quantity.Quantity.TheVariants.{Position, Velocity}
use Rattle.spec_bodies.specs.Coordinates.{Coordinate, nothing, of_column, times, plus, less}
use Rattle.spec_bodies.specs.Meanings.{factor_interval}
use Rattle.spec_bodies.specs.Views.{View, coordinate_of, factor_of, formula_enclosure, state_enclosure}
use Rattle.spec_searches.specs.Search.{enclosure_over}
use Rattle.spec_models.specs.Bounds.{constant_bound, sum_bound, difference_bound, product_bound, signed_square_bound}
use Rattle.spec_bounds.specs.Terms.{bound_of, bound_over, column_bound, state_bound}
use Rattle.spec_covers.specs.Points.{column_point, coordinate_point, point_of, state_point}
use Rattle.spec_steps.specs.ColumnTerms.{of_coordinate, of_leaf, of_term, sight_of}
use Rattle.spec_steps.specs.Meanings.{bound_meant, enclosure_meant, point_meant}

-- ---- enclosures
module _ (v : View) (a b : ℤ) where
  pub coordinate_enclosed : (q : Quantity) (c : Coordinate) → enclosure_meant v a b (of_coordinate q c) ≡ formula_enclosure v q a b c
  coordinate_enclosed q nothing = refl
  coordinate_enclosed q (of_column number axis) = refl
  coordinate_enclosed q (times f x) = λ i. product_of a b (constant_of a b (factor_interval (factor_of v f))) (coordinate_enclosed q x i)
  coordinate_enclosed q (plus x y) = λ i. sum_of a b (coordinate_enclosed q x i) (coordinate_enclosed q y i)
  coordinate_enclosed q (less x y) = λ i. difference_of a b (coordinate_enclosed q x i) (coordinate_enclosed q y i)

  leaf_enclosed : (l : Leaf) → enclosure_meant v a b (of_leaf (sight_of v) l) ≡ state_enclosure v l a b
  leaf_enclosed (position_of zero axis) = coordinate_enclosed Position (coordinate_of v 0 axis)
  leaf_enclosed (position_of (suc target) axis) = coordinate_enclosed Position (coordinate_of v (suc target) axis)
  leaf_enclosed (velocity_of zero axis) = coordinate_enclosed Velocity (coordinate_of v 0 axis)
  leaf_enclosed (velocity_of (suc target) axis) = coordinate_enclosed Velocity (coordinate_of v (suc target) axis)

  pub term_enclosed : (e : Term) → enclosure_meant v a b (of_term (sight_of v) e) ≡ enclosure_over (state_enclosure v) e a b
  term_enclosed (leaf l) = leaf_enclosed l
  term_enclosed (length d) = refl
  term_enclosed (cosine d) = refl
  term_enclosed (sum x y) = λ i. sum_of a b (term_enclosed x i) (term_enclosed y i)
  term_enclosed (difference x y) = λ i. difference_of a b (term_enclosed x i) (term_enclosed y i)
  term_enclosed (product x y) = λ i. product_of a b (term_enclosed x i) (term_enclosed y i)
  term_enclosed (signed_square x) = λ i. signed_square_of a b (term_enclosed x i)

-- ---- bounds
module _ (v : View) (a b : ℤ) where
  pub coordinate_bounded : (q : Quantity) (c : Coordinate) → bound_meant v a b (of_coordinate q c) ≡ bound_of (column_bound v q a b) (factor_of v) a b c
  coordinate_bounded q nothing = refl
  coordinate_bounded q (of_column number axis) = refl
  coordinate_bounded q (times f x) = λ i. product_bound a b (constant_bound a b (factor_interval (factor_of v f))) (coordinate_bounded q x i)
  coordinate_bounded q (plus x y) = λ i. sum_bound a b (coordinate_bounded q x i) (coordinate_bounded q y i)
  coordinate_bounded q (less x y) = λ i. difference_bound a b (coordinate_bounded q x i) (coordinate_bounded q y i)

  leaf_bounded : (l : Leaf) → bound_meant v a b (of_leaf (sight_of v) l) ≡ state_bound v l a b
  leaf_bounded (position_of zero axis) = coordinate_bounded Position (coordinate_of v 0 axis)
  leaf_bounded (position_of (suc target) axis) = coordinate_bounded Position (coordinate_of v (suc target) axis)
  leaf_bounded (velocity_of zero axis) = coordinate_bounded Velocity (coordinate_of v 0 axis)
  leaf_bounded (velocity_of (suc target) axis) = coordinate_bounded Velocity (coordinate_of v (suc target) axis)

  pub term_bounded : (e : Term) → bound_meant v a b (of_term (sight_of v) e) ≡ bound_over v e a b
  term_bounded (leaf l) = leaf_bounded l
  term_bounded (length d) = refl
  term_bounded (cosine d) = refl
  term_bounded (sum x y) = λ i. sum_bound a b (term_bounded x i) (term_bounded y i)
  term_bounded (difference x y) = λ i. difference_bound a b (term_bounded x i) (term_bounded y i)
  term_bounded (product x y) = λ i. product_bound a b (term_bounded x i) (term_bounded y i)
  term_bounded (signed_square x) = λ i. signed_square_bound a b (term_bounded x i)

-- ---- intervals at single times
module _ (v : View) (c t : ℤ) where
  coordinate_at : (q : Quantity) (x : Coordinate) → point_meant v c t (of_coordinate q x) ≡ coordinate_point (column_point v q c t) (factor_of v) x
  coordinate_at q nothing = refl
  coordinate_at q (of_column number axis) = refl
  coordinate_at q (times f x) = λ i. interval_product (factor_interval (factor_of v f)) (coordinate_at q x i)
  coordinate_at q (plus x y) = λ i. interval_sum (coordinate_at q x i) (coordinate_at q y i)
  coordinate_at q (less x y) = λ i. interval_difference (coordinate_at q x i) (coordinate_at q y i)

  leaf_at : (l : Leaf) → point_meant v c t (of_leaf (sight_of v) l) ≡ state_point v c t l
  leaf_at (position_of zero axis) = coordinate_at Position (coordinate_of v 0 axis)
  leaf_at (position_of (suc target) axis) = coordinate_at Position (coordinate_of v (suc target) axis)
  leaf_at (velocity_of zero axis) = coordinate_at Velocity (coordinate_of v 0 axis)
  leaf_at (velocity_of (suc target) axis) = coordinate_at Velocity (coordinate_of v (suc target) axis)

  pub term_at_time : (e : Term) → point_meant v c t (of_term (sight_of v) e) ≡ point_of (state_point v c t) e
  term_at_time (leaf l) = leaf_at l
  term_at_time (length d) = refl
  term_at_time (cosine d) = refl
  term_at_time (sum x y) = λ i. interval_sum (term_at_time x i) (term_at_time y i)
  term_at_time (difference x y) = λ i. interval_difference (term_at_time x i) (term_at_time y i)
  term_at_time (product x y) = λ i. interval_product (term_at_time x i) (term_at_time y i)
  term_at_time (signed_square x) = λ i. interval_square (term_at_time x i)
