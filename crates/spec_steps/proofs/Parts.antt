-- What a list may hold: the coordinates of the targets, and what they are made of.
use Rattle.std.proofs.Common.{◌⊎◌, inl, inr, ℕ, zero, suc, ◌+◌, ◌<◌, ◌≤◌, refl, subst, arith}
use Rattle.std.specs.Prelude.{All, Contains, ⊤}
use Rattle.std.proofs.lemmas.List.Elements.{All-contains_itself}
use Rattle.spec_expressions.specs.Term.{HasLeaves, IsFormula, IsLeaf, Leaf, Term, leaf, length, cosine, sum as sum_of, difference as difference_of, product as product_of, signed_square as square_of, HasConstants, nodes, degree, node_limit, degree_limit, position as position_of, velocity as velocity_of}
use Rattle.spec_text.specs.declared.decimals.Decimal.{Decimal}
use Rattle.spec_intervals.specs.Interval.{IsCosine, IsDistance}
use Rattle.spec_bodies.specs.declared.factor.Factor.{Factor}
use Rattle.spec_bodies.specs.declared.quantity.Quantity.{Quantity}
use Rattle.spec_bodies.specs.declared.quantity.Quantity.TheVariants.{Position, Velocity}
use Rattle.spec_bodies.specs.Coordinates.{Coordinate, nothing, of_column, times, plus, less, displacement}
use Rattle.spec_bodies.specs.Reading.{IsReadable, IsUsable}
use Rattle.spec_bodies.specs.Sources.{used}
use Rattle.spec_bodies.specs.Views.{IsView, View}
use Rattle.spec_bodies.proofs.Bounds.{displacement_low, in_frame_low}
use Rattle.spec_bodies.proofs.Formulas.{displacement_columns, in_frame_columns}
use Rattle.spec_bodies.proofs.InUse.{used_usable}
use Rattle.spec_steps.specs.declared.sights.Sight.{Sight}
use Rattle.spec_steps.specs.ColumnTerms.{ColumnTerm, column, zero_term, length as length_of, cosine as cosine_of, scaled, sum, difference, product, signed_square, coordinate_of, of_coordinate, of_leaf, of_term, sight_of, target_of}
use Rattle.spec_steps.specs.Parts.{IsPart, IsSeen, IsSeenColumn}

-- ---- the coordinates of the targets
used_seen : (s : Sight) (target axis : ℕ) → axis < 3 → All (λ n. IsSeenColumn s n axis) (used (target_of s target) s.observer)
used_seen s zero axis three = λ k d within. record { listed = inl (All-contains_itself (used s.first s.observer) k d within); along = three }
used_seen s (suc target) axis three = λ k d within. record { listed = inr (All-contains_itself (used s.second s.observer) k d within); along = three }

pub coordinate_seen : (s : Sight) (target axis : ℕ) → axis < 3 → IsSeen s (coordinate_of s target axis)
coordinate_seen s target axis three = record {
  columns = in_frame_columns (IsSeenColumn s) s.frame axis (displacement (target_of s target) s.observer) three
      (λ k below. displacement_columns (IsSeenColumn s) k (target_of s target) s.observer (used_seen s target k below));
  short = in_frame_low s.frame axis (displacement (target_of s target) s.observer) (λ k. displacement_low k (target_of s target) s.observer);
}

-- relative to the observer too, along the axes of the files
pub displacement_seen : (s : Sight) (target axis : ℕ) → axis < 3 → IsSeen s (displacement (target_of s target) s.observer axis)
displacement_seen s target axis three =
    let is = displacement_low axis (target_of s target) s.observer in
    let l = is.low in
    let h = is.high in
    record {
      columns = displacement_columns (IsSeenColumn s) axis (target_of s target) s.observer (used_seen s target axis three);
      short = record { low = omega (arith, l); high = omega (arith, h) };
    }

-- ---- and what these are made of
pub times_seen : (s : Sight) (f : Factor) (c : Coordinate) → IsSeen s (times f c) → IsSeen s c
times_seen s f c is =
    let l = is.short.low in
    let h = is.short.high in
    record { columns = is.columns; short = record { low = omega (arith, l); high = omega (arith, h) } }

pub plus_seen : (s : Sight) (c d : Coordinate) → IsSeen s (plus c d) → IsSeen s c × IsSeen s d
plus_seen s c d is =
    let l = is.short.low in
    let h = is.short.high in (
      record { columns = is.columns.0; short = record { low = omega (arith, l); high = omega (arith, h) } },
      record { columns = is.columns.1; short = record { low = omega (arith, l); high = omega (arith, h) } },
    )

pub less_seen : (s : Sight) (c d : Coordinate) → IsSeen s (less c d) → IsSeen s c × IsSeen s d
less_seen s c d is =
    let l = is.short.low in
    let h = is.short.high in (
      record { columns = is.columns.0; short = record { low = omega (arith, l); high = omega (arith, h) } },
      record { columns = is.columns.1; short = record { low = omega (arith, l); high = omega (arith, h) } },
    )

pub seen_part : (s : Sight) (q : Quantity) (c : Coordinate) → IsSeen s c → IsPart s (of_coordinate q c)
seen_part s q c is = inl (record { quantity = q; coordinate = c; seen = is; term = refl })

pub leaf_part : (s : Sight) (l : Leaf) → IsLeaf l → IsPart s (of_leaf s l)
leaf_part s (position_of target axis) is = seen_part s Position (coordinate_of s target axis) (coordinate_seen s target axis is.1)
leaf_part s (velocity_of target axis) is = seen_part s Velocity (coordinate_of s target axis) (coordinate_seen s target axis is.1)

formula_part : (s : Sight) (e : Term) → IsFormula e → IsPart s (of_term s e)
formula_part s e is = inr (record { whole = e; formula = is; term = refl })

both_formulas : (s : Sight) (e d : Term) → HasLeaves e × HasLeaves d → HasConstants e × HasConstants d → 1 + nodes e + nodes d ≤ node_limit → degree e ≤ degree_limit → degree d ≤ degree_limit
    → IsPart s (of_term s e) × IsPart s (of_term s d)
both_formulas s e d leaves constants few p q = (
  formula_part s e (record { leaves = leaves.0; nodes_within = omega (arith, few); degree_within = p; constants = constants.0 }),
  formula_part s d (record { leaves = leaves.1; nodes_within = omega (arith, few); degree_within = q; constants = constants.1 }),
)

-- ---- what is known of what may stand in a list: its parts may too, its columns are in use, its constants are within the limits
abbrev pub IsWellMade : Sight → ColumnTerm → Type 0
IsWellMade s (column q number axis) = IsSeenColumn s number axis
IsWellMade s zero_term = ⊤
IsWellMade s (length_of d) = IsDistance d.mant d.exp
IsWellMade s (cosine_of d) = IsCosine d.mant d.exp
IsWellMade s (scaled f x) = IsPart s x
IsWellMade s (sum x y) = IsPart s x × IsPart s y
IsWellMade s (difference x y) = IsPart s x × IsPart s y
IsWellMade s (product x y) = IsPart s x × IsPart s y
IsWellMade s (signed_square x) = IsPart s x

module _ (s : Sight) where
  coordinate_made : (q : Quantity) (c : Coordinate) → IsSeen s c → IsWellMade s (of_coordinate q c)
  coordinate_made q nothing is = tt
  coordinate_made q (of_column number axis) is = is.columns
  coordinate_made q (times f c) is = seen_part s q c (times_seen s f c is)
  coordinate_made q (plus c d) is = let both = plus_seen s c d is in (seen_part s q c both.0, seen_part s q d both.1)
  coordinate_made q (less c d) is = let both = less_seen s c d is in (seen_part s q c both.0, seen_part s q d both.1)

  leaf_made : (l : Leaf) → IsLeaf l → IsWellMade s (of_leaf s l)
  leaf_made (position_of target axis) is = coordinate_made Position (coordinate_of s target axis) (coordinate_seen s target axis is.1)
  leaf_made (velocity_of target axis) is = coordinate_made Velocity (coordinate_of s target axis) (coordinate_seen s target axis is.1)

  formula_made : (e : Term) → IsFormula e → IsWellMade s (of_term s e)
  formula_made (leaf l) is = leaf_made l is.leaves
  formula_made (length d) is = is.constants
  formula_made (cosine d) is = is.constants
  formula_made (sum_of x y) is = let n = is.degree_within in both_formulas s x y is.leaves is.constants is.nodes_within (omega (arith, n)) (omega (arith, n))
  formula_made (difference_of x y) is = let n = is.degree_within in both_formulas s x y is.leaves is.constants is.nodes_within (omega (arith, n)) (omega (arith, n))
  formula_made (product_of x y) is = let n = is.degree_within in both_formulas s x y is.leaves is.constants is.nodes_within (omega (arith, n)) (omega (arith, n))
  formula_made (square_of x) is =
      let n = is.nodes_within in
      let d = is.degree_within in
      formula_part s x (record { leaves = is.leaves; nodes_within = omega (arith, n); degree_within = omega (arith, d); constants = is.constants })

  pub well_made : (t : ColumnTerm) → IsPart s t → IsWellMade s t
  well_made t (inl part) = subst (IsWellMade s) part.term (coordinate_made part.quantity part.coordinate part.seen)
  well_made t (inr part) = subst (IsWellMade s) part.term (formula_made part.whole part.formula)

pub column_seen : (s : Sight) (q : Quantity) (number axis : ℕ) → IsPart s (column q number axis) → IsSeenColumn s number axis
column_seen s q number axis = well_made s (column q number axis)

pub scaled_part : (s : Sight) (f : Factor) (x : ColumnTerm) → IsPart s (scaled f x) → IsPart s x
scaled_part s f x = well_made s (scaled f x)

pub sum_parts : (s : Sight) (x y : ColumnTerm) → IsPart s (sum x y) → IsPart s x × IsPart s y
sum_parts s x y = well_made s (sum x y)

pub difference_parts : (s : Sight) (x y : ColumnTerm) → IsPart s (difference x y) → IsPart s x × IsPart s y
difference_parts s x y = well_made s (difference x y)

pub product_parts : (s : Sight) (x y : ColumnTerm) → IsPart s (product x y) → IsPart s x × IsPart s y
product_parts s x y = well_made s (product x y)

pub square_part : (s : Sight) (x : ColumnTerm) → IsPart s (signed_square x) → IsPart s x
square_part s x = well_made s (signed_square x)

pub length_kept : (s : Sight) (d : Decimal) → IsPart s (length_of d) → IsDistance d.mant d.exp
length_kept s d = well_made s (length_of d)

pub cosine_kept : (s : Sight) (d : Decimal) → IsPart s (cosine_of d) → IsCosine d.mant d.exp
cosine_kept s d = well_made s (cosine_of d)

-- ---- and these can be read
one_readable : (v : View) (number : ℕ) (numbers : _) → All (IsUsable v) numbers → Contains numbers number → IsUsable v number
one_readable v number numbers all among = subst (IsUsable v) among.2 (all among.0 _ among.1)

pub seen_readable : (v : View) (number axis : ℕ) → IsView v → IsSeenColumn (sight_of v) number axis → IsReadable v number axis
seen_readable v number axis is seen = record { usable = by seen.listed; along = seen.along }
  where
    by : Contains (used v.first v.observer) number ⊎ Contains (used v.second v.observer) number → IsUsable v number
    by (inl among) = one_readable v number (used v.first v.observer) (used_usable v is 0) among
    by (inr among) = one_readable v number (used v.second v.observer) (used_usable v is 1) among
