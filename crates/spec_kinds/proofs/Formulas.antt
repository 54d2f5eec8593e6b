-- The function and the conditions of an ask that has no fault are formulas.
use Rattle.std.proofs.Common.{◌≡◌, ◌<◌, ◌≤◌, ℕ, true, ◌&&◌, None, [], ◌∷◌, arith}
use Rattle.std.specs.Prelude.{All}
use Rattle.std.proofs.lemmas.Bool.{and_parts}
use Rattle.std.proofs.lemmas.List.Elements.{All-nil, All-cons}
use Rattle.spec_text.specs.declared.decimals.Decimal.{Decimal}
use Rattle.spec_intervals.specs.Interval.{IsDistance}
use Rattle.spec_ephemeris.specs.Ephemeris.{Ephemeris}
use Rattle.spec_expressions.specs.declared.vectors.Vector.{Vector}
use Rattle.spec_expressions.specs.declared.vectors.Vector.TheVariants.{Position, Velocity}
use Rattle.spec_expressions.specs.Term.{nodes, degree, HasLeaves, HasConstants, IsFormula}
use Rattle.spec_expressions.specs.Vectors.{IsVector, coordinate, dot}
use Rattle.spec_searches.specs.Event.{IsCondition, AreFormulas}
use Rattle.spec_kinds.specs.declared.ask.Ask.{Ask}
use Rattle.spec_kinds.specs.declared.kind.Kind.{Kind}
use Rattle.spec_kinds.specs.declared.kind.Kind.TheVariants as K
use Rattle.spec_kinds.specs.declared.shadow.Shadow.{Shadow}
use Rattle.spec_kinds.specs.declared.shadow.Shadow.TheVariants.{Any, Full, Annular}
use Rattle.spec_kinds.specs.Vectors.{target, second, target_velocity, second_velocity, plane_dot, plane_cross}
use Rattle.spec_kinds.specs.Shadows.{at_least_0, below_0, shadow_function, shadow_conditions, farther, larger}
use Rattle.spec_kinds.specs.Kinds.{kind_function, kind_conditions, event_of}
use Rattle.spec_kinds.specs.Asks.{IsAsk}
use Rattle.spec_kinds.specs.Faults.{is_radius, are_in_range, fault_of}
use Rattle.spec_kinds.proofs.Tests.{small_distance, small_cosine, small_radius}
use Rattle.spec_kinds.proofs.Served.{served}

-- ---- leaves and constants
coordinate_leaf : (u : Vector) (axis : ℕ) → IsVector u → axis < 3 → HasLeaves (coordinate u axis)
coordinate_leaf (Position number) axis is along = (is, along)
coordinate_leaf (Velocity number) axis is along = (is, along)

coordinate_free : (u : Vector) (axis : ℕ) → HasConstants (coordinate u axis)
coordinate_free (Position number) axis = tt
coordinate_free (Velocity number) axis = tt

module _ (u v : Vector) (p : IsVector u) (q : IsVector v) where
  product_leaves : (i j : ℕ) → i < 3 → j < 3 → HasLeaves (coordinate u i) × HasLeaves (coordinate v j)
  product_leaves i j along other = (coordinate_leaf u i p along, coordinate_leaf v j q other)

  plane_dot_leaves : HasLeaves (plane_dot u v)
  plane_dot_leaves = (product_leaves 0 0 (omega arith) (omega arith), product_leaves 1 1 (omega arith) (omega arith))

  plane_cross_leaves : HasLeaves (plane_cross u v)
  plane_cross_leaves = (product_leaves 0 1 (omega arith) (omega arith), product_leaves 1 0 (omega arith) (omega arith))

  dot_leaves : HasLeaves (dot u v)
  dot_leaves = (plane_dot_leaves, product_leaves 2 2 (omega arith) (omega arith))

module _ (u v : Vector) where
  product_free : (i j : ℕ) → HasConstants (coordinate u i) × HasConstants (coordinate v j)
  product_free i j = (coordinate_free u i, coordinate_free v j)

  plane_dot_free : HasConstants (plane_dot u v)
  plane_dot_free = (product_free 0 0, product_free 1 1)

  plane_cross_free : HasConstants (plane_cross u v)
  plane_cross_free = (product_free 0 1, product_free 1 0)

  dot_free : HasConstants (dot u v)
  dot_free = (plane_dot_free, product_free 2 2)

first_position : IsVector target
first_position = omega arith

second_position : IsVector second
second_position = omega arith

first_speed : IsVector target_velocity
first_speed = omega arith

second_speed : IsVector second_velocity
second_speed = omega arith

-- ---- the dot products of the table
aa : HasLeaves (dot target target)
aa = dot_leaves target target first_position first_position

bb : HasLeaves (dot second second)
bb = dot_leaves second second second_position second_position

ab : HasLeaves (dot target second)
ab = dot_leaves target second first_position second_position

aa' : HasLeaves (dot target target_velocity)
aa' = dot_leaves target target_velocity first_position first_speed

bb' : HasLeaves (dot second second_velocity)
bb' = dot_leaves second second_velocity second_position second_speed

a'b : HasLeaves (dot target_velocity second)
a'b = dot_leaves target_velocity second first_speed second_position

ab' : HasLeaves (dot target second_velocity)
ab' = dot_leaves target second_velocity first_position second_speed

-- ---- shadows
module _ (front back : Decimal) (p : IsDistance front.mant front.exp) (q : IsDistance back.mant back.exp) where
  pub shadow_formula : (shadow : Shadow) → IsFormula (shadow_function shadow front back)
  shadow_formula Any = record {
    leaves = ((ab, (tt, tt)), ((aa, (tt, tt)), (bb, (tt, tt))));
    nodes_within = omega arith;
    degree_within = omega arith;
    constants = ((dot_free target second, (p, q)), ((dot_free target target, (p, p)), (dot_free second second, (q, q))));
  }
  shadow_formula Full = record {
    leaves = ((ab, (tt, tt)), ((aa, (tt, tt)), (bb, (tt, tt))));
    nodes_within = omega arith;
    degree_within = omega arith;
    constants = ((dot_free target second, (p, q)), ((dot_free target target, (p, p)), (dot_free second second, (q, q))));
  }
  shadow_formula Annular = record {
    leaves = ((ab, (tt, tt)), ((aa, (tt, tt)), (bb, (tt, tt))));
    nodes_within = omega arith;
    degree_within = omega arith;
    constants = ((dot_free target second, (p, q)), ((dot_free target target, (p, p)), (dot_free second second, (q, q))));
  }

  farther_formula : IsFormula farther
  farther_formula = record {
    leaves = (bb, aa);
    nodes_within = omega arith;
    degree_within = omega arith;
    constants = (dot_free second second, dot_free target target);
  }

  larger_formula : IsFormula (larger front back)
  larger_formula = record {
    leaves = (((tt, tt), bb), ((tt, tt), aa));
    nodes_within = omega arith;
    degree_within = omega arith;
    constants = (((p, p), dot_free second second), ((q, q), dot_free target target));
  }

  pub shadow_conditions_formulas : (shadow : Shadow) → All IsCondition (shadow_conditions shadow front back)
  shadow_conditions_formulas Any = All-cons IsCondition (at_least_0 farther) [] farther_formula (All-nil IsCondition)
  shadow_conditions_formulas Full = All-cons IsCondition (at_least_0 farther) (at_least_0 (larger front back) ∷ []) farther_formula (All-cons IsCondition (at_least_0 (larger front back)) [] larger_formula (All-nil IsCondition))
  shadow_conditions_formulas Annular = All-cons IsCondition (at_least_0 farther) (below_0 (larger front back) ∷ []) farther_formula (All-cons IsCondition (below_0 (larger front back)) [] larger_formula (All-nil IsCondition))

-- ---- the rows of the table
crossing_formula : (u v : Vector) → HasLeaves (plane_cross u v) → HasConstants (plane_cross u v) → nodes (plane_cross u v) ≤ 128 → degree (plane_cross u v) ≤ 16 → IsFormula (plane_cross u v)
crossing_formula u v leaves free few low = record { leaves = leaves; nodes_within = few; degree_within = low; constants = free }

both_cross : IsFormula (plane_cross target second)
both_cross = crossing_formula target second (plane_cross_leaves target second first_position second_position) (plane_cross_free target second) (omega arith) (omega arith)

both_along : IsFormula (plane_dot target second)
both_along = record {
  leaves = plane_dot_leaves target second first_position second_position;
  nodes_within = omega arith;
  degree_within = omega arith;
  constants = plane_dot_free target second;
}

radii : (v w : Decimal) → (is_radius v && is_radius w) ≡ true → IsDistance v.mant v.exp × IsDistance w.mant w.exp
radii v w is = let parts = and_parts (is_radius v) (is_radius w) is in (small_radius v parts.0, small_radius w parts.1)

pub row_function : (kind : Kind) (axis : ℕ) (v w : Decimal) → axis < 3 → are_in_range kind v w ≡ true → IsFormula (kind_function kind axis v w)
row_function K.Coord axis v w along is = record {
  leaves = (coordinate_leaf target axis first_position along, tt);
  nodes_within = omega arith;
  degree_within = omega arith;
  constants = (tt, small_distance v is);
}
row_function K.Radius axis v w along is = record {
  leaves = (aa, (tt, tt));
  nodes_within = omega arith;
  degree_within = omega arith;
  constants = (dot_free target target, (small_radius v is, small_radius v is));
}
row_function K.Apsis axis v w along is = record {
  leaves = aa';
  nodes_within = omega arith;
  degree_within = omega arith;
  constants = dot_free target target_velocity;
}
row_function K.Conj axis v w along is = both_cross
row_function K.Oppo axis v w along is = both_cross
row_function K.Station axis v w along is =
    crossing_formula target target_velocity (plane_cross_leaves target target_velocity first_position first_speed) (plane_cross_free target target_velocity) (omega arith) (omega arith)
row_function K.Sep axis v w along is = record {
  leaves = (ab, (tt, (aa, bb)));
  nodes_within = omega arith;
  degree_within = omega arith;
  constants = (dot_free target second, (small_cosine v is, (dot_free target target, dot_free second second)));
}
row_function K.SepExt axis v w along is = record {
  leaves = (((a'b, ab'), (aa, bb)), (ab, ((aa', bb), (aa, bb'))));
  nodes_within = omega arith;
  degree_within = omega arith;
  constants = (
    ((dot_free target_velocity second, dot_free target second_velocity), (dot_free target target, dot_free second second)),
    (dot_free target second, ((dot_free target target_velocity, dot_free second second), (dot_free target target, dot_free second second_velocity))),
  );
}
row_function K.Any axis v w along is = let r = radii v w is in shadow_formula v w r.0 r.1 Any
row_function K.Full axis v w along is = let r = radii v w is in shadow_formula v w r.0 r.1 Full
row_function K.Annular axis v w along is = let r = radii v w is in shadow_formula v w r.0 r.1 Annular

pub row_conditions : (kind : Kind) (v w : Decimal) → are_in_range kind v w ≡ true → All IsCondition (kind_conditions kind v w)
row_conditions K.Coord v w is = All-nil IsCondition
row_conditions K.Radius v w is = All-nil IsCondition
row_conditions K.Apsis v w is = All-nil IsCondition
row_conditions K.Conj v w is = All-cons IsCondition (at_least_0 (plane_dot target second)) [] both_along (All-nil IsCondition)
row_conditions K.Oppo v w is = All-cons IsCondition (below_0 (plane_dot target second)) [] both_along (All-nil IsCondition)
row_conditions K.Station v w is = All-nil IsCondition
row_conditions K.Sep v w is = All-nil IsCondition
row_conditions K.SepExt v w is = All-nil IsCondition
row_conditions K.Any v w is = let r = radii v w is in shadow_conditions_formulas v w r.0 r.1 Any
row_conditions K.Full v w is = let r = radii v w is in shadow_conditions_formulas v w r.0 r.1 Full
row_conditions K.Annular v w is = let r = radii v w is in shadow_conditions_formulas v w r.0 r.1 Annular

pub event_formulas : (e : Ephemeris) (ask : Ask) → IsAsk ask → fault_of e ask ≡ None → AreFormulas (event_of ask)
event_formulas e ask is none =
    let served_ask = served e ask none in
    record {
      function = row_function ask.kind ask.axis ask.value1 ask.value2 is.axis served_ask.in_range;
      conditions = row_conditions ask.kind ask.value1 ask.value2 served_ask.in_range;
    }
