-- What the functions of occultations mean.
use Rattle.std.proofs.Common.{◌≡◌, ℕ, arith, ap, ◌∙◌, [], ◌∷◌, ℤ, pos, ◌-ℤ◌, ◌*ℤ◌, ◌≤ℤ◌}
use Rattle.std.specs.Prelude.{◌↔◌}
use Rattle.spec_text.specs.declared.decimals.Decimal.{Decimal}
use Rattle.spec_intervals.specs.Fraction.{Fraction}
use Rattle.spec_expressions.specs.Term.{Leaf, exact_of}
use Rattle.spec_events.specs.Functions.{IsNotNegative}
use Rattle.spec_kinds.specs.declared.kind.Kind.TheVariants as K
use Rattle.spec_kinds.specs.Shadows.{at_least_0, below_0, farther, larger}
use Rattle.spec_kinds.specs.Kinds.{kind_function, kind_conditions}
use Rattle.spec_meanings.specs.Scenes.{Scene, Shows, IsLong}
use Rattle.spec_meanings.specs.Rays.{IsSphere, SomeRayMeetsBoth, Covers}
use Rattle.spec_meanings.specs.Events.{Hold}
use Rattle.spec_meanings.specs.Angles.{IsNoFarther, IsNoSmaller, IsSmaller}
use Rattle.spec_meanings.specs.Space.{dot, square}
use Rattle.spec_meanings.proofs.Signs.{not_negative}
use Rattle.spec_meanings.proofs.Rows.{overlap_row, full_row, annular_row}
use Rattle.spec_numbers.proofs.Ring.{v, ◌⊕◌, ◌⊖◌, ◌⊗◌, ring}
use Rattle.spec_numbers.proofs.Order.{lin}
use Rattle.spec_intervals.specs.Interval.{signed_sq}
use Rattle.spec_meanings.proofs.Conditions.{none, more, first, rest}
use Rattle.spec_meanings.proofs.Distances.{farther_means, larger_means, smaller_means}
use Rattle.spec_meanings.proofs.Covers.{covering}
use Rattle.spec_meanings.proofs.Edges.{covers_low}
use Rattle.spec_meanings.proofs.Overlaps.{overlapping, overlap_is_low}

module _ (exact : Leaf → ℤ → Fraction) (t : ℤ) (s : Scene) (shows : Shows exact t s) (axis : ℕ) (front back : Decimal) (r q : ℤ) (long : IsLong s front r) (other : IsLong s back q) (sphere : IsSphere s.target r) (second : IsSphere s.second q) where
  pub overlap_means : IsNotNegative (exact_of exact (kind_function K.Any axis front back)) t ↔ SomeRayMeetsBoth s.target r s.second q
  overlap_means =
      let n = not_negative (overlap_row exact t s shows axis front back r q long other) in
      (λ h. overlapping s.target s.second r q sphere second (n.0 h), λ h. n.1 (overlap_is_low s.target s.second r q sphere second h))

  pub full_means : (IsNotNegative (exact_of exact (kind_function K.Full axis front back)) t × IsNoSmaller s.target r s.second q) ↔ Covers s.target r s.second q
  full_means =
      let n = not_negative (full_row exact t s shows axis front back r q long other) in
      (λ h. covering s.target s.second r q sphere second h.1 (n.0 h.0), λ h. let c = covers_low s.target s.second r q sphere second h in (n.1 c.0, c.1))

  -- the same polynomial with the spheres exchanged
  exchanged : signed_sq (dot s.second s.target -ℤ q *ℤ r) -ℤ (square s.second -ℤ q *ℤ q) *ℤ (square s.target -ℤ r *ℤ r) ≡ signed_sq (dot s.target s.second -ℤ r *ℤ q) -ℤ (square s.target -ℤ r *ℤ r) *ℤ (square s.second -ℤ q *ℤ q)
  exchanged =
      let a = s.target in
      let b = s.second in
      let d : dot b a -ℤ q *ℤ r ≡ dot a b -ℤ r *ℤ q = ring (a.x ∷ a.y ∷ a.z ∷ b.x ∷ b.y ∷ b.z ∷ r ∷ q ∷ []) (((v 3 ⊗ v 0 ⊕ v 4 ⊗ v 1) ⊕ v 5 ⊗ v 2) ⊖ v 7 ⊗ v 6) (((v 0 ⊗ v 3 ⊕ v 1 ⊗ v 4) ⊕ v 2 ⊗ v 5) ⊖ v 6 ⊗ v 7) tt in
      ap (λ z. signed_sq z -ℤ (square b -ℤ q *ℤ q) *ℤ (square a -ℤ r *ℤ r)) d ∙ ap (λ z. signed_sq (dot a b -ℤ r *ℤ q) -ℤ z) (ring ((square b -ℤ q *ℤ q) ∷ (square a -ℤ r *ℤ r) ∷ []) (v 0 ⊗ v 1) (v 1 ⊗ v 0) tt)

  pub annular_means : (IsNotNegative (exact_of exact (kind_function K.Annular axis front back)) t × IsNoSmaller s.second q s.target r) ↔ Covers s.second q s.target r
  annular_means =
      let n = not_negative (annular_row exact t s shows axis front back r q long other) in
      (λ h. let e = exchanged in let low : pos 0 ≤ℤ (signed_sq (dot s.target s.second -ℤ r *ℤ q) -ℤ (square s.target -ℤ r *ℤ r) *ℤ (square s.second -ℤ q *ℤ q)) = n.0 h.0 in covering s.second s.target q r second sphere h.1 (omega (arith, lin)), λ h. let e = exchanged in let c = covers_low s.second s.target q r second sphere h in let low : pos 0 ≤ℤ (signed_sq (dot s.second s.target -ℤ q *ℤ r) -ℤ (square s.second -ℤ q *ℤ q) *ℤ (square s.target -ℤ r *ℤ r)) = c.0 in (n.1 (omega (arith, lin)), c.1))

-- the conditions
module _ (exact : Leaf → ℤ → Fraction) (t : ℤ) (s : Scene) (shows : Shows exact t s) (front back : Decimal) where
  pub any_conditions : Hold exact (kind_conditions K.Any front back) t ↔ IsNoFarther s.target s.second
  any_conditions =
      let f = farther_means exact t s shows in
      (λ h. f.0 (first exact t (at_least_0 farther) [] h), λ h. more exact t (at_least_0 farther) [] (f.1 h) (none exact t))

  module _ (r q : ℤ) (long : IsLong s front r) (other : IsLong s back q) where
    pub full_conditions : Hold exact (kind_conditions K.Full front back) t ↔ (IsNoFarther s.target s.second × IsNoSmaller s.target r s.second q)
    full_conditions =
        let f = farther_means exact t s shows in
        let g = larger_means exact t s shows front back r q long other in
        (λ h. (f.0 (first exact t (at_least_0 farther) (at_least_0 (larger front back) ∷ []) h), g.0 (first exact t (at_least_0 (larger front back)) [] (rest exact t (at_least_0 farther) (at_least_0 (larger front back) ∷ []) h))), λ h. more exact t (at_least_0 farther) (at_least_0 (larger front back) ∷ []) (f.1 h.0) (more exact t (at_least_0 (larger front back)) [] (g.1 h.1) (none exact t)))

    pub annular_conditions : Hold exact (kind_conditions K.Annular front back) t ↔ (IsNoFarther s.target s.second × IsSmaller s.target r s.second q)
    annular_conditions =
        let f = farther_means exact t s shows in
        let g = smaller_means exact t s shows front back r q long other in
        (λ h. (f.0 (first exact t (at_least_0 farther) (below_0 (larger front back) ∷ []) h), g.0 (first exact t (below_0 (larger front back)) [] (rest exact t (at_least_0 farther) (below_0 (larger front back) ∷ []) h))), λ h. more exact t (at_least_0 farther) (below_0 (larger front back) ∷ []) (f.1 h.0) (more exact t (below_0 (larger front back)) [] (g.1 h.1) (none exact t)))
