-- What conjunctions and oppositions mean.
use Rattle.std.proofs.Common.{◌≡◌, ℕ, [], ◌∷◌, sym, ℤ, pos, ◌≤ℤ◌}
use Rattle.std.specs.Prelude.{◌↔◌}
use Rattle.spec_text.specs.declared.decimals.Decimal.{Decimal}
use Rattle.spec_intervals.specs.Fraction.{Fraction}
use Rattle.spec_expressions.specs.Term.{Leaf}
use Rattle.spec_events.specs.Functions.{IsNotNegative, IsOnSide}
use Rattle.spec_expressions.specs.Term.{exact_of}
use Rattle.spec_kinds.specs.declared.kind.Kind.TheVariants as K
use Rattle.spec_kinds.specs.Vectors.{target, second, plane_dot as plane_dot_term}
use Rattle.spec_kinds.specs.Shadows.{at_least_0, below_0}
use Rattle.spec_kinds.specs.Kinds.{kind_function, kind_conditions}
use Rattle.spec_searches.specs.Event.{Condition}
use Rattle.spec_meanings.specs.Space.{plane_dot, plane_cross, quarter_turned, AreInHalfPlane, AreInOppositeHalfPlanes}
use Rattle.spec_meanings.specs.Scenes.{Scene, Shows}
use Rattle.spec_meanings.specs.Events.{Is0, Hold}
use Rattle.spec_meanings.proofs.Signs.{not_negative, negative, nought}
use Rattle.spec_meanings.proofs.Rows.{conjunction_row, side_row}
use Rattle.spec_meanings.proofs.Conditions.{none, more, first}
use Rattle.spec_meanings.proofs.Longitudes.{turned, in_half_plane, half_plane_means, in_opposite, opposite_means}

module _ (exact : Leaf → ℤ → Fraction) (t : ℤ) (s : Scene) (shows : Shows exact t s) (axis : ℕ) (one other : Decimal) where
  -- events with one condition, which holds where the dot product has a sign, are where two places lie so
  meeting_means : {Side Lie : Type 0} (c : Condition) → IsOnSide c.at_least (exact_of exact c.term) t ↔ Side
      → (plane_cross s.target s.second ≡ pos 0 → Side → Lie) → (Lie → (plane_cross s.target s.second ≡ pos 0) × Side)
      → (Is0 exact (kind_function K.Conj axis one other) t × Hold exact (c ∷ []) t) ↔ Lie
  meeting_means {Side} {Lie} c side in_place means = (there, back)
    where
      row : (exact_of exact (kind_function K.Conj axis one other) t).numerator ≡ pos 0 ↔ (plane_cross s.target s.second ≡ pos 0)
      row = nought (conjunction_row exact t s shows axis one other)

      there : Is0 exact (kind_function K.Conj axis one other) t × Hold exact (c ∷ []) t → Lie
      there h = in_place (row.0 h.0) (side.0 (first exact t c [] h.1))

      back : Lie → Is0 exact (kind_function K.Conj axis one other) t × Hold exact (c ∷ []) t
      back h = let m = means h in (row.1 m.0, more exact t c [] (side.1 m.1) (none exact t))

  pub conjunction_means : (Is0 exact (kind_function K.Conj axis one other) t × Hold exact (kind_conditions K.Conj one other) t) ↔ AreInHalfPlane s.target s.second
  conjunction_means =
      meeting_means (at_least_0 (plane_dot_term target second)) (not_negative (side_row exact t s shows))
      (in_half_plane s.target s.second) (half_plane_means s.target s.second)

  pub opposition_means : (Is0 exact (kind_function K.Oppo axis one other) t × Hold exact (kind_conditions K.Oppo one other) t) ↔ AreInOppositeHalfPlanes s.target s.second
  opposition_means =
      meeting_means (below_0 (plane_dot_term target second)) (negative (side_row exact t s shows))
      (in_opposite s.target s.second) (opposite_means s.target s.second)

  pub side_means : IsNotNegative (exact_of exact (kind_function K.Conj axis one other)) t ↔ (pos 0 ≤ℤ plane_dot (quarter_turned s.target) s.second)
  side_means =
      let n = not_negative (conjunction_row exact t s shows axis one other) in
      let e = turned s.target s.second in
      (λ h. rw (sym e) (n.0 h), λ h. n.1 (rw e h))

  pub opposition_side_means : IsNotNegative (exact_of exact (kind_function K.Oppo axis one other)) t ↔ (pos 0 ≤ℤ plane_dot (quarter_turned s.target) s.second)
  opposition_side_means = side_means
