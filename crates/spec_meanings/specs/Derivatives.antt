-- Derivatives of functions of whole numbers, with nothing that tends to 0. A polynomial with whole coefficients changes
-- over h by h times its derivative, up to a multiple of h^2; and only its derivative does so for each h.
use Rattle.std.specs.Prelude.{◌≡◌, ℕ, ℤ, ◌+ℤ◌, ◌*ℤ◌}
use Rattle.spec_intervals.specs.Fraction.{Fraction}
use Rattle.spec_ephemeris.specs.Series.{Series, position}
use Rattle.spec_ephemeris.specs.Velocity.{velocity}
use Rattle.spec_bodies.specs.declared.factor.Factor.{Factor}
use Rattle.spec_bodies.specs.Coordinates.{Coordinate}
use Rattle.spec_bodies.specs.Meanings.{exact_of}
use Rattle.spec_meanings.specs.Space.{Triple, dot, square}

-- f (t + h) = f t + h g t + h^2 rest
pub record Changes (f g : ℤ → ℤ) (t h : ℤ) : Type 0 where
  pub rest : ℤ
  pub is : f (t +ℤ h) ≡ (f t +ℤ h *ℤ g t) +ℤ (h *ℤ h) *ℤ rest

-- g is the derivative of f
abbrev pub IsDerivative : (ℤ → ℤ) → (ℤ → ℤ) → Type 0
IsDerivative f g = (t h : ℤ) → Changes f g t h

-- v is the velocity of a place that moves
pub record IsVelocity (p v : ℤ → Triple) : Type 0 where
  pub x : IsDerivative (λ t. (p t).x) (λ t. (v t).x)
  pub y : IsDerivative (λ t. (p t).y) (λ t. (v t).y)
  pub z : IsDerivative (λ t. (p t).z) (λ t. (v t).z)

-- A B, and half of what it changes by: (a a') B + A (b b')
abbrev pub squares_product : (ℤ → Triple) → (ℤ → Triple) → ℤ → ℤ
squares_product a b t = square (a t) *ℤ square (b t)

abbrev pub half_change : (ℤ → Triple) → (ℤ → Triple) → (ℤ → Triple) → (ℤ → Triple) → ℤ → ℤ
half_change a a' b b' t = dot (a t) (a' t) *ℤ square (b t) +ℤ square (a t) *ℤ dot (b t) (b' t)

-- the fractions v are the derivative of the fractions x: of their numerators, over one denominator at all times
pub record IsRate (x v : ℤ → Fraction) : Type 0 where
  pub numerators : IsDerivative (λ t. (x t).numerator) (λ t. (v t).numerator)
  pub same_denominator : (t : ℤ) → (v t).denominator ≡ (x t).denominator
  pub one_denominator : (t h : ℤ) → (x (t +ℤ h)).denominator ≡ (x t).denominator

-- a coordinate's formula, where each column stays in one granule, whose series is given
abbrev pub placed : (ℕ → ℕ → Series) → (Factor → Fraction) → Coordinate → ℤ → Fraction
placed series factors c t = exact_of (λ number axis. position (series number axis)) factors c t

abbrev pub moved : (ℕ → ℕ → Series) → (Factor → Fraction) → Coordinate → ℤ → Fraction
moved series factors c t = exact_of (λ number axis. velocity (series number axis)) factors c t
