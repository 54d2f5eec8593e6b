-- A model with the same coefficients, at least the same error and the same unit is near all that another is near.
use Rattle.std.proofs.Common.{◌≡◌, ℕ, ◌≤◌, List, ℤ, subst}
use Rattle.spec_intervals.specs.Interval.{Interval}
use Rattle.spec_intervals.specs.Fraction.{Fraction}
use Rattle.spec_chebyshev.specs.Differences.{IsArgument}
use Rattle.spec_models.specs.Models.{Covers, IsNear, Model, coefficient, model}
use Rattle.spec_models.proofs.Coefficients.{near-same_coefficients}
use Rattle.spec_models.proofs.Made.{near-error}

module _ (p q : ℤ) (is : IsArgument p q) (m : Model) (ys : List ℤ) (e : ℕ) (s : ℤ) (same : (k : ℕ) → coefficient m.coefficients k ≡ coefficient ys k)
    (more : m.error ≤ e) (unit : m.exponent ≡ s) where
  pub near_like : (r : Fraction) → IsNear m p q r → IsNear (model ys e s) p q r
  near_like r near =
      subst (λ u. IsNear (model ys e u) p q r) unit (near-error p q is (model ys m.error m.exponent) e r more (near-same_coefficients p q is m ys r same near))

  pub covers_like : (x : Interval) → Covers m p q x → Covers (model ys e s) p q x
  covers_like x covers = record { low = near_like _ covers.low; high = near_like _ covers.high }
