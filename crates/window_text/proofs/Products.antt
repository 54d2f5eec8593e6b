-- Ticks of so many seconds, as the code multiplies and adds them: 64 bits hold them.
use Rattle.std.proofs.Common.{◌≡◌, ℕ, ◌≤◌, ◌<◌, ◌^◌, ℤ, pos, ◌+ℤ◌, ◌*ℤ◌, unsigned_abs, ◌∙◌, to_z, of_z, w64, arith}
use Rattle.std.proofs.lemmas.Int.{ints, to_z-of_z, to_z_pos}
use mir.Val.{SFits}
use Rattle.spec_numbers.proofs.Sizes.{product_size, sum_size}
use Rattle.spec_ephemeris.specs.Ticks.{IsTick}
use Rattle.spec_times.specs.TimeWords.{IsTime}

fits_small : (z : ℤ) → unsigned_abs z ≤ 10 ^ 18 → SFits w64 z
fits_small z h = omega (arith, ints)

pub time_small : (z : ℤ) → IsTime z → unsigned_abs z ≤ 10 ^ 14
time_small z is = omega (arith, ints, is.low, is.high)

module _ (z t : ℤ) (n : ℕ) (f : SFits w64 z) (g : SFits w64 t) (e : t ≡ pos n) (few : unsigned_abs z ≤ 10 ^ 14) (tick : IsTick n) where
  small : unsigned_abs (z *ℤ pos n) ≤ 10 ^ 17
  small = product_size z (pos n) (10 ^ 14) 1000 few (omega (arith, tick.few))

  product : to_z w64 (of_z w64 z) *ℤ to_z w64 (of_z w64 t) ≡ z *ℤ pos n
  product = λ i. to_z-of_z w64 z f i *ℤ (to_z-of_z w64 t g ∙ e) i

  pub product_fits : SFits w64 (to_z w64 (of_z w64 z) *ℤ to_z w64 (of_z w64 t))
  product_fits = rw product (fits_small (z *ℤ pos n) (omega (arith, small)))

  pub product_is : to_z w64 (of_z w64 (to_z w64 (of_z w64 z) *ℤ to_z w64 (of_z w64 t))) ≡ z *ℤ pos n
  product_is = to_z-of_z w64 _ product_fits ∙ product

  -- and so many ticks past them
  module _ (past : ℕ) (less : past < 10 ^ 14) where
    total : to_z w64 (of_z w64 (to_z w64 (of_z w64 z) *ℤ to_z w64 (of_z w64 t))) +ℤ to_z w64 past ≡ z *ℤ pos n +ℤ pos past
    total = λ i. product_is i +ℤ to_z_pos w64 past (omega arith) i

    pub total_fits : SFits w64 (to_z w64 (of_z w64 (to_z w64 (of_z w64 z) *ℤ to_z w64 (of_z w64 t))) +ℤ to_z w64 past)
    total_fits = rw total (fits_small (z *ℤ pos n +ℤ pos past) (omega (arith, sum_size (z *ℤ pos n) (pos past) (10 ^ 17) (10 ^ 14) small (omega arith))))

    pub total_is : to_z w64 (of_z w64 (to_z w64 (of_z w64 (to_z w64 (of_z w64 z) *ℤ to_z w64 (of_z w64 t))) +ℤ to_z w64 past)) ≡ z *ℤ pos n +ℤ pos past
    total_is = to_z-of_z w64 _ total_fits ∙ total
