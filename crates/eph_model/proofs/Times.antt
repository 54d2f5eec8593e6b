-- Times in 64 bits, as the code passes them on.
use Rattle.std.proofs.Common.{◌≡◌, ℕ, ◌*◌, ◌^◌, ◌≤◌, arith, ap, ◌∙◌, ℤ, pos, negsuc, ◌+ℤ◌, ◌*ℤ◌, ◌≤ℤ◌, unsigned_abs, to_z, of_z, w64, FitsSigned}
use Rattle.std.proofs.lemmas.Int.{ints, to_z-of_z, fits_signed_mul}
use Rattle.std.proofs.lemmas.Nat.{mul-le}
use Rattle.spec_ephemeris.specs.declared.limits.TheConstants.{LONGEST_TICKS, MAX_BLOCKS, MAX_TICK, SHORTEST_BLOCK}
use Rattle.spec_ephemeris.specs.Ephemeris.{IsEphemeris, IsStart, Ephemeris}

-- a product, and a sum, of two numbers that were passed on
pub product_passed : (a b x y : ℤ) → FitsSigned w64 x → FitsSigned w64 y → x ≡ a → y ≡ b
    → to_z w64 (of_z w64 x) *ℤ to_z w64 (of_z w64 y) ≡ a *ℤ b
product_passed a b x y p q e f = λ i. (to_z-of_z w64 x p ∙ e) i *ℤ (to_z-of_z w64 y q ∙ f) i

-- a time or a length in ticks
pub in_ticks_passed : (s x n : ℤ) (tick : ℕ) → FitsSigned w64 x → FitsSigned w64 n → x ≡ s → n ≡ pos tick
    → unsigned_abs s ≤ 2 ^ 38 → tick ≤ MAX_TICK
    → to_z w64 (of_z w64 (to_z w64 (of_z w64 x) *ℤ to_z w64 (of_z w64 n))) ≡ s *ℤ pos tick
in_ticks_passed s x n tick p q e f short few =
    let fits : FitsSigned w64 (s *ℤ pos tick) = fits_signed_mul w64 s (pos tick) (2 ^ 38) MAX_TICK short few (omega arith) in
    rw (product_passed s (pos tick) x n p q e f) (to_z-of_z w64 (s *ℤ pos tick) fits)

pub ticks_fit : (s x n : ℤ) (tick : ℕ) → FitsSigned w64 x → FitsSigned w64 n → x ≡ s → n ≡ pos tick
    → unsigned_abs s ≤ 2 ^ 38 → tick ≤ MAX_TICK
    → FitsSigned w64 (to_z w64 (of_z w64 x) *ℤ to_z w64 (of_z w64 n))
ticks_fit s x n tick p q e f short few = rw (product_passed s (pos tick) x n p q e f) (fits_signed_mul w64 s (pos tick) (2 ^ 38) MAX_TICK short few (omega arith))

-- the end of the last block
times_fit : (start seconds : ℤ) (blocks : ℕ) → blocks ≤ MAX_BLOCKS → SHORTEST_BLOCK ≤ℤ seconds → seconds ≤ℤ LONGEST_TICKS → IsStart start
    → FitsSigned w64 (pos blocks *ℤ seconds) × FitsSigned w64 (start +ℤ (pos blocks *ℤ seconds)) × FitsSigned w64 seconds × FitsSigned w64 start
times_fit start (pos k) blocks few low high within_bounds =
    let short : k ≤ unsigned_abs LONGEST_TICKS = omega (arith, ints, high) in
    let most : blocks * k ≤ MAX_BLOCKS * unsigned_abs LONGEST_TICKS = mul-le blocks k MAX_BLOCKS (unsigned_abs LONGEST_TICKS) few short in
    (omega (arith, ints, most), omega (arith, ints, most, within_bounds), omega (arith, ints, short), omega (arith, ints, within_bounds))
times_fit start (negsuc k) blocks few low high within_bounds = absurd (omega (arith, ints, low))

module _ (e : Ephemeris) (x : ℤ) (checked : IsEphemeris e) (passed : FitsSigned w64 x) (is : x ≡ pos e.blocks) where
  abbrev seconds : ℤ
  seconds = e.header.block_seconds

  fits : FitsSigned w64 (pos e.blocks *ℤ seconds) × FitsSigned w64 (e.start +ℤ (pos e.blocks *ℤ seconds)) × FitsSigned w64 seconds × FitsSigned w64 e.start
  fits = times_fit e.start seconds e.blocks checked.few checked.header.shortest checked.header.longest checked.start

  product : to_z w64 (of_z w64 x) *ℤ to_z w64 (of_z w64 seconds) ≡ pos e.blocks *ℤ seconds
  product = product_passed (pos e.blocks) seconds x seconds passed fits.2 is (λ i. seconds)

  sum : to_z w64 (of_z w64 e.start) +ℤ to_z w64 (of_z w64 (to_z w64 (of_z w64 x) *ℤ to_z w64 (of_z w64 seconds))) ≡ e.start +ℤ (pos e.blocks *ℤ seconds)
  sum = λ i. to_z-of_z w64 e.start fits.3 i +ℤ (ap (λ z. to_z w64 (of_z w64 z)) product ∙ to_z-of_z w64 _ fits.0) i

  pub product_fits : FitsSigned w64 (to_z w64 (of_z w64 x) *ℤ to_z w64 (of_z w64 seconds))
  product_fits = rw product fits.0

  pub end_fits : FitsSigned w64 (to_z w64 (of_z w64 e.start) +ℤ to_z w64 (of_z w64 (to_z w64 (of_z w64 x) *ℤ to_z w64 (of_z w64 seconds))))
  end_fits = rw sum fits.1

  pub end_passed : to_z w64 (of_z w64 (to_z w64 (of_z w64 e.start) +ℤ to_z w64 (of_z w64 (to_z w64 (of_z w64 x) *ℤ to_z w64 (of_z w64 seconds)))))
      ≡ e.start +ℤ (pos e.blocks *ℤ seconds)
  end_passed = rw sum (to_z-of_z w64 _ fits.1)
