-- The argument of a granule over times within it.
use Rattle.std.proofs.Common.{◌≡◌, ◌∙◌, ◌^◌, ◌≤◌, arith, sym, ℤ, pos, ◌+ℤ◌, ◌-ℤ◌, ◌*ℤ◌, ◌≤ℤ◌, ◌<ℤ◌, unsigned_abs, to_z, of_z, w64, FitsSigned}
use Rattle.std.proofs.lemmas.Int.{ints}

abbrev kept : ℤ → ℤ
kept z = to_z w64 (of_z w64 z)

keeps : (z : ℤ) → unsigned_abs z ≤ 2 ^ 52 → kept z ≡ z
keeps z small = omega (arith, ints, small)

module _ (first last start seconds : ℤ) (long : pos 1 ≤ℤ seconds) (short : seconds ≤ℤ pos (2 ^ 40)) (near : unsigned_abs start ≤ 2 ^ 50) (from : start ≤ℤ first) (ordered : first <ℤ last)
    (upto : last ≤ℤ (start +ℤ seconds)) where
  first_kept : kept first ≡ first
  first_kept = keeps first (omega (arith, ints, short, near, from, ordered, upto))

  last_kept : kept last ≡ last
  last_kept = keeps last (omega (arith, ints, short, near, from, ordered, upto))

  pub start_kept : kept start ≡ start
  start_kept = keeps start (omega (arith, near))

  pub seconds_kept : kept seconds ≡ seconds
  seconds_kept = keeps seconds (omega (arith, ints, long, short))

  after_kept : kept (kept first -ℤ kept start) ≡ first -ℤ start
  after_kept = (λ i. kept (first_kept i -ℤ start_kept i)) ∙ keeps (first -ℤ start) (omega (arith, ints, short, from, ordered, upto))

  upto_kept : kept (kept last -ℤ kept start) ≡ last -ℤ start
  upto_kept = (λ i. kept (last_kept i -ℤ start_kept i)) ∙ keeps (last -ℤ start) (omega (arith, ints, short, from, ordered, upto))

  both_kept : kept (kept (kept first -ℤ kept start) +ℤ kept (kept last -ℤ kept start)) ≡ (first -ℤ start) +ℤ (last -ℤ start)
  both_kept = (λ i. kept (after_kept i +ℤ upto_kept i)) ∙ keeps ((first -ℤ start) +ℤ (last -ℤ start)) (omega (arith, ints, short, from, ordered, upto))

  middle_fits : FitsSigned w64 (((first -ℤ start) +ℤ (last -ℤ start)) -ℤ seconds)
  middle_fits = omega (arith, ints, long, short, from, ordered, upto)

  pub less_fits : FitsSigned w64 (kept (kept (kept first -ℤ kept start) +ℤ kept (kept last -ℤ kept start)) -ℤ kept seconds)
  less_fits = rw (both_kept, seconds_kept) middle_fits

  middle_small : unsigned_abs (((first -ℤ start) +ℤ (last -ℤ start)) -ℤ seconds) ≤ unsigned_abs seconds
  middle_small = omega (arith, ints, long, from, ordered, upto)

  own_kept : kept (kept (kept (kept first -ℤ kept start) +ℤ kept (kept last -ℤ kept start)) -ℤ kept seconds) ≡ ((first -ℤ start) +ℤ (last -ℤ start)) -ℤ seconds
  own_kept = (λ i. kept (both_kept i -ℤ seconds_kept i)) ∙ keeps (((first -ℤ start) +ℤ (last -ℤ start)) -ℤ seconds) (omega (arith, ints, long, short, from, ordered, upto))

  twice : first +ℤ last -ℤ (start +ℤ start) -ℤ pos (unsigned_abs seconds) ≡ ((first -ℤ start) +ℤ (last -ℤ start)) -ℤ seconds
  twice = omega (arith, ints, long)

  pub middle_kept : kept (kept (kept (kept first -ℤ kept start) +ℤ kept (kept last -ℤ kept start)) -ℤ kept seconds) ≡ first +ℤ last -ℤ pos 2 *ℤ start -ℤ pos (unsigned_abs seconds)
  middle_kept = let d : pos 2 *ℤ start ≡ start +ℤ start = omega (arith, ints) in own_kept ∙ (rw d (sym twice))

  pub middle_within : unsigned_abs (kept (kept (kept (kept first -ℤ kept start) +ℤ kept (kept last -ℤ kept start)) -ℤ kept seconds)) ≤ unsigned_abs (kept seconds)
  middle_within = rw (own_kept, seconds_kept) middle_small

  pub length_kept : kept (kept (kept last -ℤ kept start) -ℤ kept (kept first -ℤ kept start)) ≡ last -ℤ first
  length_kept = (λ i. kept (upto_kept i -ℤ after_kept i)) ∙ keeps ((last -ℤ start) -ℤ (first -ℤ start)) (omega (arith, ints, short, from, ordered, upto)) ∙ omega (arith, ints)
