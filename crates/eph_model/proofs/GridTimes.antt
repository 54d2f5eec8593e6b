-- Times of a grid in 64 bits: where its granules start, and how far a time is behind the first start.
use Rattle.std.proofs.Common.{◌≡◌, ◌∙◌, ℕ, ◌*◌, ◌^◌, ◌≤◌, arith, ℤ, pos, neg_ℤ, ◌+ℤ◌, ◌-ℤ◌, ◌<ℤ◌, ◌≤ℤ◌, unsigned_abs, to_z, of_z, w64}
use Rattle.std.proofs.lemmas.Int.{ints, to_z-of_z, to_z_pos, fits_signed_from_abs}
use Rattle.std.proofs.lemmas.Nat.{mul-le}
use mir.Val.{SFits, Fits}

start_kept : (start : ℤ) → neg_ℤ (pos (2 ^ 48)) ≤ℤ start → start ≤ℤ pos (2 ^ 48) → to_z w64 (of_z w64 start) ≡ start
start_kept start early late = to_z-of_z w64 start (omega (arith, ints, early, late))

module _ (start : ℤ) (index seconds count : ℕ) (early : neg_ℤ (pos (2 ^ 48)) ≤ℤ start) (late : start ≤ℤ pos (2 ^ 48)) (within : count * seconds ≤ 2 ^ 47) (inside : index ≤ count) where
  passed : index * seconds ≤ 2 ^ 47
  passed = let h = mul-le index seconds count seconds inside (omega arith) in omega (arith, h, within)

  pub passed_fits : Fits w64 (index * seconds)
  passed_fits = let p = passed in record { fits = omega (arith, p) }

  pub passed_narrow : SFits w64 (pos (index * seconds))
  passed_narrow = let p = passed in fits_signed_from_abs w64 (pos (index * seconds)) (omega (arith, p))

  time_is : to_z w64 (of_z w64 start) +ℤ to_z w64 (index * seconds) ≡ start +ℤ pos (index * seconds)
  time_is =
      let p = passed in
      let long = to_z_pos w64 (index * seconds) (omega (arith, p)) in
      λ i. start_kept start early late i +ℤ long i

  pub time_fits : SFits w64 (to_z w64 (of_z w64 start) +ℤ to_z w64 (index * seconds))
  time_fits = let p = passed in rw time_is (omega (arith, ints, p, early, late))

  pub time_kept : to_z w64 (of_z w64 (to_z w64 (of_z w64 start) +ℤ to_z w64 (index * seconds))) ≡ start +ℤ pos (index * seconds)
  time_kept = to_z-of_z w64 _ time_fits ∙ time_is

-- ---- how far a time is behind the start
module _ (start t : ℤ) (n : ℕ) (early : neg_ℤ (pos (2 ^ 48)) ≤ℤ start) (late : start ≤ℤ pos (2 ^ 48)) (short : n ≤ 2 ^ 47) (from : start ≤ℤ t) (upto : t ≤ℤ (start +ℤ pos n)) (fits : SFits w64 t) where
  offset_is : to_z w64 (of_z w64 t) -ℤ to_z w64 (of_z w64 start) ≡ t -ℤ start
  offset_is = λ i. to_z-of_z w64 t fits i -ℤ start_kept start early late i

  pub offset_fits : SFits w64 (to_z w64 (of_z w64 t) -ℤ to_z w64 (of_z w64 start))
  offset_fits = rw offset_is (omega (arith, ints, from, upto, short))

  pub offset_kept : to_z w64 (of_z w64 (to_z w64 (of_z w64 t) -ℤ to_z w64 (of_z w64 start))) ≡ t -ℤ start
  offset_kept = to_z-of_z w64 _ offset_fits ∙ offset_is

  pub offset_size : unsigned_abs (to_z w64 (of_z w64 (to_z w64 (of_z w64 t) -ℤ to_z w64 (of_z w64 start)))) ≤ n
  offset_size = rw offset_kept (omega (arith, ints, from, upto))

-- ---- two times in order
pub first_upto : (start a b : ℤ) (n : ℕ) → a <ℤ b → b ≤ℤ (start +ℤ pos n) → a ≤ℤ (start +ℤ pos n)
first_upto start a b n order upto = omega (arith, ints, order, upto)

pub last_from : (start a b : ℤ) → a <ℤ b → start ≤ℤ a → start ≤ℤ b
last_from start a b order from = omega (arith, ints, order, from)
