use Rattle.std.proofs.Common.{◌≡◌, ◌^◌, ◌<◌, ◌*ℤ◌, ◌≤ℤ◌, ◌∷◌, [], Bool, true, false, arith, refl, ℤ, pos, slice_index_or, unsigned_abs, to_z, of_z, w64}
use Rattle.std.proofs.lemmas.Int.{ints, to_z-of_z}
use Rattle.std.specs.Int.{from_bool, int_min, int_max}
use lib.Signed.{lt_z}
use Rattle.spec_chebyshev.specs.Differences.{Within}
use Rattle.spec_numbers.proofs.Order.{le-mul, le-mul_neg}
use Rattle.cheby_enclose.proofs.OneSign.{in_order, turned}
use Rattle.cheby_enclose.proofs.sums.ends_by_product.Goals as goal

passed : (z : ℤ) → unsigned_abs z < 2 ^ 63 → to_z w64 (of_z w64 z) ≡ z
passed z h = to_z-of_z w64 z (omega (arith, ints))

wide : (z : ℤ) → Within z (pos (2 ^ 60)) → unsigned_abs z < 2 ^ 63
wide z h = omega (arith, ints)

-- the end taken by its place gives the lesser product, and the other the greater
lesser : (a b z : ℤ) → a ≤ℤ b → (is : Bool) → lt_z z (pos 0) ≡ is → slice_index_or (a ∷ b ∷ []) (from_bool is) (pos 0) *ℤ z ≡ int_min (a *ℤ z) (b *ℤ z)
lesser a b z h true e = (turned _ _ (le-mul_neg a b z (omega (arith, ints)) h)).0
lesser a b z h false e = (in_order _ _ (le-mul a b z (omega (arith, ints)) h)).0

greater : (a b z : ℤ) → a ≤ℤ b → (is : Bool) → lt_z z (pos 0) ≡ is → slice_index_or (b ∷ a ∷ []) (from_bool is) (pos 0) *ℤ z ≡ int_max (a *ℤ z) (b *ℤ z)
greater a b z h true e = (turned _ _ (le-mul_neg a b z (omega (arith, ints)) h)).1
greater a b z h false e = (in_order _ _ (le-mul a b z (omega (arith, ints)) h)).1

pub returns-clause-lesser : goal.returns-clause-lesser
returns-clause-lesser c =
    let p = c.requires.pair in
    let is = c.one_of.ensures in
    rw (to_z-of_z w64 c.one_of.result (record { sfits = c.one_of.type_inv }), is, passed c.args.c.lo (wide c.args.c.lo p.small.lo), passed c.args.c.hi (wide c.args.c.hi p.small.hi), to_z-of_z w64 c.args.z c.ranges.z) (lesser c.args.c.lo c.args.c.hi c.args.z p.ordered _ refl)

pub returns-clause-greater : goal.returns-clause-greater
returns-clause-greater c =
    let p = c.requires.pair in
    let is = c.one_of-2.ensures in
    rw (to_z-of_z w64 c.one_of-2.result (record { sfits = c.one_of-2.type_inv }), is, passed c.args.c.lo (wide c.args.c.lo p.small.lo), passed c.args.c.hi (wide c.args.c.hi p.small.hi), to_z-of_z w64 c.args.z c.ranges.z) (greater c.args.c.lo c.args.c.hi c.args.z p.ordered _ refl)
