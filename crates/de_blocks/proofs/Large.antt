-- A decimal that is not below 2^36 in size is too large.
use Rattle.std.proofs.Common.{◌≡◌, ℕ, ◌<◌, ◌↔◌, Bool, true, false, not, nat_le, IsTrue, Option, None, Some, refl, subst, arith}
use Rattle.std.proofs.lemmas.Bool.{false≢true}
use Rattle.std.proofs.lemmas.Bool.Decides.{nat_tests}
use Rattle.spec_intervals.specs.Interval.{IsDistance}
use Rattle.spec_text.specs.declared.decimals.Decimal.{Decimal}
use Rattle.spec_ephemeris.specs.declared.granule.Rounded.{Rounded}
use Rattle.eph_model.specs.Stores.{IsRounded}
use Rattle.spec_files.specs.BlockRules.{is_too_large}

not_below : (test : Bool) (x y : ℕ) → IsTrue test ↔ (x < y) → not test ≡ nat_le y x
not_below true x y known = let below : x < y = known.0 refl in grind (arith, nat_tests)
not_below false x y known = grind (arith, nat_tests)

large_by_test : (d : Decimal) (test : Bool) → IsTrue test ↔ IsDistance d.mant d.exp → not test ≡ is_too_large d
large_by_test d test known = not_below test _ _ known

pub small_one : (d : Decimal) (p : Rounded) (r : Option Rounded) → r ≡ Some p → IsRounded d r → false ≡ is_too_large d
small_one d p r is rounded =
    let some = subst (IsRounded d) is rounded in
    large_by_test d true ((λ t. some.0), (λ near. refl))

pub large_one : (d : Decimal) (r : Option Rounded) → r ≡ None → IsRounded d r → true ≡ is_too_large d
large_one d r is rounded =
    let far = subst (IsRounded d) is rounded in
    large_by_test d false ((λ t. absurd (false≢true t)), (λ near. absurd (far near)))
