-- The first of three tests that fails.
use Rattle.std.proofs.Common.{◌≡◌, Bool, true, false, not, None, Some, if◌then◌else◌, Option, refl}
use Rattle.spec_kinds.specs.declared.fault.EventFault.{EventFault}
use Rattle.spec_kinds.specs.declared.fault.EventFault.TheVariants.{BodyAbsent, SameBody, ReferenceRange}

abbrev first_of : Bool → Bool → Bool → Option EventFault
first_of there twice in_range =
    if not there then Some BodyAbsent
    else if twice then Some SameBody
    else if not in_range then Some ReferenceRange
    else None

pub absent : (there twice in_range : Bool) → there ≡ false → Some BodyAbsent ≡ first_of there twice in_range
absent there twice in_range is = rw is refl

pub same : (there twice in_range : Bool) → there ≡ true → twice ≡ true → Some SameBody ≡ first_of there twice in_range
same there twice in_range is again = rw (is, again) refl

pub out_of_range : (there twice in_range : Bool) → there ≡ true → twice ≡ false → in_range ≡ false → Some ReferenceRange ≡ first_of there twice in_range
out_of_range there twice in_range is once out = rw (is, once, out) refl

pub none : (there twice in_range : Bool) → there ≡ true → twice ≡ false → in_range ≡ true → None ≡ first_of there twice in_range
none there twice in_range is once within = rw (is, once, within) refl
