-- Tests that hold together, or fail together.
use Rattle.std.proofs.Common.{◌≡◌, Bool, true, false, ◌&&◌, refl}

pub both_true : (a b : Bool) → a ≡ true → b ≡ true → (a && b) ≡ true
both_true a b p q = rw (p, q)

pub both_first : (a b : Bool) → (a && b) ≡ true → a ≡ true
both_first true b holds = refl
both_first false b holds = holds

pub both_second : (a b : Bool) → (a && b) ≡ true → b ≡ true
both_second true b holds = holds
both_second false b holds = absurd (cc)

pub not_both : (a b : Bool) → a ≡ false → (a && b) ≡ false
not_both a b fails = rw fails refl
