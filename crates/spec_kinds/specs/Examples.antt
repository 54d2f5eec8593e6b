-- Asks of the worked examples, and two bodies at rest in the plane of x and y.
use Rattle.std.specs.Prelude.{◌≡◌, zero, suc, None, Some, ℤ, pos, neg_ℤ}
use Rattle.spec_text.specs.declared.decimals.Decimal.{Decimal}
use Rattle.spec_ephemeris.specs.declared.body.Body.{Body}
use Rattle.spec_ephemeris.specs.declared.body.Body.TheVariants.{Mercury, Sun, Earth}
use Rattle.spec_ephemeris.specs.Examples.{whole}
use Rattle.spec_intervals.specs.Fraction.{Fraction, fraction}
use Rattle.spec_expressions.specs.Term.{Leaf, position, exact_of}
use Rattle.spec_bodies.specs.declared.frame.Frame.TheVariants.{Eq}
use Rattle.spec_events.specs.declared.dir.Dir.TheVariants as D
use Rattle.spec_kinds.specs.declared.ask.Ask.{Ask}
use Rattle.spec_kinds.specs.declared.kind.Kind.{Kind}
use Rattle.spec_kinds.specs.Kinds.{function_of}

-- 0.6
abbrev pub three_fifths : Decimal
three_fifths = record { mant = pos 6; exp = neg_ℤ (pos 1) }

-- one body seen from another, with a value
abbrev pub of_one : Kind → Body → Body → Decimal → Ask
of_one kind target observer value = record {
  kind = kind;
  target = target;
  second = None;
  observer = observer;
  frame = Eq;
  axis = 0;
  value1 = value;
  value2 = whole (pos 0);
  dir = D.Any;
}

-- two bodies seen from a third, with two values
abbrev pub of_two : Kind → Body → Body → Body → Decimal → Decimal → Ask
of_two kind target second observer one other = record {
  kind = kind;
  target = target;
  second = Some second;
  observer = observer;
  frame = Eq;
  axis = 0;
  value1 = one;
  value2 = other;
  dir = D.Any;
}

-- the target at rest at (x, y, 0), and the second body at (u, v, 0)
abbrev pub places : ℤ → ℤ → ℤ → ℤ → Leaf → ℤ → Fraction
places x y u v (position zero zero) t = fraction x 1
places x y u v (position zero (suc zero)) t = fraction y 1
places x y u v (position (suc target) zero) t = fraction u 1
places x y u v (position (suc target) (suc zero)) t = fraction v 1
places x y u v leaf t = fraction (pos 0) 1

-- the function of the kind is 0 there
abbrev pub IsZeroAt : Kind → Decimal → Decimal → (Leaf → ℤ → Fraction) → Type 0
IsZeroAt kind one other exact = (exact_of exact (function_of (of_two kind Mercury Sun Earth one other)) (pos 0)).numerator ≡ pos 0
