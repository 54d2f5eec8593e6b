-- What is known over some times is known over both halves of them. Times are passed on as words: m' is m.
use Rattle.std.proofs.Common.{◌≡◌, ℤ, ◌<ℤ◌, arith, to_z, of_z, w64, FitsSigned}
use Rattle.std.proofs.lemmas.Int.{ints, to_z-of_z}
use Rattle.spec_searches.specs.Search.{Search}
use Rattle.still_spans.specs.declared.known.Known.{Known}
use Rattle.still_spans.specs.declared.span_bound.SpanBound.{SpanBound}
use Rattle.still_spans.specs.Knowledge.{AreSignsKnownOver, AreWithin, IsBoundedOver, IsKnownOver}

module _ (m a' m' b' : ℤ) (meets : m' ≡ m) (after : a' <ℤ m) (before : m <ℤ b') where
  first_within : (first last : ℤ) → AreWithin first last a' b' → AreWithin first last a' m'
  first_within first last within =
      let from = within.from in
      let upto = within.upto in
      record {
        from = omega (arith, ints, from);
        several = omega (arith, ints, meets, after);
        upto = omega (arith, ints, meets, before, upto);
      }

  last_within : (first last : ℤ) → AreWithin first last a' b' → AreWithin first last m' b'
  last_within first last within =
      let from = within.from in
      let upto = within.upto in
      record {
        from = omega (arith, ints, meets, after, from);
        several = omega (arith, ints, meets, before);
        upto = omega (arith, ints, upto);
      }

  -- over the first half, and over the second
  first_of : (s : Search) (x : Known) (o : SpanBound) → IsKnownOver s x a' b' → IsBoundedOver s o a' b' → IsKnownOver s x a' m' × IsBoundedOver s o a' m'
  first_of s x o is over =
      (record { known = is.known; within = first_within x.first x.last is.within }, record { bounded = over.bounded; within = first_within o.first o.last over.within })

  last_of : (s : Search) (x : Known) (o : SpanBound) → IsKnownOver s x a' b' → IsBoundedOver s o a' b' → IsKnownOver s x m' b' × IsBoundedOver s o m' b'
  last_of s x o is over =
      (record { known = is.known; within = last_within x.first x.last is.within }, record { bounded = over.bounded; within = last_within o.first o.last over.within })

  -- and of signs
  first_signs : (s : Search) (x : Known) (o : SpanBound) → AreSignsKnownOver s x a' b' → IsBoundedOver s o a' b' → AreSignsKnownOver s x a' m' × IsBoundedOver s o a' m'
  first_signs s x o is over =
      (record { signs = is.signs; within = first_within x.first x.last is.within }, record { bounded = over.bounded; within = first_within o.first o.last over.within })

  last_signs : (s : Search) (x : Known) (o : SpanBound) → AreSignsKnownOver s x a' b' → IsBoundedOver s o a' b' → AreSignsKnownOver s x m' b' × IsBoundedOver s o m' b'
  last_signs s x o is over =
      (record { signs = is.signs; within = last_within x.first x.last is.within }, record { bounded = over.bounded; within = last_within o.first o.last over.within })

-- a time as it is passed on
abbrev passed : ℤ → ℤ
passed z = to_z w64 (of_z w64 z)

pub first_half : (a m b : ℤ) → FitsSigned w64 m → passed a <ℤ m → m <ℤ passed b → (s : Search) (x : Known) (o : SpanBound)
    → IsKnownOver s x (passed a) (passed b) → IsBoundedOver s o (passed a) (passed b) → IsKnownOver s x (passed a) (passed m) × IsBoundedOver s o (passed a) (passed m)
first_half a m b middle_fits = first_of m (passed a) (passed m) (passed b) (to_z-of_z w64 m middle_fits)

pub last_half : (a m b : ℤ) → FitsSigned w64 m → passed a <ℤ m → m <ℤ passed b → (s : Search) (x : Known) (o : SpanBound)
    → IsKnownOver s x (passed a) (passed b) → IsBoundedOver s o (passed a) (passed b) → IsKnownOver s x (passed m) (passed b) × IsBoundedOver s o (passed m) (passed b)
last_half a m b middle_fits = last_of m (passed a) (passed m) (passed b) (to_z-of_z w64 m middle_fits)

pub first_half_of_signs : (a m b : ℤ) → FitsSigned w64 m → passed a <ℤ m → m <ℤ passed b → (s : Search) (x : Known) (o : SpanBound)
    → AreSignsKnownOver s x (passed a) (passed b) → IsBoundedOver s o (passed a) (passed b) → AreSignsKnownOver s x (passed a) (passed m) × IsBoundedOver s o (passed a) (passed m)
first_half_of_signs a m b middle_fits = first_signs m (passed a) (passed m) (passed b) (to_z-of_z w64 m middle_fits)

pub last_half_of_signs : (a m b : ℤ) → FitsSigned w64 m → passed a <ℤ m → m <ℤ passed b → (s : Search) (x : Known) (o : SpanBound)
    → AreSignsKnownOver s x (passed a) (passed b) → IsBoundedOver s o (passed a) (passed b) → AreSignsKnownOver s x (passed m) (passed b) × IsBoundedOver s o (passed m) (passed b)
last_half_of_signs a m b middle_fits = last_signs m (passed a) (passed m) (passed b) (to_z-of_z w64 m middle_fits)
