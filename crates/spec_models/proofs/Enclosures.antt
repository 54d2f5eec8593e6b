-- A bound of what an enclosure is made of includes the enclosure.
use Rattle.std.proofs.Common.{◌≡◌, arith, refl, ℤ, pos, ◌+ℤ◌, ◌-ℤ◌, ◌≤ℤ◌, ◌<ℤ◌, Bool, true, false}
use Rattle.std.specs.Prelude.{if◌then◌else◌}
use lib.Signed.{lt_z}
use Rattle.spec_numbers.proofs.Order.{lin}
use Rattle.spec_intervals.specs.Interval.{Interval, lift_limit, zero_interval, product, meet}
use Rattle.spec_intervals.specs.Fraction.{Fraction, IsFraction, Holds}
use Rattle.spec_intervals.specs.Enclosure.{AllFractions, PartsHold, triple, middle, offsets, centred, enclosure}
use Rattle.spec_intervals.proofs.Narrow.{IsIval-narrow}
use Rattle.spec_intervals.proofs.Products.{corners_ordered}
use Rattle.spec_intervals.proofs.Rules.{ends-in_order}
use Rattle.spec_intervals.proofs.Centred.{middle_between, IsFraction-sub}
use Rattle.spec_intervals.proofs.Enclosed.{Overlaps-parts}
use Rattle.spec_models.specs.Inclusion.{Includes}
use Rattle.spec_models.specs.Bounds.{IncludesEnclosure, coarsened, reached, bound}
use Rattle.spec_models.proofs.Coarse.{Includes-coarsened}
use Rattle.spec_models.proofs.ProductInclusions.{Includes-product}
use Rattle.spec_models.proofs.SumInclusions.{Includes-sum}
use Rattle.spec_models.proofs.Squares.{Includes-offsets}
use Rattle.spec_models.proofs.Meets.{Includes-meet}

-- ---- ends in order
pub product_ordered : (x y : Interval) → (product x y).lo ≤ℤ (product x y).hi
unfolding product
product_ordered x y = (IsIval-narrow _ _ (x.s +ℤ y.s) (corners_ordered x.lo x.hi y.lo y.hi)).ordered

pub holds_ordered : (x : Interval) (r : Fraction) → IsFraction r → Holds x r → x.lo ≤ℤ x.hi
holds_ordered x r i h = ends-in_order x.lo x.hi x.s r i h.low h.high

offsets_ordered : (a b : ℤ) → a ≤ℤ b → (offsets a b).lo ≤ℤ (offsets a b).hi
offsets_ordered a b h = omega (arith, lin)

-- ---- the parts
module _ (f : ℤ → Fraction) (a b c d : ℤ) (ca : c ≤ℤ a) (ab : a <ℤ b) (bd : b ≤ℤ d) (fs : AllFractions f a b)
    (mid plain step range change : Interval) (parts : PartsHold f a b mid plain step)
    (mid_in : Includes range mid) (plain_in : Includes range plain) (step_in : Includes change step) where
  in_order : a ≤ℤ b
  in_order = omega (arith, lin)

  mid_ordered : mid.lo ≤ℤ mid.hi
  mid_ordered =
      let w = middle_between a b in_order in
      holds_ordered mid (f (middle a b)) (fs (middle a b) w.0 w.1) parts.mid

  step_ordered : step.lo ≤ℤ step.hi
  step_ordered =
      let here = fs a (omega (arith, lin)) in_order in
      let next = fs (a +ℤ pos 1) (omega (arith, lin)) (omega (arith, lin)) in
      holds_ordered step _ (IsFraction-sub (f (a +ℤ pos 1)) (f a) next here) (parts.step a (omega (arith, lin)) ab)

  reached_in : Includes (reached c d range change) (centred a b mid step)
  unfolding centred
  reached_in =
      let times = Includes-offsets a b c d ca in_order bd in
      let changes = Includes-product change (offsets c d) step (offsets a b) step_ordered (offsets_ordered a b in_order) step_in times in
      Includes-sum range (product change (offsets c d)) mid (product step (offsets a b))
      mid_ordered (product_ordered step (offsets a b)) mid_in changes

  pub IncludesEnclosure-parts : IncludesEnclosure (bound c d range change) (enclosure a b mid plain step)
  unfolding bound enclosure
  IncludesEnclosure-parts = by (lt_z a b) refl
    where
      by : (t : Bool) → lt_z a b ≡ t
          → IncludesEnclosure
          (record { range = coarsened ((reached c d range change).s -ℤ pos lift_limit) range; step = change })
          (if t then triple mid (meet plain (centred a b mid step)) step else triple mid mid zero_interval)
      by true e =
          let overlap = Overlaps-parts f a b fs in_order mid plain step parts in
          record {
            mid = Includes-coarsened _ range mid mid_ordered mid_in;
            range = Includes-meet plain (centred a b mid step) range (reached c d range change) overlap plain_in reached_in;
            step = step_in;
          }
      by false e = absurd (omega (arith, lin))
