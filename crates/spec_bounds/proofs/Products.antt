-- Quotients and products grow with what they are made of: division rounded down and up keeps the order, and wider intervals
-- have a lesser least product of ends and a greater greatest one.
use Rattle.std.proofs.Common.{◌≡◌, ℕ, ◌<◌, arith, [], ◌∷◌, ℤ, pos, ◌+ℤ◌, ◌*ℤ◌, neg_ℤ, ◌≤ℤ◌, ◌<ℤ◌}
use Rattle.std.proofs.lemmas.Int.{ints}
use Rattle.std.specs.Int.{int_min, int_max}
use Rattle.spec_numbers.specs.Numbers.{floor_div, ceil_div}
use Rattle.spec_numbers.proofs.Ring.{v, k as lit, ◌⊕◌, ◌⊗◌, ring}
use Rattle.spec_numbers.proofs.Order.{lin, lt-mul_cancel}
use Rattle.spec_numbers.proofs.Floor.{floor_div-le, floor_div-lt}
use Rattle.spec_numbers.proofs.Corners.{corner_low, corner_high, between_low, between_high}
use Rattle.spec_intervals.specs.Interval.{least4, greatest4}
use Rattle.spec_intervals.proofs.Products.{least4-le, greatest4-ge}
use Rattle.spec_models.proofs.ProductInclusions.{below_least, above_greatest}
use Rattle.spec_chebyshev.specs.declared.ends.Ival62.{Ival62}
use Rattle.spec_bounds.proofs.Covers.{Covers, IsOrdered}

-- ---- quotients
pub floor_div-grows : (a b : ℤ) (d : ℕ) → 0 < d → a ≤ℤ b → floor_div a d ≤ℤ floor_div b d
floor_div-grows a b d d0 h =
    let p : (floor_div a d *ℤ pos d) ≤ℤ a = floor_div-le a d d0 in
    let q : b <ℤ (floor_div b d *ℤ pos d +ℤ pos d) = floor_div-lt b d d0 in
    let e : (floor_div b d +ℤ pos 1) *ℤ pos d ≡ floor_div b d *ℤ pos d +ℤ pos d = ring (floor_div b d ∷ pos d ∷ []) ((v 0 ⊕ lit (pos 1)) ⊗ v 1) (v 0 ⊗ v 1 ⊕ v 1) tt in
    let g : floor_div a d <ℤ (floor_div b d +ℤ pos 1) = lt-mul_cancel (floor_div a d) (floor_div b d +ℤ pos 1) d (omega (arith, lin)) in
    omega (arith, lin)

pub ceil_div-grows : (a b : ℤ) (d : ℕ) → 0 < d → a ≤ℤ b → ceil_div a d ≤ℤ ceil_div b d
ceil_div-grows a b d d0 h =
    let g : floor_div (neg_ℤ b) d ≤ℤ floor_div (neg_ℤ a) d = floor_div-grows (neg_ℤ b) (neg_ℤ a) d d0 (omega (arith, lin)) in
    omega (arith, lin)

-- ---- the lesser and the greater of two numbers
pub max_grows : (a b c : ℤ) → a ≤ℤ b → int_max a c ≤ℤ int_max b c
max_grows a b c h = grind (arith, ints)

pub min_grows : (a b c : ℤ) → a ≤ℤ b → int_min a c ≤ℤ int_min b c
min_grows a b c h = grind (arith, ints)

-- ---- products of ends
-- each end of an interval whose ends are in order lies in one that covers it
module _ (y x : Ival62) (ordered : IsOrdered x) (covers : Covers y x) where
  after_low : y.lo ≤ℤ x.hi
  after_low = let p = covers.low in omega (arith, lin)

  before_high : x.lo ≤ℤ y.hi
  before_high = let p = covers.high in omega (arith, lin)

-- the least and the greatest of the products of their ends
abbrev least_of : Ival62 → Ival62 → ℤ
least_of c e = least4 c.lo c.hi e.lo e.hi

abbrev greatest_of : Ival62 → Ival62 → ℤ
greatest_of c e = greatest4 c.lo c.hi e.lo e.hi

-- both factors in wider intervals
module _ (y x f e : Ival62) (x_ordered : IsOrdered x) (e_ordered : IsOrdered e) (round_x : Covers y x) (round_e : Covers f e) where
  -- they bound each product of two numbers in the wider intervals
  least_below : (u w : ℤ) → y.lo ≤ℤ u → u ≤ℤ y.hi → f.lo ≤ℤ w → w ≤ℤ f.hi → least_of y f ≤ℤ (u *ℤ w)
  least_below u w ul uh wl wh =
      let c = least4-le y.lo y.hi f.lo f.hi in
      corner_low (least_of y f) y.lo y.hi f.lo f.hi u w ul uh wl wh c.0 c.1 c.2 c.3

  greatest_above : (u w : ℤ) → y.lo ≤ℤ u → u ≤ℤ y.hi → f.lo ≤ℤ w → w ≤ℤ f.hi → (u *ℤ w) ≤ℤ greatest_of y f
  greatest_above u w ul uh wl wh =
      let c = greatest4-ge y.lo y.hi f.lo f.hi in
      corner_high (greatest_of y f) y.lo y.hi f.lo f.hi u w ul uh wl wh c.0 c.1 c.2 c.3

  xh : y.lo ≤ℤ x.hi
  xh = after_low y x x_ordered round_x

  xl : x.lo ≤ℤ y.hi
  xl = before_high y x x_ordered round_x

  eh : f.lo ≤ℤ e.hi
  eh = after_low f e e_ordered round_e

  el : e.lo ≤ℤ f.hi
  el = before_high f e e_ordered round_e

  pub least-falls : least_of y f ≤ℤ least4 x.lo x.hi e.lo e.hi
  least-falls =
      below_least (least_of y f) (x.lo *ℤ e.lo) (x.lo *ℤ e.hi) (x.hi *ℤ e.lo) (x.hi *ℤ e.hi)
      (least_below x.lo e.lo round_x.low xl round_e.low el) (least_below x.lo e.hi round_x.low xl eh round_e.high)
      (least_below x.hi e.lo xh round_x.high round_e.low el) (least_below x.hi e.hi xh round_x.high eh round_e.high)

  pub greatest-grows : greatest4 x.lo x.hi e.lo e.hi ≤ℤ greatest_of y f
  greatest-grows =
      above_greatest (greatest_of y f) (x.lo *ℤ e.lo) (x.lo *ℤ e.hi) (x.hi *ℤ e.lo) (x.hi *ℤ e.hi)
      (greatest_above x.lo e.lo round_x.low xl round_e.low el) (greatest_above x.lo e.hi round_x.low xl eh round_e.high)
      (greatest_above x.hi e.lo xh round_x.high round_e.low el) (greatest_above x.hi e.hi xh round_x.high eh round_e.high)

-- one factor in a wider interval, and the other between ends that may be in any order: so coefficients need no order
module _ (c f e : Ival62) (ordered : IsOrdered e) (round : Covers f e) where
  pub least-falls_beside : least_of c f ≤ℤ least4 c.lo c.hi e.lo e.hi
  least-falls_beside =
      let p = least4-le c.lo c.hi f.lo f.hi in
      below_least (least_of c f) (c.lo *ℤ e.lo) (c.lo *ℤ e.hi) (c.hi *ℤ e.lo) (c.hi *ℤ e.hi)
      (between_low (least_of c f) c.lo f.lo f.hi e.lo round.low (before_high f e ordered round) p.0 p.1) (between_low (least_of c f) c.lo f.lo f.hi e.hi (after_low f e ordered round) round.high p.0 p.1)
      (between_low (least_of c f) c.hi f.lo f.hi e.lo round.low (before_high f e ordered round) p.2 p.3) (between_low (least_of c f) c.hi f.lo f.hi e.hi (after_low f e ordered round) round.high p.2 p.3)

  pub greatest-grows_beside : greatest4 c.lo c.hi e.lo e.hi ≤ℤ greatest_of c f
  greatest-grows_beside =
      let p = greatest4-ge c.lo c.hi f.lo f.hi in
      above_greatest (greatest_of c f) (c.lo *ℤ e.lo) (c.lo *ℤ e.hi) (c.hi *ℤ e.lo) (c.hi *ℤ e.hi)
      (between_high (greatest_of c f) c.lo f.lo f.hi e.lo round.low (before_high f e ordered round) p.0 p.1) (between_high (greatest_of c f) c.lo f.lo f.hi e.hi (after_low f e ordered round) round.high p.0 p.1)
      (between_high (greatest_of c f) c.hi f.lo f.hi e.lo round.low (before_high f e ordered round) p.2 p.3) (between_high (greatest_of c f) c.hi f.lo f.hi e.hi (after_low f e ordered round) round.high p.2 p.3)
