use Rattle.std.proofs.Common.{rules, ◌≡◌, ◌∙◌, ◌≤◌, ◌^◌, w64, to_z, of_z, pos, neg_ℤ, ◌+ℤ◌, ◌-ℤ◌, unsigned_abs}
use Rattle.std.proofs.lemmas.Int.{to_z-of_z}
use Rattle.std.specs.Int.{int_min, int_max}
use mir.Syntax.{w128}
use mir.Val.{SFits}
use Rattle.spec_numbers.specs.Numbers.{floor_div, ceil_div}
use Rattle.spec_intervals.specs.Interval.{least4, greatest4}
use Rattle.spec_chebyshev.specs.Rows.{next, low_end, high_end}
use Rattle.spec_chebyshev.proofs.Arguments.{within_size}
use Rattle.spec_chebyshev.proofs.Bounds.{unit_fits, least4_bound, greatest4_bound}
use Rattle.cheby_laws.proofs.steps.next_entry.Goals as goal
use Rattle.cheby_laws.proofs.steps.next_entry.Goals.{After-product_ends-least}

module _ (c : After-product_ends-least) where
  products : (c.product_ends-least.result.0 ≡ least4 c.args.x.lo c.args.x.hi c.args.e.lo c.args.e.hi) × (c.product_ends-least.result.1 ≡ greatest4 c.args.x.lo c.args.x.hi c.args.e.lo c.args.e.hi)
  products =
      let a = unit_fits _ c.requires.x_in.lo in
      let b = unit_fits _ c.requires.x_in.hi in
      let p = unit_fits _ c.requires.e_in.lo in
      let q = unit_fits _ c.requires.e_in.hi in
      let least : c.product_ends-least.result.0 ≡ least4 c.args.x.lo c.args.x.hi c.args.e.lo c.args.e.hi = simp to_z-of_z at c.product_ends-least.ensures.least in
      let greatest : c.product_ends-least.result.1 ≡ greatest4 c.args.x.lo c.args.x.hi c.args.e.lo c.args.e.hi = simp to_z-of_z at c.product_ends-least.ensures.greatest in
      (least, greatest)

  sizes : (unsigned_abs c.product_ends-least.result.0 ≤ 2 ^ 120) × (unsigned_abs c.product_ends-least.result.1 ≤ 2 ^ 120)
  sizes =
      let a = within_size _ _ c.requires.x_in.lo in
      let b = within_size _ _ c.requires.x_in.hi in
      let p = within_size _ _ c.requires.e_in.lo in
      let q = within_size _ _ c.requires.e_in.hi in
      let least : unsigned_abs c.product_ends-least.result.0 ≤ 2 ^ 120 = rw products.0 (least4_bound c.args.x.lo c.args.x.hi c.args.e.lo c.args.e.hi a b p q) in
      let greatest : unsigned_abs c.product_ends-least.result.1 ≤ 2 ^ 120 = rw products.1 (greatest4_bound c.args.x.lo c.args.x.hi c.args.e.lo c.args.e.hi a b p q) in
      (least, greatest)

pub floor_in_row_unit-requires : goal.floor_in_row_unit-requires
floor_in_row_unit-requires c =
    let r : SFits w128 c.product_ends-least.result.0 = search rules in
    rw (to_z-of_z w128 c.product_ends-least.result.0 r) ((sizes (goal.at.floor_in_row_unit-requires c).After-product_ends-least).0)

pub ceil_in_row_unit-requires : goal.ceil_in_row_unit-requires
ceil_in_row_unit-requires c =
    let r : SFits w128 c.product_ends-least.result.1 = search rules in
    rw (to_z-of_z w128 c.product_ends-least.result.1 r) ((sizes (goal.at.ceil_in_row_unit-requires c).After-product_ends-least).1)

pub returns : goal.returns
unfolding next
returns c =
    let gl = unit_fits _ c.requires.extra_in.lo in
    let gh = unit_fits _ c.requires.extra_in.hi in
    let bl = unit_fits _ c.requires.before_in.lo in
    let bh = unit_fits _ c.requires.before_in.hi in
    let s = products (goal.at.returns c).After-product_ends-least in
    let r0 : SFits w128 c.product_ends-least.result.0 = search rules in
    let r1 : SFits w128 c.product_ends-least.result.1 = search rules in
    let qd : SFits w64 c.floor_in_row_unit.result = record { sfits = c.floor_in_row_unit.type_inv } in
    let qu : SFits w64 c.ceil_in_row_unit.result = record { sfits = c.ceil_in_row_unit.type_inv } in
    let td : SFits w64 c.next_end.result = record { sfits = c.next_end.type_inv } in
    let tu : SFits w64 c.next_end-2.result = record { sfits = c.next_end-2.type_inv } in
    let d : c.floor_in_row_unit.result ≡ floor_div c.product_ends-least.result.0 (2 ^ 59) = simp to_z-of_z at c.floor_in_row_unit.ensures.equals in
    let u : c.ceil_in_row_unit.result ≡ ceil_div c.product_ends-least.result.1 (2 ^ 59) = simp to_z-of_z at c.ceil_in_row_unit.ensures.equals in
    let dt : c.next_end.result ≡ c.floor_in_row_unit.result +ℤ c.args.extra.lo -ℤ c.args.before.hi = simp to_z-of_z at c.next_end.ensures in
    let ut : c.next_end-2.result ≡ c.ceil_in_row_unit.result +ℤ c.args.extra.hi -ℤ c.args.before.lo = simp to_z-of_z at c.next_end-2.ensures in
    let l : c.cut_low_end.result ≡ int_max c.next_end.result (neg_ℤ (pos c.args.limit)) = simp to_z-of_z at c.cut_low_end.ensures in
    let h : c.cut_high_end.result ≡ int_min c.next_end-2.result (pos c.args.limit) = simp to_z-of_z at c.cut_high_end.ensures in
    let lr : to_z w64 (of_z w64 c.cut_low_end.result) ≡ low_end c.args.limit c.args.x c.args.e c.args.extra c.args.before = to_z-of_z w64 c.cut_low_end.result (record { sfits = c.cut_low_end.type_inv }) ∙ (l ∙ rw (dt, d, s.0)) in
    let hr : to_z w64 (of_z w64 c.cut_high_end.result) ≡ high_end c.args.limit c.args.x c.args.e c.args.extra c.args.before = to_z-of_z w64 c.cut_high_end.result (record { sfits = c.cut_high_end.type_inv }) ∙ (h ∙ rw (ut, u, s.1)) in
    rw (lr, hr)
