use Rattle.std.proofs.Common.{◌≡◌, ℕ, ◌≤◌, ◌*◌, ◌^◌, ◌+◌, sym, subst, ℤ, arith, length, get_or, unsigned_abs}
use Rattle.spec_chebyshev.specs.declared.ends.Ival62.{Ival62}
use Rattle.spec_chebyshev.specs.Rows.{entry}
use Rattle.spec_numbers.proofs.Sizes.{sum_size}
use Rattle.spec_motions.specs.RowSizes.{entry_size}
use Rattle.spec_motions.proofs.EndSizes.{least_size, greatest_size}
use Rattle.spec_motions.proofs.RowSums.{EndsWithin-size}
use Rattle.spec_motions.specs.Pairs.{term_of}
use Rattle.cheby_enclose.specs.ProductSizes.{product_sizes}
use Rattle.cheby_enclose.proofs.TermLists.{none, pair_low, pair_high}
use Rattle.cheby_enclose.proofs.ProductSums.{sizes_more, product_sizes-grow}
use Rattle.cheby_enclose.proofs.sums.sum_of_products.Goals as goal
use Rattle.cheby_enclose.proofs.sums.sum_of_products.Goals.{After-pair_times_entry}

module _ (c : After-pair_times_entry) where
  abbrev k : ℕ
  k = c.loop-k.k

  abbrev here : Ival62
  here = term_of (get_or c.args.pairs.now k none)

  abbrev there : Ival62
  there = entry c.args.row.now k

  abbrev size : ℕ
  size = entry_size c.args.row.now k

  low_size : unsigned_abs c.pair_times_entry.result.lo ≤ 2 ^ 60 * size
  low_size = subst (λ (z : ℤ). unsigned_abs z ≤ 2 ^ 60 * size) (sym c.pair_times_entry.ensures.lo) (least_size here there (2 ^ 60) size ((c.requires.pairs.pairs k none c.loop-k-test.true).small) (EndsWithin-size c.args.row.now k))

  high_size : unsigned_abs c.pair_times_entry.result.hi ≤ 2 ^ 60 * size
  high_size = subst (λ (z : ℤ). unsigned_abs z ≤ 2 ^ 60 * size) (sym c.pair_times_entry.ensures.hi) (greatest_size here there (2 ^ 60) size ((c.requires.pairs.pairs k none c.loop-k-test.true).small) (EndsWithin-size c.args.row.now k))

  more : product_sizes (entry_size c.args.row.now) (k + 1) ≡ product_sizes (entry_size c.args.row.now) k + 2 ^ 60 * size
  more = sizes_more (entry_size c.args.row.now) k

  bounded : product_sizes (entry_size c.args.row.now) (k + 1) ≤ 2 ^ 125
  bounded =
      let g = product_sizes-grow (entry_size c.args.row.now) (k + 1) (length c.args.pairs.now) (let p = c.loop-k-test.true in omega (arith, p)) in
      let t = c.requires.row.total in
      omega (arith, g, t)

  sum_fits : (z : ℤ) → unsigned_abs z ≤ product_sizes (entry_size c.args.row.now) k → unsigned_abs z ≤ 2 ^ 125
  sum_fits z p = let m = more in let b = bounded in omega (arith, p, m, b)

  product_fits : (z : ℤ) → unsigned_abs z ≤ 2 ^ 60 * size → unsigned_abs z ≤ 2 ^ 125
  product_fits z p = let m = more in let b = bounded in omega (arith, p, m, b)

pub sum_of_ends-sum-requires-clause-one_lo : goal.sum_of_ends-sum-requires-clause-one_lo
sum_of_ends-sum-requires-clause-one_lo c = sum_fits (goal.at.sum_of_ends-sum-requires-clause-one_lo c).After-pair_times_entry c.loop-k.sum.lo c.loop-k.invariant.lo_size

pub sum_of_ends-sum-requires-clause-one_hi : goal.sum_of_ends-sum-requires-clause-one_hi
sum_of_ends-sum-requires-clause-one_hi c = sum_fits (goal.at.sum_of_ends-sum-requires-clause-one_hi c).After-pair_times_entry c.loop-k.sum.hi c.loop-k.invariant.hi_size

pub sum_of_ends-sum-requires-clause-other_lo : goal.sum_of_ends-sum-requires-clause-other_lo
sum_of_ends-sum-requires-clause-other_lo c = let d = (goal.at.sum_of_ends-sum-requires-clause-other_lo c).After-pair_times_entry in product_fits d c.pair_times_entry.result.lo (low_size d)

pub sum_of_ends-sum-requires-clause-other_hi : goal.sum_of_ends-sum-requires-clause-other_hi
sum_of_ends-sum-requires-clause-other_hi c = let d = (goal.at.sum_of_ends-sum-requires-clause-other_hi c).After-pair_times_entry in product_fits d c.pair_times_entry.result.hi (high_size d)

pub loop-k-preserved : goal.loop-k-preserved
loop-k-preserved c =
    let d = (goal.at.loop-k-preserved c).After-pair_times_entry in
    let inv = c.loop-k.invariant in
    let row = entry c.args.row.now in
    let pairs = c.args.pairs.now in
    let m = more d in
    let sl = sum_size c.loop-k.sum.lo c.pair_times_entry.result.lo _ _ inv.lo_size (low_size d) in
    let sh = sum_size c.loop-k.sum.hi c.pair_times_entry.result.hi _ _ inv.hi_size (high_size d) in
    record {
      lo = rw (c.sum_of_ends-sum.ensures.lo, c.pair_times_entry.ensures.lo) (pair_low row pairs c.loop-k.k c.loop-k.sum.lo _ c.loop-k-test.true inv.lo);
      hi = rw (c.sum_of_ends-sum.ensures.hi, c.pair_times_entry.ensures.hi) (pair_high row pairs c.loop-k.k c.loop-k.sum.hi _ c.loop-k-test.true inv.hi);
      lo_size = rw c.sum_of_ends-sum.ensures.lo (omega (arith, sl, m));
      hi_size = rw c.sum_of_ends-sum.ensures.hi (omega (arith, sh, m));
      within = let p = c.loop-k-test.true in omega (arith, p);
    }
