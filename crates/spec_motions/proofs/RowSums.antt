-- Sums over rows: one term more, which entries they depend on, the order of their ends and their sizes.
use Rattle.std.proofs.Common.{◌≡◌, ℕ, suc, ◌+◌, ◌-◌, ◌*◌, ◌<◌, ◌≤◌, arith, refl, ap, ◌∙◌, List, [], ◌∷◌, length, drop, get_or, ℤ, pos, ◌+ℤ◌, ◌*ℤ◌, ◌≤ℤ◌, unsigned_abs, drop-cons}
use Rattle.std.proofs.lemmas.Int.{ints}
use Rattle.spec_intervals.specs.Interval.{least4, greatest4}
use Rattle.spec_numbers.proofs.Ring.{v, ◌⊕◌, ring}
use Rattle.spec_chebyshev.specs.Differences.{Within}
use Rattle.spec_motions.specs.RowSizes.{entry_size}
use Rattle.spec_numbers.proofs.Order.{lin}
use Rattle.spec_intervals.proofs.Products.{corners_ordered}
use Rattle.spec_chebyshev.specs.declared.ends.Ival62.{Ival62}
use Rattle.spec_chebyshev.specs.Rows.{entry, nothing, EndsWithin}
use Rattle.spec_motions.specs.Sums.{sum_low, sum_high}
use Rattle.spec_numbers.proofs.Sizes.{product_size}

assoc : (a b c : ℤ) → (a +ℤ b) +ℤ c ≡ a +ℤ (b +ℤ c)
assoc a b c = ring (a ∷ b ∷ c ∷ []) ((v 0 ⊕ v 1) ⊕ v 2) (v 0 ⊕ (v 1 ⊕ v 2)) tt

next : (k : ℕ) → k + 1 ≡ suc k
next k = omega arith

-- one term more of a sum from the left
module _ (row : ℕ → Ival62) (cs : List Ival62) (k : ℕ) (sum whole : ℤ) (below : k < length cs) where
  abbrev here : Ival62
  here = get_or cs k nothing

  pub low_more : sum +ℤ sum_low row k (drop k cs) ≡ whole → (sum +ℤ least4 here.lo here.hi (row k).lo (row k).hi) +ℤ sum_low row (k + 1) (drop (k + 1) cs) ≡ whole
  low_more h =
      let e : drop k cs ≡ here ∷ drop (suc k) cs = drop-cons cs k nothing below in
      ap (λ (j : ℕ). (sum +ℤ least4 here.lo here.hi (row k).lo (row k).hi) +ℤ sum_low row j (drop j cs)) (next k)
      ∙ (assoc sum (least4 here.lo here.hi (row k).lo (row k).hi) (sum_low row (suc k) (drop (suc k) cs)) ∙ (rw e at h))

  pub high_more : sum +ℤ sum_high row k (drop k cs) ≡ whole → (sum +ℤ greatest4 here.lo here.hi (row k).lo (row k).hi) +ℤ sum_high row (k + 1) (drop (k + 1) cs) ≡ whole
  high_more h =
      let e : drop k cs ≡ here ∷ drop (suc k) cs = drop-cons cs k nothing below in
      ap (λ (j : ℕ). (sum +ℤ greatest4 here.lo here.hi (row k).lo (row k).hi) +ℤ sum_high row j (drop j cs)) (next k)
      ∙ (assoc sum (greatest4 here.lo here.hi (row k).lo (row k).hi) (sum_high row (suc k) (drop (suc k) cs)) ∙ (rw e at h))

-- a sum over a row depends on as many of its entries as there are terms
pub low_same : (r q : ℕ → Ival62) (k : ℕ) (cs : List Ival62) → ((j : ℕ) → j < k + length cs → r j ≡ q j) → sum_low r k cs ≡ sum_low q k cs
low_same r q k [] h = refl
low_same r q k (c ∷ cs) h =
    ap (λ (e : Ival62). least4 c.lo c.hi e.lo e.hi +ℤ sum_low r (suc k) cs) (h k (omega arith))
    ∙ ap (λ (z : ℤ). least4 c.lo c.hi (q k).lo (q k).hi +ℤ z) (low_same r q (suc k) cs (λ j p. h j (omega (arith, p))))

pub high_same : (r q : ℕ → Ival62) (k : ℕ) (cs : List Ival62) → ((j : ℕ) → j < k + length cs → r j ≡ q j) → sum_high r k cs ≡ sum_high q k cs
high_same r q k [] h = refl
high_same r q k (c ∷ cs) h =
    ap (λ (e : Ival62). greatest4 c.lo c.hi e.lo e.hi +ℤ sum_high r (suc k) cs) (h k (omega arith))
    ∙ ap (λ (z : ℤ). greatest4 c.lo c.hi (q k).lo (q k).hi +ℤ z) (high_same r q (suc k) cs (λ j p. h j (omega (arith, p))))

-- and its ends are in order
pub sums_ordered : (r : ℕ → Ival62) (k : ℕ) (cs : List Ival62) → sum_low r k cs ≤ℤ sum_high r k cs
sums_ordered r k [] = omega (arith, ints)
sums_ordered r k (c ∷ cs) =
    let p = corners_ordered c.lo c.hi (r k).lo (r k).hi in
    let q = sums_ordered r (suc k) cs in
    omega (arith, lin)

-- ---- sizes
pub multiple_size : (k : ℕ) (z : ℤ) (m : ℕ) → unsigned_abs z ≤ m → unsigned_abs (pos k *ℤ z) ≤ k * m
multiple_size k' z m h = product_size (pos k') z k' m (omega (arith, ints)) h

-- the ends of an entry are within its size
pub EndsWithin-size : (row : List Ival62) (k : ℕ) → EndsWithin (entry_size row k) (entry row k)
EndsWithin-size row k' = record { lo = within (entry row k').lo _ (omega arith); hi = within (entry row k').hi _ (omega arith) }
  where
    within : (z : ℤ) (m : ℕ) → unsigned_abs z ≤ m → Within z (pos m)
    within z m h = record { low = omega (arith, ints); high = omega (arith, ints) }
