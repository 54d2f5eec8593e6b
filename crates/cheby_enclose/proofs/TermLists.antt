-- Sums over the intervals of pairs, one term after the other.
use Rattle.std.proofs.Common.{◌≡◌, ℕ, ◌+◌, ◌<◌, subst, List, length, map, drop, get_or, ℤ, pos, ◌+ℤ◌}
use Rattle.std.proofs.lemmas.List.{length-map, get_or-map}
use Rattle.spec_intervals.specs.Interval.{least4, greatest4}
use Rattle.spec_chebyshev.specs.declared.ends.Ival62.{Ival62}
use Rattle.spec_chebyshev.specs.Rows.{nothing}
use Rattle.spec_ephemeris.specs.declared.granule.Rounded.{Rounded}
use Rattle.spec_motions.specs.Sums.{sum_low, sum_high}
use Rattle.spec_motions.proofs.RowSums.{low_more, high_more}
use Rattle.spec_motions.specs.Pairs.{term_of}

-- ---- one term more of a sum from the left
abbrev pub none : Rounded
none = record { lo = pos 0; hi = pos 0 }

pub term_at : (ps : List Rounded) (k : ℕ) → k < length ps → get_or (map term_of ps) k nothing ≡ term_of (get_or ps k none)
term_at ps k h = get_or-map term_of ps k none nothing h

pub below_terms : (ps : List Rounded) (k : ℕ) → k < length ps → k < length (map term_of ps)
below_terms ps k h = rw (length-map ps term_of) h

module _ (row : ℕ → Ival62) (ps : List Rounded) (k : ℕ) (sum whole : ℤ) (below : k < length ps) where
  abbrev pair : Rounded
  pair = get_or ps k none

  abbrev cs : List Ival62
  cs = map term_of ps

  pub pair_low : sum +ℤ sum_low row k (drop k cs) ≡ whole → (sum +ℤ least4 pair.lo pair.hi (row k).lo (row k).hi) +ℤ sum_low row (k + 1) (drop (k + 1) cs) ≡ whole
  pair_low h = subst (λ (c : Ival62). (sum +ℤ least4 c.lo c.hi (row k).lo (row k).hi) +ℤ sum_low row (k + 1) (drop (k + 1) cs) ≡ whole) (term_at ps k below) (low_more row cs k sum whole (below_terms ps k below) h)

  pub pair_high : sum +ℤ sum_high row k (drop k cs) ≡ whole → (sum +ℤ greatest4 pair.lo pair.hi (row k).lo (row k).hi) +ℤ sum_high row (k + 1) (drop (k + 1) cs) ≡ whole
  pair_high h = subst (λ (c : Ival62). (sum +ℤ greatest4 c.lo c.hi (row k).lo (row k).hi) +ℤ sum_high row (k + 1) (drop (k + 1) cs) ≡ whole) (term_at ps k below) (high_more row cs k sum whole (below_terms ps k below) h)
