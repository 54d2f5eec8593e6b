-- The times at which the function of a search is at least 0, by the search alone, and sets of a span.
use Rattle.std.specs.Prelude.{◌≡◌, ◌⊎◌, ℤ, ◌≤ℤ◌, true, List, Ok, Err}
use Rattle.spec_intervals.specs.declared.signs.Sign.{Sign}
use Rattle.spec_sets.specs.Pairs.{AreOf}
use Rattle.spec_sets.specs.Spans.{earliest, has, is_between, latest}
use Rattle.spec_searches.specs.Search.{Search}
use Rattle.spec_output.specs.declared.limits.TheConstants.{MAX_LEAVES}
use Rattle.spec_outcomes.specs.declared.query.Span.{Span}
use Rattle.spec_outcomes.specs.declared.refusal.Refusal.{Refusal}
use Rattle.spec_outcomes.specs.declared.refusal.Refusal.TheVariants.{Memory}
use Rattle.spec_outcomes.specs.Outcomes.{searched}
use Rattle.spec_outcomes.specs.Queries.{leaves_in}
use Rattle.spec_outcomes.specs.Sets.{signs_in}
use Rattle.gf_sets.specs.declared.pair.Pair.{Pair}

-- ---- by a search
-- these times are sure and possible by the leaves of a search, which has no more than may be
pub record AreReached (s : Search) (span : Span) (surely perhaps : List (ℤ × ℤ)) : Type 0 where
  pub few : searched MAX_LEAVES s span ≡ Ok (leaves_in s span)
  pub sets : AreOf (signs_in s span) span.from span.upto surely perhaps

-- memory ran out, or the search has more leaves than may be
abbrev pub HasTooMany : Search → Span → Refusal → Type 0
HasTooMany s span refusal = (refusal ≡ Memory) ⊎ (searched MAX_LEAVES s span ≡ Err refusal)

-- ---- in a span
-- the span holds a time, and all its times are such as sets can have
pub record HasSets (span : Span) : Type 0 where
  pub ordered : span.from ≤ℤ span.upto
  pub early : earliest ≤ℤ span.from
  pub late : span.upto ≤ℤ latest

-- all times of two sets lie in it
pub record AreWithin (span : Span) (surely perhaps : List (ℤ × ℤ)) : Type 0 where
  pub sure : (t : ℤ) → has surely t ≡ true → is_between span.from span.upto t ≡ true
  pub maybe : (t : ℤ) → has perhaps t ≡ true → is_between span.from span.upto t ≡ true

-- wherever two pairs of sets are of signs, a third is of what the signs make together
abbrev pub AreJoined : (Sign → Sign → Sign) → Span → Pair → Pair → Pair → Type 0
AreJoined join span first second pair =
    (x y : ℤ → Sign) → AreOf x span.from span.upto first.sure first.maybe → AreOf y span.from span.upto second.sure second.maybe
    → AreOf (λ t. join (x t) (y t)) span.from span.upto pair.sure pair.maybe
