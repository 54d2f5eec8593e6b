-- A set of sure times and a set of possible times.
use Rattle.std.specs.Prelude.{◌≡◌, true, ◌&&◌, List, ℤ, ◌≤ℤ◌}
use Rattle.spec_intervals.specs.declared.signs.Sign.{Sign}
use Rattle.spec_sets.specs.Spans.{Span, has, is_between, spans_of}
use Rattle.spec_sets.specs.Signs.{is_sure, is_possible}

-- of the times from one to another those are sure whose sign is Yes, and those possible whose sign is not No
pub record AreOf (sign : ℤ → Sign) (from upto : ℤ) (surely perhaps : List Span) : Type 0 where
  pub sure : (t : ℤ) → has surely t ≡ (is_between from upto t && is_sure (sign t))
  pub maybe : (t : ℤ) → has perhaps t ≡ (is_between from upto t && is_possible (sign t))

-- the two sets as lists
abbrev pub sure_spans : (ℤ → Sign) → ℤ → ℤ → List Span
sure_spans sign = spans_of (λ t. is_sure (sign t))

abbrev pub possible_spans : (ℤ → Sign) → ℤ → ℤ → List Span
possible_spans sign = spans_of (λ t. is_possible (sign t))

-- each sure time meets the condition, and each time that meets it is possible
pub record AreSets (P : ℤ → Type 0) (from upto : ℤ) (surely perhaps : List Span) : Type 0 where
  pub sure : (t : ℤ) → has surely t ≡ true → P t
  pub possible : (t : ℤ) → from ≤ℤ t → t ≤ℤ upto → P t → has perhaps t ≡ true
