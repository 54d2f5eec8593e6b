-- Sets of times, as spans in order of which no two touch. Times are whole numbers of units: seconds of TDB since J2000, or
-- ticks.
use Rattle.std.specs.Prelude.{◌≡◌, ℕ, zero, suc, ◌^◌, Bool, true, false, ◌&&◌, ◌||◌, int_le, if◌then◌else◌, List, [], ◌∷◌, ℤ, pos, neg_ℤ, ◌+ℤ◌, ◌-ℤ◌, ◌≤ℤ◌, ◌<ℤ◌, unsigned_abs}

-- the times that a set can have
abbrev pub earliest : ℤ
earliest = neg_ℤ (pos (2 ^ 50))

abbrev pub latest : ℤ
latest = pos (2 ^ 50)

abbrev pub is_between : ℤ → ℤ → ℤ → Bool
is_between from upto t = int_le from t && int_le t upto

-- the times from a first to a last, both of them too
abbrev pub Span : Type 0
Span = ℤ × ℤ

abbrev pub is_in : Span → ℤ → Bool
is_in span = is_between span.0 span.1

-- a time lies in one of the spans
abbrev pub has : List Span → ℤ → Bool
has [] t = false
has (span ∷ later) t = is_in span t || has later t

-- each span begins no later than it ends, and at least two units after the one before has ended, so that no two touch;
-- the first begins no earlier than `low`
abbrev pub AreSpansFrom : ℤ → List Span → Type 0
AreSpansFrom low [] = Unit {0}
AreSpansFrom low (span ∷ later) = (low ≤ℤ span.0) × (span.0 ≤ℤ span.1) × (span.1 ≤ℤ latest) × AreSpansFrom (span.1 +ℤ pos 2) later

-- the normal form of a set
abbrev pub AreSpans : List Span → Type 0
AreSpans spans = AreSpansFrom earliest spans

-- all its times come before this one
abbrev pub IsAfterAll : List Span → ℤ → Type 0
IsAfterAll spans first = (t : ℤ) → has spans t ≡ true → t <ℤ first

-- ---- the spans of the times at which a test holds
-- a time before spans that begin later: joined to the first where that begins at the next time
abbrev pub in_front : ℤ → List Span → List Span
in_front t [] = (t, t) ∷ []
in_front t (span ∷ later) = if int_le span.0 (t +ℤ pos 1) then (t, span.1) ∷ later else (t, t) ∷ span ∷ later

-- the longest runs among so many times from one on
unfoldable pub runs : (ℤ → Bool) → ℤ → ℕ → List Span
runs test from zero = []
runs test from (suc n) = if test from then in_front from (runs test (from +ℤ pos 1) n) else runs test (from +ℤ pos 1) n

-- how many times there are from one to another, which is not earlier
abbrev pub time_count : ℤ → ℤ → ℕ
time_count from upto = unsigned_abs ((upto +ℤ pos 1) -ℤ from)

-- the longest runs of times, from one to another, at which a test holds
abbrev pub spans_of : (ℤ → Bool) → ℤ → ℤ → List Span
spans_of test from upto = runs test from (time_count from upto)
