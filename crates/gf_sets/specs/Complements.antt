-- What is left out: the state of a walk over spans.
use Rattle.std.specs.Prelude.{◌≡◌, not, ◌&&◌, ◌+ℤ◌, int_le, int_lt, List, ℤ, pos, ◌≤ℤ◌}
use Rattle.spec_sets.specs.Spans.{Span, has, AreSpansFrom}

-- of the times from `from` to before `next`, `out` has those that `whole` has not; from there on the spans are `rest`
pub record IsLeftOut (whole rest : List Span) (from to next : ℤ) (out : List Span) : Type 0 where
  pub ordered : from ≤ℤ next
  pub upto : next ≤ℤ (to +ℤ pos 1)
  pub before : (t : ℤ) → has out t ≡ (int_le from t && (int_lt t next && not (has whole t)))
  pub spans : AreSpansFrom next rest
  pub after : (t : ℤ) → next ≤ℤ t → has whole t ≡ has rest t
