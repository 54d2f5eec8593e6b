-- What `scalar` reports: the windows of the times at which a polynomial passes 0, over the span that is asked for. Times are whole
-- numbers. Known bytes were the first list, and are the second.
use Rattle.std.specs.Prelude.{◌≡◌, ℕ, List, Option, Ok}
use Rattle.spec_scalars.specs.Searches.{events}
use Rattle.spec_requests.specs.declared.request.ScalarAsk.{ScalarAsk}
use Rattle.spec_output.specs.Report.{scalar_report}
use Rattle.spec_output.specs.Runs.{Reports}
use Rattle.spec_outcomes.specs.Scalars.{ArePassings, IsLeftInScalar, scalar_of, scalar_search, scalar_windows}

pub record IsScalarReport (ask : ScalarAsk) (text : List ℕ) : Type 0 where
  pub outcome : scalar_of ask ≡ Ok text
  pub printed : text ≡ scalar_report ask (scalar_windows ask)
  pub windows : ArePassings ask (scalar_windows ask)

-- it was written
abbrev pub ReportsScalar : ScalarAsk → Option (List ℕ) → Option (List ℕ) → Type 0
ReportsScalar ask old new =
    Reports (events (scalar_search ask)) (IsLeftInScalar ask) ask.from ask.to (scalar_windows ask) (scalar_report ask) old new
