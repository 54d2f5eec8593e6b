-- What `gen` reports: the two lines of the windows of a search over the whole of a generated text. Known bytes were the first
-- list, and are the second.
use Rattle.std.specs.Prelude.{◌≡◌, ℕ, List, Option, Ok}
use Rattle.spec_searches.specs.Search.{events}
use Rattle.spec_output.specs.Runs.{Reports}
use Rattle.spec_outcomes.specs.Outcomes.{generated_search, generated_span, generation_by, generation_of}
use Rattle.spec_outcomes.specs.Queries.{AreFound, IsLeft, leaves_in, windows_in}

pub record IsGeneration (blocks seed : ℕ) (text : List ℕ) : Type 0 where
  pub outcome : generation_of blocks seed ≡ Ok text
  pub printed : text ≡ generation_by blocks seed (windows_in (generated_search blocks seed) (generated_span blocks seed))
  pub windows : AreFound (generated_search blocks seed) (generated_span blocks seed) (leaves_in (generated_search blocks seed) (generated_span blocks seed))

-- they were written
abbrev pub ReportsGeneration : ℕ → ℕ → Option (List ℕ) → Option (List ℕ) → Type 0
ReportsGeneration blocks seed old new =
    let s = generated_search blocks seed in
    let span = generated_span blocks seed in
    Reports (events s) (IsLeft s span) span.from span.upto (windows_in s span) (generation_by blocks seed) old new
