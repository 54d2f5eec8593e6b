use Rattle.spec_spans.proofs.Alike.{same_windows_over_blocks}
use Rattle.spec_spans.proofs.laws.searches_over_some_blocks_find_the_same.Goals as goal

pub returns : goal.returns
returns c = λ s skipped count first last is part held span. same_windows_over_blocks s skipped count is part first last held span
