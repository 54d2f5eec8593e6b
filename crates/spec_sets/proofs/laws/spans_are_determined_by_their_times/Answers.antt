use Rattle.spec_sets.specs.Spans.{earliest}
use Rattle.spec_sets.proofs.Unique.{same_spans}
use Rattle.spec_sets.proofs.laws.spans_are_determined_by_their_times.Goals as goal

pub returns : goal.returns
returns c = same_spans earliest
