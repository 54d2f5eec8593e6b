use Rattle.std.proofs.Common.{refl}
use Rattle.spec_spans.proofs.examples.undecided_windows_that_touch_are_joined.Goals as goal

pub returns : goal.returns
returns c = record { one = refl; apart = refl; certain = refl; none = refl }
