use Rattle.std.proofs.Common.{ℤ, All}
use Rattle.spec_searches.specs.Search.{Search}
use Rattle.spec_stills.specs.Still.{IsStill}
use Rattle.still_spans.specs.Joined.{IsJoined}
use Rattle.still_spans.proofs.joining.Joined.add_spans.Given as goal

abbrev pub invariant-loop-span : goal.invariant-loop-span
invariant-loop-span l = record {
  still : (s : Search) → All (IsStill s) l.share → All (IsStill s) l.initial.self.spans.items → All (IsStill s) l.self.spans.items;
  joined : (from : ℤ) → IsJoined from l.initial.self → IsJoined from l.self;
}
