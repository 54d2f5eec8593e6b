use Rattle.std.proofs.Common.{All}
use Rattle.spec_searches.specs.Search.{Search}
use Rattle.spec_stills.specs.Still.{IsStill}
use Rattle.still_spans.specs.Joined.{AreStill, IsJoined}
use Rattle.still_spans.proofs.joining.join_shares.Given as goal

abbrev pub invariant-loop-share : goal.invariant-loop-share
invariant-loop-share l = record {
  still : (s : Search) → All (AreStill s) l.shares → All (IsStill s) l.all.spans.items;
  joined : IsJoined l.from l.all;
}
