use Rattle.std.proofs.Common.{subst, sym, ◌∙◌}
use Rattle.still_spans.specs.Joined.{AreStill}
use Rattle.still_spans.proofs.joining.join_shares.Goals as goal

pub loop-share-preserved : goal.loop-share-preserved
loop-share-preserved c = record {
  still = λ s shares.
      let share = shares c.loop-share.share-index c.share-item.result c.loop-share-test.true in
      c.in_ok-add_spans-in-Ok.ensures.still s
      (rw c.deref.ensures.value (subst (AreStill s) (sym c.share-item.is ∙ c.in-Ok.is) share))
      (c.loop-share.invariant.still s shares);
  joined = c.in_ok-add_spans-in-Ok.ensures.joined _ c.loop-share.invariant.joined;
}
