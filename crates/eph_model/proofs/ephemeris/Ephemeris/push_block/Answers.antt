use Rattle.spec_ephemeris.proofs.Pushing.{pushed}
use Rattle.eph_model.proofs.ephemeris.Ephemeris.push_block.Goals as goal

pub invariant_of-self-2 : goal.invariant_of-self-2
invariant_of-self-2 c = (
  rw c.in_ok-extend_from_slice.ensures.items
      (pushed _ c.args.numbers.now c.self.invariant.0 (rw (← c.self.view_is) at c.requires.block) (rw (← c.self.view_is) at c.requires.room)),
  rw c.in_ok-extend_from_slice.ensures.items
      (c.in_ok-push_pairs.ensures.pairs c.self.inside.numbers.items (rw c.in_ok-reserve.ensures.items c.self.invariant.1)),
)
