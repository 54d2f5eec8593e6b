use Rattle.std.proofs.Common.{◌∙◌, ap}
use Rattle.eph_model.specs.Stores.{Store, closed}
use Rattle.eph_model.proofs.StoreLists.{block_closed, closed_checked}
use Rattle.eph_model.proofs.store.BlockStore.close_block.Goals as goal

pub invariant_of-self : goal.invariant_of-self
invariant_of-self c =
    let e = c.self.inside in
    (closed_checked e.header e.start e.blocks e.numbers.items c.self.invariant.0 (rw (← c.self.view_is) at c.requires.block) (rw (← c.self.view_is) at c.requires.room), c.self.invariant.1, c.self.invariant.2)

pub returns : goal.returns
returns c =
    let e = c.self.inside in
    block_closed e.header e.start e.blocks e.numbers.items c.self.invariant.0 (rw (← c.self.view_is) at c.requires.block)
    ∙ ap (λ (s : Store). closed s) c.self.view_is
