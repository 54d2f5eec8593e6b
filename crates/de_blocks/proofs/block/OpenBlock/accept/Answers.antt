use Rattle.std.proofs.Common.{◌≡◌, ◌∙◌, ap, sym, arith, false, ℤ, to_z, of_z, w64}
use Rattle.std.proofs.lemmas.Int.{ints}
use Rattle.spec_files.specs.BlockRules.{is_skipped}
use Rattle.eph_model.specs.Stores.{Store}
use Rattle.de_blocks.proofs.Pushing.{block_of, dates_hold, new_block}
use Rattle.de_blocks.proofs.block.OpenBlock.accept.Goals as goal

pub append_block-requires-clause-block : goal.append_block-requires-clause-block
append_block-requires-clause-block c =
    let s : Store = c.self.inside.store in
    block_of s.accepted s.numbers (rw (← c.self.view_is) at c.requires.checked) (rw (← c.self.view_is) at c.requires.read) (rw (← c.self.view_is) at c.requires.whole)

pub append_block-requires-clause-room : goal.append_block-requires-clause-room
append_block-requires-clause-room c =
    let s : Store = c.self.inside.store in
    let dates = c.self.inside.dates in
    let checked = rw (← c.self.view_is) at c.requires.checked in
    let whole = rw (← c.self.view_is) at c.requires.whole in
    let hold = dates_hold s.accepted s.numbers dates checked whole c.self.invariant in
    let ends : to_z w64 (of_z w64 dates.end) ≡ dates.end = omega (arith, ints, hold.1) in
    let passed : is_skipped s.accepted dates.end ≡ false = sym (ap (λ (t : ℤ). is_skipped s.accepted t) ends) ∙ sym c.is_block_skipped.ensures ∙ c.if-is_block_skipped.false in
    (new_block s.accepted s.numbers dates checked (rw (← c.self.view_is) at c.requires.read) whole c.self.invariant passed).room
