use Rattle.std.proofs.Common.{arith}
use mathlib.Core.Option.{none}
use Rattle.atomic_table.specs.Table.{step}
use Rattle.span_ledger.proofs.Moves.{again_from}
use Rattle.span_ledger.proofs.Seats.{single}
use Rattle.span_ledger.proofs.enter.release_after_repeat.Goals as goal

pub store-requires : goal.store-requires
store-requires c = (c.requires.ours, omega (arith, c.args.ledger.now.words), again_from _ (step 0 0 0 0 none) _ _ _ _ c.args.place _ c.requires.stands.0 (omega arith) c.args.ledger.now.slots c.requires.held.holds (single _ c.requires.held.one) c.requires.held.slots c.requires.stands.1)
