use Rattle.std.proofs.Common.{arith}
use mathlib.Core.Option.{none}
use Rattle.atomic_table.specs.Table.{step}
use Rattle.span_ledger.proofs.Closing.{nothing}
use Rattle.span_ledger.proofs.Moves.{locks_from}
use Rattle.span_ledger.proofs.Seats.{single}
use Rattle.span_ledger.proofs.enter.try_lock.Goals as goal

pub swap-requires : goal.swap-requires
swap-requires c = (c.requires.ours, omega (arith, c.args.ledger.now.words), locks_from _ (step 0 0 0 0 none) _ _ _ _ c.args.ledger.now.slots c.requires.idle.holds (nothing _ c.requires.idle.slots) (single _ c.requires.idle.one))
