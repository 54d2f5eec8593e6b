use Rattle.std.proofs.Common.{◌-◌, arith}
use Rattle.event_models.proofs.SlopeRows.{entry_none, entry_repeated}
use Rattle.event_models.proofs.filling_slopes.slope_entry.Goals as goal

pub returns-then-k-eq0-clause-entry : goal.returns-then-k-eq0-clause-entry
returns-then-k-eq0-clause-entry c = entry_none c.args.line.now c.args.k c.zero_entry.result c.if-k-eq0.true c.zero_entry.ensures.nothing

pub returns-else-k-eq0-clause-entry : goal.returns-else-k-eq0-clause-entry
returns-else-k-eq0-clause-entry c =
    let none = c.if-k-eq0.false in
    entry_repeated c.args.k _ c.entry_multiple.result (omega (arith, none)) c.entry_multiple.ensures.multiple c.args.line.now (c.requires.entries (c.args.k - 1) (omega (arith, none)))
