use Rattle.std.proofs.Common.{◌∙◌, arith}
use Rattle.std.proofs.lemmas.List.{length-set}
use Rattle.event_models.specs.Rows.{IsEntry, IsRow, no_row}
use Rattle.event_models.proofs.Entries.{one_more}
use Rattle.event_models.proofs.filling.write_entries.Goals as goal

pub loop-k-preserved : goal.loop-k-preserved
loop-k-preserved c =
    let below = c.loop-k-test.true in
    let few = c.requires.few in
    let count = c.loop-k.invariant.count in
    record {
      count = length-set c.loop-k.rows c.loop-k.k _ ∙ count;
      rows = one_more no_row (λ k. IsRow) c.loop-k.k c.loop-k.rows _ (omega (arith, below, few, count)) c.loop-k.invariant.rows c.next_entry.ensures.row;
      entries = one_more no_row (IsEntry c.args.kind c.args.line.now) c.loop-k.k c.loop-k.rows _ (omega (arith, below, few, count)) c.loop-k.invariant.entries c.next_entry.ensures.entry;
    }
