use Rattle.std.proofs.Common.{◌∙◌, ◌+◌, ◌-◌, ◌<◌, arith, length}
use Rattle.std.proofs.lemmas.List.{length-set}
use Rattle.event_models.specs.declared.rows.Kind.TheVariants.{Second}
use Rattle.event_models.specs.Rows.{IsEntry, IsRow, IsSumRow, no_row}
use Rattle.event_models.specs.Slopes.{IsEntrySlope}
use Rattle.event_models.proofs.Entries.{before_stay, one_before}
use Rattle.event_models.proofs.filling_slopes.write_slope_entries.Goals as goal

pub loop-i-preserved : goal.loop-i-preserved
loop-i-preserved c =
    let below = c.loop-i-test.true in
    let few = c.requires.few in
    let count = c.loop-i.invariant.count in
    let place : c.args.n - 1 - c.loop-i.i < length c.loop-i.rows = omega (arith, below, few, count) in
    record {
      count = length-set c.loop-i.rows (c.args.n - 1 - c.loop-i.i) _ ∙ count;
      rows = before_stay no_row (λ k. IsRow) (c.args.n - 1 - c.loop-i.i) c.loop-i.rows _ (c.args.n - 1 - (c.loop-i.i + 1)) (omega arith) c.loop-i.invariant.rows;
      entries = before_stay no_row (IsEntry Second c.args.line.now) (c.args.n - 1 - c.loop-i.i) c.loop-i.rows _ (c.args.n - 1 - (c.loop-i.i + 1)) (omega arith) c.loop-i.invariant.entries;
      sum_rows = one_before no_row (λ k. IsSumRow) (c.args.n - 1 - c.loop-i.i) c.loop-i.rows _ (c.args.n - (c.loop-i.i + 1)) (c.args.n - c.loop-i.i) c.args.n place (omega (arith, below)) (omega (arith, below)) c.loop-i.invariant.sum_rows c.slope_entry.ensures.row;
      slopes = one_before no_row (IsEntrySlope c.args.line.now) (c.args.n - 1 - c.loop-i.i) c.loop-i.rows _ (c.args.n - (c.loop-i.i + 1)) (c.args.n - c.loop-i.i) c.args.n place (omega (arith, below)) (omega (arith, below)) c.loop-i.invariant.slopes c.slope_entry.ensures.entry;
    }

pub returns-clause-rows : goal.returns-clause-rows
returns-clause-rows c = λ k below.
    let after = c.loop-i-test.false in
    let end = c.loop-i.auto.i-end in
    c.loop-i.invariant.sum_rows k (omega (arith, after, end)) below

pub returns-clause-entries : goal.returns-clause-entries
returns-clause-entries c = λ k below.
    let after = c.loop-i-test.false in
    let end = c.loop-i.auto.i-end in
    c.loop-i.invariant.slopes k (omega (arith, after, end)) below
