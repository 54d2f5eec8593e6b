use Rattle.std.proofs.Common.{rules}
use Rattle.granule_values.specs.Bases.{IsServed}
use Rattle.granule_values.proofs.granule_span.GranuleSpan.keep_rows.Goals as goal

pub returns-then-not-has_rows_for-clause-rows : goal.returns-then-not-has_rows_for-clause-rows
returns-then-not-has_rows_for-clause-rows c =
    c.make_rows.ensures.kept c.args.self.now (λ i. (c.requires.times i).first) (λ i. (c.requires.times i).last) c.make_rows.ensures.served

pub returns-else-not-has_rows_for-clause-rows : goal.returns-else-not-has_rows_for-clause-rows
returns-else-not-has_rows_for-clause-rows c =
    let served : IsServed c.args.self.now.granule c.args.room.now = search rules in
    c.requires.kept c.args.self.now (λ i. (c.requires.times i).first) (λ i. (c.requires.times i).last) served
