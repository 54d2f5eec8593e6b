use Rattle.std.proofs.Common.{◌∙◌, ap, arith}
use Rattle.std.proofs.lemmas.List.{get_or_default}
use Rattle.body_states.specs.Ranges.{nothing_entered}
use Rattle.body_states.specs.declared.column_entries.ColumnEntry.{ColumnEntry}
use Rattle.body_states.proofs.column_entries.find_axis_entries.Goals as goal

pub returns-clause-made : goal.returns-clause-made
returns-clause-made c = λ any.
    let end = c.loop-place-test.false in
    let inside = any.2 in
    let same = get_or_default c.args.columns.now any.0 nothing_entered any.1 inside ∙ any.3 in
    absurd (c.loop-place.invariant any.0 (omega (arith, end, inside)) (ap (λ (e : ColumnEntry). e.number) same ∙ any.4))
