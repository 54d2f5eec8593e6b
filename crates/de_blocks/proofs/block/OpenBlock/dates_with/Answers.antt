use Rattle.std.proofs.Common.{◌≡◌, ◌∙◌, ◌+◌, ◌≤◌, arith, ap, length, subst}
use Rattle.spec_ephemeris.specs.declared.header.Header.{Header}
use Rattle.spec_files.specs.BlockRules.{coefficient_rule}
use Rattle.eph_model.specs.Stores.{Store}
use Rattle.de_blocks.specs.Dates.{AreRuled}
use Rattle.de_blocks.proofs.Pushing.{at_later}
use Rattle.de_blocks.proofs.block.OpenBlock.dates_with.Goals as goal

pub returns-else-count-eq1 : goal.returns-else-count-eq1
returns-else-count-eq1 c =
    let s : Store = c.self.inside.store in
    let count = c.count-count.ensures in
    let not_none = c.if-count-eq0.false in
    let not_one = c.if-count-eq1.false in
    let two : 2 ≤ length s.numbers = omega (arith, count, not_none, not_one) in
    let columns : c.as_slice-columns.result.now ≡ s.accepted.header.columns = c.as_slice-columns.ensures ∙ ap (λ (h : Header). h.columns) c.header.ensures.same in
    subst (λ (t : Store). AreRuled t.accepted t.numbers c.args.d c.dates_if_rule_met.result) c.self.view_is
    (at_later s.accepted s.numbers c.args.d c.self.inside.dates c.dates_if_rule_met.result c.check_coefficient-ruled.result two c.self.invariant
    (c.check_coefficient-ruled.ensures ∙ (λ i. coefficient_rule (columns i) (count i + 1) c.args.d)) c.dates_if_rule_met.ensures.rule c.dates_if_rule_met.ensures.dates)
