use Rattle.std.proofs.Common.{◌∙◌, ap, sym, []}
use Rattle.spec_events.specs.Stages.{end_verdict}
use Rattle.spec_scalars.specs.Searches.{criteria, search_over}
use Rattle.gf_uds.specs.Found.{reach_sign}
use Rattle.gf_uds.proofs.Rules.{as_read, ended, limited, turnless}
use Rattle.gf_uds.proofs.judge.ScalarJudge.verdict.Goals as goal

pub returns-then-is_turnless : goal.returns-then-is_turnless
returns-then-is_turnless g c =
    let j = c.args.self.now in
    let s = search_over (g.L.Law.scalar j.scalar.law) j.scalar.first j.scalar.last j.plan in
    let read = as_read j.scalar.first j.scalar.last c.args.node j.scalar.low j.scalar.high c.requires.from c.requires.inside c.requires.to in
    sym (turnless s c.args.node c.requires.inside j.some_width _ (c.reach-whole.ensures ∙ read s.scalar.reach) (sym c.is_turnless.ensures ∙ c.if-is_turnless.true))

pub returns-then-is_decided_by_ends : goal.returns-then-is_decided_by_ends
returns-then-is_decided_by_ends g c =
    let j = c.args.self.now in
    let s = search_over (g.L.Law.scalar j.scalar.law) j.scalar.first j.scalar.last j.plan in
    let read = as_read j.scalar.first j.scalar.last c.args.node j.scalar.low j.scalar.high c.requires.from c.requires.inside c.requires.to in
    let first = c.sign_at.ensures ∙ ap reach_sign (read (λ a b. s.scalar.reach a a)) in
    let last = c.sign_at-then-is_decided_by_ends.ensures ∙ ap reach_sign (read (λ a b. s.scalar.reach b b)) in
    (c.verdict_by_ends.ensures ∙ (λ i. end_verdict (criteria s) c.args.node [] (first i) (last i)))
    ∙ sym (ended s c.args.node c.requires.inside j.some_width _ (c.reach-whole.ensures ∙ read s.scalar.reach)
    (sym c.is_turnless.ensures ∙ c.if-is_turnless.false) (sym c.is_decided_by_ends.ensures ∙ c.if-is_decided_by_ends.true))

pub returns-else-is_decided_by_ends : goal.returns-else-is_decided_by_ends
returns-else-is_decided_by_ends g c =
    let j = c.args.self.now in
    let s = search_over (g.L.Law.scalar j.scalar.law) j.scalar.first j.scalar.last j.plan in
    let read = as_read j.scalar.first j.scalar.last c.args.node j.scalar.low j.scalar.high c.requires.from c.requires.inside c.requires.to in
    c.verdict_by_limits.ensures ∙ sym (limited s c.args.node c.requires.inside j.some_width _ (c.reach-whole.ensures ∙ read s.scalar.reach)
    (sym c.is_turnless.ensures ∙ c.if-is_turnless.false) (sym c.is_decided_by_ends.ensures ∙ c.if-is_decided_by_ends.false))
