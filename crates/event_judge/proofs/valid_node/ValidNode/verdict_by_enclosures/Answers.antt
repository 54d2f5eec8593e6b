use Rattle.std.proofs.Common.{◌≡◌, ◌∙◌, sym, ap, Bool, false, true}
use Rattle.spec_intervals.specs.Enclosure.{Enclosure}
use Rattle.spec_trees.specs.declared.tree.Node.{Node}
use Rattle.spec_events.specs.Stages.{end_verdict}
use Rattle.spec_events.specs.Verdict.{is_one_way}
use Rattle.spec_searches.specs.Search.{Search, criteria}
use Rattle.body_states.specs.Moments.{Moment}
use Rattle.step_enclosures.specs.Moments.{StepMoment}
use Rattle.event_judge.specs.Found.{enclosure_at, guards_at, is_refuted_at, is_turnless_by, whole_moment}
use Rattle.event_judge.proofs.Looking.{both_ways, is_one_way_at, is_turnless_at, one_way, open_unit, refuted, turnless}
use Rattle.event_judge.proofs.valid_node.ValidNode.verdict_by_enclosures.Goals as goal

-- ---- what is found over all times of the node, by the states that were made of them
module _ (s : Search) (n : Node) (m : Moment) (whole : m ≡ whole_moment s n) (found : Bool) (b : Bool) (test : found ≡ b) where
  refuted_is : found ≡ is_refuted_at s m → is_refuted_at s (whole_moment s n) ≡ b
  refuted_is by = ap (is_refuted_at s) (sym whole) ∙ (sym by ∙ test)

  module _ (over : Enclosure) (enclosed : over ≡ enclosure_at s m) where
    over_is : over ≡ enclosure_at s (whole_moment s n)
    over_is = enclosed ∙ ap (enclosure_at s) whole

    turnless_is : found ≡ is_turnless_by s over → is_turnless_at s n ≡ b
    turnless_is by = ap (is_turnless_by s) (sym over_is) ∙ (sym by ∙ test)

    one_way_is : found ≡ is_one_way over.step → is_one_way_at s n ≡ b
    one_way_is by = ap (λ (e : Enclosure). is_one_way e.step) (sym over_is) ∙ (sym by ∙ test)

pub returns-then-is_turnless : goal.returns-then-is_turnless
returns-then-is_turnless g c =
    let s = c.args.self.search.now in
    let n = c.args.self.node in
    let tells : is_turnless_at s n ≡ true = turnless_is s n _ c.requires.whole _ true c.if-is_turnless.true _ c.requires.over c.is_turnless.ensures in
    sym (turnless s c.width-width.ensures.some n c.args.self.valid.inside c.requires.uncrossed tells)

pub returns-then-not-is_wide : goal.returns-then-not-is_wide
returns-then-not-is_wide g c =
    let s = c.args.self.search.now in
    let n = c.args.self.node in
    let test = c.if-not-is_wide.true in
    let narrow : c.is_wide.result ≡ false = cc in
    c.unit_verdict.ensures ∙ sym (open_unit s c.width-width.ensures.some n c.args.self.valid.inside c.requires.uncrossed (turnless_is s n _ c.requires.whole _ false c.if-is_turnless.false _ c.requires.over c.is_turnless.ensures) (sym c.is_wide.ensures ∙ narrow))

pub returns-then-is_refuted : goal.returns-then-is_refuted
returns-then-is_refuted g c =
    let s = c.args.self.search.now in
    let n = c.args.self.node in
    sym (refuted s c.width-width.ensures.some n c.args.self.valid.inside c.requires.uncrossed (turnless_is s n _ c.requires.whole _ false c.if-is_turnless.false _ c.requires.over c.is_turnless.ensures) (sym c.is_wide.ensures ∙ c.if-not-is_wide.false) (refuted_is s n _ c.requires.whole _ true c.if-is_refuted.true c.is_refuted.ensures.refuted))

pub returns-then-is_monotone : goal.returns-then-is_monotone
returns-then-is_monotone g c =
    let s = c.args.self.search.now in
    let n = c.args.self.node in
    let whole = ap (λ (m : StepMoment). m.moment) c.is_refuted.ensures.same ∙ c.requires.whole in
    (c.end_verdict.ensures ∙ λ i. end_verdict (criteria s) n (guards_at s (whole i)) (c.end_signs-first.ensures.first i) (c.end_signs-first.ensures.last i))
    ∙ sym (one_way s c.width-width.ensures.some n c.args.self.valid.inside c.requires.uncrossed (turnless_is s n _ c.requires.whole _ false c.if-is_turnless.false _ c.requires.over c.is_turnless.ensures) (sym c.is_wide.ensures ∙ c.if-not-is_wide.false) (refuted_is s n _ c.requires.whole _ false c.if-is_refuted.false c.is_refuted.ensures.refuted) (one_way_is s n _ c.requires.whole _ true c.if-is_monotone.true _ c.requires.over c.is_monotone.ensures))

pub returns-else-is_monotone : goal.returns-else-is_monotone
returns-else-is_monotone g c =
    let s = c.args.self.search.now in
    let n = c.args.self.node in
    c.limit_verdict.ensures ∙ sym (both_ways s c.width-width.ensures.some n c.args.self.valid.inside c.requires.uncrossed (turnless_is s n _ c.requires.whole _ false c.if-is_turnless.false _ c.requires.over c.is_turnless.ensures) (sym c.is_wide.ensures ∙ c.if-not-is_wide.false) (refuted_is s n _ c.requires.whole _ false c.if-is_refuted.false c.is_refuted.ensures.refuted) (one_way_is s n _ c.requires.whole _ false c.if-is_monotone.false _ c.requires.over c.is_monotone.ensures))
