use Rattle.std.proofs.Common.{◌∙◌, sym, ap, subst}
use Rattle.spec_bodies.specs.Views.{IsView}
use Rattle.spec_searches.specs.Search.{Search}
use Rattle.spec_searches.proofs.Parts.{rules_are_sound}
use Rattle.event_judge.proofs.judge.EventJudge.new.Goals as goal

pub invariant_of-result : goal.invariant_of-result
invariant_of-result g c = record {
  same_rule = sym c.rule.ensures ∙ sym (ap (λ (s : Search). s.cut) c.new.ensures);
  sound = rules_are_sound c.new.result (subst (λ (s : Search). IsView s.view) (sym c.new.ensures) c.columns-columns.ensures.view);
}
