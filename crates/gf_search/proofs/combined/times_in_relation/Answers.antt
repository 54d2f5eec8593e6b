use Rattle.std.proofs.Common.{sym, subst}
use Rattle.std.proofs.lemmas.Result.{IfOk-weaker}
use Rattle.spec_sets.specs.Pairs.{AreOf}
use Rattle.spec_requests.specs.declared.request.Relation.{Relation}
use Rattle.spec_outcomes.specs.Sets.{relation_sign}
use Rattle.gf_sets.specs.declared.pair.Pair.{Pair}
use Rattle.gf_search.proofs.combined.times_in_relation.Goals as goal

pub returns-in-Within : goal.returns-in-Within
returns-in-Within c =
    IfOk-weaker c.times_inside.result _ _
    (λ pair signs x y are other.
    subst (λ (relation : Relation). AreOf (λ t. relation_sign relation (x t) (y t)) c.args.span.from c.args.span.upto pair.sure pair.maybe) (sym c.in-Within.is)
    (signs x y are (subst (λ (second : Pair). AreOf y c.args.span.from c.args.span.upto second.sure second.maybe) (sym c.second.ensures) other)))
    c.times_inside.ensures

pub returns-in-Outside : goal.returns-in-Outside
returns-in-Outside c =
    IfOk-weaker c.times_outside.result _ _
    (λ pair signs x y are other.
    subst (λ (relation : Relation). AreOf (λ t. relation_sign relation (x t) (y t)) c.args.span.from c.args.span.upto pair.sure pair.maybe) (sym c.in-Outside.is)
    (signs x y are (subst (λ (second : Pair). AreOf y c.args.span.from c.args.span.upto second.sure second.maybe) (sym c.second-in-Outside.ensures) other)))
    c.times_outside.ensures
