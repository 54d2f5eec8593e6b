use Rattle.std.proofs.Common.{◌≡◌, ap, sym, subst}
use Rattle.std.specs.Prelude.{IfNone, IfSome}
use Rattle.spec_searches.specs.Search.{verdict_of}
use Rattle.still_judge.specs.declared.manner.Manner.{Manner}
use Rattle.still_judge.specs.Manners.{rules_in}
use Rattle.still_judge.proofs.Manners.{if_none}
use Rattle.still_judge.proofs.still_list.StillList.known_verdict.Goals as goal

pub returns-in-Exact-clause-some : goal.returns-in-Exact-clause-some
returns-in-Exact-clause-some c =
    subst (λ (m : Manner). IfSome c.exact_verdict.result (λ verdict. verdict ≡ (rules_in m c.args.search.now c.args.self.now).verdict c.args.node)) (sym c.in-Exact.is) c.exact_verdict.ensures

pub returns-in-Exact-clause-none : goal.returns-in-Exact-clause-none
returns-in-Exact-clause-none c =
    if_none c.exact_verdict.result _ (ap (λ (m : Manner). (rules_in m c.args.search.now c.args.self.now).verdict c.args.node) c.in-Exact.is)

pub returns-in-Eager-clause-some : goal.returns-in-Eager-clause-some
returns-in-Eager-clause-some c =
    subst (λ (m : Manner). IfSome c.eager_verdict.result (λ verdict. verdict ≡ (rules_in m c.args.search.now c.args.self.now).verdict c.args.node)) (sym c.in-Eager.is) c.eager_verdict.ensures.some

pub returns-in-Eager-clause-none : goal.returns-in-Eager-clause-none
returns-in-Eager-clause-none c =
    subst (λ (m : Manner). IfNone c.eager_verdict.result ((rules_in m c.args.search.now c.args.self.now).verdict c.args.node ≡ verdict_of c.args.search.now c.args.node)) (sym c.in-Eager.is) c.eager_verdict.ensures.none

pub returns-in-Served-clause-some : goal.returns-in-Served-clause-some
returns-in-Served-clause-some c =
    subst (λ (m : Manner). IfSome c.served_verdict.result (λ verdict. verdict ≡ (rules_in m c.args.search.now c.args.self.now).verdict c.args.node)) (sym c.in-Served.is) c.served_verdict.ensures.some

pub returns-in-Served-clause-none : goal.returns-in-Served-clause-none
returns-in-Served-clause-none c =
    subst (λ (m : Manner). IfNone c.served_verdict.result ((rules_in m c.args.search.now c.args.self.now).verdict c.args.node ≡ verdict_of c.args.search.now c.args.node)) (sym c.in-Served.is) c.served_verdict.ensures.none
