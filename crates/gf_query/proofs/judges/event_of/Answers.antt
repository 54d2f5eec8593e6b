use Rattle.std.proofs.Common.{◌≡◌, ◌⊎◌, ◌∙◌, ap, sym, subst}
use Rattle.spec_outcomes.specs.declared.refusal.Refusal.{Refusal}
use Rattle.spec_outcomes.specs.declared.refusal.Refusal.TheVariants.{Memory}
use Rattle.spec_outcomes.specs.Outcomes.{HasFault}
use Rattle.spec_outcomes.specs.Refusals.{of_fault}
use Rattle.gf_query.proofs.Faults.{fault_stops}
use Rattle.gf_query.proofs.judges.event_of.Goals as goal

pub returns-in-Err-clause-refused : goal.returns-in-Err-clause-refused
returns-in-Err-clause-refused c =
    let e = c.args.ephemeris.now in
    let ask = c.args.query.now.ask in
    let P : Refusal → Type 0 = λ refusal. (refusal ≡ Memory) ⊎ HasFault e ask refusal in
    subst P (sym (c.of_fault.ensures ∙ ap of_fault c.event_fault.ensures)) (fault_stops e ask _ c.in-Err.ensures.refused)
