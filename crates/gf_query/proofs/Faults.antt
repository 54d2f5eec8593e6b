-- What stops the making of a judge.
use Rattle.std.proofs.Common.{◌≡◌, ◌⊎◌, Option, None, Some, refl, sym, inl, inr}
use Rattle.spec_ephemeris.specs.Ephemeris.{Ephemeris}
use Rattle.spec_kinds.specs.declared.ask.Ask.{Ask}
use Rattle.spec_kinds.specs.declared.fault.EventFault.{EventFault}
use Rattle.spec_kinds.specs.Faults.{fault_of}
use Rattle.spec_outcomes.specs.declared.refusal.Refusal.TheVariants.{Memory}
use Rattle.spec_outcomes.specs.Outcomes.{HasFault}
use Rattle.spec_outcomes.specs.Refusals.{of_fault}

-- the fault of an ask, or out of memory
pub fault_stops : (e : Ephemeris) (ask : Ask) (fault : Option EventFault) → fault ≡ fault_of e ask
    → (of_fault fault ≡ Memory) ⊎ HasFault e ask (of_fault fault)
fault_stops e ask (Some fault) is = inr (fault, sym is, refl)
fault_stops e ask None is = inl refl
