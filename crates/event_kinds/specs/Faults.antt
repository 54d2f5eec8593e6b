-- Which fault of an ask an error says.
use Rattle.std.specs.Prelude.{Option, None, Some}
use Rattle.spec_kinds.specs.declared.fault.EventFault.{EventFault}
use Rattle.spec_kinds.specs.declared.fault.EventFault.TheVariants as F
use Rattle.event_kinds.specs.declared.faults.KindFault.{KindFault}
use Rattle.event_kinds.specs.declared.faults.KindFault.TheVariants.{BodyAbsent, SameBody, ReferenceRange, Memory}

abbrev pub event_fault_of : KindFault → Option EventFault
event_fault_of BodyAbsent = Some F.BodyAbsent
event_fault_of SameBody = Some F.SameBody
event_fault_of ReferenceRange = Some F.ReferenceRange
event_fault_of Memory = None
