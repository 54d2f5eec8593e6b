-- What contracts see of the kinds of faults that code keeps.
use Rattle.spec_faults.specs.declared.table.FaultKind.{FaultKind}
use Rattle.spec_faults.specs.Faults.{Kind}

abbrev pub kind_of : FaultKind → Kind
kind_of kind = record { number = kind.number; name = kind.name.now; has_detail = kind.has_detail }
