-- One part of a request: what an option's word stands for, or the option, where it is bad. And two parts together.
use Rattle.std.specs.Prelude.{Option, None, Some, Result, Ok, Err, option_and_then, option_map}
use Rattle.spec_kinds.specs.declared.table.Use.{Use}
use Rattle.spec_kinds.specs.declared.table.Use.TheVariants.{Needed, Optional, Unused}
use Rattle.spec_requests.specs.declared.request.Named.{Named}
use Rattle.spec_requests.specs.Names.{Text}

-- where there is a word, which is read as this
abbrev pub used : {X : Type 0} → Named → Use → Option X → Result (Option X) Named
used option Needed (Some x) = Ok (Some x)
used option Optional (Some x) = Ok (Some x)
used option Unused (Some x) = Err option
used option usage None = Err option

-- where there is none
abbrev pub left_out : {X : Type 0} → Named → Use → Result (Option X) Named
left_out option Needed = Err option
left_out option Optional = Ok None
left_out option Unused = Ok None

-- what its usage makes of a part: of what its word is read as, where there is a word
abbrev pub by_use : {X : Type 0} → Named → Use → Option (Option X) → Result (Option X) Named
by_use option usage None = left_out option usage
by_use option usage (Some read) = used option usage read

abbrev pub part : {X : Type 0} → (Text → Option X) → Named → Use → Option Text → Result (Option X) Named
part form option usage given = by_use option usage (option_map form given)

-- the same of an option that has to be there
abbrev pub required : {X : Type 0} → Named → Option X → Result X Named
required option None = Err option
required option (Some x) = Ok x

abbrev pub needed : {X : Type 0} → (Text → Option X) → Named → Option Text → Result X Named
needed form option given = required option (option_and_then form given)

-- both parts, or the first of the two that is bad
abbrev pub pair : {A B : Type 0} → Result A Named → Result B Named → Result (A × B) Named
pair (Ok x) (Ok y) = Ok (x, y)
pair (Ok x) (Err option) = Err option
pair (Err option) second = Err option
