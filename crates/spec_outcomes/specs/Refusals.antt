-- Why a run has nothing to write to its output: the status and the line of each cause, and what the errors of its parts
-- are to a run.
use Rattle.std.specs.Prelude.{ℕ, List, Option, None, Some, option_map}
use Rattle.spec_faults.specs.declared.numbers.TheConstants.{NO_COMMAND, UNKNOWN_COMMAND, WORDS, BAD_VALUE}
use Rattle.spec_kinds.specs.declared.fault.EventFault.{EventFault}
use Rattle.spec_kinds.specs.Faults.{number_of}
use Rattle.spec_requests.specs.declared.request.WordFault.{WordFault}
use Rattle.spec_requests.specs.declared.request.WordFault.TheVariants as W
use Rattle.spec_requests.specs.Names.{option_name}
use Rattle.spec_output.specs.Messages.{words_text, file_text, read_text, outside_text, event_text, leaves_text, certificate_text, memory_text}
use Rattle.spec_outcomes.specs.declared.refusal.Refusal.{Refusal}
use Rattle.spec_outcomes.specs.declared.refusal.Refusal.TheVariants.{Words, File, NotRead, Outside, Event, TooManyLeaves, Certificate, Memory}
use Rattle.spec_outcomes.specs.declared.statuses.TheConstants.{WORDS_REFUSED, FILES_REFUSED, NOT_READ, SPAN_REFUSED, EVENT_REFUSED, OUT_OF_MEMORY, TOO_MANY_LEAVES, CERTIFICATE_REFUSED}

-- the status of a run that is refused
abbrev pub status_of : Refusal → ℕ
status_of (Words number option) = WORDS_REFUSED
status_of (File name fault) = FILES_REFUSED
status_of (NotRead name) = NOT_READ
status_of (Outside span whole) = SPAN_REFUSED
status_of (Event fault) = EVENT_REFUSED
status_of (TooManyLeaves most) = TOO_MANY_LEAVES
status_of (Certificate line number) = CERTIFICATE_REFUSED
status_of Memory = OUT_OF_MEMORY

-- what standard error is given
abbrev pub line_of : Refusal → List ℕ
line_of (Words number option) = words_text number (option_map option_name option)
line_of (File name fault) = file_text name fault
line_of (NotRead name) = read_text name
line_of (Outside span whole) = outside_text span.from span.upto whole.from whole.upto
line_of (Event fault) = event_text (number_of fault)
line_of (TooManyLeaves most) = leaves_text most
line_of (Certificate line number) = certificate_text line number
line_of Memory = memory_text

-- ---- what errors are to a run
abbrev pub of_words : WordFault → Refusal
of_words W.NoCommand = Words NO_COMMAND None
of_words W.UnknownCommand = Words UNKNOWN_COMMAND None
of_words W.Words = Words WORDS None
of_words (W.BadValue option) = Words BAD_VALUE (Some option)
of_words W.Memory = Memory

-- what a fault of an event is, or the lack of memory where it has none
abbrev pub of_fault : Option EventFault → Refusal
of_fault (Some fault) = Event fault
of_fault None = Memory
