-- The lines that a run without a report writes to standard error.
use Rattle.std.specs.Prelude.{ℕ, ℤ, List, [], ◌++◌, Bool, true, false, codes, Option, None, Some}
use Rattle.std.specs.Fmt.{decimal, signed_decimal}
use Rattle.spec_text.specs.declared.decimals.Fault.{Fault}
use Rattle.spec_faults.specs.Faults.{Kind, fault_kind}

abbrev pub detail_text : Bool → ℕ → List ℕ
detail_text false detail = []
detail_text true detail = codes " " ++ decimal detail

-- the name, and the detail where this kind of fault has one
abbrev pub kind_text : Kind → ℕ → List ℕ
kind_text kind detail = kind.name ++ detail_text kind.has_detail detail

abbrev pub kind_title : Option Kind → ℕ → List ℕ
kind_title None detail = []
kind_title (Some kind) detail = kind_text kind detail

-- the name of the fault with this number, and its detail where it has one; a number that has no row in the table of
-- faults has no name
unfoldable pub title : ℕ → ℕ → List ℕ
title number detail = kind_title (fault_kind number) detail

-- the number of a fault, its name, and its detail
abbrev pub fault_text : ℕ → ℕ → List ℕ
fault_text number detail = decimal number ++ codes " " ++ title number detail

-- a text after a blank, where there is one
abbrev pub after_blank : Option (List ℕ) → List ℕ
after_blank None = []
after_blank (Some text) = codes " " ++ text

-- the command line is invalid, for the cause of this number; the option that is bad follows, where there is one
abbrev pub words_text : ℕ → Option (List ℕ) → List ℕ
words_text number option = codes "finder: words: " ++ fault_text number 0 ++ after_blank option ++ codes "\n"

-- the line is counted from 1, and 0 where the fault is of the whole file
abbrev pub place_text : List ℕ → ℕ → List ℕ
place_text name line = codes "finder: file " ++ name ++ codes " line " ++ (decimal line ++ codes ": ")

-- the file of this name has a fault
abbrev pub file_text : List ℕ → Fault → List ℕ
file_text name fault = place_text name fault.line ++ fault_text fault.number fault.detail ++ codes "\n"

-- the file of this name could not be read
abbrev pub read_text : List ℕ → List ℕ
read_text name = codes "finder: read fault " ++ name ++ codes "\n"

-- two times, in ticks of TDB since J2000
abbrev pub times : ℤ → ℤ → List ℕ
times first last = signed_decimal first ++ codes " " ++ signed_decimal last

-- a span does not lie within the files, which begin and end at these times
abbrev pub outside_text : ℤ → ℤ → ℤ → ℤ → List ℕ
outside_text from upto start end = codes "finder: span: " ++ (times from upto ++ codes " not within ") ++ (times start end ++ codes "\n")

-- the event cannot be searched for, for the cause of this number
abbrev pub event_text : ℕ → List ℕ
event_text number = codes "finder: event: " ++ fault_text number 0 ++ codes "\n"

-- the search has more leaves than it may have, which are so many
abbrev pub leaves_text : ℕ → List ℕ
leaves_text most = codes "finder: more than " ++ decimal most ++ codes " leaves\n"

-- a line of the certificate, counted from 1, breaks the rule of this number
abbrev pub certificate_text : ℕ → ℕ → List ℕ
certificate_text line number =
    codes "finder: certificate line " ++ (decimal line ++ codes ": ") ++ fault_text number 0 ++ codes "\n"

abbrev pub write_text : List ℕ
write_text = codes "finder: write fault\n"

abbrev pub memory_text : List ℕ
memory_text = codes "finder: out of memory\n"
