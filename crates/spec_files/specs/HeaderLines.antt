-- The header of a list of lines.
use Rattle.std.specs.Prelude.{ℕ, ◌+◌, pos, List, length, map, slice_get, Result, Ok, Err, Option, None, Some, codes}
use Rattle.spec_text.specs.Lines.{Numbered, lines, text_lines}
use Rattle.spec_text.specs.declared.decimals.Decimal.{Decimal}
use Rattle.spec_text.specs.declared.decimals.Fault.{Fault}
use Rattle.spec_ephemeris.specs.declared.header.Column.{Column}
use Rattle.spec_ephemeris.specs.declared.header.Header.{Header}
use Rattle.spec_files.specs.declared.facts.BlockShape.{BlockShape}
use Rattle.spec_files.specs.declared.facts.Facts.{Facts}
use Rattle.spec_faults.specs.declared.numbers.TheConstants.{ENDED}
use Rattle.spec_files.specs.ColumnRules.{columns_row, first_row, row_of}
use Rattle.spec_files.specs.HeaderRules.{emrat_from, first_line, group, mass_ratio, name_count, span, value_count}
use Rattle.spec_files.specs.FileLines.{first_long, readable}
use Rattle.spec_files.specs.Sections.{FileLine, FileWord, Stop, ended, breaks, ◌>>=◌, at_line, after_words, first_words, from_word, one_line}

-- the texts of the first n words, and the lines after them
abbrev pub names : ℕ → List FileLine → Result (List (List ℕ) × List FileLine) Stop
names n lines = after_words ENDED n lines >>= λ rest. Ok (map (λ word. word.text) (first_words n lines), rest)

abbrev pub mass_ratio_at : Option FileWord → Result Decimal Stop
mass_ratio_at None = Err (ended ENDED)
mass_ratio_at (Some word) = at_line word.file word.line (mass_ratio word.text)

-- EMRAT, which stands at this place of n words, and the lines after them; no other word is looked at
abbrev pub mass_ratio_among : ℕ → ℕ → List FileLine → Result (Decimal × List FileLine) Stop
mass_ratio_among n place lines = do
  emrat ← mass_ratio_at (slice_get (first_words n lines) place)
  rest ← after_words ENDED n lines
  Ok (emrat, rest)

-- the header and the lines after it, or why the lines are refused
abbrev pub HeaderOrStop : Type 0
HeaderOrStop = Result (Header × List FileLine) Stop

abbrev pub facts_of : BlockShape → Decimal → Facts
facts_of shape emrat = record { ncoeff = shape.ncoeff; block_seconds = shape.block_seconds; emrat = emrat }

abbrev pub header_of : Facts → List Column → Header
header_of facts columns =
    record { ncoeff = facts.ncoeff; block_seconds = pos facts.block_seconds; emrat = facts.emrat; columns = columns }

-- A header is, in this order: the first line, GROUP 1010, titles, GROUP 1030, the span, GROUP 1040, the count of names,
-- names, GROUP 1041, the count of values, values, GROUP 1050, the starts, the coefficients and the granules of the
-- columns, and GROUP 1070. What follows is the rest of a header from each of these sections on, the last one first: it
-- cuts that section off the lines, and goes on with the next.

abbrev pub from_end_group : Facts → List Column → List FileLine → HeaderOrStop
from_end_group facts columns lines = do
  end ← one_line ENDED (group (codes "1070") 1070) lines
  Ok (header_of facts columns, end.1)

abbrev pub from_granules : Facts → List ℕ → List ℕ → List FileLine → HeaderOrStop
from_granules facts starts coefs lines = do
  columns ← one_line ENDED (columns_row facts.ncoeff facts.block_seconds starts coefs) lines
  from_end_group facts columns.0 columns.1

abbrev pub from_coefficients : Facts → List ℕ → List FileLine → HeaderOrStop
from_coefficients facts starts lines = do
  coefs ← one_line ENDED (row_of (length starts)) lines
  from_granules facts starts coefs.0 coefs.1

abbrev pub from_starts : Facts → List FileLine → HeaderOrStop
from_starts facts lines = do
  starts ← one_line ENDED first_row lines
  from_coefficients facts starts.0 starts.1

abbrev pub from_column_group : Facts → List FileLine → HeaderOrStop
from_column_group facts lines = do
  places ← one_line ENDED (group (codes "1050") 1050) lines
  from_starts facts places.1

abbrev pub from_values : BlockShape → ℕ → ℕ → List FileLine → HeaderOrStop
from_values shape count place lines = do
  emrat ← mass_ratio_among count place lines
  from_column_group (facts_of shape emrat.0) emrat.1

abbrev pub from_value_count : BlockShape → ℕ → Option ℕ → List FileLine → HeaderOrStop
from_value_count shape count emrat lines = do
  place ← one_line ENDED (value_count count emrat) lines
  from_values shape count place.0 place.1

abbrev pub from_value_group : BlockShape → ℕ → Option ℕ → List FileLine → HeaderOrStop
from_value_group shape count emrat lines = do
  values ← one_line ENDED (group (codes "1041") 1041) lines
  from_value_count shape count emrat values.1

abbrev pub from_names : BlockShape → ℕ → List FileLine → HeaderOrStop
from_names shape count lines = do
  named ← names count lines
  from_value_group shape count (emrat_from 0 named.0) named.1

abbrev pub from_name_count : BlockShape → List FileLine → HeaderOrStop
from_name_count shape lines = do
  count ← one_line ENDED name_count lines
  from_names shape count.0 count.1

abbrev pub from_name_group : BlockShape → List FileLine → HeaderOrStop
from_name_group shape lines = do
  constants ← one_line ENDED (group (codes "1040") 1040) lines
  from_name_count shape constants.1

abbrev pub from_span : ℕ → List FileLine → HeaderOrStop
from_span ncoeff lines = do
  block ← one_line ENDED span lines
  from_name_group (record { ncoeff = ncoeff; block_seconds = block.0 }) block.1

abbrev pub from_titles : ℕ → List FileLine → HeaderOrStop
from_titles ncoeff lines = do
  dates ← one_line ENDED (group (codes "1030") 1030) (from_word (codes "GROUP") lines)
  from_span ncoeff dates.1

abbrev pub from_title_group : ℕ → List FileLine → HeaderOrStop
from_title_group ncoeff lines = do
  titles ← one_line ENDED (group (codes "1010") 1010) lines
  from_titles ncoeff titles.1

abbrev pub from_first_line : List FileLine → HeaderOrStop
from_first_line lines = do
  ncoeff ← one_line ENDED first_line lines
  from_title_group ncoeff.0 ncoeff.1

-- the header of the lines of all files, and the lines after it, or why they are refused
unfoldable pub header : List FileLine → HeaderOrStop
header lines = from_first_line lines

-- why the lines of a file end too early: one is too long, or the file ends under this number
abbrev pub ending : ℕ → ℕ → Option Fault → Fault
ending end late None = record { line = end; number = late; detail = 0 }
ending end late (Some fault) = fault

abbrev pub fault_of : ℕ → List Numbered → Stop → Fault
fault_of end lines (ended late) = ending end late (first_long lines)
fault_of end lines (breaks file fault) = fault

abbrev pub or_fault : ℕ → List Numbered → Result (Header × List FileLine) Stop → Result (Header × List FileLine) Fault
or_fault end lines (Ok x) = Ok x
or_fault end lines (Err stop) = Err (fault_of end lines stop)

-- the header of a text and the lines after it, or the text's first fault
abbrev pub text_header : List ℕ → Result (Header × List FileLine) Fault
text_header text = or_fault (length (lines text) + 1) (text_lines text) (header (readable 0 (text_lines text)))
