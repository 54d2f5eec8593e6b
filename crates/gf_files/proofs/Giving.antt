-- The lines of a text in pieces, given to a reader one piece after the other.
use Rattle.std.proofs.Common.{◌≡◌, ℕ, ◌+◌, ◌-◌, ◌<◌, ◌≤◌, Bool, true, false, List, [], ◌∷◌, ◌++◌, length, Option, None, Some, Result, Ok, Err, refl, sym, ap, ◌∙◌, subst, append_assoc, arith, inl, inr}
use Rattle.std.specs.Prelude.{IfOk, IfSome, if◌then◌else◌}
use Rattle.std.specs.Io.KnownBytes.{Consumes, IsAtEnd, Keeps}
use Rattle.std.proofs.lemmas.List.{length-append}
use Rattle.std.proofs.lemmas.List.Elements.{filter-append}
use Rattle.spec_text.specs.Lines.{Numbered, counted_lines, is_counted, is_too_long, lines, numbered_from, text_lines, tokens}
use Rattle.spec_text.specs.declared.decimals.Fault.{Fault}
use Rattle.spec_text.specs.declared.limits.TheConstants.{MAX_TEXT_BYTES}
use Rattle.spec_faults.specs.declared.numbers.TheConstants.{FILE_TOO_LARGE, LINE_TOO_LONG}
use Rattle.spec_files.specs.FileLines.{first_long, readable}
use Rattle.spec_files.specs.Files.{IsFile}
use Rattle.spec_files.specs.Sections.{FileLine}
use Rattle.spec_files.specs.Texts.{fault_at}
use Rattle.spec_files.specs.declared.errors.ReadError.{ReadError}
use Rattle.spec_files.specs.declared.errors.ReadError.TheVariants as errors
use Rattle.gf_edges.specs.Edges.{Files, Opens}
use Rattle.de_text.specs.Cursor.{counted_after}
use Rattle.de_text.specs.Pieces.{AreWholeLines}
use Rattle.de_text.proofs.WholeLines.{few_lines}
use Rattle.gf_files.specs.declared.errors.FilesError.{FilesError}
use Rattle.gf_files.specs.declared.errors.FilesError.TheVariants as all
use Rattle.gf_files.specs.declared.reader.Fed.{Fed}
use Rattle.gf_files.specs.declared.reader.Reader.{Reader}
use Rattle.gf_files.specs.Read.{GivesLines, Grows, IsGiven, StopsAtFile, StopsInRest, TakesFew, TakesFile, TakesRest}
use Rattle.gf_files.specs.Reader.{CanGoOn, FeedsLines, FeedsPiece, HasNoFault, IsFed, IsFirstFault, IsFirstFaultOf, IsReady, TookLines, ephemeris_after}
use Rattle.gf_files.proofs.Left.{consumed_all, consumes_kept, consumes_more, not_none}
use Rattle.gf_files.proofs.Passing.{large_stops, small_cut, small_lines}

abbrev Lines : Type 0
Lines = List Numbered

-- lines after lines, as far as they are read

numbered_join : (n : ℕ) (xs ys : List (List ℕ)) → numbered_from n (xs ++ ys) ≡ numbered_from n xs ++ numbered_from (n + length xs) ys
numbered_join n [] ys = let same : n ≡ n + 0 = omega arith in ap (λ (k : ℕ). numbered_from k ys) same
numbered_join n (x ∷ xs) ys =
    let next : (n + 1) + length xs ≡ n + length (x ∷ xs) = omega arith in
    ap (λ (l : Lines). record { number = n; bytes = x } ∷ l)
    (numbered_join (n + 1) xs ys ∙ ap (λ (k : ℕ). numbered_from (n + 1) xs ++ numbered_from k ys) next)

-- the lines of whole lines and of what follows
text_join : (given more : List ℕ) → AreWholeLines given → text_lines (given ++ more) ≡ text_lines given ++ counted_after (length (lines given)) more
text_join given more whole =
    let next : 1 + length (lines given) ≡ length (lines given) + 1 = omega arith in
    ap (λ (l : List (List ℕ)). counted_lines (numbered_from 1 l)) (whole more)
    ∙ ap counted_lines (numbered_join 1 (lines given) (lines more) ∙ ap (λ (k : ℕ). numbered_from 1 (lines given) ++ numbered_from k (lines more)) next)
    ∙ filter-append is_counted (numbered_from 1 (lines given)) (numbered_from (length (lines given) + 1) (lines more))

count_join : (given more : List ℕ) → AreWholeLines given → length (lines (given ++ more)) ≡ length (lines given) + length (lines more)
count_join given more whole = ap length (whole more) ∙ length-append (lines given) (lines more)

-- lines that are read before lines of which these are the first
module _ (file : ℕ) (ys : Lines) where
  none_long_by : (x : FileLine) (fault : Fault) (long : Bool) (xs both : List FileLine) (m n : Option Fault) → (if long then Some fault else m) ≡ None
      → (m ≡ None → (both ≡ xs ++ readable file ys) × (n ≡ first_long ys))
      → ((if long then [] else x ∷ both) ≡ (if long then [] else x ∷ xs) ++ readable file ys) × ((if long then Some fault else n) ≡ first_long ys)
  none_long_by x fault true xs both m n none step = absurd (cc)
  none_long_by x fault false xs both m n none step = let s = step none in (ap (λ (l : List FileLine). x ∷ l) s.0, s.1)

  -- none of the first is too long
  none_long : (xs : Lines) → first_long xs ≡ None → (readable file (xs ++ ys) ≡ readable file xs ++ readable file ys) × (first_long (xs ++ ys) ≡ first_long ys)
  none_long [] none = (refl, refl)
  none_long (x ∷ xs) none =
      none_long_by (record { file = file; number = x.number; words = tokens x.bytes }) (fault_at x.number LINE_TOO_LONG) (is_too_long x)
      (readable file xs) (readable file (xs ++ ys)) (first_long xs) (first_long (xs ++ ys)) none (none_long xs)

  begins_by : (x : FileLine) (long : Bool) (xs both : List FileLine) → (more : List FileLine) × (both ≡ xs ++ more)
      → (more : List FileLine) × ((if long then [] else x ∷ both) ≡ (if long then [] else x ∷ xs) ++ more)
  begins_by x true xs both step = ([], refl)
  begins_by x false xs both step = (step.0, ap (λ (l : List FileLine). x ∷ l) step.1)

  -- in any case the first come first
  begins : (xs : Lines) → (more : List FileLine) × (readable file (xs ++ ys) ≡ readable file xs ++ more)
  begins [] = (readable file ys, refl)
  begins (x ∷ xs) =
      begins_by (record { file = file; number = x.number; words = tokens x.bytes }) (is_too_long x) (readable file xs) (readable file (xs ++ ys)) (begins xs)

  some_long_by : (x : FileLine) (fault found : Fault) (long : Bool) (xs both : List FileLine) (m n : Option Fault) → (if long then Some fault else m) ≡ Some found
      → (m ≡ Some found → (both ≡ xs) × (n ≡ Some found))
      → ((if long then [] else x ∷ both) ≡ (if long then [] else x ∷ xs)) × ((if long then Some fault else n) ≡ Some found)
  some_long_by x fault found true xs both m n some step = (refl, some)
  some_long_by x fault found false xs both m n some step = let s = step some in (ap (λ (l : List FileLine). x ∷ l) s.0, s.1)

  -- one of the first is too long
  some_long : (xs : Lines) (found : Fault) → first_long xs ≡ Some found → (readable file (xs ++ ys) ≡ readable file xs) × (first_long (xs ++ ys) ≡ Some found)
  some_long [] found some = absurd (cc)
  some_long (x ∷ xs) found some =
      some_long_by (record { file = file; number = x.number; words = tokens x.bytes }) (fault_at x.number LINE_TOO_LONG) found (is_too_long x)
      (readable file xs) (readable file (xs ++ ys)) (first_long xs) (first_long (xs ++ ys)) some (some_long xs found)

joins_fault : (reader : Reader) (xs ys : Lines) (mid : ℕ) (fed : Fed) (fault : Fault) (file : ℕ) → TookLines reader xs mid fed → IsFirstFaultOf file fed.reader ys fault
    → IsFirstFaultOf file reader (xs ++ ys) fault
joins_fault reader xs ys mid fed fault file took first =
    let lines = none_long file ys xs took.whole in
    elim first [
      | inl broken ↦ inl (λ rest.
          ap (λ (l : List FileLine). ephemeris_after file reader (l ++ rest)) lines.0
          ∙ ap (λ (l : List FileLine). ephemeris_after file reader l) (append_assoc (readable file xs) (readable file ys) rest)
          ∙ sym (took.same file (readable file ys ++ rest)) ∙ broken rest)
      | inr long ↦ inr (
        lines.1 ∙ long.0,
        subst HasNoFault (took.same file (readable file ys) ∙ ap (λ (l : List FileLine). ephemeris_after file reader l) (sym lines.0)) long.1,
      )
    ]

-- lines that were taken, and what comes of those after them
joins : (reader : Reader) (xs ys : Lines) (mid end : ℕ) (fed : Fed) (result : Result Fed ReadError) → TookLines reader xs mid fed → FeedsLines fed.reader ys end result
    → FeedsLines reader (xs ++ ys) end result
joins reader xs ys mid end fed (Ok new) took feeds = record {
  same = λ file rest.
      feeds.same file rest ∙ took.same file (readable file ys ++ rest)
      ∙ ap (λ (l : List FileLine). ephemeris_after file reader l)
      (sym (append_assoc (readable file xs) (readable file ys) rest) ∙ ap (λ (l : List FileLine). l ++ rest) (sym ((none_long file ys xs took.whole).0)));
  ready = feeds.ready;
  whole = (none_long 0 ys xs took.whole).1 ∙ feeds.whole;
  end_line = feeds.end_line;
}
joins reader xs ys mid end fed (Err (errors.Fault fault)) took feeds = λ file. joins_fault reader xs ys mid fed fault file took (feeds file)
joins reader xs ys mid end fed (Err errors.Memory) took feeds = tt

-- the first fault of lines stays so, whatever lines follow
stays : (reader : Reader) (xs ys : Lines) (fault : Fault) (file : ℕ) → IsFirstFaultOf file reader xs fault → IsFirstFaultOf file reader (xs ++ ys) fault
stays reader xs ys fault file first = elim first [
  | inl broken ↦ inl (λ rest.
      let front = begins file ys xs in
      ap (λ (l : List FileLine). ephemeris_after file reader (l ++ rest)) front.1
      ∙ ap (λ (l : List FileLine). ephemeris_after file reader l) (append_assoc (readable file xs) front.0 rest)
      ∙ broken (front.0 ++ rest))
  | inr long ↦
      let front = some_long file ys xs fault long.0 in
      inr (front.1, subst (λ (l : List FileLine). HasNoFault (ephemeris_after file reader l)) (sym front.0) long.1)
]

-- one piece more
piece_more : (reader : Reader) (given piece : List ℕ) (old new : Result Fed ReadError) → AreWholeLines given → FeedsLines reader (text_lines given) (length (lines given) + 1) old
    → FeedsPiece old piece new → FeedsLines reader (text_lines (given ++ piece)) (length (lines (given ++ piece)) + 1) new
piece_more reader given piece (Ok fed) new whole feeds next =
    let count = length (lines given) in
    let before : fed.end_line - 1 ≡ count = omega (arith, feeds.end_line) in
    let after : FeedsLines fed.reader (counted_after count piece) (count + length (lines piece) + 1) new =
    subst (λ (n : ℕ). FeedsLines fed.reader (counted_after n piece) (n + length (lines piece) + 1) new) before next in
    subst (λ (l : Lines). FeedsLines reader l (length (lines (given ++ piece)) + 1) new) (sym (text_join given piece whole))
    (subst (λ (n : ℕ). FeedsLines reader (text_lines given ++ counted_after count piece) (n + 1) new) (sym (count_join given piece whole))
    (joins reader (text_lines given) (counted_after count piece) (count + 1) (count + length (lines piece) + 1) fed new feeds after))
piece_more reader given piece (Err (errors.Fault fault)) new whole feeds next =
    subst (λ (result : Result Fed ReadError). FeedsLines reader (text_lines (given ++ piece)) (length (lines (given ++ piece)) + 1) result) (sym next)
    (λ file. subst (λ (l : Lines). IsFirstFaultOf file reader l fault) (sym (text_join given piece whole))
    (stays reader (text_lines given) (counted_after (length (lines given)) piece) fault file (feeds file)))
piece_more reader given piece (Err errors.Memory) new whole feeds next =
    subst (λ (result : Result Fed ReadError). FeedsLines reader (text_lines (given ++ piece)) (length (lines (given ++ piece)) + 1) result) (sym next) tt

can_go_on : (reader : Reader) (given : List ℕ) (fed : Result Fed ReadError) (size : ℕ) → FeedsLines reader (text_lines given) (length (lines given) + 1) fed
    → length given + size ≤ MAX_TEXT_BYTES → CanGoOn fed size
can_go_on reader given (Ok fed) size feeds small =
    let few = few_lines given in
    (feeds.ready, omega (arith, feeds.end_line), omega (arith, feeds.end_line, few, small))
can_go_on reader given (Err error) size feeds small = tt

whole_more : (xs ys : List ℕ) → AreWholeLines xs → AreWholeLines ys → AreWholeLines (xs ++ ys)
whole_more xs ys first second = λ more.
    ap lines (append_assoc xs ys more) ∙ first (ys ++ more) ∙ ap (λ (l : List (List ℕ)). lines xs ++ l) (second more)
    ∙ sym (append_assoc (lines xs) (lines ys) (lines more)) ∙ ap (λ (l : List (List ℕ)). l ++ lines more) (sym (first ys))

-- from piece to piece

nothing_taken : (left : Option (List ℕ)) → Consumes left left []
nothing_taken None = tt
nothing_taken (Some bytes) = refl

pub at_start : (reader : Reader) (left : Option (List ℕ)) → IsReady reader → IsGiven reader left left [] 0 (Ok (record { reader = reader; end_line = 1 }))
at_start reader left ready = record {
  given = [];
  read = nothing_taken left;
  size = refl;
  whole = λ more. refl;
  feeds = record { same = λ file rest. refl; ready = ready; whole = refl; end_line = refl };
}

pub given_read : (reader : Reader) (a b c : Option (List ℕ)) (window new : List ℕ) (taken count : ℕ) (fed : Result Fed ReadError) → IsGiven reader a b window taken fed
    → Grows b c window new count → IsGiven reader a c new (taken + count) fed
given_read reader a b c window new taken count fed is grows =
    let read : Consumes a c (is.given ++ new) =
    subst (Consumes a c) (append_assoc is.given window grows.read ∙ ap (λ (l : List ℕ). is.given ++ l) (sym grows.is))
    (consumes_more a b c (is.given ++ window) grows.read is.read grows.taken) in
    let long : length new ≡ length window + length grows.read = ap length grows.is ∙ length-append window grows.read in
    record { given = is.given; read = read; size = omega (arith, long, grows.size, is.size); whole = is.whole; feeds = is.feeds }

pub given_lines : (reader : Reader) (a b : Option (List ℕ)) (window left : List ℕ) (taken : ℕ) (old new : Result Fed ReadError) → IsGiven reader a b window taken old
    → GivesLines window left old new → IsGiven reader a b left taken new
given_lines reader a b window left taken old new is gives =
    let front : is.given ++ window ≡ (is.given ++ gives.piece) ++ left =
    ap (λ (l : List ℕ). is.given ++ l) gives.is ∙ sym (append_assoc is.given gives.piece left) in
    let long : length window ≡ length gives.piece + length left = ap length gives.is ∙ length-append gives.piece left in
    let given : length (is.given ++ gives.piece) ≡ length is.given + length gives.piece = length-append is.given gives.piece in
    record {
      given = is.given ++ gives.piece;
      read = subst (Consumes a b) front is.read;
      size = omega (arith, long, given, is.size);
      whole = whole_more is.given gives.piece is.whole gives.whole;
      feeds = piece_more reader is.given gives.piece old new is.whole is.feeds gives.feeds;
    }

pub window_fits : (reader : Reader) (a b : Option (List ℕ)) (window : List ℕ) (taken : ℕ) (fed : Result Fed ReadError) → IsGiven reader a b window taken fed
    → taken ≤ MAX_TEXT_BYTES → CanGoOn fed (length window)
window_fits reader a b window taken fed is few = can_go_on reader is.given fed (length window) is.feeds (omega (arith, is.size, few))

fed_text : (reader : Reader) (text : List ℕ) (fed : Fed) → length text ≤ MAX_TEXT_BYTES → TookLines reader (text_lines text) (length (lines text) + 1) fed → IsFed reader text fed
fed_text reader text fed small took = record {
  same = λ file rest. took.same file rest ∙ ap (λ (l : List FileLine). ephemeris_after file reader (l ++ rest)) (sym (small_lines text small file));
  ready = took.ready;
  whole = small_cut text small ∙ took.whole;
  end_line = took.end_line;
}

fault_of_text : (reader : Reader) (text : List ℕ) (fault : Fault) → length text ≤ MAX_TEXT_BYTES → ((file : ℕ) → IsFirstFaultOf file reader (text_lines text) fault)
    → IsFirstFault reader text fault
fault_of_text reader text fault small first = λ file. elim (first file) [
  | inl broken ↦ inl (λ rest. ap (λ (l : List FileLine). ephemeris_after file reader (l ++ rest)) (small_lines text small file) ∙ broken rest)
  | inr long ↦ inr (
    small_cut text small ∙ long.0,
    subst (λ (l : List FileLine). HasNoFault (ephemeris_after file reader l)) (sym (small_lines text small file)) long.1,
  )
]

-- at the end of a file

text_size : (given window : List ℕ) (taken : ℕ) → length given + length window ≡ taken → taken ≤ MAX_TEXT_BYTES → length (given ++ window) ≤ MAX_TEXT_BYTES
text_size given window taken size few = let long = length-append given window in omega (arith, long, size, few)

takes_rest : (reader : Reader) (a b : Option (List ℕ)) (window : List ℕ) (taken : ℕ) (old : Result Fed ReadError) (fed : Fed) → IsGiven reader a b window taken old
    → taken ≤ MAX_TEXT_BYTES → IsAtEnd b → FeedsPiece old window (Ok fed) → TakesRest a reader fed
takes_rest reader a b window taken old fed is few end feeds = record {
  text = is.given ++ window;
  is = consumed_all a b (is.given ++ window) is.read end;
  took = fed_text reader (is.given ++ window) fed (text_size is.given window taken is.size few) (piece_more reader is.given window old (Ok fed) is.whole is.feeds feeds);
}

pub stops_in_rest : (reader : Reader) (a b : Option (List ℕ)) (window : List ℕ) (taken : ℕ) (old : Result Fed ReadError) (fault : Fault) → IsGiven reader a b window taken old
    → taken ≤ MAX_TEXT_BYTES → IsAtEnd b → FeedsPiece old window (Err (errors.Fault fault)) → StopsInRest a reader fault
stops_in_rest reader a b window taken old fault is few end feeds = record {
  text = is.given ++ window;
  is = consumed_all a b (is.given ++ window) is.read end;
  first = fault_of_text reader (is.given ++ window) fault (text_size is.given window taken is.size few)
      (piece_more reader is.given window old (Err (errors.Fault fault)) is.whole is.feeds feeds);
}

large_by : (reader : Reader) (a b : Option (List ℕ)) (read : List ℕ) → IsReady reader → Consumes a b read → MAX_TEXT_BYTES < length read
    → StopsInRest a reader (fault_at 0 FILE_TOO_LARGE)
large_by reader None b read ready took large = record { text = read; is = tt; first = large_stops reader read ready large }
large_by reader (Some bytes) None read ready took large = absurd took
large_by reader (Some bytes) (Some rest) read ready took large =
    let long : length bytes ≡ length read + length rest = ap length took ∙ length-append read rest in
    record { text = bytes; is = refl; first = large_stops reader bytes ready (omega (arith, long, large)) }

-- too many bytes were taken
pub large_rest : (reader : Reader) (a b : Option (List ℕ)) (window : List ℕ) (taken : ℕ) (fed : Result Fed ReadError) → IsReady reader → IsGiven reader a b window taken fed
    → MAX_TEXT_BYTES < taken → StopsInRest a reader (fault_at 0 FILE_TOO_LARGE)
large_rest reader a b window taken fed ready is many =
    let long = length-append is.given window in
    large_by reader a b (is.given ++ window) ready is.read (omega (arith, long, is.size, many))

-- a file that was opened

file_is : (files : Option Files) (name : List ℕ) (left : Option (List ℕ)) (text : List ℕ) → Opens files name left → IfSome left (λ bytes. bytes ≡ text) → IsFile files name text
file_is None name left text opens is = tt
file_is (Some known) name None text opens is = absurd (not_none None refl opens.1)
file_is (Some known) name (Some bytes) text opens is = sym opens.0 ∙ ap (λ (l : List ℕ). Some l) is

takes_file : (files : Option Files) (name : List ℕ) (left : Option (List ℕ)) (reader : Reader) (fed : Fed) → Opens files name left → TakesRest left reader fed
    → TakesFile files name reader fed
takes_file files name left reader fed opens takes = record { text = takes.text; there = file_is files name left takes.text opens takes.is; took = takes.took }

pub stops_at_file : (files : Option Files) (name : List ℕ) (left : Option (List ℕ)) (reader : Reader) (fault : Fault) → Opens files name left → StopsInRest left reader fault
    → StopsAtFile files name reader fault
stops_at_file files name left reader fault opens stops = record { text = stops.text; there = file_is files name left stops.text opens stops.is; first = stops.first }

pub takes_file_if_read : (files : Option Files) (name : List ℕ) (left : Option (List ℕ)) (reader : Reader) (result : Result Fed FilesError) → Opens files name left
    → IfOk result (TakesRest left reader) → IfOk result (TakesFile files name reader)
takes_file_if_read files name left reader (Ok fed) opens takes = takes_file files name left reader fed opens takes
takes_file_if_read files name left reader (Err error) opens takes = tt

-- how much was taken

pub takes_few : (reader : Reader) (a b : Option (List ℕ)) (window : List ℕ) (taken : ℕ) (fed : Result Fed ReadError) → IsGiven reader a b window taken fed
    → taken ≤ MAX_TEXT_BYTES + 1 → TakesFew a b
takes_few reader a b window taken fed is few =
    let long = length-append is.given window in
    record { read = is.given ++ window; taken = is.read; few = omega (arith, long, is.size, few) }

pub takes_few_still : (reader : Reader) (a b c : Option (List ℕ)) (window : List ℕ) (taken : ℕ) (fed : Result Fed ReadError) → IsGiven reader a b window taken fed
    → taken ≤ MAX_TEXT_BYTES + 1 → Keeps b c → TakesFew a c
takes_few_still reader a b c window taken fed is few kept =
    let took = takes_few reader a b window taken fed is few in
    record { read = took.read; taken = consumes_kept a b c took.read took.taken kept; few = took.few }

pub takes_last : (reader : Reader) (a b : Option (List ℕ)) (window : List ℕ) (taken : ℕ) (old : Result Fed ReadError) (result : Result Fed FilesError)
    → IsGiven reader a b window taken old → taken ≤ MAX_TEXT_BYTES → IsAtEnd b → IfOk result (λ last. FeedsPiece old window (Ok last)) → IfOk result (TakesRest a reader)
takes_last reader a b window taken old (Ok last) is few end feeds = takes_rest reader a b window taken old last is few end feeds
takes_last reader a b window taken old (Err error) is few end feeds = tt

pub large_is : (file place : ℕ) (large fault : Fault) (result : Result Fed FilesError) → result ≡ Err (all.Fault file large) → result ≡ Err (all.Fault place fault)
    → (place ≡ file) × (large ≡ fault)
large_is file place large fault result was is = (cc, cc)
