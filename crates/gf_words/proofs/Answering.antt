-- What is answered, from what was read.
use Rattle.std.proofs.Common.{◌≡◌, ◌∙◌, ◌⊎◌, ◌++◌, [], true, false, List, Result, Some, Ok, Err, refl, sym, ap, subst, inl, inr, codes, Option, option_and_then, unwrap_or}
use Rattle.std.specs.Prelude.{IfErr, IfOk, IsOkAnd, MatchResult}
use Rattle.clap.specs.Walk.{all_of, first_of}
use Rattle.clap.specs.Simple.{App}
use Rattle.clap.specs.Faults.{is_simple_and_free}
use Rattle.clap.specs.declared.parser.matches.ArgMatches.{ArgMatches}
use Rattle.spec_ephemeris.specs.declared.body.Body.{Body}
use Rattle.spec_events.specs.declared.dir.Dir.{Dir}
use Rattle.spec_events.specs.declared.dir.Dir.TheVariants as dir
use Rattle.spec_kinds.specs.declared.kind.Kind.{Kind}
use Rattle.spec_requests.specs.declared.request.Named.TheVariants as opt
use Rattle.spec_requests.specs.declared.request.Request.{Request}
use Rattle.spec_requests.specs.declared.request.WordFault.{WordFault}
use Rattle.spec_requests.specs.declared.request.WordFault.TheVariants.{Memory, Words}
use Rattle.spec_requests.specs.Names.{Text, dir_of, option_name}
use Rattle.spec_kinds.specs.Table.{is_unused, row_of, takes_radii}
use Rattle.spec_requests.specs.Options.{Values}
use Rattle.spec_requests.specs.Commands.{command_rules, files_in, is_refused, values_in}
use Rattle.spec_requests.specs.Requests.{ask_of, of_search, ref2_text, request_by, request_in, search_of, search_of_set, values_text}
use Rattle.spec_requests.specs.declared.request.FindAsk.{FindAsk}
use Rattle.spec_requests.specs.declared.tables.CommandName.{CommandName}
use Rattle.spec_requests.specs.declared.tables.CommandName.TheVariants as command
use Rattle.option_values.specs.Readings.{values_of}
use Rattle.gf_words.specs.declared.searches.SearchOptions.{SearchOptions}
use Rattle.gf_words.specs.Answers.{Answers}
use Rattle.gf_words.specs.Parts.{search_by_options, search_with_texts}
use Rattle.gf_words.specs.Readings.{IsReading, file_names_of}

pub answers_along : (x y result : Result Request WordFault) → x ≡ y → Answers x result → Answers y result
answers_along x y result same answers = subst (λ z. Answers z result) same answers

-- ---- the numbers of an event

pub radii_text : (values : Values) (kind : Kind) (first second : Text) → takes_radii kind ≡ true
    → first ≡ unwrap_or (values opt.Radius1) [] → second ≡ unwrap_or (values opt.Radius2) []
    → first ++ ref2_text (Some second) ≡ values_text values kind
unfolding values_text
radii_text values kind first second radii one two = rw radii (λ i. one i ++ (codes "," ++ two i))

pub no_text : (values : Values) (kind : Kind) → takes_radii kind ≡ false → is_unused (row_of kind).reference ≡ true
    → codes "-" ≡ values_text values kind
unfolding values_text
no_text values kind radii unused = rw (radii, unused) refl

pub ref_text : (values : Values) (kind : Kind) (word : Text) → takes_radii kind ≡ false → is_unused (row_of kind).reference ≡ false
    → word ≡ unwrap_or (values opt.Ref) (codes "0") → word ≡ values_text values kind
unfolding values_text
ref_text values kind word radii used is = rw (radii, used) is

-- the search that was read, with its texts
pub search_made : (values : Values) (kind : Kind) (target : Body) (files : List Text) (search : SearchOptions)
    (turns : Option Dir) (wanted : Dir) (text : Text) → search ≡ search_by_options values kind target
    → turns ≡ option_and_then dir_of (values opt.Dir) → wanted ≡ unwrap_or turns dir.Any → text ≡ values_text values kind
    → search_with_texts search wanted text files ≡ search_of values kind target files
unfolding search_of ask_of
search_made values kind target files search turns wanted text search_is turns_are wanted_is text_is =
    let all : wanted ≡ unwrap_or (option_and_then dir_of (values opt.Dir)) dir.Any =
    wanted_is ∙ ap (λ (d : Option Dir). unwrap_or d dir.Any) turns_are in
    λ i. search_with_texts (search_is i) (all i) (text_is i) files

-- the search of a set, with both references as they are given
pub set_made : (values : Values) (kind : Kind) (target : Body) (files : List Text) (search : SearchOptions) (first text : Text)
    → search ≡ search_by_options values kind target → first ≡ values_text values kind
    → text ≡ first ++ ref2_text (values opt.Ref2)
    → search_with_texts search dir.Any text files ≡ search_of_set values (search_of values kind target files)
unfolding search_of_set search_of
set_made values kind target files search first text search_is first_is text_is =
    let all = text_is ∙ ap (λ (t : Text). t ++ ref2_text (values opt.Ref2)) first_is in
    λ i. search_with_texts (search_is i) dir.Any (all i) files

-- ---- what the commands read

pub is_simple : (name : CommandName) → is_simple_and_free (command_rules name) ≡ true
unfolding command_rules
is_simple command.Find = refl
is_simple command.Cert = refl
is_simple command.Verify = refl
is_simple command.Check = refl
is_simple command.Gen = refl
is_simple command.Set = refl
is_simple command.Scalar = refl

pub values_read : (command : App) (words : List Text) (matches : ArgMatches) → IsReading command words matches
    → values_of matches ≡ values_in command words
unfolding values_of values_in
values_read command words matches reading = λ i option. first_of (option_name option) (reading.rows i)

pub files_read : (command : App) (words : List Text) (matches : ArgMatches) → IsReading command words matches
    → file_names_of matches ≡ files_in command words
unfolding file_names_of files_in
files_read command words matches reading = λ i. unwrap_or (all_of (codes "FILE") (reading.rows i)) []

-- what is answered by the rules of a command
pub words_answer : (rules : App) (name : CommandName) (words : List Text) (matches : ArgMatches) (result : Result Request WordFault)
    → IsReading rules words matches
    → Answers (request_by name (values_of matches) (file_names_of matches)) result → Answers (request_in rules name words) result
words_answer rules name words matches result reading answers =
    let values = values_read rules words matches reading in
    let files = files_read rules words matches reading in
    let read : request_by name (values_in rules words) (files_in rules words) ≡ request_in rules name words = rw reading.read refl in
    let all : request_by name (values_of matches) (file_names_of matches) ≡ request_in rules name words =
    (λ i. request_by name (values i) (files i)) ∙ read in
    answers_along _ _ result all answers

-- where they refuse the words
pub words_refused : (rules : App) (name : CommandName) (words : List Text) (fault : WordFault)
    → (fault ≡ Memory) ⊎ ((fault ≡ Words) × (is_refused rules words ≡ true))
    → (fault ≡ Memory) ⊎ (request_in rules name words ≡ Err fault)
words_refused rules name words fault (inl memory) = inl memory
words_refused rules name words fault (inr refused) =
    let read : request_in rules name words ≡ Err Words = rw refused.1 refl in
    let fault_is : Err Words ≡ Err fault = λ i. Err (sym refused.0 i) in
    inr (read ∙ fault_is)

-- the same for a command that has known rules
pub read_by : (rules known : App) (words : List Text) (result : Result ArgMatches WordFault) → rules ≡ known
    → IfOk result (IsReading rules words) → IfOk result (IsReading known words)
read_by rules known words result same reading = subst (λ (a : App). IfOk result (IsReading a words)) same reading

pub refused_by : (rules known : App) (words : List Text) (result : Result ArgMatches WordFault) → rules ≡ known
    → IfErr result (λ fault. (fault ≡ Memory) ⊎ ((fault ≡ Words) × (is_refused rules words ≡ true)))
    → IfErr result (λ fault. (fault ≡ Memory) ⊎ ((fault ≡ Words) × (is_refused known words ≡ true)))
refused_by rules known words result same refused =
    subst (λ (a : App). IfErr result (λ fault. (fault ≡ Memory) ⊎ ((fault ≡ Words) × (is_refused a words ≡ true)))) same refused

-- ---- what is asked of a search

search_fails : (request : FindAsk → Result Request WordFault) (found : Result FindAsk WordFault) (fault : WordFault)
    → (fault ≡ Memory) ⊎ (found ≡ Err fault) → (fault ≡ Memory) ⊎ (of_search request found ≡ Err fault)
search_fails request found fault (inl memory) = inl memory
search_fails request found fault (inr is) = inr (ap (of_search request) is)

-- where a request is made of what was found
pub search_makes : (make : FindAsk → Request) (found read : Result FindAsk WordFault) (result : Result Request WordFault)
    → Answers found read → MatchResult read (λ find. IsOkAnd result (λ request. request ≡ make find)) (λ fault. result ≡ Err fault)
    → Answers (of_search (λ find. Ok (make find)) found) result
search_makes make found (Ok find) (Ok request) is made = ap (of_search (λ find. Ok (make find))) is ∙ ap Ok (sym made)
search_makes make found (Ok find) (Err fault) is made = absurd made
search_makes make found (Err fault) result is made =
    subst (Answers (of_search (λ find. Ok (make find)) found)) (sym made) (search_fails (λ find. Ok (make find)) found fault is)
