use Rattle.std.proofs.Common.{◌∙◌, Ok, ap, inr, sym}
use Rattle.spec_requests.specs.declared.request.FindAsk.{FindAsk}
use Rattle.option_values.specs.Readings.{values_of}
use Rattle.gf_words.specs.Readings.{file_names_of}
use Rattle.gf_words.proofs.Filling.{search_bad, search_found}
use Rattle.gf_words.proofs.searches.search_of_target.Goals as goal

pub search_of_options-requires-clause-search : goal.search_of_options-requires-clause-search
search_of_options-requires-clause-search c =
    (search_found (values_of c.args.matches.now) (file_names_of c.args.matches.now) c.args.kind c.args.target c.direction_option.result c.in-Ok.search
    c.in-Ok.dir (record { kind_is = c.requires.kind; target_is = c.requires.target }) c.direction_option.ensures c.in-Ok.ensures).0.0

pub search_of_options-requires-clause-turns : goal.search_of_options-requires-clause-turns
search_of_options-requires-clause-turns c =
    (search_found (values_of c.args.matches.now) (file_names_of c.args.matches.now) c.args.kind c.args.target c.direction_option.result c.in-Ok.search
    c.in-Ok.dir (record { kind_is = c.requires.kind; target_is = c.requires.target }) c.direction_option.ensures c.in-Ok.ensures).0.1

pub returns-in-Ok-search_of_options : goal.returns-in-Ok-search_of_options
returns-in-Ok-search_of_options c =
    (search_found (values_of c.args.matches.now) (file_names_of c.args.matches.now) c.args.kind c.args.target c.direction_option.result c.in-Ok.search
    c.in-Ok.dir (record { kind_is = c.requires.kind; target_is = c.requires.target }) c.direction_option.ensures c.in-Ok.ensures).1
    ∙ ap (λ (f : FindAsk). Ok f) (sym c.in-Ok-search_of_options.ensures)

pub returns-in-Err : goal.returns-in-Err
returns-in-Err c =
    inr (search_bad (values_of c.args.matches.now) (file_names_of c.args.matches.now) c.args.kind c.args.target c.direction_option.result
    c.in-Err.option (record { kind_is = c.requires.kind; target_is = c.requires.target }) c.direction_option.ensures c.in-Err.ensures)
