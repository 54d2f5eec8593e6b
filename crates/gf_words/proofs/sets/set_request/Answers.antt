use Rattle.std.proofs.Common.{◌∙◌, Ok, ap, inr}
use Rattle.spec_requests.specs.Options.{bad_in_set, set_kind_of}
use Rattle.spec_requests.specs.Requests.{of_search, set_of, set_search_by}
use Rattle.option_values.specs.Readings.{values_of}
use Rattle.gf_words.specs.Readings.{file_names_of}
use Rattle.gf_words.proofs.Filling.{not_known}
use Rattle.gf_words.proofs.Pairs.{along}
use Rattle.gf_words.proofs.sets.set_request.Goals as goal

pub returns-in-Err : goal.returns-in-Err
unfolding set_search_by
returns-in-Err c =
    let values = values_of c.args.matches.now in
    inr (ap (of_search (λ find. Ok (set_of values find))) (not_known set_kind_of (bad_in_set values) values
    (file_names_of c.args.matches.now) c.in-Err.option
    (c.in-Err.ensures ∙ along c.set_kind_option.ensures c.target_option.ensures)))
