use Rattle.std.proofs.Common.{◌∙◌, inr}
use Rattle.spec_requests.specs.Names.{kind_of}
use Rattle.spec_requests.specs.Options.{bad_option}
use Rattle.spec_requests.specs.Requests.{search_by}
use Rattle.option_values.specs.Readings.{values_of}
use Rattle.gf_words.specs.Readings.{file_names_of}
use Rattle.gf_words.proofs.Filling.{not_known}
use Rattle.gf_words.proofs.Pairs.{along}
use Rattle.gf_words.proofs.searches.search_of_matches.Goals as goal

pub returns-in-Err : goal.returns-in-Err
unfolding search_by
returns-in-Err c =
    let values = values_of c.args.matches.now in
    inr (not_known kind_of (bad_option values) values (file_names_of c.args.matches.now) c.in-Err.option
    (c.in-Err.ensures ∙ along c.kind_option.ensures c.target_option.ensures))
