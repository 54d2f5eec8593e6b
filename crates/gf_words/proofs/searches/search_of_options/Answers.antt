use Rattle.spec_requests.specs.declared.request.FindAsk.{FindAsk}
use Rattle.option_values.specs.Readings.{values_of}
use Rattle.gf_words.specs.Readings.{file_names_of}
use Rattle.gf_words.proofs.Answering.{search_made}
use Rattle.gf_words.proofs.Rules.{made_along}
use Rattle.gf_words.proofs.searches.search_of_options.Goals as goal

pub returns : goal.returns
returns c =
    made_along (λ (find : FindAsk). find) c.search_with_texts.result _ _
    (search_made (values_of c.args.matches.now) c.args.kind c.args.target (file_names_of c.args.matches.now) c.args.search c.args.dir
    c.unwrap_or.result c.in_ok-values.values c.requires.search c.requires.turns c.unwrap_or.ensures c.in_ok-values.ensures)
    c.search_with_texts.ensures
