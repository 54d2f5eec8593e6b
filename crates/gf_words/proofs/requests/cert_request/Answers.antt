use Rattle.spec_requests.specs.declared.request.Request.TheVariants.{Cert}
use Rattle.spec_requests.specs.Requests.{search_by}
use Rattle.option_values.specs.Readings.{values_of}
use Rattle.gf_words.specs.Readings.{file_names_of}
use Rattle.gf_words.proofs.Answering.{search_makes}
use Rattle.gf_words.proofs.requests.cert_request.Goals as goal

pub returns : goal.returns
returns c =
    search_makes Cert (search_by (values_of c.args.matches.now) (file_names_of c.args.matches.now)) c.search_of_matches.result c.map.result
    c.search_of_matches.ensures c.map.ensures.cases
