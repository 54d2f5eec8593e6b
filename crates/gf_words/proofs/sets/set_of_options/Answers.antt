use Rattle.std.proofs.Common.{◌∙◌, ◌++◌, ap}
use Rattle.spec_requests.specs.declared.request.Request.TheVariants.{Set}
use Rattle.spec_requests.specs.Requests.{ref2_text, set_of}
use Rattle.option_values.specs.Readings.{values_of}
use Rattle.gf_words.specs.Readings.{file_names_of}
use Rattle.gf_words.proofs.Answering.{set_made}
use Rattle.gf_words.proofs.sets.set_of_options.Goals as goal

pub returns : goal.returns
unfolding set_of
returns c =
    let text_is = c.in_ok-values.ensures ∙ ap (λ t. c.in_ok-first.first ++ ref2_text t) c.given_word.ensures in
    let find_is = c.in_ok-search_with_texts.ensures
    ∙ set_made (values_of c.args.matches.now) c.args.kind c.args.target (file_names_of c.args.matches.now) c.args.search c.in_ok-first.first
    c.in_ok-values.values c.requires.search c.in_ok-first.ensures text_is in
    λ i. Set (find_is i) (c.requires.references i).ref2 (c.requires.references i).relation
