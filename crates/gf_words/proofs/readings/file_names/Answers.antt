use Rattle.std.proofs.Common.{◌∙◌, List, [], Option, codes, ap, map, string_bytes, unwrap_or}
use Rattle.clap.specs.Matches.{found_of}
use Rattle.clap.proofs.WalkLemmas.{raw_values-rows}
use Rattle.spec_requests.specs.Names.{Text}
use Rattle.gf_words.specs.Readings.{file_names_of}
use Rattle.gf_words.proofs.Rules.{made_along}
use Rattle.gf_words.proofs.readings.file_names.Goals as goal

abbrev or_none : Option (List Text) → List Text
or_none texts = unwrap_or texts []

pub returns-in-Some : goal.returns-in-Some
unfolding file_names_of
returns-in-Some c =
    made_along (λ (names : List Text). names) c.copy_names.result _ _
    (ap or_none (c.in-Some.ensures ∙ raw_values-rows (found_of c.args.matches.now) (codes "FILE"))) c.copy_names.ensures

pub returns-in-None : goal.returns-in-None
unfolding file_names_of
returns-in-None c =
    c.new-in-None.ensures ∙ ap (map string_bytes) c.new.ensures.items
    ∙ ap or_none (c.in-None.ensures ∙ raw_values-rows (found_of c.args.matches.now) (codes "FILE"))
