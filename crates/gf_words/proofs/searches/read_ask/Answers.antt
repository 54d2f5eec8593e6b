use Rattle.std.proofs.Common.{◌∙◌, refl}
use Rattle.gf_words.specs.Parts.{ask_of_parts}
use Rattle.gf_words.proofs.Pairs.{along, first_bad}
use Rattle.gf_words.proofs.searches.read_ask.Goals as goal

pub returns-in-Err : goal.returns-in-Err
returns-in-Err g c =
    first_bad (ask_of_parts c.args.kind) c.in-Err.ensures
    (along (c.join_parts-places.ensures ∙ along c.read_bodies-bodies.ensures c.read_axes.ensures) (c.join_parts-numbers.ensures ∙ along c.read_numbers.ensures refl))
