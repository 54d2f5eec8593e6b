use Rattle.std.proofs.Common.{◌∙◌}
use Rattle.gf_words.specs.Parts.{limits_of}
use Rattle.gf_words.proofs.Pairs.{along, first_bad}
use Rattle.gf_words.proofs.searches.read_limits.Goals as goal

pub returns-in-Err : goal.returns-in-Err
returns-in-Err c =
    first_bad limits_of c.in-Err.ensures
    (along (c.join_parts-sizes.ensures ∙ along c.width_option.ensures c.depth_option.ensures) (c.join_parts-manner.ensures ∙ along c.workers_option.ensures c.cut_rule_option.ensures))
