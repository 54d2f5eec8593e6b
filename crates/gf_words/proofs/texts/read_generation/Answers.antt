use Rattle.std.proofs.Common.{◌∙◌}
use Rattle.gf_words.specs.Parts.{text_of_parts}
use Rattle.gf_words.proofs.Pairs.{along, first_bad}
use Rattle.gf_words.proofs.texts.read_generation.Goals as goal

pub returns-in-Err : goal.returns-in-Err
returns-in-Err c =
    first_bad text_of_parts c.in-Err.ensures
    (along (c.join_parts-text.ensures ∙ along c.layout_word.ensures c.blocks_word-blocks.ensures) (c.join_parts-manner.ensures ∙ along c.seed_word.ensures c.workers_option.ensures))
