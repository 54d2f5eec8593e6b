use Rattle.spec_spans.proofs.Blocks.{border_of_column, seam_of_block}
use Rattle.spec_spans.proofs.laws.borders_of_blocks_are_borders_of_columns.Goals as goal

pub returns-clause-of_columns : goal.returns-clause-of_columns
returns-clause-of_columns c = λ e number time checked there is. border_of_column e number checked there time is

pub returns-clause-seams : goal.returns-clause-seams
returns-clause-seams c = λ s number first last border time is listed is_border near after before. seam_of_block s is number first last border time listed is_border near after before
