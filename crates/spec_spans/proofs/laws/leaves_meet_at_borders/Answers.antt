use Rattle.spec_spans.proofs.Alike.{same_leaves_over_blocks}
use Rattle.spec_spans.proofs.Pieces.{leaves_of_all_pieces}
use Rattle.spec_spans.proofs.laws.leaves_meet_at_borders.Goals as goal

pub returns-clause-pieces : goal.returns-clause-pieces
returns-clause-pieces c = λ s first last times is span seams. leaves_of_all_pieces s is first last times span seams

pub returns-clause-over_some_blocks : goal.returns-clause-over_some_blocks
returns-clause-over_some_blocks c = λ s skipped count first last is part held span. same_leaves_over_blocks s skipped count is part first last held span
