use Rattle.std.proofs.Common.{◌++◌, codes}
use Rattle.std.specs.Fmt.{decimal}
use Rattle.window_text.proofs.Appended.{two_pieces}
use Rattle.window_text.proofs.window_lines.add_end_line.Goals as goal

pub returns : goal.returns
returns c =
    rw (← c.certain_count.ensures, ← c.undecided_count.ensures) (two_pieces c.add_last_number.result _ _ _ (codes "END certain " ++ decimal c.certain_count.result) (codes " undecided " ++ decimal c.undecided_count.result ++ codes "\n") c.in_ok-add_number.ensures c.add_last_number.ensures)
