use Rattle.std.proofs.Common.{◌++◌, codes}
use Rattle.std.specs.Fmt.{decimal}
use Rattle.window_text.proofs.Appended.{three_pieces}
use Rattle.window_text.proofs.summary_lines.add_column.Goals as goal

pub returns : goal.returns
returns c =
    rw (← c.column_name.ensures) (three_pieces c.add_last_number.result _ _ _ _ (codes "COLUMN " ++ c.column_name.result.now) (codes " coefficients " ++ decimal c.args.column.coefs) (codes " granules " ++ decimal c.args.column.granules ++ codes "\n") c.in_ok-add_name_and_value.ensures c.in_ok-add_number.ensures c.add_last_number.ensures)
