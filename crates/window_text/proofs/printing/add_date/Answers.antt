use Rattle.std.proofs.Common.{◌∷◌, rules}
use mir.Val.{SFits}
use mir.Syntax.{w16}
use Rattle.std.proofs.lemmas.Int.{to_z-of_z}
use Rattle.spec_text.specs.Bytes.{minus_sign}
use Rattle.spec_times.specs.Calendar.{digits, year_text}
use Rattle.window_text.proofs.Appended.{three_pieces}
use Rattle.window_text.proofs.printing.add_date.Goals as goal

pub returns : goal.returns
returns c =
    let date = c.args.date in
    let fits : SFits w16 date.year = search rules in
    three_pieces c.add_two_digit_field-2.result _ _ _ _ (year_text date.year) (minus_sign ∷ digits 2 date.month) (minus_sign ∷ digits 2 date.day) (rw (to_z-of_z w16 date.year fits) at c.in_ok-add_year.ensures) c.in_ok-add_two_digit_field.ensures c.add_two_digit_field-2.ensures
