use Rattle.std.proofs.Common.{◌≡◌, ◌-◌, ◌<◌, ap, sym, ◌∙◌, get_or, length, Option, Some, slice_get, refl, rules}
use Rattle.std.proofs.lemmas.Option.{slice_get_read}
use Rattle.spec_ephemeris.specs.declared.body.Body.{Body}
use Rattle.spec_output.specs.declared.columns.TheConstants.{COLUMN_BODIES}
use Rattle.spec_output.specs.Summary.{name_of_column}
use Rattle.window_text.proofs.summary_lines.column_name.Goals as goal

pub returns-in-Some : goal.returns-in-Some
returns-in-Some c =
    let within : c.args.number - 1 < length COLUMN_BODIES = search rules in
    let read : c.in-Some.body.now ≡ get_or COLUMN_BODIES (c.args.number - 1) c.in-Some.body.now = search rules in
    let found : slice_get COLUMN_BODIES (c.args.number - 1) ≡ Some c.in-Some.body.now = slice_get_read COLUMN_BODIES _ (c.args.number - 1) c.in-Some.body.now refl within read in
    c.body_name.ensures ∙ ap (λ (x : Option Body). name_of_column x c.args.number) (sym found)
