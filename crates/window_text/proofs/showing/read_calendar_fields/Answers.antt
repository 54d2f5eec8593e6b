use Rattle.std.proofs.Common.{sym, ◌∙◌}
use Rattle.window_text.proofs.Forms.{has_year, length_of_negative_year, length_of_year, shown_negative_year, shown_none, shown_year}
use Rattle.window_text.proofs.showing.read_calendar_fields.Goals as goal

pub read_fields_of_year-requires : goal.read_fields_of_year-requires
read_fields_of_year-requires c = length_of_year c.args.word.now _ _ c.year_form.ensures c.has_form.ensures c.if-has_form.true

pub read_fields_of_negative_year-requires : goal.read_fields_of_negative_year-requires
read_fields_of_negative_year-requires c = length_of_negative_year c.args.word.now _ c.has_negative_year.ensures c.if-has_negative_year.true

pub returns-then-has_form : goal.returns-then-has_form
returns-then-has_form c =
    shown_year c.args.word.now _ (has_year c.args.word.now _ _ c.year_form.ensures c.has_form.ensures ∙ c.if-has_form.true)
    c.read_fields_of_year.ensures

pub returns-then-has_negative_year : goal.returns-then-has_negative_year
returns-then-has_negative_year c =
    let dated = has_year c.args.word.now _ _ c.year_form.ensures c.has_form.ensures ∙ c.if-has_form.false in
    shown_negative_year c.args.word.now _ dated (sym c.has_negative_year.ensures ∙ c.if-has_negative_year.true) c.read_fields_of_negative_year.ensures

pub returns : goal.returns
returns c =
    let dated = has_year c.args.word.now _ _ c.year_form.ensures c.has_form.ensures ∙ c.if-has_form.false in
    shown_none c.args.word.now dated (sym c.has_negative_year.ensures ∙ c.if-has_negative_year.false)
