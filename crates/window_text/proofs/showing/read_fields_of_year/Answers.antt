use Rattle.window_text.proofs.Forms.{fields_of_year}
use Rattle.window_text.proofs.showing.read_fields_of_year.Goals as goal

pub returns : goal.returns
returns c = fields_of_year c.args.word.now _ _ c.digits_value-year.ensures.bound c.digits_value-year.ensures.value c.read_fields_after_year.ensures
