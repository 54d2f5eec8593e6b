use Rattle.std.proofs.Common.{◌∙◌, sym}
use Rattle.option_values.proofs.Parsing.{no_number, number_parsed, number_too_large}
use Rattle.option_values.proofs.forms.read_number.Goals as goal

pub returns-then-not-are_digits : goal.returns-then-not-are_digits
returns-then-not-are_digits c = record {
  number =
      no_number c.args.digits c.args.least c.args.most c.args.word.now (sym c.are_digits.ensures ∙ c.if-not-are_digits.true);
  most = tt;
}

pub returns-in-Ok : goal.returns-in-Ok
returns-in-Ok c = record {
  number =
      number_parsed c.args.digits c.args.least c.args.most c.in-Ok.number c.args.word.now c.number_within.result
      (sym c.are_digits.ensures ∙ c.if-not-are_digits.false) c.in-Ok.ensures.value.0.1 c.number_within.ensures.within;
  most = c.number_within.ensures.most;
}

pub returns-in-Err : goal.returns-in-Err
returns-in-Err c = record {
  number =
      number_too_large c.args.digits c.args.least c.args.most c.args.word.now
      (sym c.are_digits.ensures ∙ c.if-not-are_digits.false) c.ranges.most.fits c.in-Err.ensures.value.0;
  most = tt;
}
