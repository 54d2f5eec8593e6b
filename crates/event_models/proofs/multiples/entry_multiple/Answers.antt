use Rattle.event_models.proofs.SlopeRows.{numbers_repeated, row_repeated}
use Rattle.event_models.proofs.multiples.entry_multiple.Goals as goal

pub returns-clause-row : goal.returns-clause-row
returns-clause-row c =
    let numbers = numbers_repeated c.args.k c.args.row.now.coefficients c.coefficient_multiples.result c.requires.row.numbers.count c.coefficient_multiples.ensures.count c.coefficient_multiples.ensures.numbers in
    row_repeated c.args.k c.args.row.now _ c.requires.few c.requires.row c.coefficient_multiples.ensures.count c.coefficient_multiples.ensures.small numbers c.size_multiple.ensures.equals c.size_multiple-2.ensures.equals

pub returns-clause-multiple : goal.returns-clause-multiple
returns-clause-multiple c = record {
  numbers = numbers_repeated c.args.k c.args.row.now.coefficients c.coefficient_multiples.result c.requires.row.numbers.count c.coefficient_multiples.ensures.count c.coefficient_multiples.ensures.numbers;
  error = c.size_multiple-2.ensures.equals;
}
