use Rattle.option_values.specs.Polynomials.{bytes_of_two}
use Rattle.option_values.proofs.Numbers.{quad_split, quad_whole}
use Rattle.option_values.proofs.polynomials.read_polynomial.Goals as goal

pub returns-in-Some : goal.returns-in-Some
returns-in-Some c =
    quad_split c.args.word.now c.in-Some.p.now c.in-Some.others.now (bytes_of_two c.split_at_comma-in-Some.result) c.polynomial_of_words.result
    c.in-Some.ensures c.split_at_comma-in-Some.ensures c.polynomial_of_words.ensures

pub returns-in-None : goal.returns-in-None
returns-in-None c = quad_whole c.args.word.now c.in-None.ensures
