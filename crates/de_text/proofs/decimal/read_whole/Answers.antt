use Rattle.std.proofs.Common.{◌≡◌, ◌<◌, true, length, arith, rules}
use Rattle.std.specs.Char.{is_ascii_digit}
use Rattle.std.specs.List.{list_all}
use Rattle.spec_text.proofs.Wholes.{all_digits, value_small, whole_is}
use Rattle.de_text.proofs.decimal.read_whole.Goals as goal

pub capped_number-requires-clause-digits : goal.capped_number-requires-clause-digits
capped_number-requires-clause-digits c = all_digits c.args.word.now (search rules)

pub overflow_cast-result : goal.overflow_cast-result
overflow_cast-result c =
    let all : list_all is_ascii_digit c.args.word.now ≡ true = search rules in
    omega (arith, c.capped_number.ensures, value_small c.args.word.now (all_digits c.args.word.now all) (omega arith))

pub returns : goal.returns
returns c =
    let all : list_all is_ascii_digit c.args.word.now ≡ true = search rules in
    let some : 0 < length c.args.word.now = search rules in
    whole_is c.args.word.now c.capped_number.result all some (omega arith) c.capped_number.ensures
