use Rattle.spec_numbers.proofs.Lists.{get_take}
use Rattle.spec_numbers.proofs.Booleans.{both_second}
use Rattle.spec_numbers.proofs.laws.prefixes_keep_items_and_ands_imply_operands.Goals as goal

pub returns-clause-front : goal.returns-clause-front
returns-clause-front c = get_take

pub returns-clause-second : goal.returns-clause-second
returns-clause-second c = both_second
