use Rattle.spec_meanings.proofs.Cosines.{cosine_square, right_angle}
use Rattle.spec_meanings.proofs.laws.cosines_change_by_the_function_of_sepext.Goals as goal

pub returns-clause-square : goal.returns-clause-square
returns-clause-square c = cosine_square

pub returns-clause-right_angle : goal.returns-clause-right_angle
returns-clause-right_angle c = right_angle
