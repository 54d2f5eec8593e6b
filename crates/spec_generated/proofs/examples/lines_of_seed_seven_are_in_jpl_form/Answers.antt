use Rattle.std.proofs.Common.{refl}
use Rattle.std.specs.Fmt.{digits}
use Rattle.spec_generated.specs.Coefficients.{term_at}
use Rattle.spec_generated.specs.Draws.{state_after}
use Rattle.spec_generated.specs.Words.{block_word}
use Rattle.spec_generated.proofs.examples.lines_of_seed_seven_are_in_jpl_form.Goals as goal

pub returns-clause-record_line : goal.returns-clause-record_line
unfolding digits
returns-clause-record_line c = refl

pub returns-clause-dates : goal.returns-clause-dates
unfolding digits block_word term_at state_after
returns-clause-dates c = refl

pub returns-clause-coefficients : goal.returns-clause-coefficients
unfolding digits block_word term_at state_after
returns-clause-coefficients c = refl
