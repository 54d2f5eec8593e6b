use Rattle.spec_times.proofs.Words.{read_words}
use Rattle.spec_times.proofs.laws.times_are_read_from_two_forms.Goals as goal

pub returns : goal.returns
returns c = read_words
