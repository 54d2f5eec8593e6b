use Rattle.de_header.specs.SameFile.{same_file}
use Rattle.de_header.proofs.laws.open_readers_say_the_same_in_every_file.Goals as goal

pub returns : goal.returns
returns c = λ state lines f g wants. same_file state lines f g wants
