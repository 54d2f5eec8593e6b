use Rattle.de_blocks.specs.SameFile.{same_file}
use Rattle.de_blocks.proofs.laws.readers_of_blocks_say_the_same_in_every_file.Goals as goal

pub returns : goal.returns
returns c = λ reader lines f g going. same_file reader lines f g going
