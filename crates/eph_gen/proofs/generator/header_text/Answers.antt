use Rattle.std.proofs.Common.{refl}
use Rattle.spec_text.specs.Printed.{joined_lines}
use Rattle.spec_generated.specs.Generated.{header_lines}
use Rattle.eph_gen.proofs.generator.header_text.Goals as goal

pub returns : goal.returns
unfolding header_lines joined_lines
returns c = refl
