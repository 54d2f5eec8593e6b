use Rattle.spec_files.proofs.AcceptedBlocks.{is_accepted}
use Rattle.spec_files.proofs.block_laws.accepted_blocks_are_an_ephemeris.Goals as goal

pub returns-clause-checked : goal.returns-clause-checked
returns-clause-checked c = λ h lines e header is. (is_accepted h lines e header is).checked

pub returns-clause-header : goal.returns-clause-header
returns-clause-header c = λ h lines e header is. (is_accepted h lines e header is).header

pub returns-clause-some : goal.returns-clause-some
returns-clause-some c = λ h lines e header is. (is_accepted h lines e header is).some
