use Rattle.spec_files.proofs.Holding.{holds_ok}
use Rattle.spec_files.specs.Blocks.{blocks}
use Rattle.spec_files.proofs.Ending.{LiesInTime, blocks_lie}
use Rattle.spec_files.proofs.block_laws.accepted_blocks_lie_in_time.Goals as goal

pub returns-clause-first : goal.returns-clause-first
returns-clause-first c = λ h lines e is. (holds_ok LiesInTime (blocks h lines) e is (blocks_lie h lines)).0.0

pub returns-clause-last : goal.returns-clause-last
returns-clause-last c = λ h lines e is. (holds_ok LiesInTime (blocks h lines) e is (blocks_lie h lines)).0.1

pub returns-clause-end : goal.returns-clause-end
returns-clause-end c = λ h lines e is. (holds_ok LiesInTime (blocks h lines) e is (blocks_lie h lines)).1
