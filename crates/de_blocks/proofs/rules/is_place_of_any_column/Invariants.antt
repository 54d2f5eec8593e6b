use Rattle.std.proofs.Common.{◌≡◌, suc, drop}
use Rattle.spec_files.specs.BlockRules.{is_place_of}
use Rattle.de_blocks.proofs.rules.is_place_of_any_column.Given as goal

abbrev pub invariant-loop-i : goal.invariant-loop-i
invariant-loop-i l = is_place_of (suc l.i) (drop l.i l.columns) l.place ≡ is_place_of 1 l.columns l.place
