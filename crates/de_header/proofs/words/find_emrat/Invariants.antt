use Rattle.std.proofs.Common.{◌≡◌, ◌+◌, take, drop}
use Rattle.spec_files.specs.HeaderRules.{emrat_from}
use Rattle.de_header.proofs.words.find_emrat.Given as goal

abbrev pub invariant-loop-i : goal.invariant-loop-i
invariant-loop-i l = emrat_from (l.start + l.i) (drop l.i (take l.n l.line.tokens)) ≡ emrat_from l.start (take l.n l.line.tokens)
