use Rattle.std.proofs.Common.{◌≡◌, drop}
use Rattle.gf_edges.specs.Edges.{file_of}
use Rattle.gf_edges.specs.Entries.{entries}
use Rattle.gf_edges.proofs.memory_shelf.index_of_file.Given as goal

abbrev pub invariant-loop-i : goal.invariant-loop-i
invariant-loop-i l = file_of l.name (entries (drop l.i l.files)) ≡ file_of l.name (entries l.files)
