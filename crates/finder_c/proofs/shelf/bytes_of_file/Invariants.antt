use Rattle.std.proofs.Common.{◌≡◌, drop}
use Rattle.gf_edges.specs.Edges.{file_of}
use Rattle.finder_c.specs.Layout.{entries}
use Rattle.finder_c.proofs.shelf.bytes_of_file.Given as goal

abbrev pub invariant-loop-file : goal.invariant-loop-file
invariant-loop-file l = file_of l.name (entries (drop l.file-index l.files)) ≡ file_of l.name (entries l.files)
