use Rattle.std.proofs.Common.{◌≡◌, ◌<◌, ◌≤◌, map, string_bytes, take}
use Rattle.spec_files.specs.Files.{FewAreTakenOfOne}
use Rattle.gf_files.specs.Read.{HaveRead, LacksFirst}
use Rattle.gf_files.proofs.files.feed_files.Given as goal

abbrev pub invariant-loop-file : goal.invariant-loop-file
invariant-loop-file g l = record {
  read : HaveRead (g.S.Shelf.files l.fn.shelf) (take l.file (map string_bytes l.names)) l.reader l.end_line;
  files : g.S.Shelf.files l.shelf ≡ g.S.Shelf.files l.fn.shelf;
  later : g.S.Shelf.faults l.fn.shelf ≤ g.S.Shelf.faults l.shelf;
  lacking : LacksFirst (g.S.Shelf.files l.fn.shelf) (map string_bytes l.names) → l.file ≡ 0;
  taken : 0 < l.file → g.S.Shelf.ready l.shelf → FewAreTakenOfOne (g.S.Shelf.files l.fn.shelf) (map string_bytes l.names) (g.S.Shelf.left l.shelf);
}
