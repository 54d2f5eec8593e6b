use Rattle.std.proofs.Common.{◌≡◌, ◌+◌, ◌≤◌, ◌-◌, length}
use Rattle.std.specs.Io.KnownBytes.{Consumes}
use Rattle.spec_text.specs.declared.limits.TheConstants.{MAX_TEXT_BYTES}
use Rattle.gf_files.proofs.file.read_rest.Given as goal

abbrev pub invariant-loop-text : goal.invariant-loop-text
invariant-loop-text g l = record {
  ready : g.S.Shelf.ready l.shelf;
  taken : Consumes (g.S.Shelf.left l.fn.shelf) (g.S.Shelf.left l.shelf) l.text.items;
  size : length l.text.items ≤ MAX_TEXT_BYTES + 1;
  files : g.S.Shelf.files l.shelf ≡ g.S.Shelf.files l.fn.shelf;
  later : g.S.Shelf.faults l.fn.shelf ≤ g.S.Shelf.faults l.shelf;
}

abbrev pub decreases-loop-text : goal.decreases-loop-text
decreases-loop-text g l = MAX_TEXT_BYTES + 1 - length l.text.items
