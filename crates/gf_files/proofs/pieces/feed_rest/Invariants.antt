use Rattle.std.proofs.Common.{◌≡◌, ◌+◌, ◌≤◌, ◌-◌}
use Rattle.spec_text.specs.declared.limits.TheConstants.{MAX_TEXT_BYTES}
use Rattle.gf_files.specs.Read.{IsGiven}
use Rattle.gf_files.proofs.pieces.feed_rest.Given as goal

abbrev pub invariant-loop-fed : goal.invariant-loop-fed
invariant-loop-fed g l = record {
  ready : g.S.Shelf.ready l.shelf;
  given : IsGiven l.fn.reader (g.S.Shelf.left l.fn.shelf) (g.S.Shelf.left l.shelf) l.window.items l.taken l.fed;
  few : l.taken ≤ MAX_TEXT_BYTES;
  files : g.S.Shelf.files l.shelf ≡ g.S.Shelf.files l.fn.shelf;
  later : g.S.Shelf.faults l.fn.shelf ≤ g.S.Shelf.faults l.shelf;
}

abbrev pub decreases-loop-fed : goal.decreases-loop-fed
decreases-loop-fed g l = MAX_TEXT_BYTES + 1 - l.taken
