use Rattle.std.proofs.Common.{◌≡◌, drop, length, ℕ, Option, Some, sym, ◌∙◌, ap, arith, rules}
use Rattle.std.proofs.lemmas.List.{length-take}
use Rattle.gf_edges.specs.declared.memory_shelf.Place.{Place}
use Rattle.gf_edges.specs.Entries.{Kept, bytes_at, left_from}
use Rattle.gf_edges.specs.States.{ShelfState}
use Rattle.gf_edges.proofs.EntryLemmas.{read_moves, read_ends}
use Rattle.gf_edges.proofs.memory_shelf.MemoryShelfShelf.read.Goals as goal

pub returns-clause-bytes : goal.returns-clause-bytes
returns-clause-bytes c =
    let files = c.self.inside.files.items in
    let place = c.in-Some.place in
    let was : c.args.self.now.left ≡ Some (drop place.at (bytes_at files place.index)) =
    ap (λ (s : ShelfState). s.left) (sym c.self.view_is) ∙ ap (λ (p : Option Place). left_from files p) c.in-Some.is in
    let left : c.unread_bytes-left.result.now ≡ drop place.at (bytes_at files place.index) =
    c.unread_bytes-left.ensures.bytes ∙ ap (λ (kept : Kept). drop place.at (bytes_at kept place.index)) c.deref.ensures.value in
    let size : length c.copy_from_slice.new.self ≡ c.min-count.result = omega (arith, c.copy_from_slice.ensures.len, length-take {A = ℕ}) in (
      rw was (read_moves _ c.args.buf.now _ _ _ _ left c.copy_from_slice.ensures.after size),
      λ none room. read_ends _ c.args.buf.now _ _ _ _ c.self.inside.piece left size c.self.invariant (search rules) none room,
    )
