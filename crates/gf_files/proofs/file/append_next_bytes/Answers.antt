use Rattle.std.proofs.Common.{◌+◌, List, ℕ, take, sym, ap, ◌∙◌, subst, arith, rules}
use Rattle.std.proofs.lemmas.List.{with_items_is, places}
use Rattle.gf_files.specs.Read.{Grows}
use Rattle.gf_files.proofs.Left.{grows_by, longer_begins}
use Rattle.gf_files.proofs.file.append_next_bytes.Goals as goal

pub returns-in-Ok-clause-read : goal.returns-in-Ok-clause-read
returns-in-Ok-clause-read g c =
    let at = c.len-start.result in
    let text = c.args.text.now.items in
    let now = c.read_at.new.bytes in
    let cut = c.truncate.ensures.items ∙ ap (take (at + c.in-Ok.count)) (with_items_is c.resize.new.self now (search (rules, places))) in
    let begins = longer_begins text c.resize.new.self.items _ at (at + c.min-room.result) (search (rules, places)) (omega arith) c.in_ok-resize.ensures.items in
    subst (λ (l : List ℕ). Grows (g.S.Shelf.left c.args.shelf.now) (g.S.Shelf.left c.read_at.new.shelf) text l c.in-Ok.count) (sym cut)
    (grows_by (g.S.Shelf.left c.args.shelf.now) (g.S.Shelf.left c.read_at.new.shelf) text c.resize.new.self.items now at c.in-Ok.count begins (c.read_at.ensures.before ∙ ap (take at) c.as_mut_slice.ensures.value) c.in-Ok.ensures.fits c.in-Ok.ensures.read)
