use Rattle.std.proofs.Common.{◌≡◌, sym, ◌∙◌, ap, drop, length, List, [], ℕ, arith, rules}
use Rattle.std.proofs.lemmas.List.{drop_all}
use Rattle.gf_edges.specs.Entries.{bytes_at}
use Rattle.gf_edges.proofs.EntryLemmas.{bytes_at_item, bytes_at_past, cut_at}
use Rattle.gf_edges.proofs.memory_shelf.unread_bytes.Goals as goal

pub returns-in-Some-clause-bytes : goal.returns-in-Some-clause-bytes
returns-in-Some-clause-bytes c =
    let same = bytes_at_item c.args.files.now c.args.index c.in-Some.entry.now (search rules) (search rules) in
    cut_at _ _ _ c.min.ensures ∙ ap (λ (l : List ℕ). drop c.args.at l) (c.as_slice-bytes.ensures.value ∙ sym same)

pub returns-in-None-clause-bytes : goal.returns-in-None-clause-bytes
returns-in-None-clause-bytes c =
    let none : bytes_at c.args.files.now c.args.index ≡ [] = bytes_at_past _ _ c.in-None.ensures.lookup.3 in
    sym (drop_all c.args.at _ (omega (arith, ap length none)))
