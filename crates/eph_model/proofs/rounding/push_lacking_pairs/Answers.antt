use Rattle.std.proofs.Common.{◌≡◌, ◌∙◌, ℕ, ap, drop, length, rules}
use Rattle.std.proofs.lemmas.List.{take_rest}
use Rattle.eph_model.proofs.PairLists.{begun_filled}
use Rattle.eph_model.proofs.rounding.push_lacking_pairs.Goals as goal

pub returns : goal.returns
returns c =
    let numbers = c.args.numbers.now in
    let pairs = c.args.pairs.now.items in
    let first : c.len-first.result ≡ length pairs = search rules in
    begun_filled c.push_pairs.result numbers pairs c.push_pairs.new.pairs.items _ (take_rest numbers c.len-first.result ∙ ap (λ (k : ℕ). drop k numbers) first)
    c.requires.begun c.push_pairs.ensures.done c.push_pairs.ensures.pairs
