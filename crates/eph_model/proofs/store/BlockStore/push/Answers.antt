use Rattle.std.proofs.Common.{◌≡◌, ◌≤◌, ◌∙◌, ap, arith, length, rules, [], ◌∷◌, ◌++◌}
use Rattle.std.proofs.lemmas.List.{length-append}
use Rattle.std.specs.Prelude.{vec_len}
use Rattle.eph_model.proofs.PairLists.{are_begun, begun_all, begun_length, pairs_pushed}
use Rattle.eph_model.proofs.StoreLists.{still_checked}
use Rattle.eph_model.proofs.store.BlockStore.push.Goals as goal

pub invariant_of-self-2 : goal.invariant_of-self-2
invariant_of-self-2 c =
    let e = c.self.inside in
    let paired : c.len-paired.result ≡ length e.pairs.items = search rules in
    let count : c.len-count.result ≡ length e.numbers.items = search rules in
    let less = begun_length _ _ c.self.invariant.1 in
    let held : vec_len e.pairs ≡ length e.pairs.items = search rules in
    let one = length-append e.numbers.items (c.args.number ∷ []) in
    let all : length e.numbers.items ≤ length e.pairs.items = omega (arith, paired, count, c.if-paired-count.false) in (
      rw c.in_ok-push.ensures.items (still_checked e.header e.start e.blocks e.numbers.items c.self.invariant.0 _),
      are_begun _ _
          (pairs_pushed e.numbers.items c.push.new.self.items c.args.number e.pairs.items c.push_pair.new.pairs.items c.pair_or_zeros.result
          (c.pair_or_zeros.ensures c.args.number c.requires) c.in_ok-push.ensures.items
          (c.push_pair.ensures.added ∙ ap (λ l. l ++ c.pair_or_zeros.result ∷ []) c.in_ok-reserve.ensures.items)
          (begun_all _ _ c.self.invariant.1 all)),
      rw c.in_ok-push.ensures.items (omega (arith, less, held, one, c.in_ok-reserve.ensures.ok, c.push_pair.ensures.capacity)),
    )
