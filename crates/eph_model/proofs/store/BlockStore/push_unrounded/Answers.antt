use Rattle.std.proofs.Common.{◌≡◌, arith, length, rules, [], ◌∷◌}
use Rattle.std.proofs.lemmas.List.{length-append}
use Rattle.std.specs.Prelude.{vec_len}
use Rattle.eph_model.proofs.PairLists.{begun_length, begun_more}
use Rattle.eph_model.proofs.StoreLists.{still_checked}
use Rattle.eph_model.proofs.store.BlockStore.push_unrounded.Goals as goal

pub overflow_sub-count : goal.overflow_sub-count
overflow_sub-count c =
    let e = c.self.inside in
    let paired : c.len-paired.result ≡ length e.pairs.items = search rules in
    let count : c.len-count.result ≡ length e.numbers.items = search rules in
    let less = begun_length _ _ c.self.invariant.1 in
    omega (arith, paired, count, less)

pub invariant_of-self-2 : goal.invariant_of-self-2
invariant_of-self-2 c =
    let e = c.self.inside in
    let paired : c.len-paired.result ≡ length e.pairs.items = search rules in
    let count : c.len-count.result ≡ length e.numbers.items = search rules in
    let less = begun_length _ _ c.self.invariant.1 in
    let held : vec_len e.pairs ≡ length e.pairs.items = search rules in
    let one = length-append e.numbers.items (c.args.number ∷ []) in (
      rw c.in_ok-push.ensures.items (still_checked e.header e.start e.blocks e.numbers.items c.self.invariant.0 _),
      rw (c.in_ok-push.ensures.items, c.in_ok-reserve.ensures.items) (begun_more e.numbers.items (c.args.number ∷ []) e.pairs.items c.self.invariant.1),
      rw c.in_ok-push.ensures.items (omega (arith, paired, count, less, held, one, c.in_ok-reserve.ensures.ok)),
    )
