use Rattle.std.proofs.Common.{◌≡◌, ◌∙◌, ◌*◌, take, ap, arith, length, sym, List, subst, rules, to_z, of_z, w64}
use Rattle.std.specs.Prelude.{vec_len}
use Rattle.std.proofs.lemmas.List.{length-take}
use Rattle.spec_text.specs.declared.decimals.Decimal.{Decimal}
use Rattle.spec_ephemeris.specs.Ephemeris.{IsEphemeris}
use Rattle.eph_model.proofs.PairLists.{begun_length, begun_take}
use Rattle.eph_model.proofs.store.BlockStore.finish.Goals as goal

pub push_lacking_pairs-requires-clause-begun : goal.push_lacking_pairs-requires-clause-begun
push_lacking_pairs-requires-clause-begun c =
    let e = c.self.inside in
    rw (c.deref.ensures.value, c.truncate.ensures.items, c.truncate-2.ensures.items) (begun_take _ e.numbers.items e.pairs.items c.self.invariant.1)

pub push_lacking_pairs-requires-clause-fewer : goal.push_lacking_pairs-requires-clause-fewer
push_lacking_pairs-requires-clause-fewer c =
    let e = c.self.inside in
    let whole = c.whole_block_number_count-whole.result in
    let less = begun_length _ _ (begun_take whole e.numbers.items e.pairs.items c.self.invariant.1) in
    let held : vec_len c.truncate-2.new.self ≡ length c.truncate-2.new.self.items = search rules in
    rw (c.deref.ensures.value, held, c.truncate.ensures.items, c.truncate-2.ensures.items) less

pub push_lacking_pairs-requires-clause-room : goal.push_lacking_pairs-requires-clause-room
push_lacking_pairs-requires-clause-room c =
    let e = c.self.inside in
    let size = length-take c.whole_block_number_count-whole.result e.numbers.items in
    let room = c.self.invariant.2 in
    rw (c.deref.ensures.value, c.truncate.ensures.items, c.truncate-2.ensures.capacity) (omega (arith, size, room))

pub invariant_of-result : goal.invariant_of-result
invariant_of-result c =
    let e = c.self.inside in
    let whole : c.whole_block_number_count-whole.result ≡ e.blocks * e.header.ncoeff = rw (← c.self.view_is) at c.whole_block_number_count-whole.ensures ∙ c.self.invariant.0.whole in
    let start : to_z w64 (of_z w64 e.start) ≡ e.start = search rules in
    let checked : IsEphemeris (record { header = e.header; start = e.start; blocks = e.blocks; numbers = c.truncate.new.self.items }) =
    subst (λ (l : List Decimal). IsEphemeris (record { header = e.header; start = e.start; blocks = e.blocks; numbers = l }))
    (sym (c.truncate.ensures.items ∙ ap (λ k. take k e.numbers.items) whole)) c.self.invariant.0 in (
      rw start checked,
      rw (← c.deref.ensures.value) c.push_lacking_pairs.ensures,
    )
