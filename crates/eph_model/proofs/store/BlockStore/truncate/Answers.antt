use Rattle.std.proofs.Common.{◌≡◌, ◌∙◌, ◌+◌, ◌-◌, ◌*◌, ◌≤◌, rules, arith, ap, length, drop}
use Rattle.std.proofs.lemmas.List.{length-drop, length-take}
use Rattle.eph_model.specs.Stores.{Store, cut_to}
use Rattle.eph_model.proofs.PairLists.{begun_take}
use Rattle.eph_model.proofs.StoreLists.{cut_checked, numbers_cut, within}
use Rattle.eph_model.proofs.store.BlockStore.truncate.Goals as goal
use Rattle.eph_model.proofs.store.BlockStore.truncate.Goals.{After-truncate}

-- how many numbers are kept
kept : (c : After-truncate) → c.len.result - (c.count.result - c.args.count) ≡ c.self.inside.blocks * c.self.inside.header.ncoeff + c.args.count
kept c =
    let e = c.self.inside in
    let whole = e.blocks * e.header.ncoeff in
    let enough = within whole e.numbers.items c.self.invariant.0.whole in
    let begun = length-drop whole e.numbers.items in
    let counted : c.count.result ≡ length (drop whole e.numbers.items) = rw (← c.self.view_is) at c.count.ensures in
    let few : c.args.count ≤ length (drop whole e.numbers.items) = rw (← c.self.view_is) at c.requires in
    let all : c.len.result ≡ length e.numbers.items = search rules in
    omega (arith, enough, begun, counted, few, all)

pub invariant_of-self : goal.invariant_of-self
invariant_of-self c =
    let e = c.self.inside in
    let is = kept (goal.at.invariant_of-self c).After-truncate in (
      rw (c.truncate.ensures.items, is) (cut_checked e.header e.start e.blocks e.numbers.items c.self.invariant.0 c.args.count),
      rw (c.truncate.ensures.items, c.truncate-2.ensures.items) (begun_take _ e.numbers.items e.pairs.items c.self.invariant.1),
      rw (c.truncate.ensures.items, c.truncate-2.ensures.capacity)
          (let size = length-take (c.len.result - (c.count.result - c.args.count)) e.numbers.items in let room = c.self.invariant.2 in omega (arith, size, room)),
    )

pub returns : goal.returns
returns c =
    let e = c.self.inside in
    let is = kept (goal.at.returns c).After-truncate in
    rw (c.truncate.ensures.items, is) (numbers_cut e.header e.start e.blocks e.numbers.items c.self.invariant.0 c.args.count)
    ∙ ap (λ (s : Store). cut_to c.args.count s) c.self.view_is
