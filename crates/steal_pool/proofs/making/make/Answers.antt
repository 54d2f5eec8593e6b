use Rattle.std.proofs.Common.{◌≡◌, length, arith, sym, ap, ◌∙◌}
use Rattle.std.proofs.lemmas.List.{with_items_is}
use Rattle.steal_pool.specs.Stealers.{Opens}
use Rattle.steal_pool.proofs.Listing.{zip_length}
use Rattle.steal_pool.proofs.Beginning.{opened_linking, linked_whole, new_ours}
use Rattle.steal_pool.proofs.Counting.{begin_counted, begin_room}
use Rattle.steal_pool.proofs.Together.{begin_account}
use Rattle.steal_pool.proofs.making.make.Goals as goal

pub open_seats-requires-clause-rules : goal.open_seats-requires-clause-rules
open_seats-requires-clause-rules g c κs within = c.requires.named

pub open_seats-requires-clause-root : goal.open_seats-requires-clause-root
open_seats-requires-clause-root g c κs within = c.requires.same

pub open_seats-requires-clause-ours : goal.open_seats-requires-clause-ours
open_seats-requires-clause-ours g c κs within = new_ours c.args.ledger.now c.args.entries.items c.requires.fresh

pub link_all_seats-requires-clause-linking : goal.link_all_seats-requires-clause-linking
link_all_seats-requires-clause-linking g c κs within = opened_linking c.args.ledger.now c.args.root c.args.entries.items c.as_mut_slice.result.now c.requires.fresh (rw c.as_mut_slice.ensures.value c.in_ok-seats.ensures)

pub returns : goal.returns
returns g c =
    let l = c.in_ok-link_all_seats.ensures.linking in
    let len : length c.link_all_seats.new.seats ≡ c.in_ok-seats.seats.len = l.count ∙ ap length c.as_mut_slice.ensures.value ∙ sym c.in_ok-seats.seats.ok.0 in
    let items = with_items_is c.in_ok-seats.seats c.link_all_seats.new.seats len in
    let count : length c.link_all_seats.new.seats ≡ length c.args.entries.items = l.count ∙ ap length c.as_mut_slice.ensures.value ∙ zip_length (Opens c.args.ledger.now c.args.root) c.args.entries.items c.in_ok-seats.seats.items c.in_ok-seats.ensures in
    rw items (record {
      count = count;
      begin = l.begin;
      stealers = linked_whole c.args.ledger.now c.args.root (length c.as_mut_slice.result.now) c.link_all_seats.new.seats l;
      linked = l.linked;
      account = begin_account g.N.Naming.rules c.args.ledger.now c.args.root c.link_all_seats.new.seats (omega (arith, c.requires.some, count)) l.begin;
      room = begin_room c.args.ledger.now c.args.root c.link_all_seats.new.seats (omega (arith, c.requires.few, count)) l.begin;
      counted = begin_counted c.args.ledger.now c.args.root c.link_all_seats.new.seats (omega (arith, c.requires.some, count)) l.begin;
    })
