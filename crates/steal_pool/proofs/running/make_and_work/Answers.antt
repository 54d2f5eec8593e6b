use Rattle.std.proofs.Common.{◌≡◌, List, length, sym, subst, ap, ◌∙◌, arith}
use Rattle.std.proofs.lemmas.List.{with_items_is}
use Rattle.steal_pool.specs.Pools.{AccountFor, AllBegin, AreCounted, AreLinked, HasRoom}
use Rattle.steal_pool.specs.Runs.{IsLater}
use Rattle.steal_pool.specs.Seats.{Seat}
use Rattle.steal_pool.proofs.Counting.{later_counted}
use Rattle.steal_pool.proofs.Listing.{zip_length}
use Rattle.steal_pool.proofs.Pooling.{later_same, same_linked, same_room}
use Rattle.steal_pool.proofs.Returning.{begin_free, begin_hand, same_seats}
use Rattle.steal_pool.proofs.Together.{account_later}
use Rattle.steal_pool.proofs.running.make_and_work.Goals as goal

pub begin_and_work-requires-clause-some : goal.begin_and_work-requires-clause-some
begin_and_work-requires-clause-some g c = λ κs o. omega (arith, c.requires.some, c.in_ok-seats.ensures.count, ap length c.as_mut_slice.ensures.value)

pub begin_and_work-requires-clause-hand : goal.begin_and_work-requires-clause-hand
begin_and_work-requires-clause-hand g c = λ κs o.
    begin_hand c.args.ledger.now c.args.root c.as_mut_slice.result.now
    (subst (λ (ss : List Seat). AllBegin c.args.ledger.now c.args.root ss) (sym c.as_mut_slice.ensures.value) c.in_ok-seats.ensures.begin)

pub begin_and_work-requires-clause-free : goal.begin_and_work-requires-clause-free
begin_and_work-requires-clause-free g c = λ κs o.
    begin_free c.args.ledger.now c.args.root c.as_mut_slice.result.now
    (subst (λ (ss : List Seat). AllBegin c.args.ledger.now c.args.root ss) (sym c.as_mut_slice.ensures.value) c.in_ok-seats.ensures.begin)

pub returns : goal.returns
returns g c =
    let t = g.N.Naming.rules in
    let now = c.as_mut_slice.result.now in
    let qs = c.begin_and_work.new.seats in
    let is = c.as_mut_slice.ensures.value in
    let later = c.begin_and_work.ensures.later in
    let count : length qs ≡ length c.in_ok-seats.seats.items = zip_length (IsLater t) now qs later ∙ ap length is in
    let begin : AllBegin c.args.ledger.now c.args.root now = subst (λ (ss : List Seat). AllBegin c.args.ledger.now c.args.root ss) (sym is) c.in_ok-seats.ensures.begin in
    let same = later_same t now qs later in
    rw (with_items_is c.in_ok-seats.seats qs (count ∙ sym c.in_ok-seats.seats.ok.0)) (record {
      count = count ∙ c.in_ok-seats.ensures.count;
      linked = same_linked now qs same (subst AreLinked (sym is) c.in_ok-seats.ensures.linked);
      left = c.begin_and_work.ensures.left;
      account = account_later t c.args.root now qs later (subst (λ (ss : List Seat). AccountFor t c.args.root ss) (sym is) c.in_ok-seats.ensures.account);
      come = (now, ap length is ∙ c.in_ok-seats.ensures.count, begin, later);
      counted = later_counted t now qs later (subst AreCounted (sym is) c.in_ok-seats.ensures.counted);
      room = same_room now qs same (subst HasRoom (sym is) c.in_ok-seats.ensures.room);
      seats = same_seats c.args.ledger.now c.args.root now qs begin same;
    })
