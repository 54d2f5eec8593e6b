use Rattle.std.proofs.Common.{◌≡◌, List, length, sym, subst, ap, ◌∙◌}
use Rattle.std.specs.List.{AllByRecursion, AllZip}
use Rattle.std.proofs.lemmas.List.{with_items_is}
use Rattle.steal_pool.specs.Seats.{IsLeft, Seat}
use Rattle.steal_pool.specs.Closing.{Ended, Leaves, worst_stop}
use Rattle.steal_pool.specs.Pools.{AreLinked, HasRoom, right_of}
use Rattle.steal_pool.proofs.Listing.{map_length}
use Rattle.steal_pool.proofs.Outcomes.{all_back, back, free, if_ok, if_too_many, left_over, memory, out_of_memory, refused, rounds, worst_is}
use Rattle.steal_pool.proofs.finishing.finish.Goals as goal

pub end_work-requires-clause-linked : goal.end_work-requires-clause-linked
end_work-requires-clause-linked g c κs within = subst AreLinked (sym c.as_mut_slice.ensures.value) c.requires.linked

pub end_work-requires-clause-left : goal.end_work-requires-clause-left
end_work-requires-clause-left g c κs within = subst (AllByRecursion (IsLeft g.N.Naming.rules)) (sym c.as_mut_slice.ensures.value) c.requires.left

pub returns-in_default : goal.returns-in_default
returns-in_default g c = record {
  back = tt;
  free = tt;
  leaves = λ root a. tt;
  rounds = λ root sound valid a counted. tt;
  too_many = tt;
  memory = tt;
  worst = tt;
  out_of_memory = λ room e.
      let d : Ended g.N.Naming.rules c.args.seats.items c.end_work.new.seats = subst (λ (xs : List Seat). Ended g.N.Naming.rules xs c.end_work.new.seats) c.as_mut_slice.ensures.value c.end_work.ensures in
      let items = with_items_is c.args.seats c.end_work.new.seats (map_length right_of c.args.seats.items c.end_work.new.seats d.rights ∙ sym c.args.seats.ok.0) in
      let no = c.in_default.ensures.room (subst HasRoom (sym items) (d.room room)) in
      absurd (cc);
  refused = tt;
  left_over = λ root a. tt;
}

pub returns : goal.returns
returns g c =
    let t = g.N.Naming.rules in
    let ss = c.args.seats.items in
    let qs = c.end_work.new.seats in
    let es = c.in-Ok.entries.items in
    let d : Ended t ss qs = subst (λ (xs : List Seat). Ended t xs qs) c.as_mut_slice.ensures.value c.end_work.ensures in
    let len : length qs ≡ c.args.seats.len = map_length right_of ss qs d.rights ∙ sym c.args.seats.ok.0 in
    let items = with_items_is c.args.seats qs len in
    let b : AllZip Leaves qs es = subst (λ (xs : List Seat). AllZip Leaves xs es) items c.in-Ok.ensures.left in
    let worst = c.worst_stop-worst.result in
    let w : worst ≡ worst_stop qs = c.worst_stop-worst.ensures ∙ ap worst_stop (c.as_slice.ensures.value ∙ items) in
    record {
      back = if_ok c.seats_or_stop.result _ _ c.seats_or_stop.ensures.back (λ v is. back t ss qs es worst d b w v.items is.0);
      free = if_ok c.seats_or_stop.result _ _ c.seats_or_stop.ensures.back (λ v is. free t ss qs es worst d b w is.1);
      leaves = λ root a. if_ok c.seats_or_stop.result _ _ c.seats_or_stop.ensures.back (λ v is. all_back t ss qs es worst d b w v.items is.0 is.1 root a);
      rounds = λ root sound valid a counted. if_ok c.seats_or_stop.result _ _ c.seats_or_stop.ensures.back (λ v is. rounds t ss qs es worst d b w is.1 root sound valid a counted);
      too_many = if_too_many c.seats_or_stop.result _ _ c.seats_or_stop.ensures.too_many (λ vs leaf is. back t ss qs es worst d b w vs is.0);
      memory = if_too_many c.seats_or_stop.result _ _ c.seats_or_stop.ensures.too_many (λ vs leaf is. memory t ss qs es worst d b w leaf is.1);
      worst = if_too_many c.seats_or_stop.result _ _ c.seats_or_stop.ensures.too_many (λ vs leaf is. worst_is t ss qs es worst d b w leaf is.1);
      out_of_memory = λ room e. out_of_memory t ss qs es worst d b w (c.seats_or_stop.ensures.memory e);
      refused = if_too_many c.seats_or_stop.result _ _ c.seats_or_stop.ensures.too_many (λ vs leaf is. refused t ss qs es worst d b w vs leaf is.0 is.1);
      left_over = λ root a. if_too_many c.seats_or_stop.result _ _ c.seats_or_stop.ensures.too_many (λ vs leaf is. left_over t ss qs es worst d b w vs leaf is.0 is.1 root a);
    }
