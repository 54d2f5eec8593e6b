-- The end of a pool's work, and what its seats say together when they leave.
use Rattle.std.proofs.Common.{◌≡◌, ◌≢◌, ◌⊎◌, inl, inr, ℕ, zero, suc, ◌+◌, ◌≤◌, List, [], ◌∷◌, ◌++◌, map, length, Some, None, slice_get, sum_by, option_to_list, if◌then◌else◌, ◌==◌, IsPermutation, refl, sym, ap, ◌∙◌, subst, arith}
use Rattle.std.specs.List.{AllByRecursion, AllZip}
use Rattle.spec_trees.specs.declared.tree.Node.{Node}
use Rattle.spec_trees.specs.declared.tree.Leaf.{Leaf}
use Rattle.spec_trees.specs.Tree.{Rules, leaves}
use Rattle.spec_pool.specs.declared.ledger.SeatHistory.{SeatHistory}
use Rattle.spec_pool.specs.declared.ledger.LedgerTerms.{LedgerTerms}
use Rattle.spec_pool.specs.Accounts.{leaves_of}
use Rattle.spec_pool.specs.History.{Fresh}
use Rattle.spec_pool.proofs.Balancing.{by_leaves}
use Rattle.spec_pool.proofs.Finding.{leaves_permuted, nodes_permuted}
use Rattle.spec_pool.proofs.Hands.{hand_weigh, weigh_hand}
use Rattle.spec_pool.proofs.Weights.{weigh, weigh-append, weigh-flat, weigh-map, weigh-same, sum_is_weigh}
use Rattle.span_ledger.specs.declared.desk.LedgerSeat.{LedgerSeat}
use Rattle.span_ledger.specs.Seats.{part}
use Rattle.steal_pool.specs.declared.seat.Stop.TheVariants.{Full, Memory}
use Rattle.steal_pool.specs.Rule.{DequeId, End}
use Rattle.steal_pool.specs.Rounds.{Counts, tally}
use Rattle.steal_pool.specs.Seats.{IsFullOf, IsLeft, Seat, SeatLinks, account, entered_by, place_of, ways}
use Rattle.steal_pool.specs.Pools.{AccountFor, AreCounted, AreLinked, ComeBack, HasRoom, IsLeftOver, IsRefused, KeepNone, LeavesOver, NoneIsOutOfMemory, entered_in, entered_of, put_of, own_of, stealers_on, right_of, seat_right, taken_of, ways_of_all}
use Rattle.steal_pool.specs.Stealers.{HasNoStealer, Joined, lasting}
use Rattle.steal_pool.specs.Closing.{Drains, Ended, HasUsedUp, Leaves, SomeIsFull, worst_stop}
use Rattle.steal_pool.proofs.Rule.{left_permuted}
use Rattle.steal_pool.proofs.Accounts.{entered_weigh, entered_weight, own_weight, same_weights, taken_weight}
use Rattle.steal_pool.specs.Runs.{IsLater}
use Rattle.steal_pool.proofs.Pooling.{later_same, same_linked, same_room}
use Rattle.steal_pool.proofs.Together.{account_later, account_weighs, entered_of_weigh, entered_sum, own_of_weigh, own_sum, put_sum, taken_of_weigh, taken_sum, weighs_account}
use Rattle.steal_pool.proofs.Counting.{later_counted, same_count}
use Rattle.steal_pool.proofs.Stopping.{full_stopped}
use Rattle.steal_pool.proofs.Listing.{all_get, zip_all, zip_at, zip_map, map_all, map_at, map_length, map_from, weigh_none}

map_twice : {A B C : Type 0} (f : A → B) (g : B → C) (xs : List A) → map (λ x. g (f x)) xs ≡ map g (map f xs)
map_twice f g [] = refl
map_twice f g (x ∷ xs) = λ i. g (f x) ∷ map_twice f g xs i

-- ---- stealers were joined
module _ (t : Rules) (ss us : List Seat) (j : Joined ss us) where
  lasting_map : {C : Type 0} (g : Seat → C) → map (λ s. g (lasting s)) us ≡ map (λ s. g (lasting s)) ss
  lasting_map g = map_twice lasting g us ∙ ap (map g) j.lasting ∙ sym (map_twice lasting g ss)

  lasting_weigh : (f : Seat → ℕ) → weigh (λ s. f (lasting s)) us ≡ weigh (λ s. f (lasting s)) ss
  lasting_weigh f = sym (weigh-map lasting f us) ∙ ap (weigh f) j.lasting ∙ weigh-map lasting f ss

  full_like : (leaf : Leaf) (x y : Seat) → IsFullOf t leaf x → y.worker.hand ≡ x.worker.hand → y.terms ≡ x.terms → y.part ≡ x.part → IsFullOf t leaf y
  full_like leaf x y f hand terms part = record {
    hand = hand ∙ f.hand;
    marked = f.marked;
    leaves = f.leaves;
    limit = omega (arith, f.limit, ap (λ (u : LedgerTerms). u.limit) terms, ap (λ (p : SeatHistory). length p.seen) part);
    fresh = subst (λ (p : SeatHistory). Fresh leaf p.seen) (sym part) f.fresh;
  }

  left_lasting : (x y : Seat) → lasting y ≡ lasting x → IsLeft t x → IsLeft t y
  left_lasting x y e l =
      let at : IsLeft t (lasting x) = record { empty = l.empty; full = λ leaf f. full_like leaf x (lasting x) (l.full leaf f) refl refl refl } in
      let there : IsLeft t (lasting y) = subst (IsLeft t) (sym e) at in
      record { empty = there.empty; full = λ leaf f. full_like leaf (lasting y) y (there.full leaf f) refl refl refl }

  pub joined_left : AllByRecursion (IsLeft t) ss → AllByRecursion (IsLeft t) us
  joined_left all = map_all lasting (IsLeft t) ss us left_lasting j.lasting all

  joined_free : KeepNone us → KeepNone ss
  joined_free all = map_all lasting (λ s. s.refusal ≡ None) us ss (λ x y e p. ap (λ (s : Seat). s.refusal) e ∙ p) (sym j.lasting) all

  joined_memory : NoneIsOutOfMemory us → NoneIsOutOfMemory ss
  joined_memory all = map_all lasting (λ s. s.refusal ≢ Some Memory) us ss (λ x y e p q. p (sym (ap (λ (s : Seat). s.refusal) e) ∙ q)) (sym j.lasting) all

  joined_account : (root : Node) → AccountFor t root ss → AccountFor t root us
  joined_account root a = weighs_account t root us (λ h. omega (
    arith,
    account_weighs t root ss a h,
    lasting_weigh (λ (s : Seat). entered_weight h s.part),
    lasting_weigh (λ (s : Seat). own_weight t h s.worker),
    lasting_weigh (λ (s : Seat). weigh (by_leaves t h) s.worker.own.view.put),
    same_weights (by_leaves t h) (taken_of ss) (taken_of us) j.taken,
    taken_of_weigh (by_leaves t h) ss,
    taken_of_weigh (by_leaves t h) us,
  ))

  joined_counted : AreCounted ss → AreCounted us
  joined_counted a = record {
    rounds = a.rounds;
    tell = subst (λ (shown : List ℕ). AllZip (λ (n : ℕ) (r : ℕ). Counts n 0 r) a.rounds shown) (sym (lasting_map (λ (s : Seat). s.rounds))) a.tell;
    sum = omega (
      arith,
      a.sum,
      same_count (taken_of ss) (taken_of us) j.taken,
      sum_is_weigh (λ (s : Seat). tally (account s)) ss,
      sum_is_weigh (λ (s : Seat). tally (account s)) us,
      lasting_weigh (λ (s : Seat). tally (account s)),
    );
  }

joined_room : (ss us : List Seat) → map lasting us ≡ map lasting ss → HasRoom ss → HasRoom us
joined_room [] [] e r = r
joined_room [] (u ∷ us) e r = absurd cc
joined_room (s ∷ ss) [] e r = absurd cc
joined_room (s ∷ ss) (u ∷ us) e r = λ x at.
    let first : lasting u ≡ lasting s = cc in
    let is : u ≡ x = cc in
    let same : u.room ≡ x.room = ap (λ (y : Seat). y.room) is in
    let rooms : u.room ≡ s.room = ap (λ (y : Seat). y.room) first in
    let count : length (u ∷ us) ≡ length (s ∷ ss) = map_length lasting (s ∷ ss) (u ∷ us) e in
    omega (arith, r s refl, rooms, same, count)

-- ---- each worked
later_none : (t : Rules) (s q : Seat) → IsLater t s q → HasNoStealer s → HasNoStealer q
later_none t s q c none =
    map_nothing q.worker.stealers (ap (λ (w : SeatLinks). w.others) c.same.ways ∙ ap (map place_of) none)
  where
    map_nothing : (es : List End) → map place_of es ≡ [] → es ≡ []
    map_nothing [] e = refl
    map_nothing (x ∷ es) e = absurd cc

later_right : (t : Rules) (s q : Seat) → IsLater t s q → right_of q ≡ right_of s
later_right t s q c = λ i. (c.same.table i, c.same.number i)

pub ended : (t : Rules) (ss us qs : List Seat) → Joined ss us → AreLinked us → AllByRecursion HasNoStealer us → Drains t us qs → Ended t ss qs
ended t ss us qs j linked none w = record {
  rights = zip_map (IsLater t) right_of right_of us qs (later_right t) w.changes ∙ lasting_map t ss us j right_of;
  terms = zip_map (IsLater t) (λ (s : Seat). s.terms) (λ (s : Seat). s.terms) us qs (λ s q c. c.same.terms) w.changes ∙ lasting_map t ss us j (λ (s : Seat). s.terms);
  linked = same_linked us qs (later_same t us qs w.changes) linked;
  none = zip_all (IsLater t) HasNoStealer HasNoStealer us qs (later_none t) w.changes none;
  left = w.left;
  used = w.used;
  free = λ all. joined_free t ss us j (free_before w.refusals all);
  memory = λ all. joined_memory t ss us j (memory_before w.refusals all);
  account = λ root a. account_later t root us qs w.changes (joined_account t ss us j root a);
  counted = λ a. later_counted t us qs w.changes (joined_counted t ss us j a);
  room = λ r. same_room us qs (later_same t us qs w.changes) (joined_room ss us j.lasting r);
}
  where
    free_before : KeepNone us ⊎ (qs ≡ us) → KeepNone qs → KeepNone us
    free_before (inl x) all = x
    free_before (inr e) all = subst KeepNone e all

    not_memory : (xs : List Seat) → KeepNone xs → NoneIsOutOfMemory xs
    not_memory [] all = tt
    not_memory (x ∷ xs) all = ((λ e. absurd cc), not_memory xs all.1)

    memory_before : KeepNone us ⊎ (qs ≡ us) → NoneIsOutOfMemory qs → NoneIsOutOfMemory us
    memory_before (inl x) all = not_memory us x
    memory_before (inr e) all = subst NoneIsOutOfMemory e all

-- ---- they leave
module _ (t : Rules) (ss qs : List Seat) (es : List LedgerSeat) (d : Ended t ss qs) (b : AllZip Leaves qs es) where
  pub come_back : ComeBack ss es
  come_back = zip_map Leaves right_of seat_right qs es (λ s e l. λ i. (l.table i, (l.part i).number)) b ∙ d.rights

  pub entered_in_weigh : (h : Leaf → ℕ) → weigh h (entered_in es) ≡ entered_sum h qs
  entered_in_weigh h = flat es ∙ same qs es b
    where
      flat : (fs : List LedgerSeat) → weigh h (entered_in fs) ≡ weigh (λ (e : LedgerSeat). entered_weight h (part e)) fs
      flat fs = weigh-flat (λ (e : LedgerSeat). entered_by (part e)) h fs ∙ weigh-same (λ (e : LedgerSeat). weigh h (entered_by (part e))) (λ (e : LedgerSeat). entered_weight h (part e)) fs (λ e. entered_weigh h (part e))

      same : (xs : List Seat) (fs : List LedgerSeat) → AllZip Leaves xs fs → weigh (λ (e : LedgerSeat). entered_weight h (part e)) fs ≡ entered_sum h xs
      same [] [] c = refl
      same [] (f ∷ fs) c = absurd c
      same (x ∷ xs) [] c = absurd c
      same (x ∷ xs) (f ∷ fs) c = omega (arith, ap (entered_weight h) c.0.part, same xs fs c.1)

  -- no stealer is out
  no_others : (k : ℕ) (w : SeatLinks) → slice_get (ways_of_all qs) k ≡ Some w → w.others ≡ []
  no_others k w at =
      let f = map_from (λ (s : Seat). ways s.worker) qs k w at in
      sym (ap (λ (x : SeatLinks). x.others) f.2) ∙ ap (map place_of) (all_get HasNoStealer qs k f.0 d.none f.1)

  pub none_made : (k : ℕ) (s : Seat) → slice_get qs k ≡ Some s → s.worker.own.view.made ≡ 0
  none_made k s at =
      d.linked.counted k (ways s.worker) (map_at (λ (x : Seat). ways x.worker) qs k s at)
      ∙ sum_is_weigh (stealers_on k) (ways_of_all qs)
      ∙ weigh_none (stealers_on k) (ways_of_all qs) (λ m v e. ap (sum_by (λ (stealer : ℕ × DequeId). if stealer.0 == k then 1 else 0)) (no_others m v e))

  pub own_only : (h : Node → ℕ) (k : ℕ) (s : Seat) → slice_get qs k ≡ Some s → taken_weight h s.worker ≡ weigh h s.worker.own.view.taken
  own_only h k s at = omega (arith, ap (weigh (λ (e : End). weigh h e.view.taken)) (all_get HasNoStealer qs k s d.none at))

  -- what was put on a deque is what was taken from it and what is left there
  deque_left : (k : ℕ) (s : Seat) → slice_get qs k ≡ Some s → (left : List Node) × ((h : Node → ℕ) → weigh h s.worker.own.view.put ≡ taken_weight h s.worker + weigh h left)
  deque_left k s at =
      let e = zip_at Leaves qs es k s b at in
      let l = left_permuted s.worker.own.view e.2.left (none_made k s at) in
      (l.0, λ h. omega (arith, own_only h k s at, same_weights h s.worker.own.view.put (s.worker.own.view.taken ++ l.0) l.1, weigh-append h s.worker.own.view.taken l.0))

sum_left : (xs : List Seat) → ((k : ℕ) (s : Seat) → slice_get xs k ≡ Some s → (left : List Node) × ((h : Node → ℕ) → weigh h s.worker.own.view.put ≡ taken_weight h s.worker + weigh h left))
    → (left : List Node) × ((h : Node → ℕ) → put_sum h xs ≡ taken_sum h xs + weigh h left)
sum_left [] each = ([], λ h. refl)
sum_left (x ∷ xs) each =
    let one = each 0 x refl in
    let more = sum_left xs (λ k s at. each (suc k) s at) in
    (one.0 ++ more.0, λ h. omega (arith, one.1 h, more.1 h, weigh-append h one.0 more.0))

pub sum_used : (xs : List Seat) → ((k : ℕ) (s : Seat) → slice_get xs k ≡ Some s → (h : Node → ℕ) → weigh h s.worker.own.view.put ≡ taken_weight h s.worker) → (h : Node → ℕ) → put_sum h xs ≡ taken_sum h xs
sum_used [] each h = refl
sum_used (x ∷ xs) each h = omega (arith, each 0 x refl h, sum_used xs (λ k s at. each (suc k) s at) h)

-- the worst stop is a leaf, so some seat is full of it and none ran out of memory
pub worst_is_full : (t : Rules) (qs : List Seat) (leaf : Leaf) → AllByRecursion (IsLeft t) qs → worst_stop qs ≡ Some (Full leaf) → NoneIsOutOfMemory qs × SomeIsFull t leaf qs
worst_is_full t qs leaf left e =
    let f = full_stopped qs leaf e in
    let x = f.1 in
    (f.0, (x.0, x.1, x.2, (all_get (IsLeft t) qs x.0 x.1 left x.2).full leaf x.3))

-- ---- no seat keeps a refusal
pub all_entered : (t : Rules) (ss qs : List Seat) (es : List LedgerSeat) → Ended t ss qs → AllZip Leaves qs es → KeepNone qs → (root : Node) → AccountFor t root ss → IsPermutation (entered_in es) (leaves t root)
all_entered t ss qs es d b free root a =
    let used = d.used free in
    let deque : (k : ℕ) (s : Seat) → slice_get qs k ≡ Some s → (h : Node → ℕ) → weigh h s.worker.own.view.put ≡ taken_weight h s.worker =
    λ k s at h. same_weights h s.worker.own.view.put s.worker.own.view.taken (all_get HasUsedUp qs k s used at (none_made t ss qs es d b k s at)) ∙ sym (own_only t ss qs es d b h k s at) in
    let empty : (h : Leaf → ℕ) (k : ℕ) (s : Seat) → slice_get qs k ≡ Some s → own_weight t h s.worker ≡ 0 =
    λ h k s at. let e = (all_get (IsLeft t) qs k s d.left at).empty (all_get (λ x. x.refusal ≡ None) qs k s free at) in omega (arith, ap (weigh_hand (by_leaves t h)) e.0, ap (weigh (by_leaves t h)) e.1) in
    leaves_permuted (entered_in es) (leaves t root) (λ h. omega (
      arith,
      account_weighs t root qs (d.account root a) h,
      entered_in_weigh t ss qs es d b h,
      weigh_none (λ (s : Seat). own_weight t h s.worker) qs (empty h),
      sum_used qs deque (by_leaves t h),
    ))

-- ---- a seat was full
own_split : (t : Rules) (xs : List Seat) (k : ℕ) (s : Seat) (leaf : Leaf) → slice_get xs k ≡ Some s → s.worker.hand ≡ Some leaf.node → leaves t leaf.node ≡ leaf ∷ []
    → (others : List Leaf) × ((h : Leaf → ℕ) → own_sum t h xs ≡ h leaf + weigh h others)
own_split t [] k s leaf at hand is = absurd cc
own_split t (x ∷ xs) zero s leaf at hand is =
    let same : x ≡ s = cc in (
      leaves_of t (s.worker.kept ++ own_of xs),
      λ h. omega (
        arith,
        ap (λ (y : Seat). own_weight t h y.worker) same,
        ap (weigh_hand (by_leaves t h)) hand,
        ap (weigh h) is,
        weigh-flat (leaves t) h (s.worker.kept ++ own_of xs),
        weigh-append (by_leaves t h) s.worker.kept (own_of xs),
        own_of_weigh t h xs,
      ),
    )
own_split t (x ∷ xs) (suc k) s leaf at hand is =
    let more = own_split t xs k s leaf at hand is in (
      leaves_of t (option_to_list x.worker.hand ++ x.worker.kept) ++ more.0,
      λ h. omega (
        arith,
        more.1 h,
        weigh-append h (leaves_of t (option_to_list x.worker.hand ++ x.worker.kept)) more.0,
        weigh-flat (leaves t) h (option_to_list x.worker.hand ++ x.worker.kept),
        weigh-append (by_leaves t h) (option_to_list x.worker.hand) x.worker.kept,
        hand_weigh (by_leaves t h) x.worker.hand,
      ),
    )

pub some_left_over : (t : Rules) (ss qs : List Seat) (es : List LedgerSeat) (leaf : Leaf) → Ended t ss qs → AllZip Leaves qs es → SomeIsFull t leaf qs → (root : Node) → AccountFor t root ss → IsLeftOver t root es leaf
some_left_over t ss qs es leaf d b (k, s, at, f) root a =
    let own = own_split t qs k s leaf at f.hand f.leaves in
    let left = sum_left qs (deque_left t ss qs es d b) in (
      own.0 ++ leaves_of t left.0,
      leaves_permuted (entered_in es ++ leaf ∷ (own.0 ++ leaves_of t left.0)) (leaves t root) (λ h. omega (
        arith,
        account_weighs t root qs (d.account root a) h,
        entered_in_weigh t ss qs es d b h,
        own.1 h,
        left.1 (by_leaves t h),
        weigh-append h (entered_in es) (leaf ∷ (own.0 ++ leaves_of t left.0)),
        weigh-append h own.0 (leaves_of t left.0),
        weigh-flat (leaves t) h left.0,
      )),
    )

pub some_refused : (t : Rules) (ss qs : List Seat) (es : List LedgerSeat) (leaf : Leaf) → Ended t ss qs → AllZip Leaves qs es → SomeIsFull t leaf qs → IsRefused ss es leaf
some_refused t ss qs es leaf d b (k, q, at, f) =
    let e = zip_at Leaves qs es k q b at in
    let s = map_from (λ (x : Seat). x.terms) ss k q.terms (ap (λ (ts : List LedgerTerms). slice_get ts k) (sym d.terms) ∙ map_at (λ (x : Seat). x.terms) qs k q at) in (
      k,
      s.0,
      e.0,
      s.1,
      e.1,
      subst (λ (p : SeatHistory). s.0.terms.limit ≤ length p.seen) (sym e.2.part) (omega (arith, f.limit, ap (λ (x : LedgerTerms). x.limit) s.2)),
      subst (λ (p : SeatHistory). Fresh leaf p.seen) (sym e.2.part) f.fresh,
    )

-- ---- a seat was out of memory
pub leaves_over : (t : Rules) (ss qs : List Seat) (es : List LedgerSeat) → Ended t ss qs → AllZip Leaves qs es → (root : Node) → AccountFor t root ss → LeavesOver t root qs
leaves_over t ss qs es d b root a =
    let left = sum_left qs (deque_left t ss qs es d b) in record {
      rest = left.0;
      deques = nodes_permuted (put_of qs) (taken_of qs ++ left.0) (λ h. omega (
        arith,
        weigh-flat (λ (s : Seat). s.worker.own.view.put) h qs,
        taken_of_weigh h qs,
        left.1 h,
        weigh-append h (taken_of qs) left.0,
      ));
      account = leaves_permuted (entered_of qs ++ leaves_of t (own_of qs ++ left.0)) (leaves t root) (λ h. omega (
        arith,
        account_weighs t root qs (d.account root a) h,
        entered_of_weigh h qs,
        weigh-append h (entered_of qs) (leaves_of t (own_of qs ++ left.0)),
        weigh-flat (leaves t) h (own_of qs ++ left.0),
        weigh-append (by_leaves t h) (own_of qs) left.0,
        own_of_weigh t h qs,
        left.1 (by_leaves t h),
      ));
    }
