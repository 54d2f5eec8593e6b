-- Seats that are opened, and get their stealers.
use Rattle.std.proofs.Common.{◌≡◌, ◌≢◌, inl, inr, ℕ, suc, ◌+◌, ◌<◌, ◌≤◌, ◌==◌, List, [], ◌∷◌, ◌++◌, map, flat_map, length, Option, Some, get_or, Result, Ok, Err, OnOk, slice_get, slice_set, sum_by, if◌then◌else◌, append_assoc, refl, sym, ap, ◌∙◌, subst, arith}
use Rattle.std.proofs.lemmas.Bool.{cases_eq}
use Rattle.std.proofs.lemmas.Bool.Decides.{nat_tests}
use Rattle.std.proofs.lemmas.Option.{get_or_from_slice_get, slice_get-get_or}
use Rattle.std.specs.List.{AllByRecursion, AllZip}
use Rattle.spec_trees.specs.declared.tree.Node.{Node}
use Rattle.spec_pool.specs.declared.ledger.SeatHistory.{SeatHistory}
use Rattle.spec_pool.specs.History.{part_of}
use Rattle.spec_pool.proofs.Weights.{sum_is_weigh}
use Rattle.span_ledger.specs.declared.desk.LedgerSeat.{LedgerSeat}
use Rattle.span_ledger.specs.declared.desk.SpanLedger.{SpanLedger}
use Rattle.span_ledger.specs.Seats.{AreNew, IsSeatOf, part, table_of, terms}
use Rattle.steal_pool.specs.Rule.{DequeId, End}
use Rattle.steal_pool.specs.declared.view.DequeView.{DequeView}
use Rattle.steal_pool.specs.Workers.{new_stealer}
use Rattle.steal_pool.specs.Seats.{NewSeat, Seat, SeatLinks, place_of, ways, first_room}
use Rattle.steal_pool.specs.Pools.{AllBegin, AreLinked, Begins, HaveAllStealers, IsOwned, Linked, first_hand, other_numbers, stealer_numbers, stealers_on, ways_of_all}
use Rattle.steal_pool.specs.Stealers.{Linking, Links, LinksOther, Opens, gained, lent, numbers_so_far}
use Rattle.steal_pool.proofs.Listing.{all_each, zip_get, get_same, get_other, keep_each, one_some, weigh_none, within, map_push, map_set, map_at, map_from, set_length}
use Rattle.steal_pool.proofs.Linking.{linked_more}

-- ---- the numbers of the stealers
so_far_below : (n i j k : ℕ) → k < i → numbers_so_far n i j k ≡ other_numbers n k
so_far_below n i j k e = grind (arith, nat_tests, e)

so_far_here : (n i j k : ℕ) → k ≡ i → numbers_so_far n i j k ≡ other_numbers j k
so_far_here n i j k e = grind (arith, nat_tests, e)

so_far_above : (n i j k : ℕ) → i < k → numbers_so_far n i j k ≡ []
so_far_above n i j k e = grind (arith, nat_tests, e)

so_far_apart : (n i j j' k : ℕ) → k ≢ i → numbers_so_far n i j k ≡ numbers_so_far n i j' k
so_far_apart n i j j' k e = grind (arith, nat_tests, e)

others_skip : (j k : ℕ) → j ≡ k → other_numbers (suc j) k ≡ other_numbers j k
others_skip j k e = grind (arith, nat_tests, e)

others_more : (j k : ℕ) → j ≢ k → other_numbers (suc j) k ≡ other_numbers j k ++ j ∷ []
others_more j k e = grind (arith, nat_tests, e)

abbrev Numbers : ℕ → ℕ → ℕ → List Seat → Type 0
Numbers n i j ss = (k : ℕ) (s : Seat) → slice_get ss k ≡ Some s → stealer_numbers s ≡ numbers_so_far n i j k

numbers_skip : (n i j : ℕ) (ss : List Seat) → i ≡ j → Numbers n i j ss → Numbers n i (suc j) ss
numbers_skip n i j ss same each k s e = each k s e ∙ elim (cases_eq k i) [
  | inl here ↦ so_far_here n i j k here ∙ sym (others_skip j k (sym same ∙ sym here)) ∙ sym (so_far_here n i (suc j) k here)
  | inr apart ↦ so_far_apart n i j (suc j) k apart
]

numbers_next : (n i : ℕ) (ss : List Seat) → Numbers n i n ss → Numbers n (suc i) 0 ss
numbers_next n i ss each k s e = each k s e ∙ elim (cases_eq k i) [
  | inl here ↦ so_far_here n i n k here ∙ sym (so_far_below n (suc i) 0 k (omega (arith, here)))
  | inr apart ↦ grind (arith, nat_tests, apart)
]

-- ---- seats that are opened
opened_begins : (ledger : SpanLedger) (root : Node) (k : ℕ) (e : LedgerSeat) (s : Seat) → part e ≡ part_of k [] [] [] → Opens ledger root e s → Begins ledger k (first_hand root k) s
opened_begins ledger root k e s is o =
    let number : (part e).number ≡ k = ap (λ (p : SeatHistory). p.number) is in record {
      worker = o.0.0 ∙ number;
      hand = o.0.4 ∙ ap (first_hand root) number;
      kept = o.0.5;
      pushed_in_a_row = o.0.3;
      put = ap (λ (v : DequeView). v.put) o.0.1;
      taken = (λ i. (o.0.1 i).taken ++ flat_map (λ (x : End). x.view.taken) (o.0.2 i));
      part = o.1 ∙ is;
      table = o.2;
      terms = o.3;
      refusal = o.4;
      rounds = o.5;
      room = subst (λ (m : ℕ). first_room m ≤ s.room) number o.6;
    }

pub opens_by : (ledger : SpanLedger) (root : Node) (e : LedgerSeat) (s : Seat) (hand : Option Node) (number : ℕ) → number ≡ (part e).number → hand ≡ first_hand root number
    → NewSeat (part e) (table_of ledger) (terms ledger) hand s → Opens ledger root e s
opens_by ledger root e s hand number is held o = subst (λ (x : Option Node). NewSeat (part e) (table_of ledger) (terms ledger) x s) (held ∙ ap (first_hand root) is) o

pub new_ours : (ledger : SpanLedger) (es : List LedgerSeat) → AreNew ledger es → AllByRecursion (IsSeatOf ledger) es
new_ours ledger es new = all_each (IsSeatOf ledger) es (λ k e at. subst (IsSeatOf ledger) (get_or_from_slice_get es k e e at) (new k e (within es k e at)).0)

module _ (ledger : SpanLedger) (root : Node) (es : List LedgerSeat) (ss : List Seat) (new : AreNew ledger es) (b : AllZip (Opens ledger root) es ss) where
  opened_at : (k : ℕ) (s : Seat) → slice_get ss k ≡ Some s → (e : LedgerSeat) × (slice_get es k ≡ Some e) × Opens ledger root e s
  opened_at k s at = zip_get (Opens ledger root) es ss k s b at

  opened_all : AllBegin ledger root ss
  opened_all k s at =
      let found = opened_at k s at in
      let is : part found.0 ≡ part_of k [] [] [] = subst (λ (e : LedgerSeat). part e ≡ part_of k [] [] []) (get_or_from_slice_get es k found.0 found.0 found.1) (new k found.0 (within es k found.0 found.1)).1 in
      opened_begins ledger root k found.0 s is found.2

  no_stealers : (k : ℕ) (s : Seat) → slice_get ss k ≡ Some s → s.worker.stealers ≡ []
  no_stealers k s at = (opened_at k s at).2.0.2

  no_others : (k : ℕ) (w : SeatLinks) → slice_get (ways_of_all ss) k ≡ Some w → (w.others ≡ []) × (w.made ≡ 0)
  no_others k w at =
      let f = map_from (λ (s : Seat). ways s.worker) ss k w at in (
        sym (ap (λ (x : SeatLinks). x.others) f.2) ∙ ap (map place_of) (no_stealers k f.0 f.1),
        sym (ap (λ (x : SeatLinks). x.made) f.2) ∙ ap (λ (v : DequeView). v.made) (opened_at k f.0 f.1).2.0.1,
      )

  pub opened_linking : Linking ledger root (length ss) 0 0 ss
  opened_linking = record {
    count = refl;
    begin = opened_all;
    linked = record {
      owned = all_each (λ w. AllByRecursion (IsOwned (ways_of_all ss)) w.others) (ways_of_all ss) (λ k w at. subst (AllByRecursion (IsOwned (ways_of_all ss))) (sym (no_others k w at).0) tt);
      counted = λ k w at. (no_others k w at).1 ∙ sym (sum_is_weigh (stealers_on k) (ways_of_all ss) ∙ weigh_none (stealers_on k) (ways_of_all ss) (λ m v e. ap (sum_by (λ (stealer : ℕ × DequeId). if stealer.0 == k then 1 else 0)) (no_others m v e).0));
    };
    numbers = λ k s at. ap (map (λ (e : End). e.worker)) (no_stealers k s at) ∙ elim (cases_eq k 0) [
      | inl here ↦ sym (so_far_here (length ss) 0 0 k here)
      | inr apart ↦ sym (so_far_above (length ss) 0 0 k (omega (arith, apart)))
    ];
  }

-- ---- a stealer is made
lent_begins : (ledger : SpanLedger) (k : ℕ) (held : Option Node) (s : Seat) → Begins ledger k held s → Begins ledger k held (lent s)
lent_begins ledger k held s b = record { worker = b.worker; hand = b.hand; kept = b.kept; pushed_in_a_row = b.pushed_in_a_row; put = b.put; taken = b.taken; part = b.part; table = b.table; terms = b.terms; refusal = b.refusal; rounds = b.rounds; room = b.room }

all_taken : List End → List Node
all_taken es = flat_map (λ (x : End). x.view.taken) es

taken_push : (es : List End) (e : End) → all_taken (es ++ e ∷ []) ≡ all_taken es ++ (e.view.taken ++ [])
unfolding all_taken
taken_push [] e = refl
taken_push (y ∷ es) e = ap (λ (l : List Node). y.view.taken ++ l) (taken_push es e) ∙ sym (append_assoc y.view.taken (all_taken es) (e.view.taken ++ []))

none_more : (xs : List Node) (es : List End) (e : End) → xs ++ flat_map (λ (x : End). x.view.taken) es ≡ [] → e.view.taken ≡ [] → xs ++ flat_map (λ (x : End). x.view.taken) (es ++ e ∷ []) ≡ []
unfolding all_taken
none_more xs es e is none =
    ap (λ (l : List Node). xs ++ l) (taken_push es e)
    ∙ sym (append_assoc xs (all_taken es) (e.view.taken ++ []))
    ∙ (λ i. is i ++ (none i ++ []))

gained_begins : (ledger : SpanLedger) (k : ℕ) (held : Option Node) (s : Seat) (e : End) → e.view.taken ≡ [] → Begins ledger k held s → Begins ledger k held (gained s e)
gained_begins ledger k held s e none b = record {
  worker = b.worker;
  hand = b.hand;
  kept = b.kept;
  pushed_in_a_row = b.pushed_in_a_row;
  put = b.put;
  taken = none_more s.worker.own.view.taken s.worker.stealers e b.taken none;
  part = b.part;
  table = b.table;
  terms = b.terms;
  refusal = b.refusal;
  rounds = b.rounds;
  room = b.room;
}

module _ (ledger : SpanLedger) (root : Node) (n i j : ℕ) (ss qs : List Seat) (l : Linking ledger root n i j ss) (apart : i ≢ j) (x : Links i j ss qs) where
  abbrev r : Seat
  r = x.0

  abbrev s : Seat
  s = x.1

  abbrev mid : List Seat
  mid = slice_set ss j (lent r)

  abbrev stealer : End
  stealer = new_stealer r.worker

  abbrev end : List Seat
  end = slice_set mid i (gained s stealer)

  number : stealer.worker ≡ j
  number = (l.begin j r x.2).worker

  end_begin : AllBegin ledger root end
  end_begin = keep_each (λ k z. Begins ledger k (first_hand root k) z) mid i s (gained s stealer) x.3 (gained_begins ledger i (first_hand root i) s stealer refl)
      (keep_each (λ k z. Begins ledger k (first_hand root k) z) ss j r (lent r) x.2 (lent_begins ledger j (first_hand root j) r) l.begin)

  abbrev seen : Seat → SeatLinks
  seen z = ways z.worker

  end_linked : AreLinked end
  end_linked =
      let taker : slice_get (slice_set (ways_of_all ss) j (seen (lent r))) i ≡ Some (seen s) = ap (λ (ws : List SeatLinks). slice_get ws i) (sym (map_set seen ss j (lent r))) ∙ map_at seen mid i s x.3 in
      let all : ways_of_all end ≡ slice_set (slice_set (ways_of_all ss) j (seen (lent r))) i (seen (gained s stealer)) = map_set seen mid i (gained s stealer) ∙ ap (λ (ws : List SeatLinks). slice_set ws i (seen (gained s stealer))) (map_set seen ss j (lent r)) in
      subst Linked (sym all) (linked_more (ways_of_all ss) i j (seen r) (seen (lent r)) (seen s) (seen (gained s stealer)) (map_at seen ss j r x.2) refl refl refl taker refl refl (map_push place_of s.worker.stealers stealer) number l.linked)

  end_numbers : Numbers n i (suc j) end
  end_numbers k z e =
      let at_mid : Numbers n i j mid = keep_each (λ m y. stealer_numbers y ≡ numbers_so_far n i j m) ss j r (lent r) x.2 (λ p. p) l.numbers in elim (cases_eq k i) [
        | inl here ↦
            let is : gained s stealer ≡ z = one_some (slice_get end i) (gained s stealer) z (get_same mid i s (gained s stealer) x.3) (ap (slice_get end) (sym here) ∙ e) in
            let old : stealer_numbers s ≡ other_numbers j i = at_mid i s x.3 ∙ so_far_here n i j i refl in
            ap stealer_numbers (sym is)
            ∙ map_push (λ (y : End). y.worker) s.worker.stealers stealer
            ∙ (λ m. old m ++ number m ∷ [])
            ∙ sym (others_more j i (λ w. apart (sym w)))
            ∙ ap (other_numbers (suc j)) (sym here)
            ∙ sym (so_far_here n i (suc j) k here)
        | inr other ↦ at_mid k z (sym (get_other mid i k (gained s stealer) other) ∙ e) ∙ so_far_apart n i j (suc j) k other
      ]

  linked_one : Linking ledger root n i (suc j) qs
  linked_one = subst (Linking ledger root n i (suc j)) (sym x.4) (record {
    count = set_length mid i (gained s stealer) ∙ set_length ss j (lent r) ∙ l.count;
    begin = end_begin;
    linked = end_linked;
    numbers = end_numbers;
  })

pub linking_more : (ledger : SpanLedger) (root : Node) (n i j : ℕ) (ss qs : List Seat) → Linking ledger root n i j ss → LinksOther i j ss qs → Linking ledger root n i (j + 1) qs
linking_more ledger root n i j ss qs l x =
    let next : suc j ≡ j + 1 = omega arith in subst (λ (m : ℕ). Linking ledger root n i m qs) next (elim (cases_eq i j) [
      | inl same ↦ subst (Linking ledger root n i (suc j)) (sym (x.0 same)) (record { count = l.count; begin = l.begin; linked = l.linked; numbers = numbers_skip n i j ss same l.numbers })
      | inr apart ↦ linked_one ledger root n i j ss qs l apart (x.1 apart)
    ])

pub linking_next : (ledger : SpanLedger) (root : Node) (n i j : ℕ) (ss : List Seat) → j ≡ n → Linking ledger root n i j ss → Linking ledger root n (i + 1) 0 ss
linking_next ledger root n i j ss e l =
    let next : suc i ≡ i + 1 = omega arith in subst (λ (m : ℕ). Linking ledger root n m 0 ss) next (record {
      count = l.count;
      begin = l.begin;
      linked = l.linked;
      numbers = numbers_next n i ss (subst (λ (m : ℕ). Numbers n i m ss) e l.numbers);
    })

pub linked_whole : (ledger : SpanLedger) (root : Node) (n : ℕ) (ss : List Seat) → Linking ledger root n n 0 ss → HaveAllStealers ss
linked_whole ledger root n ss l k s e = l.numbers k s e ∙ so_far_below n n 0 k (omega (arith, l.count, within ss k s e)) ∙ ap (λ (m : ℕ). other_numbers m k) (sym l.count)

-- ---- in the words of the code: seat j was read as the default d or another, and seat i after it as d' or another
pub read_links : (ss : List Seat) (i j : ℕ) (d d' r s : Seat) (e : End) → i < length ss → j < length ss → r ≡ lent (get_or ss j d) → e ≡ new_stealer (get_or ss j d).worker → s ≡ gained (get_or (slice_set ss j r) i d') e
    → Links i j ss (slice_set (slice_set ss j r) i s)
read_links ss i j d d' r s e in_i in_j lends is gains =
    let from = get_or ss j d in
    let to = get_or (slice_set ss j (lent from)) i d' in (
      from,
      to,
      slice_get-get_or ss j d in_j,
      slice_get-get_or (slice_set ss j (lent from)) i d' (omega (arith, in_i, set_length ss j (lent from))),
      (λ k. slice_set (slice_set ss j (lends k)) i ((gains ∙ (λ m. gained (get_or (slice_set ss j (lends m)) i d') (is m))) k)),
    )

pub links_ok : {A E : Type 0} (r : Result A E) (P Q : Type 0) → OnOk r P → (P → Q) → OnOk r Q
links_ok (Ok x) P Q p f = f p
links_ok (Err e) P Q p f = tt
