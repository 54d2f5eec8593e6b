-- How many rounds seats make, by the acts of their work.
use Rattle.std.proofs.Common.{◌≡◌, inl, ℕ, suc, ◌+◌, ◌<◌, ◌≤◌, List, [], ◌∷◌, ◌++◌, length, map, Option, Some, None, option_to_list, slice_get, IsPermutation, refl, sym, ap, ◌∙◌, arith}
use Rattle.std.specs.List.{AllZip}
use Rattle.spec_trees.specs.declared.tree.Node.{Node}
use Rattle.spec_trees.specs.Tree.{Rules, leaf_of}
use Rattle.spec_pool.specs.declared.ledger.SeatHistory.{SeatHistory}
use Rattle.spec_pool.specs.Accounts.{Account, own}
use Rattle.spec_pool.specs.Acts.{Act, Put, Keep, Take, TakeTop, Enter, Does, History}
use Rattle.spec_pool.proofs.Weights.{weigh, weigh-flat, weigh-map, weigh-same, sum_is_weigh}
use Rattle.span_ledger.specs.declared.desk.SpanLedger.{SpanLedger}
use Rattle.steal_pool.specs.Rounds.{Counts, round, rounds_in, tally}
use Rattle.steal_pool.specs.Workers.{taken_by}
use Rattle.steal_pool.specs.Seats.{IsLike, Seat, Works, account, entered_by}
use Rattle.steal_pool.specs.Pools.{AllBegin, AreCounted, Begins, HasRoom, counters, first_hand, taken_of}
use Rattle.steal_pool.specs.Runs.{IsLater}
use Rattle.steal_pool.proofs.Accounts.{same_weights}
use Rattle.steal_pool.proofs.Entering.{counts_more}
use Rattle.steal_pool.proofs.Listing.{length_push, weigh_none}
use Rattle.steal_pool.proofs.Together.{hand_of_first, hand_of_other}

pub ones : {A : Type 0} (xs : List A) → weigh (λ (x : A). 1) xs ≡ length xs
ones [] = refl
ones (x ∷ xs) = omega (arith, ones xs)

pub same_count : {A : Type 0} (xs ys : List A) → IsPermutation xs ys → length xs ≡ length ys
same_count {A = A} xs ys p = sym (ones xs) ∙ same_weights (λ (x : A). 1) xs ys p ∙ ones ys

-- ---- one act, and some of them
own_some : (a : Account) (n : Node) → a.hand ≡ Some n → length (own a) ≡ 1 + length a.kept
own_some a n e = omega (arith, ap (λ (x : Option Node). length (option_to_list x ++ a.kept)) e)

pub own_none : (a : Account) → a.hand ≡ None → length (own a) ≡ length a.kept
own_none a e = ap (λ (x : Option Node). length (option_to_list x ++ a.kept)) e

act_tally : (t : Rules) (x : Act) (a b : Account) → Does t x a b → tally b + length a.taken ≡ tally a + length b.taken + round x
act_tally t (Put right) a b d = omega (
  arith,
  own_some a d.node d.in_hand,
  own_some b (t.parts d.node).0 (ap (λ (z : Account). z.hand) d.after),
  ap (λ (z : Account). length z.kept) d.after,
  ap (λ (z : Account). length z.put) d.after,
  length_push a.put right,
  ap (λ (z : Account). length z.taken) d.after,
  ap (λ (z : Account). length z.entered) d.after,
)
act_tally t Keep a b d = omega (
  arith,
  own_some a d.node d.in_hand,
  own_some b (t.parts d.node).0 (ap (λ (z : Account). z.hand) d.after),
  ap (λ (z : Account). length z.kept) d.after,
  length_push a.kept (t.parts d.node).1,
  ap (λ (z : Account). length z.put) d.after,
  ap (λ (z : Account). length z.taken) d.after,
  ap (λ (z : Account). length z.entered) d.after,
)
act_tally t (Take from node) a b d = omega (
  arith,
  own_none a d.empty,
  own_some b node (ap (λ (z : Account). z.hand) d.after),
  ap (λ (z : Account). length z.kept) d.after,
  ap (λ (z : Account). length z.put) d.after,
  ap (λ (z : Account). length z.taken) d.after,
  length_push a.taken node,
  ap (λ (z : Account). length z.entered) d.after,
)
act_tally t TakeTop a b d = omega (
  arith,
  own_none a d.empty,
  own_some b d.node (ap (λ (z : Account). z.hand) d.after),
  ap (λ (z : Account). length z.kept) d.after,
  ap length d.top,
  length_push d.rest d.node,
  ap (λ (z : Account). length z.put) d.after,
  ap (λ (z : Account). length z.taken) d.after,
  ap (λ (z : Account). length z.entered) d.after,
)
act_tally t (Enter leaf) a b (d, is) = omega (
  arith,
  own_some a d.node d.in_hand,
  own_none b (ap (λ (z : Account). z.hand) d.after),
  ap (λ (z : Account). length z.kept) d.after,
  ap (λ (z : Account). length z.put) d.after,
  ap (λ (z : Account). length z.taken) d.after,
  ap (λ (z : Account). length z.entered) d.after,
  length_push a.entered (leaf_of d.node d.mark),
)

history_tally : (t : Rules) (acts : List Act) (a b : Account) → History t a acts b → tally b + length a.taken ≡ tally a + length b.taken + rounds_in acts
history_tally t [] a b h = omega (arith, ap tally h, ap (λ (z : Account). length z.taken) h)
history_tally t (x ∷ acts) a b (mid, d, h) = omega (arith, act_tally t x a mid d, history_tally t acts mid b h)

like_tally : (a b : Account) → IsLike a b → tally b ≡ tally a
like_tally a b like =
    let same : length (own b) ≡ length (own a) = λ i. length (option_to_list (like.hand i) ++ like.kept i) in
    omega (arith, same, ap length like.put, same_count a.entered b.entered like.entered)

-- ---- a piece of a seat's work
record Tallied (s q : Seat) : Type 0 where
  rounds : ℕ
  sum : tally (account q) + length (taken_by s.worker) ≡ tally (account s) + length (taken_by q.worker) + rounds
  counts : Counts rounds s.rounds q.rounds

works_tally : (t : Rules) (s q : Seat) → Works t s q → Tallied s q
works_tally t s q (weighs, (acts, (changes, taken, counts))) = record {
  rounds = rounds_in acts;
  sum = omega (
    arith,
    history_tally t acts (account s) changes.0 changes.1,
    like_tally changes.0 (account q) changes.2,
    same_count changes.0.taken (account q).taken changes.2.taken,
  );
  counts = counts;
}

-- ---- all seats
abbrev pub Tell : List ℕ → List Seat → Type 0
Tell ns ss = AllZip (λ (n : ℕ) (shown : ℕ). Counts n 0 shown) ns (counters ss)

abbrev pub tallies : List Seat → ℕ
tallies ss = weigh (λ (s : Seat). tally (account s)) ss

abbrev takes : List Seat → ℕ
takes ss = weigh (λ (s : Seat). length (taken_by s.worker)) ss

takes_count : (ss : List Seat) → length (taken_of ss) ≡ takes ss
takes_count ss =
    sym (ones (taken_of ss))
    ∙ weigh-flat (λ (s : Seat). taken_by s.worker) (λ (n : Node). 1) ss
    ∙ weigh-same (λ (s : Seat). weigh (λ (n : Node). 1) (taken_by s.worker)) (λ (s : Seat). length (taken_by s.worker)) ss (λ s. ones (taken_by s.worker))

record Told (ns : List ℕ) (ss qs : List Seat) : Type 0 where
  rounds : List ℕ
  tell : Tell rounds qs
  sum : weigh (λ (n : ℕ). n) rounds + tallies ss + takes qs ≡ weigh (λ (n : ℕ). n) ns + tallies qs + takes ss

later_tell : (t : Rules) (ns : List ℕ) (ss qs : List Seat) → AllZip (IsLater t) ss qs → Tell ns ss → Told ns ss qs
later_tell t [] [] [] b c = record { rounds = []; tell = tt; sum = refl }
later_tell t (n ∷ ns) [] [] b c = absurd c
later_tell t ns [] (q ∷ qs) b c = absurd b
later_tell t ns (s ∷ ss) [] b c = absurd b
later_tell t [] (s ∷ ss) (q ∷ qs) b c = absurd c
later_tell t (n ∷ ns) (s ∷ ss) (q ∷ qs) b c =
    let one = works_tally t s q b.0.works in
    let rest = later_tell t ns ss qs b.1 c.1 in record {
      rounds = (n + one.rounds) ∷ rest.rounds;
      tell = (counts_more n one.rounds 0 s.rounds q.rounds c.0 one.counts, rest.tell);
      sum = omega (arith, one.sum, rest.sum);
    }

pub later_counted : (t : Rules) (ss qs : List Seat) → AllZip (IsLater t) ss qs → AreCounted ss → AreCounted qs
later_counted t ss qs b a =
    let told = later_tell t a.rounds ss qs b a.tell in record {
      rounds = told.rounds;
      tell = told.tell;
      sum = omega (
        arith,
        a.sum,
        told.sum,
        takes_count ss,
        takes_count qs,
        sum_is_weigh (λ (n : ℕ). n) a.rounds,
        sum_is_weigh (λ (n : ℕ). n) told.rounds,
        sum_is_weigh (λ (s : Seat). tally (account s)) ss,
        sum_is_weigh (λ (s : Seat). tally (account s)) qs,
      );
    }

-- ---- seats that begin
zeros : List Seat → List ℕ
zeros ss = map (λ (s : Seat). 0) ss

begin_tell : (ss : List Seat) → ((k : ℕ) (s : Seat) → slice_get ss k ≡ Some s → s.rounds ≡ 0) → Tell (zeros ss) ss
unfolding zeros
begin_tell [] each = tt
begin_tell (s ∷ ss) each =
    (record { most = omega (arith, each 0 s refl); least = inl (omega arith) }, begin_tell ss (λ k x at. each (suc k) x at))

zeros_weigh : (ss : List Seat) → weigh (λ (n : ℕ). n) (zeros ss) ≡ 0
unfolding zeros
zeros_weigh ss = weigh-map (λ (s : Seat). 0) (λ (n : ℕ). n) ss ∙ weigh_none (λ (s : Seat). 0) ss (λ k s at. refl)

begin_tally : (ledger : SpanLedger) (k : ℕ) (hand : Option Node) (s : Seat) → Begins ledger k hand s → tally (account s) ≡ length (option_to_list hand)
begin_tally ledger k hand s b =
    let has : length (own (account s)) ≡ length (option_to_list hand ++ []) = λ i. length (option_to_list (b.hand i) ++ b.kept i) in
    omega (arith, has, length_nil (option_to_list hand), ap length b.put, ap (λ (p : SeatHistory). length (entered_by p)) b.part)
  where
    length_nil : (xs : List Node) → length (xs ++ []) ≡ length xs
    length_nil [] = refl
    length_nil (x ∷ xs) = omega (arith, length_nil xs)

pub begin_counted : (ledger : SpanLedger) (root : Node) (ss : List Seat) → 0 < length ss → AllBegin ledger root ss → AreCounted ss
begin_counted ledger root [] some all = absurd (omega (arith, some))
begin_counted ledger root (s ∷ ss) some all = record {
  rounds = zeros (s ∷ ss);
  tell = begin_tell (s ∷ ss) (λ k x at. (all k x at).rounds);
  sum = omega (
    arith,
    takes_count (s ∷ ss),
    weigh_none (λ (x : Seat). length (taken_by x.worker)) (s ∷ ss) (λ k x at. ap length (all k x at).taken),
    sum_is_weigh (λ (n : ℕ). n) (zeros (s ∷ ss)),
    zeros_weigh (s ∷ ss),
    sum_is_weigh (λ (x : Seat). tally (account x)) (s ∷ ss),
    begin_tally ledger 0 (first_hand root 0) s (all 0 s refl),
    ap (λ (h : Option Node). length (option_to_list h)) (hand_of_first 0 root refl),
    weigh_none (λ (x : Seat). tally (account x)) ss (λ k x at. begin_tally ledger (suc k) (first_hand root (suc k)) x (all (suc k) x at) ∙ ap (λ (h : Option Node). length (option_to_list h)) (hand_of_other (suc k) root (omega arith))),
  );
}

pub begin_room : (ledger : SpanLedger) (root : Node) (ss : List Seat) → length ss ≤ 64 → AllBegin ledger root ss → HasRoom ss
begin_room ledger root ss few all = λ s at. let room : 64 ≤ s.room = (all 0 s at).room in omega (arith, few, room)
