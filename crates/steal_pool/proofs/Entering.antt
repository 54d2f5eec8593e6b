-- What entering a leaf, and putting a right part away, say of a seat's work, by what was answered.
use Rattle.std.proofs.Common.{◌≡◌, ◌⊎◌, ⊎_elim, inl, inr, ℕ, ◌+◌, ◌<◌, ◌≤◌, List, length, Some, None, refl, sym, ap, ◌∙◌, subst, arith, [], ◌∷◌, ◌++◌, IsPermutation}
use Rattle.std.proofs.lemmas.Bool.{cases_lt}
use Rattle.std.proofs.lemmas.List.Sorted.{IsPermutation-refl}
use Rattle.spec_trees.specs.declared.tree.Node.{Node}
use Rattle.spec_trees.specs.declared.tree.Leaf.{Leaf}
use Rattle.spec_trees.specs.declared.book.Booked.{Booked}
use Rattle.spec_trees.specs.Tree.{Rules, IsLeaf, IsSound, IsValid, leaves, mark_of}
use Rattle.spec_pool.specs.declared.ledger.SeatHistory.{SeatHistory}
use Rattle.spec_pool.specs.declared.ledger.Entry.{Entry}
use Rattle.spec_pool.specs.declared.ledger.Entry.TheVariants.{Entered, Again, Full, Memory}
use Rattle.spec_pool.specs.History.{Entering, Fresh, Tells, booked}
use Rattle.spec_pool.specs.Accounts.{Account, EntersNode}
use Rattle.spec_pool.proofs.Finding.{leaves_permuted}
use Rattle.spec_pool.proofs.Weights.{weigh-push}
use Rattle.steal_pool.specs.declared.worker.Pushed.{Pushed}
use Rattle.steal_pool.specs.declared.worker.Pushed.TheVariants as P
use Rattle.steal_pool.specs.Workers.{Holder, IsSplit, on_deque, on_stack, taken_by, with_hand}
use Rattle.steal_pool.specs.declared.seat.Stop.{Stop}
use Rattle.steal_pool.specs.declared.seat.Stop.TheVariants as S
use Rattle.steal_pool.specs.Rounds.{Counts, rounds_in, rounds_of_push}
use Rattle.steal_pool.specs.Seats.{IfFull, IsFullOf, IsLike, SameSeat, Seat, Works, account_of, entered_by, stop_at, ways, with_refusal}
use Rattle.steal_pool.proofs.Accounts.{entered_weigh, entered_weight}
use Rattle.steal_pool.proofs.Acting.{Worked, WorksBy, enter_works, idle_works, split_works, works_more}
use Rattle.steal_pool.proofs.Stopping.{some_stop}

-- ---- why a seat stops
no_leaf : (l : Leaf) → Some (S.Full l) ≡ Some S.Memory → ⊥
no_leaf l e = cc

same_leaf : (l leaf : Leaf) → Some (S.Full l) ≡ Some (S.Full leaf) → l ≡ leaf
same_leaf l leaf e = cc

-- ---- entering
module _ (limit : ℕ) (leaf : Leaf) (p q : SeatHistory) (r : Entry) (m : Entering limit leaf p q r) where
  told : (x : Entry) → r ≡ x → Tells limit m.log (booked leaf p.number) p q x
  told x e = subst (λ (y : Entry). Tells limit m.log (booked leaf p.number) p q y) e m.tells

  pub entered_more : (place : ℕ) → r ≡ Entered place → (h : Leaf → ℕ) → entered_weight h q ≡ entered_weight h p + h leaf
  entered_more place e h =
      let t = told (Entered place) e in omega (arith, ap (entered_weight h) t.2, weigh-push (λ (b : Booked). h b.leaf) p.mine (booked leaf p.number))

  pub again_more : (place : ℕ) → r ≡ Again place → (h : Leaf → ℕ) → entered_weight h q ≡ entered_weight h p + h leaf
  again_more place e h =
      let t = told (Again place) e in omega (arith, ap (entered_weight h) t.1, weigh-push h p.again leaf)

  pub full_same : r ≡ Full → (q.mine ≡ p.mine) × (q.again ≡ p.again)
  full_same e = let t = told Full e in (ap (λ (x : SeatHistory). x.mine) t.2, ap (λ (x : SeatHistory). x.again) t.2)

  pub full_seen : r ≡ Full → (limit ≤ length q.seen) × Fresh leaf q.seen
  full_seen e =
      let t = told Full e in
      let seen : q.seen ≡ m.log = ap (λ (x : SeatHistory). x.seen) t.2 in
      (subst (λ (l : List Booked). limit ≤ length l) (sym seen) t.1, subst (λ (l : List Booked). Fresh leaf l) (sym seen) t.0)

  pub memory_same : r ≡ Memory → (q.mine ≡ p.mine) × (q.again ≡ p.again)
  memory_same e = let t = told Memory e in (ap (λ (x : SeatHistory). x.mine) t, ap (λ (x : SeatHistory). x.again) t)

  stopped_same_by : (stop : Stop) (x : Entry) → r ≡ x → Some stop ≡ stop_at x leaf → (q.mine ≡ p.mine) × (q.again ≡ p.again)
  stopped_same_by stop (Entered place) e s = absurd (some_stop stop s)
  stopped_same_by stop (Again place) e s = absurd (some_stop stop s)
  stopped_same_by stop Full e s = full_same e
  stopped_same_by stop Memory e s = memory_same e

  pub stopped_same : (stop : Stop) → Some stop ≡ stop_at r leaf → (q.mine ≡ p.mine) × (q.again ≡ p.again)
  stopped_same stop s = stopped_same_by stop r refl s

  abbrev pub IsSeenFull : Leaf → Type 0
  IsSeenFull l = (l ≡ leaf) × (limit ≤ length q.seen) × Fresh leaf q.seen

  stopped_full_by : (l : Leaf) (x : Entry) → r ≡ x → Some (S.Full l) ≡ stop_at x leaf → IsSeenFull l
  stopped_full_by l (Entered place) e s = absurd (some_stop (S.Full l) s)
  stopped_full_by l (Again place) e s = absurd (some_stop (S.Full l) s)
  stopped_full_by l Full e s = let seen = full_seen e in (same_leaf l leaf s, seen.0, seen.1)
  stopped_full_by l Memory e s = absurd (no_leaf l s)

  pub stopped_full : (stop : Stop) → Some stop ≡ stop_at r leaf → IfFull stop IsSeenFull
  stopped_full (S.Full l) s = stopped_full_by l r refl s
  stopped_full S.Memory s = tt

  went_more_by : (x : Entry) → r ≡ x → None ≡ stop_at x leaf → (h : Leaf → ℕ) → entered_weight h q ≡ entered_weight h p + h leaf
  went_more_by (Entered place) e s = entered_more place e
  went_more_by (Again place) e s = again_more place e
  went_more_by Full e s = absurd (some_stop (S.Full leaf) (sym s))
  went_more_by Memory e s = absurd (some_stop S.Memory (sym s))

  pub went_more : None ≡ stop_at r leaf → (h : Leaf → ℕ) → entered_weight h q ≡ entered_weight h p + h leaf
  went_more s = went_more_by r refl s

  kept_number_by : (x : Entry) → r ≡ x → q.number ≡ p.number
  kept_number_by (Entered place) e = ap (λ (h : SeatHistory). h.number) (told (Entered place) e).2
  kept_number_by (Again place) e = ap (λ (h : SeatHistory). h.number) (told (Again place) e).1
  kept_number_by Full e = ap (λ (h : SeatHistory). h.number) (told Full e).2
  kept_number_by Memory e = ap (λ (h : SeatHistory). h.number) (told Memory e)

  pub kept_number : q.number ≡ p.number
  kept_number = kept_number_by r refl

pub full_of : (t : Rules) (s : Seat) (leaf l : Leaf) → s.worker.hand ≡ Some leaf.node → mark_of (t.verdict leaf.node) ≡ Some leaf.mark → leaves t leaf.node ≡ leaf ∷ []
    → (l ≡ leaf) × (s.terms.limit ≤ length s.part.seen) × Fresh leaf s.part.seen → IsFullOf t l s
full_of t s leaf l hand marked one seen =
    subst (λ (x : Leaf). IsFullOf t x s) (sym seen.0) (record { hand = hand; marked = marked; leaves = one; limit = seen.1; fresh = seen.2 })

pub if_full : (stop : Stop) (P Q : Leaf → Type 0) → IfFull stop P → ((l : Leaf) → P l → Q l) → IfFull stop Q
if_full (S.Full l) P Q p f = f l p
if_full S.Memory P Q p f = tt

pub leaf_works : (t : Rules) (w v : Holder) (p q : SeatHistory) (leaf : Leaf) → IsSound t → IsLeaf t leaf → w.hand ≡ Some leaf.node → v ≡ with_hand w None → ((h : Leaf → ℕ) → entered_weight h q ≡ entered_weight h p + h leaf) → Worked t 1 w p v q
leaf_works t w v p q leaf sound is hand e more = enter_works t w v p q leaf.node leaf.mark sound is.valid is.marked hand e more

-- entering is the step of the model of the pool
pub leaf_enters : (t : Rules) (w v : Holder) (p q : SeatHistory) (leaf : Leaf) → IsLeaf t leaf → w.hand ≡ Some leaf.node → v ≡ with_hand w None → ((h : Leaf → ℕ) → entered_weight h q ≡ entered_weight h p + h leaf)
    → (b : Account) × EntersNode t (account_of w p) b × IsLike b (account_of v q)
leaf_enters t w v p q leaf is hand e more = (
  record { hand = None; kept = w.kept; put = w.own.view.put; taken = taken_by w; entered = entered_by p ++ leaf ∷ [] },
  record { node = leaf.node; mark = leaf.mark; in_hand = hand; marked = is.marked; after = refl },
  record {
    hand = ap (λ (u : Holder). u.hand) e;
    kept = ap (λ (u : Holder). u.kept) e;
    put = ap (λ (u : Holder). u.own.view.put) e;
    taken = subst (λ (ns : List Node). IsPermutation (taken_by w) ns) (sym (ap taken_by e)) (IsPermutation-refl (taken_by w));
    entered = leaves_permuted (entered_by p ++ leaf ∷ []) (entered_by q) (λ h. omega (arith, more h, weigh-push h (entered_by p) leaf, entered_weigh h p, entered_weigh h q));
  },
)

pub same_works : (t : Rules) (w : Holder) (p q : SeatHistory) → (q.mine ≡ p.mine) × (q.again ≡ p.again) → Worked t 0 w p w q
same_works t w p q e = idle_works t w p w q refl refl refl refl e.0 e.1

-- ---- putting a right part away
pub push_works : (t : Rules) (w v : Holder) (p : SeatHistory) (left right : Node) → IsSound t → ((n : Node) → w.hand ≡ Some n → IsValid t n) → IsSplit t w left right
    → (r : Pushed) → (r ≡ P.OnDeque → v ≡ on_deque w left right) → (r ≡ P.Kept → v ≡ on_stack w left right) → ((n : Node) → r ≡ P.Memory n → (n ≡ right) × (v ≡ w)) → Worked t (rounds_of_push r) w p v p
push_works t w v p left right sound valid split P.OnDeque deque kept memory = split_works t w v p left right sound valid split (inl (deque refl))
push_works t w v p left right sound valid split P.Kept deque kept memory = split_works t w v p left right sound valid split (inr (kept refl))
push_works t w v p left right sound valid split (P.Memory n) deque kept memory =
    let e = (memory n refl).1 in
    subst (λ (u : Holder). Worked t 0 w p u p) (sym e) (same_works t w p p (refl, refl))

pub kept_when_full : (n : ℕ) (r : Pushed) → (n < 64 → r ≡ P.OnDeque) → r ≡ P.Kept → 64 ≤ n
kept_when_full n r first kept = ⊎_elim (λ less. absurd (not_both (sym (first less) ∙ kept))) (λ full. full) (cases_lt n 64)
  where
    not_both : P.OnDeque ≡ P.Kept → ⊥
    not_both e = cc

-- ---- pieces of a seat's work
pub same_more : (a b c : Seat) → SameSeat a b → SameSeat b c → SameSeat a c
same_more a b c x y = record { ways = y.ways ∙ x.ways; table = y.table ∙ x.table; terms = y.terms ∙ x.terms; number = y.number ∙ x.number; room = y.room ∙ x.room }

pub same_refused : (a b c : Seat) (e : _) → SameSeat a b → c ≡ with_refusal b e → SameSeat a c
same_refused a b c e x is = record {
  ways = ap (λ (s : Seat). ways s.worker) is ∙ x.ways;
  table = ap (λ (s : Seat). s.table) is ∙ x.table;
  terms = ap (λ (s : Seat). s.terms) is ∙ x.terms;
  number = ap (λ (s : Seat). s.part.number) is ∙ x.number;
  room = ap (λ (s : Seat). s.room) is ∙ x.room;
}

-- a counter that stays, and one that goes on
pub counts_none : (a : ℕ) → Counts 0 a a
counts_none a = record { most = omega arith; least = inl (omega arith) }

pub counts_more : (m n a b c : ℕ) → Counts m a b → Counts n b c → Counts (m + n) a c
counts_more m n a b c x y = record { most = omega (arith, x.most, y.most); least = by x.least y.least }
  where
    by : (a + m ≤ b) ⊎ (18446744073709551615 ≤ b) → (b + n ≤ c) ⊎ (18446744073709551615 ≤ c) → (a + (m + n) ≤ c) ⊎ (18446744073709551615 ≤ c)
    by u (inr full) = inr full
    by (inl f) (inl g) = inl (omega (arith, f, g))
    by (inr full) (inl g) = inr (omega (arith, full, g))

-- a piece of work of so many rounds, and a counter that tells them
pub counted_works : (t : Rules) (n : ℕ) (w : Holder) (p : SeatHistory) (a : ℕ) (v : Holder) (q : SeatHistory) (b : ℕ) → Worked t n w p v q → Counts n a b → WorksBy t w p a v q b
counted_works t n w p a v q b (weighs, (acts, ((acted, taken), is))) counts =
    (weighs, (acts, (acted, taken, subst (λ (k : ℕ). Counts k a b) (sym is) counts)))

pub seat_idle : (t : Rules) (s : Seat) → Works t s s
seat_idle t s = counted_works t 0 s.worker s.part s.rounds s.worker s.part s.rounds (same_works t s.worker s.part s.part (refl, refl)) (counts_none s.rounds)

pub seat_more : (t : Rules) (a b c : Seat) → Works t a b → Works t b c → Works t a c
seat_more t a b c (x, (xs, (f, d, m))) (y, (ys, (g, e, n))) =
    counted_works t (rounds_in xs + rounds_in ys) a.worker a.part a.rounds c.worker c.part c.rounds
    (works_more t (rounds_in xs) (rounds_in ys) a.worker a.part b.worker b.part c.worker c.part (x, (xs, ((f, d), refl))) (y, (ys, ((g, e), refl))))
    (counts_more (rounds_in xs) (rounds_in ys) a.rounds b.rounds c.rounds m n)

pub seat_refused : (t : Rules) (a b c d : Seat) (e : _) → Works t a b → Works t b c → d ≡ with_refusal c e → Works t a d
seat_refused t a b c d e x y is = subst (λ (s : Seat). Works t a s) (sym is) (seat_more t a b c x y)
