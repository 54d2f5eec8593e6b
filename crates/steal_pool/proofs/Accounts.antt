-- What each step does to the account of a seat, and that work balances.
use Rattle.std.proofs.Common.{◌≡◌, ◌⊎◌, inl, inr, ℕ, zero, suc, ◌+◌, List, [], ◌∷◌, ◌++◌, map, flat_map, Some, None, IsPermutation, option_to_list, slice_get, slice_set, append_assoc, refl, sym, ap, ◌∙◌, arith}
use Rattle.std.proofs.lemmas.List.{append-nil}
use Rattle.std.proofs.lemmas.List.Sorted.{sum_by-IsPermutation, IsPermutation-refl}
use Rattle.spec_trees.specs.declared.tree.Node.{Node}
use Rattle.spec_trees.specs.declared.tree.Leaf.{Leaf}
use Rattle.spec_trees.specs.declared.tree.Mark.{Mark}
use Rattle.spec_trees.specs.declared.tree.Verdict.TheVariants.{Split}
use Rattle.spec_trees.specs.declared.book.Booked.{Booked}
use Rattle.spec_trees.specs.Tree.{Rules, IsValid, IsSound, leaf_of, leaves, mark_of}
use Rattle.spec_trees.proofs.Leaves.{leaves_settled, leaves_split}
use Rattle.spec_pool.specs.declared.ledger.SeatHistory.{SeatHistory}
use Rattle.spec_pool.specs.Accounts.{Account, Balances, PutsRight, KeepsRight, leaves_of, own}
use Rattle.spec_pool.proofs.Balancing.{by_leaves}
use Rattle.spec_pool.proofs.Finding.{nodes_permuted, leaves_permuted}
use Rattle.spec_pool.proofs.Hands.{weigh_hand, hand_weigh}
use Rattle.spec_pool.proofs.Weights.{weigh, weigh-append, weigh-push, weigh-flat, weigh-map, weigh-set, sum_is_weigh}
use Rattle.steal_pool.specs.Rule.{DequeId, End, takes_one}
use Rattle.steal_pool.specs.Workers.{Holder, taken_by, after_empty_pop, on_deque, on_stack, with_hand, IsSplit, IsRight, TookOne, Takes, TakesInOrder, TakesOwn, TakesOther}
use Rattle.steal_pool.specs.Seats.{IsLike, account_of, entered_by, Gets, place_of, rules_within, ways, ways_of}

-- ---- weights of an account
pub same_weights : {A : Type 0} (h : A → ℕ) (xs ys : List A) → IsPermutation xs ys → weigh h xs ≡ weigh h ys
same_weights h xs ys p = omega (arith, sum_by-IsPermutation h xs ys p, sum_is_weigh h xs, sum_is_weigh h ys)

abbrev pub taken_weight : (Node → ℕ) → Holder → ℕ
taken_weight h w = weigh h w.own.view.taken + weigh (λ (e : End). weigh h e.view.taken) w.stealers

abbrev pub entered_weight : (Leaf → ℕ) → SeatHistory → ℕ
entered_weight h p = weigh (λ (e : Booked). h e.leaf) p.mine + weigh h p.again

abbrev pub own_weight : Rules → (Leaf → ℕ) → Holder → ℕ
own_weight t h w = weigh_hand (by_leaves t h) w.hand + weigh (by_leaves t h) w.kept

pub taken_weigh : (h : Node → ℕ) (w : Holder) → weigh h (taken_by w) ≡ taken_weight h w
taken_weigh h w =
    omega (arith, weigh-append h w.own.view.taken (flat_map (λ (e : End). e.view.taken) w.stealers), weigh-flat (λ (e : End). e.view.taken) h w.stealers)

pub entered_weigh : (h : Leaf → ℕ) (p : SeatHistory) → weigh h (entered_by p) ≡ entered_weight h p
entered_weigh h p =
    omega (arith, weigh-append h (map (λ (e : Booked). e.leaf) p.mine) p.again, weigh-map (λ (e : Booked). e.leaf) h p.mine)

-- ---- a piece of work by weights
abbrev pub Does : Rules → Holder → SeatHistory → Holder → SeatHistory → List Node → List Node → List Leaf → Type 0
Does t w p v q put taken entered =
    (v.own.view.put ≡ w.own.view.put ++ put)
    × ((h : Node → ℕ) → taken_weight h v ≡ taken_weight h w + weigh h taken)
    × ((h : Leaf → ℕ) → entered_weight h q ≡ entered_weight h p + weigh h entered)
    × ((h : Leaf → ℕ) → own_weight t h w + weigh (by_leaves t h) taken ≡ weigh h entered + weigh (by_leaves t h) put + own_weight t h v)

abbrev pub Weighs : Rules → Holder → SeatHistory → Holder → SeatHistory → Type 0
Weighs t w p v q = (b : Account) × Balances t (account_of w p) b × IsLike b (account_of v q)

own_weigh : (t : Rules) (h : Leaf → ℕ) (a : Account) → weigh h (leaves_of t (own a)) ≡ weigh_hand (by_leaves t h) a.hand + weigh (by_leaves t h) a.kept
own_weigh t h a =
    omega (arith, weigh-flat (leaves t) h (own a), weigh-append (by_leaves t h) (option_to_list a.hand) a.kept, hand_weigh (by_leaves t h) a.hand)

-- both sides of the balance weigh so
left_weigh : (t : Rules) (h : Leaf → ℕ) (a : Account) (taken : List Node) → weigh h (leaves_of t (own a) ++ leaves_of t taken) ≡ (weigh_hand (by_leaves t h) a.hand + weigh (by_leaves t h) a.kept) + weigh (by_leaves t h) taken
left_weigh t h a taken =
    omega (arith, weigh-append h (leaves_of t (own a)) (leaves_of t taken), own_weigh t h a, weigh-flat (leaves t) h taken)

right_weigh : (t : Rules) (h : Leaf → ℕ) (b : Account) (put : List Node) (entered : List Leaf) → weigh h (entered ++ leaves_of t put ++ leaves_of t (own b)) ≡ weigh h entered + weigh (by_leaves t h) put + (weigh_hand (by_leaves t h) b.hand + weigh (by_leaves t h) b.kept)
right_weigh t h b put entered = omega (
  arith,
  weigh-append h (entered ++ leaves_of t put) (leaves_of t (own b)),
  weigh-append h entered (leaves_of t put),
  own_weigh t h b,
  weigh-flat (leaves t) h put,
)

module _ (t : Rules) (w : Holder) (p : SeatHistory) (v : Holder) (q : SeatHistory) where
  after : List Node → List Leaf → Account
  after taken entered = record { hand = v.hand; kept = v.kept; put = v.own.view.put; taken = taken_by w ++ taken; entered = entered_by p ++ entered }

  pub works : (put taken : List Node) (entered : List Leaf) → Does t w p v q put taken entered → Weighs t w p v q
  unfolding after
  works put taken entered d = (
    after taken entered,
    record {
      put = put;
      taken = taken;
      entered = entered;
      put_is = d.0;
      taken_is = refl;
      entered_is = refl;
      same = leaves_permuted (leaves_of t (own (account_of w p)) ++ leaves_of t taken) (entered ++ leaves_of t put ++ leaves_of t (own (after taken entered)))
          (λ h. omega (arith, d.3 h, left_weigh t h (account_of w p) taken, right_weigh t h (after taken entered) put entered));
    },
    record {
      hand = refl;
      kept = refl;
      put = refl;
      taken = nodes_permuted (taken_by w ++ taken) (taken_by v) (λ h. omega (arith, d.1 h, weigh-append h (taken_by w) taken, taken_weigh h w, taken_weigh h v));
      entered = leaves_permuted (entered_by p ++ entered) (entered_by q) (λ h. omega (arith, d.2 h, weigh-append h (entered_by p) entered, entered_weigh h p, entered_weigh h q));
    },
  )

  pub does : Weighs t w p v q → (put : List Node) × (taken : List Node) × (entered : List Leaf) × Does t w p v q put taken entered
  does (b, m, like) = (
    m.put,
    m.taken,
    m.entered,
    (
      like.put ∙ m.put_is,
      (λ h. omega (arith, same_weights h b.taken (taken_by v) like.taken, ap (weigh h) m.taken_is, weigh-append h (taken_by w) m.taken, taken_weigh h w, taken_weigh h v)),
      (λ h. omega (arith, same_weights h b.entered (entered_by q) like.entered, ap (weigh h) m.entered_is, weigh-append h (entered_by p) m.entered, entered_weigh h p, entered_weigh h q)),
      (λ h. omega (
        arith,
        same_weights h (leaves_of t (own (account_of w p)) ++ leaves_of t m.taken) (m.entered ++ leaves_of t m.put ++ leaves_of t (own b)) m.same,
        left_weigh t h (account_of w p) m.taken,
        right_weigh t h b m.put m.entered,
        ap (weigh_hand (by_leaves t h)) like.hand,
        ap (weigh (by_leaves t h)) like.kept,
      )),
    ),
  )

pub works_more : (t : Rules) (w : Holder) (p : SeatHistory) (v : Holder) (q : SeatHistory) (u : Holder) (r : SeatHistory) → Weighs t w p v q → Weighs t v q u r → Weighs t w p u r
works_more t w p v q u r a b =
    let x = does t w p v q a in
    let y = does t v q u r b in
    let d = x.3 in
    let e = y.3 in
    works t w p u r (x.0 ++ y.0) (x.1 ++ y.1) (x.2 ++ y.2) (
      e.0 ∙ (ap (λ (l : List Node). l ++ y.0) d.0 ∙ append_assoc w.own.view.put x.0 y.0),
      (λ h. omega (arith, d.1 h, e.1 h, weigh-append h x.1 y.1)),
      (λ h. omega (arith, d.2 h, e.2 h, weigh-append h x.2 y.2)),
      (λ h. omega (
        arith,
        d.3 h,
        e.3 h,
        weigh-append (by_leaves t h) x.0 y.0,
        weigh-append (by_leaves t h) x.1 y.1,
        weigh-append h x.2 y.2,
      )),
    )

-- nothing but the part's other lists, and the count of nodes put, has changed
pub idle_works : (t : Rules) (w : Holder) (p : SeatHistory) (v : Holder) (q : SeatHistory) → v.own ≡ w.own → v.stealers ≡ w.stealers → v.hand ≡ w.hand → v.kept ≡ w.kept → q.mine ≡ p.mine → q.again ≡ p.again → Weighs t w p v q
idle_works t w p v q own stealers hand kept mine again = works t w p v q [] [] [] (
  ap (λ (e : End). e.view.put) own ∙ sym (append-nil w.own.view.put),
  (λ h. omega (arith, ap (λ (e : End). weigh h e.view.taken) own, ap (weigh (λ (e : End). weigh h e.view.taken)) stealers)),
  (λ h. omega (arith, ap (weigh (λ (e : Booked). h e.leaf)) mine, ap (weigh h) again)),
  (λ h. omega (arith, ap (weigh_hand (by_leaves t h)) hand, ap (weigh (by_leaves t h)) kept)),
)

-- ---- the steps
pub like_itself : (a : Account) → IsLike a a
like_itself a = record { hand = refl; kept = refl; put = refl; taken = IsPermutation-refl a.taken; entered = IsPermutation-refl a.entered }

pub is_split : (t r : Rules) (root : Node) (w : Holder) (node left right : Node) → t ≡ rules_within r root → IsRight t w right → w.hand ≡ Some node → left ≡ (r.parts node).0 → IsSplit t w left right
is_split t r root w node left right e (n, hand, split, part) held is =
    let same : node ≡ n = some_same node n (sym held ∙ hand) in
    let one : (t.parts n).0 ≡ left = ap (λ (s : Rules). (s.parts n).0) e ∙ (ap (λ (m : Node). (r.parts m).0) (sym same) ∙ sym is) in
    (n, hand, split, λ i. (one i, sym part i))
  where
    some_same : (x y : Node) → Some x ≡ Some y → x ≡ y
    some_same x y f = cc

pub puts_right : (t : Rules) (w v : Holder) (p : SeatHistory) (left right : Node) → IsSplit t w left right → v ≡ on_deque w left right → PutsRight t right (account_of w p) (account_of v p)
puts_right t w v p left right (n, hand, split, parts) e = record {
  node = n;
  in_hand = hand;
  split = split;
  part = ap (λ (y : Node × Node). y.1) (sym parts);
  after = ap (λ (u : Holder). account_of u p) e ∙ ap (λ (y : Node × Node). account_of (on_deque w y.0 right) p) (sym parts);
}

pub keeps_right : (t : Rules) (w v : Holder) (p : SeatHistory) (left right : Node) → IsSplit t w left right → v ≡ on_stack w left right → KeepsRight t (account_of w p) (account_of v p)
keeps_right t w v p left right (n, hand, split, parts) e = record {
  node = n;
  in_hand = hand;
  split = split;
  after = ap (λ (u : Holder). account_of u p) e ∙ ap (λ (y : Node × Node). account_of (on_stack w y.0 y.1) p) (sym parts);
}

-- the same of a seat whose right part is given
module _ (t r : Rules) (root : Node) (w v : Holder) (p : SeatHistory) (node left right : Node) (named : t ≡ rules_within r root) (is : IsRight t w right) (held : w.hand ≡ Some node) (part : left ≡ (r.parts node).0) where
  pub split_changes : (R : Account → Account → Type 0) → (IsSplit t w left right → R (account_of w p) (account_of v p)) → (b : Account) × R (account_of w p) b × IsLike b (account_of v p)
  split_changes R goes = (account_of v p, goes (is_split t r root w node left right named is held part), like_itself (account_of v p))

other_taken : (h : Node → ℕ) (n : Node) (es fs : List End) → TookOne n es fs → weigh (λ (e : End). weigh h e.view.taken) fs ≡ weigh (λ (e : End). weigh h e.view.taken) es + h n
other_taken h n es fs (k, e, at, is) = omega (
  arith,
  ap (weigh (λ (x : End). weigh h x.view.taken)) is,
  weigh-set (λ (x : End). weigh h x.view.taken) es k e (takes_one e n) at,
  weigh-append h e.view.taken (n ∷ []),
)

-- what a node that was taken from a deque weighs
pub taken_more : (h : Node → ℕ) (n : Node) (w v : Holder) → TakesOwn n w v ⊎ TakesOther n (after_empty_pop w) v → taken_weight h v ≡ taken_weight h w + h n
taken_more h n w v (inl e) = omega (arith, ap (taken_weight h) e, weigh-append h w.own.view.taken (n ∷ []))
taken_more h n w v (inr (es, took, e)) = omega (arith, ap (taken_weight h) e, other_taken h n w.stealers es took)

node_of : Holder → Node → List Node → SeatHistory → Account
node_of w n taken p = record { hand = Some n; kept = w.kept; put = w.own.view.put; taken = taken; entered = entered_by p }

from_deque : (n : Node) (w v : Holder) (p : SeatHistory) → w.hand ≡ None → v.hand ≡ Some n → v.kept ≡ w.kept → v.own.view.put ≡ w.own.view.put → TakesOwn n w v ⊎ TakesOther n (after_empty_pop w) v
    → (b : Account) × Gets n (account_of w p) b × IsLike b (account_of v p)
unfolding node_of
from_deque n w v p none hand kept put takes = (
  node_of w n (taken_by w ++ n ∷ []) p,
  (refl, inr (record { empty = none; after = refl })),
  record {
    hand = hand;
    kept = kept;
    put = put;
    taken = nodes_permuted (taken_by w ++ n ∷ []) (taken_by v) (λ h. omega (arith, taken_more h n w v takes, taken_weigh h w, taken_weigh h v, weigh-append h (taken_by w) (n ∷ [])));
    entered = IsPermutation-refl (entered_by p);
  },
)

gets_in_order : (n : Node) (w v : Holder) (p : SeatHistory) → w.hand ≡ None → TakesInOrder n w v → (b : Account) × Gets n (account_of w p) b × IsLike b (account_of v p)
gets_in_order n w v p none (inl (rest, top, e)) = (
  account_of v p,
  (
    ap (λ (u : Holder). u.hand) e,
    inl (record { node = n; rest = rest; empty = none; top = top; after = ap (λ (u : Holder). account_of u p) e }),
  ),
  like_itself (account_of v p),
)
gets_in_order n w v p none (inr (inl (empty, oldest, e))) = from_deque n w v p none (ap (λ (u : Holder). u.hand) e) (ap (λ (u : Holder). u.kept) e) (ap (λ (u : Holder). u.own.view.put) e) (inl e)
gets_in_order n w v p none (inr (inr (empty, used, (es, took, e)))) = from_deque n w v p none (ap (λ (u : Holder). u.hand) e) (ap (λ (u : Holder). u.kept) e) (ap (λ (u : Holder). u.own.view.put) e) (inr (es, took, e))

pub gets : (n : Node) (w v : Holder) (p : SeatHistory) → w.hand ≡ None → Takes n w v → (b : Account) × Gets n (account_of w p) b × IsLike b (account_of v p)
gets n w v p none (inl t) = gets_in_order n w v p none t
gets n w v p none (inr (inl (filled, oldest, e))) = from_deque n w v p none (ap (λ (u : Holder). u.hand) e) (ap (λ (u : Holder). u.kept) e) (ap (λ (u : Holder). u.own.view.put) e) (inl e)
gets n w v p none (inr (inr (filled, used, t))) = gets_in_order n (after_empty_pop w) v p none t

-- ---- each balances
own_works : (t : Rules) (n : Node) (w v : Holder) (p : SeatHistory) → w.hand ≡ None → TakesOwn n w v → Weighs t w p v p
own_works t n w v p none e = works t w p v p [] (n ∷ []) [] (
  ap (λ (u : Holder). u.own.view.put) e ∙ sym (append-nil w.own.view.put),
  (λ h. omega (arith, taken_more h n w v (inl e))),
  (λ h. omega arith),
  (λ h. omega (arith, ap (own_weight t h) e, ap (weigh_hand (by_leaves t h)) none)),
)

in_order_works : (t : Rules) (n : Node) (w v : Holder) (p : SeatHistory) → w.hand ≡ None → TakesInOrder n w v → Weighs t w p v p
in_order_works t n w v p none (inl (rest, top, e)) = works t w p v p [] [] [] (
  ap (λ (u : Holder). u.own.view.put) e ∙ sym (append-nil w.own.view.put),
  (λ h. omega (arith, ap (taken_weight h) e)),
  (λ h. omega arith),
  (λ h. omega (arith, ap (own_weight t h) e, ap (weigh_hand (by_leaves t h)) none, ap (weigh (by_leaves t h)) top, weigh-push (by_leaves t h) rest n)),
)
in_order_works t n w v p none (inr (inl (empty, oldest, e))) = own_works t n w v p none e
in_order_works t n w v p none (inr (inr (empty, used, (es, took, e)))) = works t w p v p [] (n ∷ []) [] (
  ap (λ (u : Holder). u.own.view.put) e ∙ sym (append-nil w.own.view.put),
  (λ h. omega (arith, taken_more h n w v (inr (es, took, e)))),
  (λ h. omega arith),
  (λ h. omega (arith, ap (own_weight t h) e, ap (weigh_hand (by_leaves t h)) none)),
)

pub takes_works : (t : Rules) (n : Node) (w v : Holder) (p : SeatHistory) → w.hand ≡ None → Takes n w v → Weighs t w p v p
takes_works t n w v p none (inl o) = in_order_works t n w v p none o
takes_works t n w v p none (inr (inl (filled, oldest, e))) = own_works t n w v p none e
takes_works t n w v p none (inr (inr (filled, used, o))) = in_order_works t n (after_empty_pop w) v p none o

split_weigh : (t : Rules) → IsSound t → (n left right : Node) → IsValid t n → t.verdict n ≡ Split → t.parts n ≡ (left, right) → (h : Leaf → ℕ) → by_leaves t h n ≡ by_leaves t h left + by_leaves t h right
split_weigh t sound n left right v e parts h = omega (
  arith,
  ap (weigh h) (leaves_split t sound n v e),
  weigh-append h (leaves t (t.parts n).0) (leaves t (t.parts n).1),
  ap (λ (y : Node × Node). by_leaves t h y.0) parts,
  ap (λ (y : Node × Node). by_leaves t h y.1) parts,
)

pub split_works : (t : Rules) (w v : Holder) (p : SeatHistory) (left right : Node) → IsSound t → ((n : Node) → w.hand ≡ Some n → IsValid t n) → IsSplit t w left right → (v ≡ on_deque w left right) ⊎ (v ≡ on_stack w left right) → Weighs t w p v p
split_works t w v p left right sound valid (n, hand, split, parts) (inl e) = works t w p v p (right ∷ []) [] [] (
  ap (λ (u : Holder). u.own.view.put) e,
  (λ h. omega (arith, ap (taken_weight h) e)),
  (λ h. omega arith),
  (λ h. omega (arith, ap (own_weight t h) e, ap (weigh_hand (by_leaves t h)) hand, split_weigh t sound n left right (valid n hand) split parts h)),
)
split_works t w v p left right sound valid (n, hand, split, parts) (inr e) = works t w p v p [] [] [] (
  ap (λ (u : Holder). u.own.view.put) e ∙ sym (append-nil w.own.view.put),
  (λ h. omega (arith, ap (taken_weight h) e)),
  (λ h. omega arith),
  (λ h. omega (arith, ap (own_weight t h) e, ap (weigh_hand (by_leaves t h)) hand, split_weigh t sound n left right (valid n hand) split parts h, weigh-push (by_leaves t h) w.kept right)),
)

-- a leaf is entered
pub enter_works : (t : Rules) (w v : Holder) (p q : SeatHistory) (n : Node) (m : Mark) → IsSound t → IsValid t n → mark_of (t.verdict n) ≡ Some m → w.hand ≡ Some n → v ≡ with_hand w None
    → ((h : Leaf → ℕ) → entered_weight h q ≡ entered_weight h p + h (leaf_of n m)) → Weighs t w p v q
enter_works t w v p q n m sound valid marked hand e entered = works t w p v q [] [] (leaf_of n m ∷ []) (
  ap (λ (u : Holder). u.own.view.put) e ∙ sym (append-nil w.own.view.put),
  (λ h. omega (arith, ap (taken_weight h) e)),
  (λ h. omega (arith, entered h)),
  (λ h. omega (arith, ap (own_weight t h) e, ap (weigh_hand (by_leaves t h)) hand, ap (weigh h) (leaves_settled t sound n valid m marked))),
)

-- ---- what stays
places_set : (es : List End) (k : ℕ) (e f : End) → slice_get es k ≡ Some e → place_of f ≡ place_of e → map place_of (slice_set es k f) ≡ map place_of es
places_set [] k e f at same = absurd cc
places_set (x ∷ es) zero e f at same = let is : x ≡ e = cc in ap (λ (y : ℕ × DequeId). y ∷ map place_of es) (same ∙ ap place_of (sym is))
places_set (x ∷ es) (suc k) e f at same = ap (λ (ys : List (ℕ × DequeId)). place_of x ∷ ys) (places_set es k e f at same)

in_order_ways : (n : Node) (w v : Holder) → TakesInOrder n w v → ways v ≡ ways w
in_order_ways n w v (inl (rest, top, e)) = ap ways e
in_order_ways n w v (inr (inl (empty, oldest, e))) = ap ways e
in_order_ways n w v (inr (inr (empty, used, (es, (k, x, at, is), e)))) =
    ap ways e ∙ ap (λ (ys : List (ℕ × DequeId)). ways_of (place_of w.own) w.own.view.made ys)
    (ap (map place_of) is ∙ places_set w.stealers k x (takes_one x n) at refl)

pub takes_ways : (n : Node) (w v : Holder) → Takes n w v → ways v ≡ ways w
takes_ways n w v (inl o) = in_order_ways n w v o
takes_ways n w v (inr (inl (filled, oldest, e))) = ap ways e
takes_ways n w v (inr (inr (filled, used, o))) = in_order_ways n (after_empty_pop w) v o
