-- Work is acts, one after the other.
use Rattle.std.proofs.Common.{◌≡◌, ◌⊎◌, inl, inr, ℕ, ◌+◌, ◌==◌, Bool, true, false, if◌then◌else◌, List, [], ◌∷◌, ◌++◌, map, flat_map, Some, None, slice_get, slice_set, IsPermutation, refl, sym, ap, ◌∙◌, subst, arith}
use Rattle.std.proofs.lemmas.List.{append-nil, append_cancel_left}
use Rattle.std.proofs.lemmas.Grind.{flat_map-append}
use Rattle.std.proofs.lemmas.List.Sorted.{IsPermutation-refl, IsPermutation-trans, IsPermutation-append_left}
use Rattle.spec_trees.specs.declared.tree.Node.{Node}
use Rattle.spec_trees.specs.declared.tree.Leaf.{Leaf}
use Rattle.spec_trees.specs.declared.tree.Mark.{Mark}
use Rattle.spec_trees.specs.declared.book.Booked.{Booked}
use Rattle.spec_trees.specs.Tree.{Rules, IsValid, IsSound, leaf_of, mark_of}
use Rattle.spec_pool.specs.declared.ledger.SeatHistory.{SeatHistory}
use Rattle.spec_pool.specs.Accounts.{Account, EntersNode, TakesNode}
use Rattle.spec_pool.specs.Acts.{Act, Put, Keep, Take, TakeTop, Enter, Does, History, takes_from}
use Rattle.spec_pool.proofs.Finding.{nodes_permuted, leaves_permuted}
use Rattle.spec_pool.proofs.Weights.{weigh, weigh-append, weigh-push, weigh-flat, weigh-set}
use Rattle.steal_pool.specs.Rule.{End, takes_one}
use Rattle.steal_pool.specs.Workers.{Holder, holder_of, taken_by, after_empty_pop, on_deque, on_stack, with_hand, IsSplit, Takes, TakesInOrder, TakesKept, TakesOwn, TakesOther, FindsNone}
use Rattle.steal_pool.specs.Rounds.{Counts, round, rounds_in}
use Rattle.steal_pool.specs.Seats.{IsLike, account_of, entered_by, taken_off}
use Rattle.steal_pool.proofs.Accounts as A
use Rattle.steal_pool.proofs.Accounts.{Weighs, entered_weight, entered_weigh, keeps_right, like_itself, puts_right, same_weights, taken_more, taken_weigh}

-- ---- an account that is like another goes through the same acts
like_more : (a b c : Account) → IsLike a b → IsLike b c → IsLike a c
like_more a b c x y = record {
  hand = y.hand ∙ x.hand;
  kept = y.kept ∙ x.kept;
  put = y.put ∙ x.put;
  taken = IsPermutation-trans a.taken b.taken c.taken x.taken y.taken;
  entered = IsPermutation-trans a.entered b.entered c.entered x.entered y.entered;
}

abbrev Follows : Rules → Act → Account → Account → Type 0
Follows t act a b' = (b : Account) × Does t act a b × IsLike b b'

like_does : (t : Rules) (act : Act) (a a' b' : Account) → IsLike a a' → Does t act a' b' → Follows t act a b'
like_does t (Put right) a a' b' like d = (
  record a { hand = Some (t.parts d.node).0; put = a.put ++ right ∷ [] },
  record { node = d.node; in_hand = sym like.hand ∙ d.in_hand; split = d.split; part = d.part; after = refl },
  record {
    hand = ap (λ (c : Account). c.hand) d.after;
    kept = ap (λ (c : Account). c.kept) d.after ∙ like.kept;
    put = ap (λ (c : Account). c.put) d.after ∙ ap (λ (l : List Node). l ++ right ∷ []) like.put;
    taken = subst (λ (l : List Node). IsPermutation a.taken l) (sym (ap (λ (c : Account). c.taken) d.after)) like.taken;
    entered = subst (λ (l : List Leaf). IsPermutation a.entered l) (sym (ap (λ (c : Account). c.entered) d.after)) like.entered;
  },
)
like_does t Keep a a' b' like d = (
  record a { hand = Some (t.parts d.node).0; kept = a.kept ++ (t.parts d.node).1 ∷ [] },
  record { node = d.node; in_hand = sym like.hand ∙ d.in_hand; split = d.split; after = refl },
  record {
    hand = ap (λ (c : Account). c.hand) d.after;
    kept = ap (λ (c : Account). c.kept) d.after ∙ ap (λ (l : List Node). l ++ (t.parts d.node).1 ∷ []) like.kept;
    put = ap (λ (c : Account). c.put) d.after ∙ like.put;
    taken = subst (λ (l : List Node). IsPermutation a.taken l) (sym (ap (λ (c : Account). c.taken) d.after)) like.taken;
    entered = subst (λ (l : List Leaf). IsPermutation a.entered l) (sym (ap (λ (c : Account). c.entered) d.after)) like.entered;
  },
)
like_does t (Take from node) a a' b' like d = (
  record a { hand = Some node; taken = a.taken ++ node ∷ [] },
  record { empty = sym like.hand ∙ d.empty; after = refl },
  record {
    hand = ap (λ (c : Account). c.hand) d.after;
    kept = ap (λ (c : Account). c.kept) d.after ∙ like.kept;
    put = ap (λ (c : Account). c.put) d.after ∙ like.put;
    taken = subst (λ (l : List Node). IsPermutation (a.taken ++ node ∷ []) l) (sym (ap (λ (c : Account). c.taken) d.after)) (IsPermutation-append_left (node ∷ []) a.taken a'.taken like.taken);
    entered = subst (λ (l : List Leaf). IsPermutation a.entered l) (sym (ap (λ (c : Account). c.entered) d.after)) like.entered;
  },
)
like_does t TakeTop a a' b' like d = (
  record a { hand = Some d.node; kept = d.rest },
  record { node = d.node; rest = d.rest; empty = sym like.hand ∙ d.empty; top = sym like.kept ∙ d.top; after = refl },
  record {
    hand = ap (λ (c : Account). c.hand) d.after;
    kept = ap (λ (c : Account). c.kept) d.after;
    put = ap (λ (c : Account). c.put) d.after ∙ like.put;
    taken = subst (λ (l : List Node). IsPermutation a.taken l) (sym (ap (λ (c : Account). c.taken) d.after)) like.taken;
    entered = subst (λ (l : List Leaf). IsPermutation a.entered l) (sym (ap (λ (c : Account). c.entered) d.after)) like.entered;
  },
)
like_does t (Enter leaf) a a' b' like both =
    let d : EntersNode t a' b' = both.0 in
    let one : leaf ∷ [] ≡ leaf_of d.node d.mark ∷ [] = append_cancel_left a'.entered (leaf ∷ []) (leaf_of d.node d.mark ∷ []) (sym both.1 ∙ ap (λ (c : Account). c.entered) d.after) in (
      record a { hand = None; entered = a.entered ++ leaf_of d.node d.mark ∷ [] },
      (record { node = d.node; mark = d.mark; in_hand = sym like.hand ∙ d.in_hand; marked = d.marked; after = refl }, ap (λ (l : List Leaf). a.entered ++ l) (sym one)),
      record {
        hand = ap (λ (c : Account). c.hand) d.after;
        kept = ap (λ (c : Account). c.kept) d.after ∙ like.kept;
        put = ap (λ (c : Account). c.put) d.after ∙ like.put;
        taken = subst (λ (l : List Node). IsPermutation a.taken l) (sym (ap (λ (c : Account). c.taken) d.after)) like.taken;
        entered = subst (λ (l : List Leaf). IsPermutation (a.entered ++ leaf_of d.node d.mark ∷ []) l) (sym (ap (λ (c : Account). c.entered) d.after)) (IsPermutation-append_left (leaf_of d.node d.mark ∷ []) a.entered a'.entered like.entered);
      },
    )

like_history : (t : Rules) (acts : List Act) (a a' b' : Account) → IsLike a a' → History t a' acts b' → (b : Account) × History t a acts b × IsLike b b'
like_history t [] a a' b' like h = (a, refl, subst (IsLike a) (sym h) like)
like_history t (x ∷ acts) a a' b' like h =
    let one = like_does t x a a' h.0 like h.1 in
    let rest = like_history t acts one.0 h.0 b' one.2 h.2 in
    (rest.0, (one.0, one.1, rest.1), rest.2)

joined : (t : Rules) (xs ys : List Act) (a b c : Account) → History t a xs b → History t b ys c → History t a (xs ++ ys) c
joined t [] ys a b c h g = subst (λ (z : Account). History t z ys c) h g
joined t (x ∷ xs) ys a b c h g = (h.0, h.1, joined t xs ys h.0 b c h.2 g)

-- ---- pieces of work
abbrev pub ActedBy : Rules → List Act → Holder → SeatHistory → Holder → SeatHistory → Type 0
ActedBy t acts w p v q =
    ((b : Account) × History t (account_of w p) acts b × IsLike b (account_of v q))
    × ((k : ℕ) → IsPermutation (taken_off k w ++ flat_map (takes_from k) acts) (taken_off k v))

-- some acts of so many rounds
abbrev Acts : Rules → ℕ → Holder → SeatHistory → Holder → SeatHistory → Type 0
Acts t n w p v q = (acts : List Act) × (ActedBy t acts w p v q × (rounds_in acts ≡ n))

abbrev pub Worked : Rules → ℕ → Holder → SeatHistory → Holder → SeatHistory → Type 0
Worked t n w p v q = Weighs t w p v q × Acts t n w p v q

-- some acts, and a counter that tells their rounds
abbrev pub CountedBy : Rules → List Act → Holder → SeatHistory → ℕ → Holder → SeatHistory → ℕ → Type 0
CountedBy t acts w p a v q b =
    ((x : Account) × History t (account_of w p) acts x × IsLike x (account_of v q))
    × ((k : ℕ) → IsPermutation (taken_off k w ++ flat_map (takes_from k) acts) (taken_off k v))
    × Counts (rounds_in acts) a b

abbrev pub WorksBy : Rules → Holder → SeatHistory → ℕ → Holder → SeatHistory → ℕ → Type 0
WorksBy t w p a v q b = Weighs t w p v q × ((acts : List Act) × CountedBy t acts w p a v q b)

rounds_more : (xs ys : List Act) → rounds_in (xs ++ ys) ≡ rounds_in xs + rounds_in ys
rounds_more [] ys = omega arith
rounds_more (x ∷ xs) ys = omega (arith, rounds_more xs ys)

acted_more : (t : Rules) (xs ys : List Act) (w : Holder) (p : SeatHistory) (v : Holder) (q : SeatHistory) (u : Holder) (r : SeatHistory) → ActedBy t xs w p v q → ActedBy t ys v q u r → ActedBy t (xs ++ ys) w p u r
acted_more t xs ys w p v q u r x y =
    let b = x.0.0 in
    let more = like_history t ys b (account_of v q) y.0.0 x.0.2 y.0.1 in (
      (more.0, joined t xs ys (account_of w p) b more.0 x.0.1 more.1, like_more more.0 y.0.0 (account_of u r) more.2 y.0.2),
      (λ k. nodes_permuted (taken_off k w ++ flat_map (takes_from k) (xs ++ ys)) (taken_off k u) (λ h. omega (
        arith,
        same_weights h (taken_off k w ++ flat_map (takes_from k) xs) (taken_off k v) (x.1 k),
        same_weights h (taken_off k v ++ flat_map (takes_from k) ys) (taken_off k u) (y.1 k),
        weigh-append h (taken_off k w) (flat_map (takes_from k) xs),
        weigh-append h (taken_off k v) (flat_map (takes_from k) ys),
        weigh-append h (taken_off k w) (flat_map (takes_from k) (xs ++ ys)),
        ap (weigh h) (flat_map-append (takes_from k) xs ys),
        weigh-append h (flat_map (takes_from k) xs) (flat_map (takes_from k) ys),
      ))),
    )

pub works_more : (t : Rules) (m n : ℕ) (w : Holder) (p : SeatHistory) (v : Holder) (q : SeatHistory) (u : Holder) (r : SeatHistory) → Worked t m w p v q → Worked t n v q u r → Worked t (m + n) w p u r
works_more t m n w p v q u r (x, (xs, (a, i))) (y, (ys, (b, j))) =
    (A.works_more t w p v q u r x y, (xs ++ ys, (acted_more t xs ys w p v q u r a b, omega (arith, i, j, rounds_more xs ys))))

same_list : {X : Type 0} (xs ys : List X) → ys ≡ xs → IsPermutation xs ys
same_list {X = X} xs ys e = subst (λ (l : List X). IsPermutation xs l) (sym e) (IsPermutation-refl xs)

-- nothing but the part's other lists, and the count of nodes put, has changed
pub idle_works : (t : Rules) (w : Holder) (p : SeatHistory) (v : Holder) (q : SeatHistory) → v.own ≡ w.own → v.stealers ≡ w.stealers → v.hand ≡ w.hand → v.kept ≡ w.kept → q.mine ≡ p.mine → q.again ≡ p.again → Worked t 0 w p v q
idle_works t w p v q own stealers hand kept mine again = (
  A.idle_works t w p v q own stealers hand kept mine again,
  (
    [],
    (
      (
        (
          account_of w p,
          refl,
          record {
            hand = hand;
            kept = kept;
            put = ap (λ (e : End). e.view.put) own;
            taken = same_list (taken_by w) (taken_by v) (λ i. (own i).view.taken ++ flat_map (λ (e : End). e.view.taken) (stealers i));
            entered = same_list (entered_by p) (entered_by q) (λ i. map (λ (e : Booked). e.leaf) (mine i) ++ again i);
          },
        ),
        (λ k. same_list (taken_off k w ++ []) (taken_off k v) ((λ i. flat_map (λ (e : End). if e.worker == k then e.view.taken else []) (own i ∷ stealers i)) ∙ sym (append-nil (taken_off k w)))),
      ),
      refl,
    ),
  ),
)

-- one act
one_act : (t : Rules) (act : Act) (w : Holder) (p : SeatHistory) (v : Holder) (q : SeatHistory) (b : Account) → Does t act (account_of w p) b → IsLike b (account_of v q)
    → ((k : ℕ) (h : Node → ℕ) → weigh h (taken_off k v) ≡ weigh h (taken_off k w) + weigh h (takes_from k act)) → Acts t (round act) w p v q
one_act t act w p v q b d like taken = (
  act ∷ [],
  (
    (
      (b, (b, d, refl), like),
      (λ k. nodes_permuted (taken_off k w ++ flat_map (takes_from k) (act ∷ [])) (taken_off k v) (λ h. omega (
        arith,
        taken k h,
        weigh-append h (taken_off k w) (flat_map (takes_from k) (act ∷ [])),
        ap (weigh h) (append-nil (takes_from k act)),
      ))),
    ),
    omega arith,
  ),
)

-- ---- what the ends took
abbrev off : ℕ → End → List Node
off k e = if e.worker == k then e.view.taken else []

off_weigh : (k : ℕ) (h : Node → ℕ) (w : Holder) → weigh h (taken_off k w) ≡ weigh h (off k w.own) + weigh (λ (e : End). weigh h (off k e)) w.stealers
off_weigh k h w = omega (arith, weigh-append h (off k w.own) (flat_map (off k) w.stealers), weigh-flat (off k) h w.stealers)

one_off : (k : ℕ) (h : Node → ℕ) (e : End) (n : Node) → weigh h (off k (takes_one e n)) ≡ weigh h (off k e) + weigh h (takes_from k (Take e.worker n))
one_off k h e n = by (e.worker == k) where
  by : (b : Bool) → weigh h (if b then e.view.taken ++ n ∷ [] else []) ≡ weigh h (if b then e.view.taken else []) + weigh h (if b then n ∷ [] else [])
  by true = weigh-append h e.view.taken (n ∷ [])
  by false = refl

own_off : (n : Node) (w v : Holder) → TakesOwn n w v → (k : ℕ) (h : Node → ℕ) → weigh h (taken_off k v) ≡ weigh h (taken_off k w) + weigh h (takes_from k (Take w.own.worker n))
own_off n w v e k h = omega (
  arith,
  ap (λ (u : Holder). weigh h (taken_off k u)) e,
  off_weigh k h w,
  off_weigh k h (holder_of (takes_one w.own n) w.stealers w.pushed_in_a_row (Some n) w.kept),
  one_off k h w.own n,
)

other_off : (n : Node) (w v : Holder) (es : List End) (i : ℕ) (f : End) → slice_get w.stealers i ≡ Some f → es ≡ slice_set w.stealers i (takes_one f n) → v ≡ holder_of w.own es 0 (Some n) w.kept
    → (k : ℕ) (h : Node → ℕ) → weigh h (taken_off k v) ≡ weigh h (taken_off k w) + weigh h (takes_from k (Take f.worker n))
other_off n w v es i f at is e k h = omega (
  arith,
  ap (λ (u : Holder). weigh h (taken_off k u)) e,
  off_weigh k h w,
  off_weigh k h (holder_of w.own es 0 (Some n) w.kept),
  ap (weigh (λ (e : End). weigh h (off k e))) is,
  weigh-set (λ (e : End). weigh h (off k e)) w.stealers i f (takes_one f n) at,
  one_off k h f n,
)

-- ---- each act
node_taken : (n : Node) (w v : Holder) (p : SeatHistory) → w.hand ≡ None → v.hand ≡ Some n → v.kept ≡ w.kept → v.own.view.put ≡ w.own.view.put → TakesOwn n w v ⊎ TakesOther n (after_empty_pop w) v
    → (b : Account) × TakesNode n (account_of w p) b × IsLike b (account_of v p)
node_taken n w v p none hand kept put takes = (
  record { hand = Some n; kept = w.kept; put = w.own.view.put; taken = taken_by w ++ n ∷ []; entered = entered_by p },
  record { empty = none; after = refl },
  record {
    hand = hand;
    kept = kept;
    put = put;
    taken = nodes_permuted (taken_by w ++ n ∷ []) (taken_by v) (λ h. omega (arith, taken_more h n w v takes, taken_weigh h w, taken_weigh h v, weigh-append h (taken_by w) (n ∷ [])));
    entered = IsPermutation-refl (entered_by p);
  },
)

own_acts : (t : Rules) (n : Node) (w v : Holder) (p : SeatHistory) → w.hand ≡ None → TakesOwn n w v → Acts t 0 w p v p
own_acts t n w v p none e =
    let taken = node_taken n w v p none (ap (λ (u : Holder). u.hand) e) (ap (λ (u : Holder). u.kept) e) (ap (λ (u : Holder). u.own.view.put) e) (inl e) in
    one_act t (Take w.own.worker n) w p v p taken.0 taken.1 taken.2 (own_off n w v e)

top_acts : (t : Rules) (n : Node) (w v : Holder) (p : SeatHistory) → w.hand ≡ None → TakesKept n w v → Acts t 0 w p v p
top_acts t n w v p none (rest, top, e) =
    one_act t TakeTop w p v p (account_of v p) (record { node = n; rest = rest; empty = none; top = top; after = ap (λ (u : Holder). account_of u p) e }) (like_itself (account_of v p))
    (λ k h. omega (arith, ap (λ (u : Holder). weigh h (taken_off k u)) e))

in_order_acts : (t : Rules) (n : Node) (w v : Holder) (p : SeatHistory) → w.hand ≡ None → TakesInOrder n w v → Acts t 0 w p v p
in_order_acts t n w v p none (inl top) = top_acts t n w v p none top
in_order_acts t n w v p none (inr (inl (empty, oldest, e))) = own_acts t n w v p none e
in_order_acts t n w v p none (inr (inr (empty, used, (es, (i, f, at, is), e)))) =
    let taken = node_taken n w v p none (ap (λ (u : Holder). u.hand) e) (ap (λ (u : Holder). u.kept) e) (ap (λ (u : Holder). u.own.view.put) e) (inr (es, (i, f, at, is), e)) in
    one_act t (Take f.worker n) w p v p taken.0 taken.1 taken.2 (other_off n w v es i f at is e)

takes_acts : (t : Rules) (n : Node) (w v : Holder) (p : SeatHistory) → w.hand ≡ None → Takes n w v → Acts t 0 w p v p
takes_acts t n w v p none (inl o) = in_order_acts t n w v p none o
takes_acts t n w v p none (inr (inl (filled, oldest, e))) = own_acts t n w v p none e
takes_acts t n w v p none (inr (inr (filled, used, o))) = in_order_acts t n (after_empty_pop w) v p none o

pub takes_works : (t : Rules) (n : Node) (w v : Holder) (p : SeatHistory) → w.hand ≡ None → Takes n w v → Worked t 0 w p v p
takes_works t n w v p none takes = (A.takes_works t n w v p none takes, takes_acts t n w v p none takes)

pub none_works : (t : Rules) (w v : Holder) (p : SeatHistory) → FindsNone w v → Worked t 0 w p v p
none_works t w v p f = idle_works t w p v p
    (ap (λ (u : Holder). u.own) f.2) (ap (λ (u : Holder). u.stealers) f.2) (ap (λ (u : Holder). u.hand) f.2) (ap (λ (u : Holder). u.kept) f.2) refl refl

split_acts : (t : Rules) (w v : Holder) (p : SeatHistory) (left right : Node) → IsSplit t w left right → (v ≡ on_deque w left right) ⊎ (v ≡ on_stack w left right) → Acts t 1 w p v p
split_acts t w v p left right split (inl e) =
    one_act t (Put right) w p v p (account_of v p) (puts_right t w v p left right split e) (like_itself (account_of v p)) (λ k h. omega (arith, ap (λ (u : Holder). weigh h (taken_off k u)) e))
split_acts t w v p left right split (inr e) =
    one_act t Keep w p v p (account_of v p) (keeps_right t w v p left right split e) (like_itself (account_of v p)) (λ k h. omega (arith, ap (λ (u : Holder). weigh h (taken_off k u)) e))

pub split_works : (t : Rules) (w v : Holder) (p : SeatHistory) (left right : Node) → IsSound t → ((n : Node) → w.hand ≡ Some n → IsValid t n) → IsSplit t w left right → (v ≡ on_deque w left right) ⊎ (v ≡ on_stack w left right) → Worked t 1 w p v p
split_works t w v p left right sound valid split goes = (A.split_works t w v p left right sound valid split goes, split_acts t w v p left right split goes)

-- a leaf is entered
enter_acts : (t : Rules) (w v : Holder) (p q : SeatHistory) (n : Node) (m : Mark) → mark_of (t.verdict n) ≡ Some m → w.hand ≡ Some n → v ≡ with_hand w None → ((h : Leaf → ℕ) → entered_weight h q ≡ entered_weight h p + h (leaf_of n m)) → Acts t 1 w p v q
enter_acts t w v p q n m marked hand e more =
    let leaf : Leaf = leaf_of n m in
    one_act t (Enter leaf) w p v q
    (record { hand = None; kept = w.kept; put = w.own.view.put; taken = taken_by w; entered = entered_by p ++ leaf ∷ [] })
    (record { node = n; mark = m; in_hand = hand; marked = marked; after = refl }, refl)
    (record {
      hand = ap (λ (u : Holder). u.hand) e;
      kept = ap (λ (u : Holder). u.kept) e;
      put = ap (λ (u : Holder). u.own.view.put) e;
      taken = same_list (taken_by w) (taken_by v) (ap taken_by e);
      entered = leaves_permuted (entered_by p ++ leaf ∷ []) (entered_by q) (λ h. omega (arith, more h, weigh-push h (entered_by p) leaf, entered_weigh h p, entered_weigh h q));
    })
    (λ k h. omega (arith, ap (λ (u : Holder). weigh h (taken_off k u)) e))

pub enter_works : (t : Rules) (w v : Holder) (p q : SeatHistory) (n : Node) (m : Mark) → IsSound t → IsValid t n → mark_of (t.verdict n) ≡ Some m → w.hand ≡ Some n → v ≡ with_hand w None
    → ((h : Leaf → ℕ) → entered_weight h q ≡ entered_weight h p + h (leaf_of n m)) → Worked t 1 w p v q
enter_works t w v p q n m sound valid marked hand e more = (A.enter_works t w v p q n m sound valid marked hand e more, enter_acts t w v p q n m marked hand e more)
