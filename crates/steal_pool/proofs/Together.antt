-- What the seats of a pool have together, by weights.
use Rattle.std.proofs.Common.{◌≡◌, ℕ, suc, ◌+◌, ◌<◌, List, [], ◌∷◌, ◌++◌, length, Option, Some, None, option_to_list, refl, sym, ap, ◌∙◌, arith}
use Rattle.std.specs.List.{AllZip}
use Rattle.std.proofs.lemmas.Bool.Decides.{nat_tests}
use Rattle.spec_trees.specs.declared.tree.Node.{Node}
use Rattle.spec_trees.specs.declared.tree.Leaf.{Leaf}
use Rattle.spec_trees.specs.Tree.{Rules, leaves}
use Rattle.spec_pool.specs.Accounts.{leaves_of, own}
use Rattle.spec_pool.proofs.Balancing.{by_leaves}
use Rattle.spec_pool.proofs.Finding.{leaves_permuted}
use Rattle.spec_pool.proofs.Hands.{weigh_hand, hand_weigh}
use Rattle.spec_pool.proofs.Weights.{weigh, weigh-append, weigh-flat, weigh-same}
use Rattle.span_ledger.specs.declared.desk.SpanLedger.{SpanLedger}
use Rattle.steal_pool.specs.Workers.{taken_by}
use Rattle.steal_pool.specs.Seats.{Seat, Works, account, entered_by}
use Rattle.steal_pool.specs.Pools.{AccountFor, AllBegin, Begins, entered_of, first_hand, own_of, put_of, taken_of}
use Rattle.steal_pool.specs.Runs.{IsLater}
use Rattle.steal_pool.proofs.Accounts.{does, entered_weigh, entered_weight, own_weight, same_weights, taken_weigh, taken_weight}
use Rattle.steal_pool.proofs.Listing.{weigh_none}

abbrev pub entered_sum : (Leaf → ℕ) → List Seat → ℕ
entered_sum h ss = weigh (λ (s : Seat). entered_weight h s.part) ss

abbrev pub own_sum : Rules → (Leaf → ℕ) → List Seat → ℕ
own_sum t h ss = weigh (λ (s : Seat). own_weight t h s.worker) ss

abbrev pub put_sum : (Node → ℕ) → List Seat → ℕ
put_sum g ss = weigh (λ (s : Seat). weigh g s.worker.own.view.put) ss

abbrev pub taken_sum : (Node → ℕ) → List Seat → ℕ
taken_sum g ss = weigh (λ (s : Seat). taken_weight g s.worker) ss

pub entered_of_weigh : (h : Leaf → ℕ) (ss : List Seat) → weigh h (entered_of ss) ≡ entered_sum h ss
entered_of_weigh h ss =
    weigh-flat (λ (s : Seat). entered_by s.part) h ss
    ∙ weigh-same (λ (s : Seat). weigh h (entered_by s.part)) (λ (s : Seat). entered_weight h s.part) ss (λ s. entered_weigh h s.part)

pub own_of_weigh : (t : Rules) (h : Leaf → ℕ) (ss : List Seat) → weigh (by_leaves t h) (own_of ss) ≡ own_sum t h ss
own_of_weigh t h ss =
    weigh-flat (λ (s : Seat). own (account s)) (by_leaves t h) ss
    ∙ weigh-same (λ (s : Seat). weigh (by_leaves t h) (own (account s))) (λ (s : Seat). own_weight t h s.worker) ss
    (λ s. omega (arith, weigh-append (by_leaves t h) (option_to_list s.worker.hand) s.worker.kept, hand_weigh (by_leaves t h) s.worker.hand))

pub taken_of_weigh : (g : Node → ℕ) (ss : List Seat) → weigh g (taken_of ss) ≡ taken_sum g ss
taken_of_weigh g ss =
    weigh-flat (λ (s : Seat). taken_by s.worker) g ss
    ∙ weigh-same (λ (s : Seat). weigh g (taken_by s.worker)) (λ (s : Seat). taken_weight g s.worker) ss (λ s. taken_weigh g s.worker)

module _ (t : Rules) (root : Node) (ss : List Seat) where
  abbrev had : List Leaf
  had = entered_of ss ++ leaves_of t (own_of ss ++ put_of ss)

  abbrev came : List Leaf
  came = leaves t root ++ leaves_of t (taken_of ss)

  had_weigh : (h : Leaf → ℕ) → weigh h had ≡ entered_sum h ss + own_sum t h ss + put_sum (by_leaves t h) ss
  had_weigh h = omega (
    arith,
    weigh-append h (entered_of ss) (leaves_of t (own_of ss ++ put_of ss)),
    entered_of_weigh h ss,
    weigh-flat (leaves t) h (own_of ss ++ put_of ss),
    weigh-append (by_leaves t h) (own_of ss) (put_of ss),
    own_of_weigh t h ss,
    weigh-flat (λ (s : Seat). s.worker.own.view.put) (by_leaves t h) ss,
  )

  came_weigh : (h : Leaf → ℕ) → weigh h came ≡ by_leaves t h root + taken_sum (by_leaves t h) ss
  came_weigh h = omega (
    arith,
    weigh-append h (leaves t root) (leaves_of t (taken_of ss)),
    weigh-flat (leaves t) h (taken_of ss),
    taken_of_weigh (by_leaves t h) ss,
  )

  pub account_weighs : AccountFor t root ss → (h : Leaf → ℕ) → entered_sum h ss + own_sum t h ss + put_sum (by_leaves t h) ss ≡ by_leaves t h root + taken_sum (by_leaves t h) ss
  account_weighs p h = omega (arith, same_weights h had came p, had_weigh h, came_weigh h)

  pub weighs_account : ((h : Leaf → ℕ) → entered_sum h ss + own_sum t h ss + put_sum (by_leaves t h) ss ≡ by_leaves t h root + taken_sum (by_leaves t h) ss) → AccountFor t root ss
  weighs_account e = leaves_permuted had came (λ h. omega (arith, e h, had_weigh h, came_weigh h))

-- ---- at the beginning
pub hand_of_first : (k : ℕ) (root : Node) → k ≡ 0 → first_hand root k ≡ Some root
hand_of_first k root e = grind (arith, nat_tests, e)

pub hand_of_other : (k : ℕ) (root : Node) → 0 < k → first_hand root k ≡ None
hand_of_other k root e = grind (arith, nat_tests, e)

begin_own : (t : Rules) (h : Leaf → ℕ) (ledger : SpanLedger) (root : Node) (k : ℕ) (s : Seat) → Begins ledger k (first_hand root k) s → 0 < k → own_weight t h s.worker ≡ 0
begin_own t h ledger root k s b p = omega (arith, ap (weigh_hand (by_leaves t h)) (b.hand ∙ hand_of_other k root p), ap (weigh (by_leaves t h)) b.kept)

begin_taken : (g : Node → ℕ) (ledger : SpanLedger) (k : ℕ) (hand : Option Node) (s : Seat) → Begins ledger k hand s → taken_weight g s.worker ≡ 0
begin_taken g ledger k hand s b = sym (taken_weigh g s.worker) ∙ ap (weigh g) b.taken

begin_entered : (h : Leaf → ℕ) (ledger : SpanLedger) (k : ℕ) (hand : Option Node) (s : Seat) → Begins ledger k hand s → entered_weight h s.part ≡ 0
begin_entered h ledger k hand s b = ap (entered_weight h) b.part

pub begin_account : (t : Rules) (ledger : SpanLedger) (root : Node) (ss : List Seat) → 0 < length ss → AllBegin ledger root ss → AccountFor t root ss
begin_account t ledger root [] some all = absurd (omega (arith, some))
begin_account t ledger root (s ∷ ss) some all = weighs_account t root (s ∷ ss) (λ h. let b = all 0 s refl in omega (
  arith,
  weigh_none (λ (x : Seat). entered_weight h x.part) (s ∷ ss) (λ k x e. begin_entered h ledger k (first_hand root k) x (all k x e)),
  weigh_none (λ (x : Seat). weigh (by_leaves t h) x.worker.own.view.put) (s ∷ ss) (λ k x e. ap (weigh (by_leaves t h)) (all k x e).put),
  weigh_none (λ (x : Seat). taken_weight (by_leaves t h) x.worker) (s ∷ ss) (λ k x e. begin_taken (by_leaves t h) ledger k (first_hand root k) x (all k x e)),
  weigh_none (λ (x : Seat). own_weight t h x.worker) ss (λ k x e. begin_own t h ledger root (suc k) x (all (suc k) x e) (omega arith)),
  ap (weigh_hand (by_leaves t h)) (b.hand ∙ hand_of_first 0 root refl),
  ap (weigh (by_leaves t h)) b.kept,
))

-- ---- over work
works_sums : (t : Rules) (s q : Seat) → Works t s q → (h : Leaf → ℕ)
    → entered_weight h q.part + own_weight t h q.worker + weigh (by_leaves t h) q.worker.own.view.put + taken_weight (by_leaves t h) s.worker
    ≡ entered_weight h s.part + own_weight t h s.worker + weigh (by_leaves t h) s.worker.own.view.put + taken_weight (by_leaves t h) q.worker
works_sums t s q w h = let d = does t s.worker s.part q.worker q.part w.0 in omega (
  arith,
  ap (weigh (by_leaves t h)) d.3.0,
  weigh-append (by_leaves t h) s.worker.own.view.put d.0,
  d.3.1 (by_leaves t h),
  d.3.2 h,
  d.3.3 h,
)

later_sums : (t : Rules) (ss qs : List Seat) → AllZip (IsLater t) ss qs → (h : Leaf → ℕ)
    → entered_sum h qs + own_sum t h qs + put_sum (by_leaves t h) qs + taken_sum (by_leaves t h) ss ≡ entered_sum h ss + own_sum t h ss + put_sum (by_leaves t h) ss + taken_sum (by_leaves t h) qs
later_sums t [] [] b h = refl
later_sums t [] (q ∷ qs) b h = absurd b
later_sums t (s ∷ ss) [] b h = absurd b
later_sums t (s ∷ ss) (q ∷ qs) b h = omega (arith, works_sums t s q b.0.works h, later_sums t ss qs b.1 h)

pub account_later : (t : Rules) (root : Node) (ss qs : List Seat) → AllZip (IsLater t) ss qs → AccountFor t root ss → AccountFor t root qs
account_later t root ss qs b a = weighs_account t root qs (λ h. omega (arith, account_weighs t root ss a h, later_sums t ss qs b h))
