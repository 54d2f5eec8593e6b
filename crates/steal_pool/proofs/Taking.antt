-- What holds for a seat once it took a node, or found none.
use Rattle.std.proofs.Common.{◌≡◌, inl, inr, [], Option, Some, None, MatchOption, IfSome, ap, subst, ◌∙◌}
use Rattle.spec_trees.specs.declared.tree.Node.{Node}
use Rattle.spec_trees.specs.Tree.{Rules}
use Rattle.spec_pool.specs.declared.ledger.SeatHistory.{SeatHistory}
use Rattle.spec_pool.specs.Accounts.{Account}
use Rattle.steal_pool.specs.Rule.{IsUsedUp}
use Rattle.steal_pool.specs.Workers.{Holder, Takes, TakesInOrder, TakesOther, IsReopened, FindsNone, after_empty_pop}
use Rattle.steal_pool.specs.Seats.{IsLike, account_of, Gets, ways}
use Rattle.steal_pool.proofs.Accounts.{gets, takes_ways}
use Rattle.steal_pool.proofs.Acting.{Worked, none_works, takes_works}

abbrev pub Taken : Option Node → Holder → Holder → Type 0
Taken r w v = MatchOption r (FindsNone w v) (λ n. Takes n w v)

pub taken_gets : (r : Option Node) (w v : Holder) (p : SeatHistory) → w.hand ≡ None → Taken r w v → IfSome r (λ n. (b : Account) × Gets n (account_of w p) b × IsLike b (account_of v p))
taken_gets None w v p none t = tt
taken_gets (Some n) w v p none t = gets n w v p none t

pub taken_works : (t : Rules) (r : Option Node) (w v : Holder) (p : SeatHistory) → w.hand ≡ None → Taken r w v → Worked t 0 w p v p
taken_works t None w v p none f = none_works t w v p f
taken_works t (Some n) w v p none f = takes_works t n w v p none f

pub taken_ways : (r : Option Node) (w v : Holder) → Taken r w v → ways v ≡ ways w
taken_ways None w v f = ap ways f.2
taken_ways (Some n) w v f = takes_ways n w v f

-- ---- a pop of the own deque before it looks in order
reopened_takes : (n : Node) (w u v : Holder) → IsReopened w u → TakesInOrder n u v → Takes n w v
reopened_takes n w u v (inl e) t = inl (subst (λ (x : Holder). TakesInOrder n x v) e t)
reopened_takes n w u v (inr (filled, used, e)) t = inr (inr (filled, used, subst (λ (x : Holder). TakesInOrder n x v) e t))

reopened_none : (w u v : Holder) → IsReopened w u → FindsNone u v → FindsNone w v
reopened_none w u v (inl e) f = subst (λ (x : Holder). FindsNone x v) e f
reopened_none w u v (inr (filled, used, e)) f = subst (λ (x : Holder). FindsNone x v) e f

pub reopened_taken : (r : Option Node) (w u v : Holder) → IsReopened w u → MatchOption r (FindsNone u v) (λ n. TakesInOrder n u v) → Taken r w v
reopened_taken None w u v o f = reopened_none w u v o f
reopened_taken (Some n) w u v o t = reopened_takes n w u v o t

-- ---- the other deques, once its own stack and deque gave nothing
pub in_order_taken : (r : Option Node) (w u m v : Holder) → (w.kept ≡ []) × (u ≡ w) → IsUsedUp u.own.view × (m ≡ after_empty_pop u) → MatchOption r (v ≡ m) (λ n. TakesOther n m v) → MatchOption r (FindsNone w v) (λ n. TakesInOrder n w v)
in_order_taken None w u m v a b e = (a.0, subst (λ (x : Holder). IsUsedUp x.own.view) a.1 b.0, e ∙ (b.1 ∙ ap after_empty_pop a.1))
in_order_taken (Some n) w u m v a b e = inr (inr (a.0, subst (λ (x : Holder). IsUsedUp x.own.view) a.1 b.0, subst (λ (x : Holder). TakesOther n x v) (b.1 ∙ ap after_empty_pop a.1) e))
