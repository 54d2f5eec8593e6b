-- What a worker has and knows, and what pushing a node and taking one change of it.
use Rattle.std.specs.Prelude.{◌≡◌, ◌⊎◌, ℕ, ◌+◌, ◌≤◌, List, [], ◌∷◌, ◌++◌, length, flat_map, Option, Some, slice_get, slice_set}
use Rattle.spec_trees.specs.declared.tree.Node.{Node}
use Rattle.spec_trees.specs.declared.tree.Verdict.TheVariants.{Split}
use Rattle.spec_trees.specs.Tree.{Rules, IsValid}
use Rattle.steal_pool.specs.Rule.{AreValid, End, IsOldest, IsUsedUp, end_of, joined_one, made_one, opening, stealer_out, takes_one, with_put, with_view}
use Rattle.steal_pool.specs.declared.view.DequeView.{DequeView}

-- the end of its own deque, its stealers of the other deques, how many nodes it put on its own since a pop of its own
-- last gave nothing, the node in its hand, and its local stack with the top last
pub record Holder : Type 0 where
  pub own : End
  pub stealers : List End
  pub pushed_in_a_row : ℕ
  pub hand : Option Node
  pub kept : List Node

abbrev pub holder_of : End → List End → ℕ → Option Node → List Node → Holder
holder_of own stealers pushed_in_a_row hand kept = record { own = own; stealers = stealers; pushed_in_a_row = pushed_in_a_row; hand = hand; kept = kept }

-- all nodes that it took from deques
abbrev pub taken_by : Holder → List Node
taken_by w = w.own.view.taken ++ flat_map (λ e. e.view.taken) w.stealers

-- what is true of each worker
pub record Stands (t : Rules) (w : Holder) : Type 0 where
  pub hand : (n : Node) → w.hand ≡ Some n → IsValid t n
  pub kept : AreValid t w.kept
  pub pushed_in_a_row : w.pushed_in_a_row ≤ length w.own.view.put

abbrev pub with_hand : Holder → Option Node → Holder
with_hand w hand = holder_of w.own w.stealers w.pushed_in_a_row hand w.kept

-- ---- putting the right part of a node away
-- the node in the hand is to be split into left and right
abbrev pub IsSplit : Rules → Holder → Node → Node → Type 0
IsSplit t w left right = (n : Node) × (w.hand ≡ Some n) × (t.verdict n ≡ Split) × (t.parts n ≡ (left, right))

-- the node in the hand is to be split, and this is its right part
abbrev pub IsRight : Rules → Holder → Node → Type 0
IsRight t w right = (n : Node) × (w.hand ≡ Some n) × (t.verdict n ≡ Split) × (right ≡ (t.parts n).1)

-- the right part stands on the own deque, or on the local stack, and the left part in the hand
abbrev pub on_deque : Holder → Node → Node → Holder
on_deque w left right = holder_of (with_view w.own (with_put w.own.view (right ∷ []))) w.stealers (w.pushed_in_a_row + 1) (Some left) w.kept

abbrev pub on_stack : Holder → Node → Node → Holder
on_stack w left right = holder_of w.own w.stealers w.pushed_in_a_row (Some left) (w.kept ++ right ∷ [])

-- ---- taking a node
-- one stealer took a node, and the others are as they were
abbrev pub TookOne : Node → List End → List End → Type 0
TookOne n es fs = (k : ℕ) × (e : End) × (slice_get es k ≡ Some e) × (fs ≡ slice_set es k (takes_one e n))

-- a pop of the own deque gave nothing
abbrev pub after_empty_pop : Holder → Holder
after_empty_pop w = holder_of w.own w.stealers 0 w.hand w.kept

-- the worker took n: the top of the local stack
abbrev pub TakesKept : Node → Holder → Holder → Type 0
TakesKept n w v = (rest : List Node) × (w.kept ≡ rest ++ n ∷ []) × (v ≡ holder_of w.own w.stealers w.pushed_in_a_row (Some n) rest)

-- a node of its own deque
abbrev pub TakesOwn : Node → Holder → Holder → Type 0
TakesOwn n w v = v ≡ holder_of (takes_one w.own n) w.stealers w.pushed_in_a_row (Some n) w.kept

-- a node of another deque, by one stealer
abbrev pub TakesOther : Node → Holder → Holder → Type 0
TakesOther n w v = (es : List End) × TookOne n w.stealers es × (v ≡ holder_of w.own es w.pushed_in_a_row (Some n) w.kept)

-- it looks there in this order; its own deque gives what was put there first of what is left, and where it gives nothing,
-- its pushes in a row count from 0 again
abbrev pub TakesInOrder : Node → Holder → Holder → Type 0
TakesInOrder n w v =
    TakesKept n w v
    ⊎ ((w.kept ≡ []) × IsOldest w.own.view n × TakesOwn n w v)
    ⊎ ((w.kept ≡ []) × IsUsedUp w.own.view × TakesOther n (after_empty_pop w) v)

-- so many nodes were put on its own deque in a row that it takes no more until a pop of it gives nothing
abbrev pub HasFilled : Holder → Type 0
HasFilled w = 64 ≤ w.pushed_in_a_row

-- nothing happened, or a pop of the own deque, which took no more nodes, gave nothing
abbrev pub IsReopened : Holder → Holder → Type 0
IsReopened w v = (v ≡ w) ⊎ (HasFilled w × IsUsedUp w.own.view × (v ≡ after_empty_pop w))

-- it looks in that order. Where its own deque takes no more nodes, it may pop that first: then it took what the deque gave,
-- or the deque gave nothing, its pushes in a row count from 0 again, and it looked in that order
abbrev pub Takes : Node → Holder → Holder → Type 0
Takes n w v =
    TakesInOrder n w v
    ⊎ (HasFilled w × IsOldest w.own.view n × TakesOwn n w v)
    ⊎ (HasFilled w × IsUsedUp w.own.view × TakesInOrder n (after_empty_pop w) v)

-- it found none: where no stealer of its deque is out, what it put there is what it took there
abbrev pub FindsNone : Holder → Holder → Type 0
FindsNone w v = (w.kept ≡ []) × IsUsedUp w.own.view × (v ≡ after_empty_pop w)

-- ---- stealers
abbrev pub with_own : Holder → DequeView → Holder
with_own w v = holder_of (with_view w.own v) w.stealers w.pushed_in_a_row w.hand w.kept

abbrev pub with_stealers : Holder → List End → Holder
with_stealers w stealers = holder_of w.own stealers w.pushed_in_a_row w.hand w.kept

-- a new stealer on its deque, for another worker, and the worker once it has made it
abbrev pub new_stealer : Holder → End
new_stealer w = end_of w.own.worker w.own.deque stealer_out

abbrev pub lends : Holder → Holder
lends w = with_own w (made_one w.own.view)

-- it has one stealer more, it gave its last stealer away, or it joined a stealer on its deque
abbrev pub gains : Holder → End → Holder
gains w e = with_stealers w (w.stealers ++ e ∷ [])

abbrev pub Gives : End → Holder → Holder → Type 0
Gives e w v = (w.stealers ≡ v.stealers ++ e ∷ []) × (v ≡ with_stealers w v.stealers)

abbrev pub joins : Holder → End → Holder
joins w e = with_own w (joined_one w.own.view e.view)

-- a worker that has put and taken nothing, and has no stealer
abbrev pub IsNew : ℕ → Option Node → Holder → Type 0
IsNew number hand w = (w.own.worker ≡ number) × (w.own.view ≡ opening) × (w.stealers ≡ []) × (w.pushed_in_a_row ≡ 0) × (w.hand ≡ hand) × (w.kept ≡ [])
