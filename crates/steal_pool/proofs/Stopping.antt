-- Why seats stopped, and the worst of these.
use Rattle.std.proofs.Common.{◌≡◌, ◌≢◌, ◌⊎◌, inl, inr, ℕ, suc, ◌+◌, ◌<◌, List, [], ◌∷◌, length, take, get_or, Option, Some, None, slice_get, refl, sym, ap, ◌∙◌, subst}
use Rattle.std.specs.Prelude.{Bool, true, false, is_some, not, IsTrue, IsFalse}
use Rattle.std.proofs.lemmas.List.Sums.{fold_more}
use Rattle.spec_trees.specs.declared.tree.Leaf.{Leaf}
use Rattle.spec_trees.specs.Tree.{Rules}
use Rattle.steal_pool.specs.declared.seat.PoolError.{PoolError}
use Rattle.steal_pool.specs.declared.seat.PoolError.TheVariants as E
use Rattle.steal_pool.specs.declared.seat.Stop.{Stop}
use Rattle.steal_pool.specs.declared.seat.Stop.TheVariants.{Full, Memory}
use Rattle.steal_pool.specs.Seats.{IfFull, IsFull, IsFullOf, IsLeft, IsStoppedBy, Seat, error_of, with_refusal}
use Rattle.steal_pool.specs.Pools.{KeepNone, NoneIsOutOfMemory, SomeIsOutOfMemory}
use Rattle.steal_pool.specs.Closing.{worse, worst_from, worst_stop}

-- ---- of two
full_or_none : (r : Option Stop) (leaf : Leaf) → worse (Some (Full leaf)) r ≡ None → ⊥
full_or_none None leaf e = cc
full_or_none (Some Memory) leaf e = cc
full_or_none (Some (Full other)) leaf e = cc

both_none : (r q : Option Stop) → worse r q ≡ None → (r ≡ None) × (q ≡ None)
both_none None q e = (refl, e)
both_none (Some Memory) q e = absurd cc
both_none (Some (Full leaf)) q e = absurd (full_or_none q leaf e)

-- the worse is a leaf: neither ran out of memory, and it is the leaf of one of them
abbrev IsOneOf : Option Stop → Option Stop → Leaf → Type 0
IsOneOf r q leaf = (r ≢ Some Memory) × (q ≢ Some Memory) × ((r ≡ Some (Full leaf)) ⊎ (q ≡ Some (Full leaf)))

one_full : (r q : Option Stop) (leaf : Leaf) → worse r q ≡ Some (Full leaf) → IsOneOf r q leaf
one_full None None leaf e = absurd cc
one_full None (Some Memory) leaf e = absurd cc
one_full None (Some (Full other)) leaf e = ((λ f. cc), (λ f. cc), inr e)
one_full (Some Memory) q leaf e = absurd cc
one_full (Some (Full first)) None leaf e = ((λ f. cc), (λ f. cc), inl e)
one_full (Some (Full first)) (Some Memory) leaf e = absurd cc
one_full (Some (Full first)) (Some (Full other)) leaf e = ((λ f. cc), (λ f. cc), inl e)

-- ---- of all
none_from : (r : Option Stop) (ss : List Seat) → worst_from r ss ≡ None → (r ≡ None) × KeepNone ss
none_from r [] e = (e, tt)
none_from r (s ∷ ss) e =
    let rest = none_from (worse r s.refusal) ss e in
    let both = both_none r s.refusal rest.0 in
    (both.0, (both.1, rest.1))

pub none_stopped : (ss : List Seat) → worst_stop ss ≡ None → KeepNone ss
none_stopped ss e = (none_from None ss e).1

pub kept_free : (ss : List Seat) → KeepNone ss → worst_stop ss ≡ None
kept_free [] all = refl
kept_free (s ∷ ss) all = ap (λ (r : Option Stop). worst_from r ss) all.0 ∙ kept_free ss all.1

-- a seat more
pub worst_more : (ss : List Seat) (i : ℕ) (s : Seat) (r q w : Option Stop) → i < length ss → s ≡ get_or ss i s → r ≡ worst_stop (take i ss) → q ≡ s.refusal → w ≡ worse r q → w ≡ worst_stop (take (i + 1) ss)
worst_more ss i s r q w inside at before here is =
    is ∙ (λ k. worse (before k) ((here ∙ ap (λ (x : Seat). x.refusal) at) k)) ∙ sym (fold_more (λ (x : Option Stop) (y : Seat). worse x y.refusal) None ss i s inside)

-- as a test of the worst says it
pub is_none_stopped : (ss : List Seat) (r : Option Stop) (b : Bool) → r ≡ worst_stop ss → is_some r ≡ not b → IsTrue b → KeepNone ss
is_none_stopped ss None b e test is = none_stopped ss (sym e)
is_none_stopped ss (Some stop) true e test is = absurd cc
is_none_stopped ss (Some stop) false e test is = absurd cc

pub some_stop : (stop : Stop) → Some stop ≡ None → ⊥
some_stop stop e = cc

pub is_kept : (ss : List Seat) (r : Option Stop) (b : Bool) → r ≡ worst_stop ss → is_some r ≡ not b → IsFalse b → KeepNone ss → ⊥
is_kept ss None true e test is free = cc
is_kept ss None false e test is free = cc
is_kept ss (Some stop) b e test is free = some_stop stop (e ∙ kept_free ss free)

abbrev IsOfOne : Option Stop → List Seat → Leaf → Type 0
IsOfOne r ss leaf = (r ≡ Some (Full leaf)) ⊎ ((k : ℕ) × (s : Seat) × (slice_get ss k ≡ Some s) × (s.refusal ≡ Some (Full leaf)))

not_memory : (leaf : Leaf) → Some (Full leaf) ≡ Some Memory → ⊥
not_memory leaf f = cc

not_first : (r q : Option Stop) → worse r q ≢ Some Memory → r ≢ Some Memory
not_first r q n f = n (ap (λ (x : Option Stop). worse x q) f)

not_second : (r q : Option Stop) → worse r q ≢ Some Memory → q ≢ Some Memory
not_second None q n f = n f
not_second (Some Memory) q n f = n refl
not_second (Some (Full x)) q n f = n (ap (worse (Some (Full x))) f)

of_first : (r : Option Stop) (s : Seat) (ss : List Seat) (leaf : Leaf) → (r ≡ Some (Full leaf)) ⊎ (s.refusal ≡ Some (Full leaf)) → IsOfOne r (s ∷ ss) leaf
of_first r s ss leaf (inl x) = inl x
of_first r s ss leaf (inr x) = inr (0, s, refl, x)

of_more : (r : Option Stop) (s : Seat) (ss : List Seat) (leaf : Leaf) → IsOfOne (worse r s.refusal) ss leaf → IsOfOne r (s ∷ ss) leaf
of_more r s ss leaf (inl here) = of_first r s ss leaf (one_full r s.refusal leaf here).2
of_more r s ss leaf (inr (k, q, at, is)) = inr (suc k, q, at, is)

full_from : (r : Option Stop) (ss : List Seat) (leaf : Leaf) → worst_from r ss ≡ Some (Full leaf) → (r ≢ Some Memory) × NoneIsOutOfMemory ss × IsOfOne r ss leaf
full_from r [] leaf e = ((λ f. not_memory leaf (sym e ∙ f)), tt, inl e)
full_from r (s ∷ ss) leaf e =
    let rest = full_from (worse r s.refusal) ss leaf e in
    (not_first r s.refusal rest.0, (not_second r s.refusal rest.0, rest.1), of_more r s ss leaf rest.2)

abbrev pub HasFull : List Seat → Leaf → Type 0
HasFull ss leaf = (k : ℕ) × (s : Seat) × (slice_get ss k ≡ Some s) × (s.refusal ≡ Some (Full leaf))

of_seat : (ss : List Seat) (leaf : Leaf) → IsOfOne None ss leaf → HasFull ss leaf
of_seat ss leaf (inl x) = absurd cc
of_seat ss leaf (inr x) = x

pub full_stopped : (ss : List Seat) (leaf : Leaf) → worst_stop ss ≡ Some (Full leaf) → NoneIsOutOfMemory ss × HasFull ss leaf
full_stopped ss leaf e = let all = full_from None ss leaf e in (all.1, of_seat ss leaf all.2)

-- ---- a seat as it leaves its work
no_stop : (r : Option Stop) (x : Stop) → r ≡ None → r ≡ Some x → ⊥
no_stop r x a b = cc

same_stop : (x y : Stop) → Some x ≡ Some y → x ≡ y
same_stop x y e = cc

pub left_done : (t : Rules) (s : Seat) → s.refusal ≡ None → s.worker.hand ≡ None → s.worker.kept ≡ [] → IsLeft t s
left_done t s free hand kept = record { empty = λ e. (hand, kept); full = λ leaf e. absurd (no_stop s.refusal (Full leaf) free e) }

module _ (t : Rules) (s q : Seat) (stop : Stop) (is : q ≡ with_refusal s (Some stop)) (full : IfFull stop (λ leaf. IsFullOf t leaf s)) where
  still_full : (leaf : Leaf) → stop ≡ Full leaf → IsFullOf t leaf (with_refusal s (Some stop))
  still_full leaf e = let f : IsFullOf t leaf s = subst (λ (x : Stop). IfFull x (λ l. IsFullOf t l s)) e full in record {
    hand = f.hand;
    marked = f.marked;
    leaves = f.leaves;
    limit = f.limit;
    fresh = f.fresh;
  }

  pub left_refused : IsLeft t q
  left_refused = subst (IsLeft t) (sym is) (record { empty = λ e. absurd (no_stop (Some stop) stop e refl); full = λ leaf e. still_full leaf (same_stop stop (Full leaf) e) })

  pub stopped_by : (e : PoolError) → e ≡ error_of stop → IsStoppedBy e q
  stopped_by e f = (stop, ap (λ (x : Seat). x.refusal) is, sym f)

  too_many_full : (x : Stop) → error_of x ≡ E.TooMany → (leaf : Leaf) × (x ≡ Full leaf)
  too_many_full (Full leaf) e = (leaf, refl)
  too_many_full Memory e = absurd cc

  pub too_many_is_full : (e : PoolError) → e ≡ error_of stop → e ≡ E.TooMany → IsFull t q
  too_many_is_full e f g =
      let l = too_many_full stop (sym f ∙ g) in
      subst (IsFull t) (sym is) (l.0, ap Some l.1, still_full l.0 l.1)

-- ---- the worst is that memory ran out
one_memory : (r q : Option Stop) → worse r q ≡ Some Memory → (r ≡ Some Memory) ⊎ (q ≡ Some Memory)
one_memory None q e = inr e
one_memory (Some Memory) q e = inl refl
one_memory (Some (Full leaf)) None e = absurd (not_memory leaf e)
one_memory (Some (Full leaf)) (Some Memory) e = inr refl
one_memory (Some (Full leaf)) (Some (Full other)) e = absurd (not_memory leaf e)

abbrev HasMemory : Option Stop → List Seat → Type 0
HasMemory r ss = (r ≡ Some Memory) ⊎ SomeIsOutOfMemory ss

memory_first : (r : Option Stop) (s : Seat) (ss : List Seat) → (r ≡ Some Memory) ⊎ (s.refusal ≡ Some Memory) → HasMemory r (s ∷ ss)
memory_first r s ss (inl x) = inl x
memory_first r s ss (inr x) = inr (0, s, refl, x)

memory_more : (r : Option Stop) (s : Seat) (ss : List Seat) → HasMemory (worse r s.refusal) ss → HasMemory r (s ∷ ss)
memory_more r s ss (inl here) = memory_first r s ss (one_memory r s.refusal here)
memory_more r s ss (inr (k, q, at, is)) = inr (suc k, q, at, is)

memory_from : (r : Option Stop) (ss : List Seat) → worst_from r ss ≡ Some Memory → HasMemory r ss
memory_from r [] e = inl e
memory_from r (s ∷ ss) e = memory_more r s ss (memory_from (worse r s.refusal) ss e)

memory_of_seat : (ss : List Seat) → HasMemory None ss → SomeIsOutOfMemory ss
memory_of_seat ss (inl x) = absurd cc
memory_of_seat ss (inr x) = x

pub memory_stopped : (ss : List Seat) → worst_stop ss ≡ Some Memory → SomeIsOutOfMemory ss
memory_stopped ss e = memory_of_seat ss (memory_from None ss e)
