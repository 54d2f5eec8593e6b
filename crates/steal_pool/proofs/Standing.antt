-- What is true of each worker stays true.
use Rattle.std.proofs.Common.{◌≡◌, ℕ, ◌+◌, ◌≤◌, List, [], ◌∷◌, ◌++◌, length, sym, ap, ◌∙◌, subst, Some, arith}
use Rattle.std.proofs.lemmas.List.{length-set}
use Rattle.spec_trees.specs.declared.tree.Node.{Node}
use Rattle.spec_trees.specs.Tree.{Rules, IsValid, IsSound}
use Rattle.steal_pool.specs.declared.view.DequeView.{DequeView}
use Rattle.steal_pool.specs.Rule.{AreValid, End, HasTaken, takes_one, with_put}
use Rattle.steal_pool.specs.Workers.{Holder, holder_of, Stands, IsSplit, TookOne}
use Rattle.steal_pool.proofs.Listing.{all_left, all_push, all_right, length_push}

pub same_some : (t : Rules) (x y : Node) → Some x ≡ Some y → IsValid t x → IsValid t y
same_some t x y e v = let same : x ≡ y = cc in subst (IsValid t) same v

pub last_valid : (t : Rules) (rest ns : List Node) (n : Node) → AreValid t ns → ns ≡ rest ++ n ∷ [] → IsValid t n
last_valid t rest ns n a e = (all_right (IsValid t) rest (n ∷ []) (subst (AreValid t) e a)).0

-- the top of the local stack is in the hand
pub kept_stands : (t : Rules) (w : Holder) (rest : List Node) (n : Node) → Stands t w → w.kept ≡ rest ++ n ∷ [] → Stands t (holder_of w.own w.stealers w.pushed_in_a_row (Some n) rest)
kept_stands t w rest n a e = record {
  hand = λ m same. same_some t n m same (last_valid t rest w.kept n a.kept e);
  kept = all_left (IsValid t) rest (n ∷ []) (subst (AreValid t) e a.kept);
  pushed_in_a_row = a.pushed_in_a_row;
}

pub cut_of_split : (t : Rules) (w : Holder) (left right : Node) → Stands t w → IsSound t → IsSplit t w left right → IsValid t left × IsValid t right
cut_of_split t w left right a sound split =
    let cut = sound.cut split.0 (a.hand split.0 split.1) split.2 in
    (subst (λ (y : Node × Node). IsValid t y.0) split.3 cut.left, subst (λ (y : Node × Node). IsValid t y.1) split.3 cut.right)

-- the right part is on the local stack, the left in the hand
pub more_stands : (t : Rules) (w : Holder) (ks : List Node) (left right : Node) → Stands t w → IsSound t → IsSplit t w left right → ks ≡ w.kept ++ right ∷ [] → Stands t (holder_of w.own w.stealers w.pushed_in_a_row (Some left) ks)
more_stands t w ks left right a sound split e =
    let cut = cut_of_split t w left right a sound split in record {
      hand = λ m same. same_some t left m same cut.0;
      kept = subst (AreValid t) (sym e) (all_push (IsValid t) w.kept right a.kept cut.1);
      pushed_in_a_row = a.pushed_in_a_row;
    }

-- the right part is on the own deque, the left in the hand
pub offered_stands : (t : Rules) (w : Holder) (e : End) (left right : Node) → Stands t w → IsSound t → IsSplit t w left right → e.view ≡ with_put w.own.view (right ∷ [])
    → Stands t (holder_of e w.stealers (w.pushed_in_a_row + 1) (Some left) w.kept)
offered_stands t w e left right a sound split is =
    let cut = cut_of_split t w left right a sound split in record {
      hand = λ m same. same_some t left m same cut.0;
      kept = a.kept;
      pushed_in_a_row = omega (arith, a.pushed_in_a_row, ap (λ (v : DequeView). length v.put) is, length_push w.own.view.put right);
    }

-- a node of the own deque is in the hand
pub own_stands : (t : Rules) (w : Holder) (e : End) (n : Node) → Stands t w → HasTaken t w.own.view (n ∷ []) e.view → Stands t (holder_of e w.stealers w.pushed_in_a_row (Some n) w.kept)
own_stands t w e n a took = record {
  hand = λ m same. same_some t n m same took.1.0;
  kept = a.kept;
  pushed_in_a_row = omega (arith, a.pushed_in_a_row, ap (λ (v : DequeView). length v.put) took.0);
}

-- the own deque stays as it is, with so many pushes in a row
pub empty_stands : (t : Rules) (w : Holder) (e : End) (pushed : ℕ) → Stands t w → e.view ≡ w.own.view → pushed ≤ w.pushed_in_a_row → Stands t (holder_of e w.stealers pushed w.hand w.kept)
empty_stands t w e pushed a is few = record {
  hand = a.hand;
  kept = a.kept;
  pushed_in_a_row = omega (arith, few, a.pushed_in_a_row, ap (λ (v : DequeView). length v.put) is);
}

pub took_length : (n : Node) (es fs : List End) → TookOne n es fs → length fs ≡ length es
took_length n es fs t = ap length t.3 ∙ length-set es t.0 (takes_one t.1 n)
