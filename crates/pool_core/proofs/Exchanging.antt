-- Two neighbouring events of different workers on different deques may change places.
use Rattle.std.proofs.Common.{◌≡◌, ◌≢◌, ℕ, ◌⊎◌, inl, inr, List, [], ◌∷◌, ◌++◌, length, flat_map, append_assoc, refl, sym, ap, ◌∙◌, subst}
use Rattle.std.proofs.lemmas.List.{append-nil}
use Rattle.std.proofs.lemmas.List.Elements.{All-from_recursion, recursion_from_All}
use Rattle.std.specs.List.{AllByRecursion}
use Rattle.spec_trees.specs.declared.tree.Node.{Node}
use Rattle.spec_trees.specs.Tree.{Rules}
use Rattle.spec_pool.specs.Accounts.{Account}
use Rattle.spec_pool.specs.Acts.{Act, History, takes_from}
use Rattle.pool_core.specs.Interleaved.{Event, act_of, first_account, put_by, put_on, taken_from, KeepsRule, IsNamed, Interleaves, Spares, AreApart}
use Rattle.pool_core.proofs.Interleaving.{act_other, same_or_other}

module _ {B : Type 0} (f : Event → List B) (d e : Event) where
  without : f d ≡ [] → (front rest : List Event) → flat_map f (front ++ d ∷ rest) ≡ flat_map f (front ++ rest)
  without none [] rest = ap (λ (l : List B). l ++ flat_map f rest) none
  without none (x ∷ front) rest = ap (λ (l : List B). f x ++ l) (without none front rest)

  exchanged : (f d ≡ []) ⊎ (f e ≡ []) → (front rest : List Event) → flat_map f (front ++ d ∷ e ∷ rest) ≡ flat_map f (front ++ e ∷ d ∷ rest)
  exchanged (inl none) [] rest = ap (λ (l : List B). l ++ (f e ++ flat_map f rest)) none ∙ ap (λ (l : List B). f e ++ (l ++ flat_map f rest)) (sym none)
  exchanged (inr none) [] rest = ap (λ (l : List B). f d ++ (l ++ flat_map f rest)) none ∙ ap (λ (l : List B). l ++ (f d ++ flat_map f rest)) (sym none)
  exchanged none (x ∷ front) rest = ap (λ (l : List B). f x ++ l) (exchanged none front rest)

all_exchanged : (P : Event → Type 0) (d e : Event) (front rest : List Event) → AllByRecursion P (front ++ d ∷ e ∷ rest) → AllByRecursion P (front ++ e ∷ d ∷ rest)
all_exchanged P d e [] rest all = (all.1.0, (all.0, all.1.1))
all_exchanged P d e (x ∷ front) rest all = (all.0, all_exchanged P d e front rest all.1)

-- a front part ends before the two, between them or behind them
IsBefore : List Event → List Event → Type 0
IsBefore front before = (rest : List Event) × (front ≡ before ++ rest)

IsBehind : Event → Event → List Event → List Event → List Event → List Event → Type 0
IsBehind d e front back before after = (middle : List Event) × (before ≡ front ++ e ∷ d ∷ middle) × (back ≡ middle ++ after)

parts : (d e : Event) (front back before after : List Event) → front ++ e ∷ d ∷ back ≡ before ++ after → IsBefore front before ⊎ ((before ≡ front ++ e ∷ []) ⊎ IsBehind d e front back before after)
unfolding IsBefore IsBehind
parts d e front back [] after same = inl (front, refl)
parts d e [] back (b ∷ []) after same = let first : e ≡ b = cc in inr (inl (ap (λ (z : Event). z ∷ []) (sym first)))
parts d e [] back (b ∷ (c ∷ before)) after same =
    let first : e ≡ b = cc in
    let second : d ≡ c = cc in
    let rest : back ≡ before ++ after = cc in
    inr (inr (before, λ i. sym first i ∷ (sym second i ∷ before), rest))
parts d e (x ∷ front) back (b ∷ before) after same =
    let first : x ≡ b = cc in
    let rest : front ++ e ∷ d ∷ back ≡ before ++ after = cc in
    elim (parts d e front back before after rest) [
      | inl p ↦ inl (p.0, λ i. first i ∷ p.1 i)
      | inr q ↦ elim q [
        | inl p ↦ inr (inl (λ i. sym first i ∷ p i))
        | inr p ↦ inr (inr (p.0, λ i. sym first i ∷ p.1 i, p.2))
      ]
    ]

abbrev taken_by : ℕ → Event → List Node
taken_by k e = takes_from k e.act

Leaves : ℕ → List Event → Type 0
Leaves k es = (left : List Node) × (put_on k es ≡ taken_from k es ++ left)

same_leaves : (k : ℕ) (es fs : List Event) → put_on k es ≡ put_on k fs → taken_from k es ≡ taken_from k fs → Leaves k es → Leaves k fs
unfolding Leaves
same_leaves k es fs put taken p = (p.0, sym put ∙ (p.1 ∙ ap (λ (l : List Node). l ++ p.0) taken))

module _ (d e : Event) (front back : List Event) (k : ℕ) (rule : KeepsRule k (front ++ d ∷ e ∷ back)) (spares : Spares k d ⊎ Spares k e) where
  between : (s : Spares k d ⊎ Spares k e) → Leaves k (front ++ e ∷ [])
  unfolding Leaves
  between (inl s) = same_leaves k (front ++ d ∷ e ∷ []) (front ++ e ∷ []) (without (put_by k) d e s.0 front (e ∷ [])) (without (taken_by k) d e s.1 front (e ∷ []))
      (rule (front ++ d ∷ e ∷ []) back (sym (append_assoc front (d ∷ e ∷ []) back)))
  between (inr s) = same_leaves k front (front ++ e ∷ [])
      (sym (without (put_by k) e d s.0 front [] ∙ ap (put_on k) (append-nil front)))
      (sym (without (taken_by k) e d s.1 front [] ∙ ap (taken_from k) (append-nil front)))
      (rule front (d ∷ e ∷ back) refl)

  no_put : (s : Spares k d ⊎ Spares k e) → (put_by k d ≡ []) ⊎ (put_by k e ≡ [])
  no_put (inl s) = inl s.0
  no_put (inr s) = inr s.0

  none_taken : (s : Spares k d ⊎ Spares k e) → (taken_by k d ≡ []) ⊎ (taken_by k e ≡ [])
  none_taken (inl s) = inl s.1
  none_taken (inr s) = inr s.1

  behind : (middle after : List Event) → back ≡ middle ++ after → Leaves k (front ++ e ∷ d ∷ middle)
  unfolding Leaves
  behind middle after same =
      same_leaves k (front ++ d ∷ e ∷ middle) (front ++ e ∷ d ∷ middle) (exchanged (put_by k) d e (no_put spares) front middle) (exchanged (taken_by k) d e (none_taken spares) front middle)
      (rule (front ++ d ∷ e ∷ middle) after (ap (λ (l : List Event). front ++ d ∷ e ∷ l) same ∙ sym (append_assoc front (d ∷ e ∷ middle) after)))

  keeps : KeepsRule k (front ++ e ∷ d ∷ back)
  unfolding Leaves IsBefore IsBehind
  keeps before after same = by (parts d e front back before after same) where
    by : IsBefore front before ⊎ ((before ≡ front ++ e ∷ []) ⊎ IsBehind d e front back before after) → (left : List Node) × (put_on k before ≡ taken_from k before ++ left)
    by (inl p) = rule before (p.0 ++ d ∷ e ∷ back) (ap (λ (l : List Event). l ++ d ∷ e ∷ back) p.1 ∙ append_assoc before p.0 (d ∷ e ∷ back))
    by (inr (inl p)) = subst (Leaves k) (sym p) (between spares)
    by (inr (inr p)) = subst (Leaves k) (sym p.1) (behind p.0 after p.2)

pub may_change_places : (t : Rules) (root : Node) (front : List Event) (d e : Event) (back : List Event) (accounts : List Account) → AreApart d e → Interleaves t root (front ++ d ∷ e ∷ back) accounts → Interleaves t root (front ++ e ∷ d ∷ back) accounts
may_change_places t root front d e back accounts apart p = record {
  some = p.some;
  named = All-from_recursion (IsNamed (length accounts)) (front ++ e ∷ d ∷ back) (all_exchanged (IsNamed (length accounts)) d e front back (recursion_from_All (IsNamed (length accounts)) (front ++ d ∷ e ∷ back) p.named));
  histories = λ w a at. subst (λ (l : List Act). History t (first_account root w) l a) (exchanged (act_of w) d e (one_other w (same_or_other d.worker w)) front back) (p.histories w a at);
  rules = λ k below. keeps d e front back k (p.rules k below) (apart.deques k);
} where
  one_other : (w : ℕ) → (d.worker ≡ w) ⊎ (d.worker ≢ w) → (act_of w d ≡ []) ⊎ (act_of w e ≡ [])
  one_other w (inl same) = inr (act_other e.worker w e.act (λ also. apart.workers (same ∙ sym also)))
  one_other w (inr other) = inl (act_other d.worker w d.act other)
