-- Pieces of work that balance, by weight.
use Rattle.std.proofs.Common.{◌≡◌, ℕ, ◌+◌, List, [], ◌++◌, IsPermutation, option_to_list, append_assoc, sym, ap, ◌∙◌, arith}
use Rattle.std.proofs.lemmas.List.{append-nil}
use Rattle.std.proofs.lemmas.List.Sorted.{sum_by-IsPermutation}
use Rattle.spec_trees.specs.declared.tree.Node.{Node}
use Rattle.spec_trees.specs.declared.tree.Leaf.{Leaf}
use Rattle.spec_trees.specs.Tree.{Rules, leaves}
use Rattle.spec_pool.specs.Accounts.{Account, Balances, leaves_of, own}
use Rattle.spec_pool.proofs.Weights.{weigh, weigh-append, weigh-flat, sum_is_weigh}
use Rattle.spec_pool.proofs.Finding.{leaves_permuted}
use Rattle.spec_pool.proofs.Hands.{weigh_hand, hand_weigh}

-- ---- a piece of work, by weight
-- what the leaves of a node weigh
abbrev pub by_leaves : Rules → (Leaf → ℕ) → Node → ℕ
by_leaves t h n = weigh h (leaves t n)

abbrev pub own_weight : Rules → (Leaf → ℕ) → Account → ℕ
own_weight t h a = weigh_hand (by_leaves t h) a.hand + weigh (by_leaves t h) a.kept

own_weigh : (t : Rules) (h : Leaf → ℕ) (a : Account) → weigh h (leaves_of t (own a)) ≡ own_weight t h a
own_weigh t h a =
    omega (arith, weigh-flat (leaves t) h (own a), weigh-append (by_leaves t h) (option_to_list a.hand) a.kept, hand_weigh (by_leaves t h) a.hand)

module _ (t : Rules) (a b : Account) (put taken : List Node) (entered : List Leaf) where
  Weighed : (Leaf → ℕ) → Type 0
  Weighed h = own_weight t h a + weigh (by_leaves t h) taken ≡ weigh h entered + weigh (by_leaves t h) put + own_weight t h b

  abbrev before : List Leaf
  before = leaves_of t (own a) ++ leaves_of t taken

  abbrev after : List Leaf
  after = entered ++ leaves_of t put ++ leaves_of t (own b)

  before_weigh : (h : Leaf → ℕ) → weigh h before ≡ own_weight t h a + weigh (by_leaves t h) taken
  before_weigh h = omega (arith, weigh-append h (leaves_of t (own a)) (leaves_of t taken), own_weigh t h a, weigh-flat (leaves t) h taken)

  after_weigh : (h : Leaf → ℕ) → weigh h after ≡ weigh h entered + weigh (by_leaves t h) put + own_weight t h b
  after_weigh h = omega (
    arith,
    weigh-append h (entered ++ leaves_of t put) (leaves_of t (own b)),
    weigh-append h entered (leaves_of t put),
    own_weigh t h b,
    weigh-flat (leaves t) h put,
  )

  from_weights : ((h : Leaf → ℕ) → Weighed h) → IsPermutation before after
  unfolding Weighed
  from_weights e = leaves_permuted before after (λ h. omega (arith, e h, before_weigh h, after_weigh h))

  to_weights : IsPermutation before after → (h : Leaf → ℕ) → Weighed h
  unfolding Weighed
  to_weights p h = omega (arith, sum_by-IsPermutation h before after p, sum_is_weigh h before, sum_is_weigh h after, before_weigh h, after_weigh h)

pub piece : (t : Rules) (a b : Account) (put taken : List Node) (entered : List Leaf) → b.put ≡ a.put ++ put → b.taken ≡ a.taken ++ taken → b.entered ≡ a.entered ++ entered
    → ((h : Leaf → ℕ) → own_weight t h a + weigh (by_leaves t h) taken ≡ weigh h entered + weigh (by_leaves t h) put + own_weight t h b) → Balances t a b
unfolding Weighed
piece t a b put taken entered p q r e =
    record { put = put; taken = taken; entered = entered; put_is = p; taken_is = q; entered_is = r; same = from_weights t a b put taken entered e }

pub no_work : (t : Rules) (a : Account) → Balances t a a
no_work t a =
    piece t a a [] [] [] (sym (append-nil a.put)) (sym (append-nil a.taken)) (sym (append-nil a.entered)) (λ h. omega arith)

pub one_after_another : (t : Rules) (a b c : Account) → Balances t a b → Balances t b c → Balances t a c
unfolding Weighed
one_after_another t a b c p q =
    piece t a c (p.put ++ q.put) (p.taken ++ q.taken) (p.entered ++ q.entered)
    (q.put_is ∙ (ap (λ (l : List Node). l ++ q.put) p.put_is ∙ append_assoc a.put p.put q.put))
    (q.taken_is ∙ (ap (λ (l : List Node). l ++ q.taken) p.taken_is ∙ append_assoc a.taken p.taken q.taken))
    (q.entered_is ∙ (ap (λ (l : List Leaf). l ++ q.entered) p.entered_is ∙ append_assoc a.entered p.entered q.entered))
    (λ h. omega (
      arith,
      to_weights t a b p.put p.taken p.entered p.same h,
      to_weights t b c q.put q.taken q.entered q.same h,
      weigh-append (by_leaves t h) p.put q.put,
      weigh-append (by_leaves t h) p.taken q.taken,
      weigh-append h p.entered q.entered,
    ))
