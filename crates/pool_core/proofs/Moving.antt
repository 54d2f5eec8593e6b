-- What a step does to the weights of all nodes.
use Rattle.std.proofs.Common.{◌≡◌, ℕ, ◌+◌, ◌≤◌, List, ◌++◌, map, flat_map, ap, option_to_list, arith}
use Rattle.spec_trees.specs.declared.tree.Node.{Node}
use Rattle.spec_trees.specs.declared.tree.Leaf.{Leaf}
use Rattle.spec_trees.specs.Tree.{Rules}
use Rattle.pool_core.specs.States.{Holding, State, Pushes, Keeps, Pops, TakesKept, Gets, GivesUp, Enters, At, Steals}
use Rattle.pool_core.specs.Tiling.{held, nodes}
use Rattle.spec_pool.proofs.Hands.{weigh_hand, hand_weigh}
use Rattle.spec_pool.proofs.Weights.{weigh, weigh-append, weigh-push, weigh-set, weigh-get, weigh-map, weigh-flat, weigh-same}

abbrev pub weigh_holding : (Node → ℕ) → Holding → ℕ
weigh_holding h x = weigh_hand h x.hand + weigh h x.deque + weigh h x.kept

abbrev pub weigh_all : (Node → ℕ) → State → ℕ
weigh_all h s = weigh (weigh_holding h) s.workers + weigh (λ (l : Leaf). h l.node) s.entered

held_weigh : (h : Node → ℕ) (x : Holding) → weigh h (held x) ≡ weigh_holding h x
held_weigh h x =
    omega (arith, weigh-append h (option_to_list x.hand ++ x.deque) x.kept, weigh-append h (option_to_list x.hand) x.deque, hand_weigh h x.hand)

pub nodes_weigh : (h : Node → ℕ) (s : State) → weigh h (nodes s) ≡ weigh_all h s
nodes_weigh h s =
    omega (
      arith,
      weigh-append h (flat_map held s.workers) (map (λ (l : Leaf). l.node) s.entered),
      weigh-flat held h s.workers,
      weigh-same (λ x. weigh h (held x)) (weigh_holding h) s.workers (held_weigh h),
      weigh-map (λ (l : Leaf). l.node) h s.entered,
    )

-- ---- one worker
pub pushes_weigh : (t : Rules) (h : Node → ℕ) (x y : Holding) (p : Pushes t x y) → weigh_holding h y + h p.node ≡ weigh_holding h x + (h (t.parts p.node).0 + h (t.parts p.node).1)
pushes_weigh t h x y p = omega (arith, ap (weigh_holding h) p.after, ap (weigh_hand h) p.in_hand, weigh-push h x.deque (t.parts p.node).1)

pub keeps_weigh : (t : Rules) (h : Node → ℕ) (x y : Holding) (p : Keeps t x y) → weigh_holding h y + h p.node ≡ weigh_holding h x + (h (t.parts p.node).0 + h (t.parts p.node).1)
keeps_weigh t h x y p = omega (arith, ap (weigh_holding h) p.after, ap (weigh_hand h) p.in_hand, weigh-push h x.kept (t.parts p.node).1)

pub pops_weigh : (h : Node → ℕ) (x y : Holding) (p : Pops x y) → weigh_holding h y ≡ weigh_holding h x
pops_weigh h x y p = omega (arith, ap (weigh_holding h) p.after, ap (weigh_hand h) p.empty, ap (weigh h) p.front)

pub takes_weigh : (h : Node → ℕ) (x y : Holding) (p : TakesKept x y) → weigh_holding h y ≡ weigh_holding h x
takes_weigh h x y p = omega (arith, ap (weigh_holding h) p.after, ap (weigh_hand h) p.empty, ap (weigh h) p.top, weigh-push h p.rest p.node)

pub gets_weigh : (h : Node → ℕ) (n : Node) (x y : Holding) (p : Gets n x y) → weigh_holding h y ≡ weigh_holding h x + h n
gets_weigh h n x y p = omega (arith, ap (weigh_holding h) p.after, ap (weigh_hand h) p.empty)

pub gives_weigh : (h : Node → ℕ) (n : Node) (x y : Holding) (p : GivesUp n x y) → weigh_holding h y + h n ≡ weigh_holding h x
gives_weigh h n x y p = omega (arith, ap (weigh_holding h) p.after, ap (weigh h) p.front)

pub enters_weigh : (t : Rules) (h : Node → ℕ) (l : Leaf) (x y : Holding) (p : Enters t l x y) → weigh_holding h y + h l.node ≡ weigh_holding h x
enters_weigh t h l x y p = omega (arith, ap (weigh_holding h) p.after, ap (weigh_hand h) p.in_hand, ap (λ (k : Leaf). h k.node) p.entered)

-- ---- and so all workers
pub at_weigh : (f : Holding → ℕ) (w : ℕ) (R : Holding → Holding → Type 0) (s s' : List Holding) (p : At w R s s') → weigh f s' + f p.old ≡ weigh f s + f p.new
at_weigh f w R s s' p = omega (arith, ap (weigh f) p.others, weigh-set f s w p.old p.new p.here)

pub at_le : (f : Holding → ℕ) (w : ℕ) (R : Holding → Holding → Type 0) (s s' : List Holding) (p : At w R s s') → f p.old ≤ weigh f s
at_le f w R s s' p = weigh-get f s w p.old p.here

pub steals_weigh : (h : Node → ℕ) (w from : ℕ) (s s' : List Holding) (p : Steals w from s s') → weigh (weigh_holding h) s' ≡ weigh (weigh_holding h) s
steals_weigh h w from s s' p = omega (
  arith,
  at_weigh (weigh_holding h) from (GivesUp p.node) s p.between p.gives,
  gives_weigh h p.node p.gives.old p.gives.new p.gives.goes,
  at_weigh (weigh_holding h) w (Gets p.node) p.between s' p.gets,
  gets_weigh h p.node p.gets.old p.gets.new p.gets.goes,
)
