-- The opening state is the root alone.
use Rattle.std.proofs.Common.{◌≡◌, ℕ, zero, suc, ◌-◌, [], ◌∷◌, replicate, Some, slice_get, refl, arith}
use Rattle.std.proofs.lemmas.List.{append-nil}
use Rattle.std.proofs.lemmas.List.Elements.{All-nil, All-cons}
use Rattle.spec_trees.specs.declared.tree.Node.{Node}
use Rattle.spec_trees.specs.Tree.{Rules, IsValid, IsLeaf, leaves}
use Rattle.pool_core.specs.States.{Holding, nothing, opening}
use Rattle.pool_core.specs.Tiling.{Tiles, Conserves}
use Rattle.spec_pool.proofs.Weights.{weigh}
use Rattle.pool_core.proofs.Moving.{weigh_holding, weigh_all}
use Rattle.pool_core.proofs.Keeping.{from_weights}

pub idle : (m w : ℕ) (x : Holding) → slice_get (replicate m nothing) w ≡ Some x → x ≡ nothing
idle zero w x at = absurd cc
idle (suc m) zero x at = cc
idle (suc m) (suc w) x at = idle m w x at

idle_weigh : (h : Node → ℕ) (n : ℕ) → weigh (weigh_holding h) (replicate n nothing) ≡ 0
idle_weigh h zero = refl
idle_weigh h (suc n) = omega (arith, idle_weigh h n)

opening_weigh : (h : Node → ℕ) (root : Node) (n : ℕ) → weigh_all h (opening root n) ≡ weigh h (root ∷ [])
opening_weigh h root n = omega (arith, idle_weigh h (n - 1))

root_tiles : (t : Rules) (root : Node) → IsValid t root → Tiles t root (root ∷ [])
root_tiles t root v = record {
  valid = All-cons (IsValid t) root [] v (All-nil (IsValid t));
  follow = (refl, v.inside, refl);
  joined = append-nil (leaves t root);
}

pub opening_conserves : (t : Rules) (root : Node) (n : ℕ) → IsValid t root → Conserves t root (opening root n)
opening_conserves t root n v = record {
  ordered = root ∷ [];
  same = from_weights (opening root n) (root ∷ []) (λ h. opening_weigh h root n);
  tiles = root_tiles t root v;
  entered = All-nil (IsLeaf t);
}
