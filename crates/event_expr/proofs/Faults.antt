-- A term has a node.
use Rattle.std.proofs.Common.{◌≡◌, ℕ, ◌<◌, ◌≤◌, arith}
use Rattle.spec_expressions.specs.Term.{Term, leaf, length, cosine, sum, difference, product, signed_square, nodes}

nodes_pos : (e : Term) → 1 ≤ nodes e
nodes_pos (leaf l) = omega arith
nodes_pos (length d) = omega arith
nodes_pos (cosine d) = omega arith
nodes_pos (sum x y) = omega arith
nodes_pos (difference x y) = omega arith
nodes_pos (product x y) = omega arith
nodes_pos (signed_square x) = omega arith

pub none-fit : (room : ℕ) (e : Term) → room ≡ 0 → room < nodes e
none-fit room e h = let p = nodes_pos e in omega arith
