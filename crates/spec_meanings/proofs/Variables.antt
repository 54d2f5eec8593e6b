-- Triples of variables: identities of dot products, written as `ring` takes them.
use Rattle.std.proofs.Common.{ℕ, ◌+◌}
use Rattle.spec_numbers.proofs.Ring.{Poly, v, ◌⊕◌, ◌⊖◌, ◌⊗◌}

pub record Variables : Type 0 where
  pub x : Poly
  pub y : Poly
  pub z : Poly

-- three values that follow one another, from a place on
abbrev pub triple : ℕ → Variables
triple k = record { x = v k; y = v (k + 1); z = v (k + 2) }

abbrev pub inner : Variables → Variables → Poly
inner p q = (p.x ⊗ q.x ⊕ p.y ⊗ q.y) ⊕ p.z ⊗ q.z

abbrev pub crossed : Variables → Variables → Variables
crossed p q = record { x = p.y ⊗ q.z ⊖ p.z ⊗ q.y; y = p.z ⊗ q.x ⊖ p.x ⊗ q.z; z = p.x ⊗ q.y ⊖ p.y ⊗ q.x }

abbrev pub together : Poly → Variables → Poly → Variables → Variables
together m p n q = record { x = m ⊗ p.x ⊕ n ⊗ q.x; y = m ⊗ p.y ⊕ n ⊗ q.y; z = m ⊗ p.z ⊕ n ⊗ q.z }
