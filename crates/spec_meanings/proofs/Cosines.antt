-- The function of extreme separations beside the cosine.
use Rattle.std.proofs.Common.{◌≡◌, ap, ◌∙◌, [], ◌∷◌, pos, ◌-ℤ◌, ◌*ℤ◌}
use Rattle.spec_numbers.proofs.Ring.{v, k as lit, ◌⊖◌, ◌⊗◌, ring}
use Rattle.spec_meanings.specs.Space.{dot, square}
use Rattle.spec_meanings.specs.Scenes.{Scene}
use Rattle.spec_meanings.specs.Polynomials.{dot_change, half_square_change, separation_change}

pub cosine_square : (s : Scene) → (pos 2 *ℤ (dot s.target s.second *ℤ dot_change s)) *ℤ (square s.target *ℤ square s.second) -ℤ (dot s.target s.second *ℤ dot s.target s.second) *ℤ (pos 2 *ℤ half_square_change s) ≡ (pos 2 *ℤ dot s.target s.second) *ℤ separation_change s
cosine_square s =
    ring (dot s.target s.second ∷ dot_change s ∷ (square s.target *ℤ square s.second) ∷ half_square_change s ∷ []) ((lit (pos 2) ⊗ (v 0 ⊗ v 1)) ⊗ v 2 ⊖ (v 0 ⊗ v 0) ⊗ (lit (pos 2) ⊗ v 3)) ((lit (pos 2) ⊗ v 0) ⊗ (v 1 ⊗ v 2 ⊖ v 0 ⊗ v 3)) tt

pub right_angle : (s : Scene) → dot s.target s.second ≡ pos 0 → separation_change s ≡ dot_change s *ℤ (square s.target *ℤ square s.second)
right_angle s e =
    ap (λ z. dot_change s *ℤ (square s.target *ℤ square s.second) -ℤ z *ℤ half_square_change s) e ∙ ring (dot_change s ∷ (square s.target *ℤ square s.second) ∷ half_square_change s ∷ []) (v 0 ⊗ v 1 ⊖ lit (pos 0) ⊗ v 2) (v 0 ⊗ v 1) tt
