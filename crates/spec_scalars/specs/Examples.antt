-- The polynomials and searches of the worked values.
use Rattle.std.specs.Prelude.{ℕ, ℤ, List, [], ◌∷◌, pos}
use Rattle.spec_numbers.specs.Numbers.{minus}
use Rattle.spec_trees.specs.declared.cuts.CutRule.TheVariants.{Half}
use Rattle.spec_trees.specs.declared.window.Holds.{Holds}
use Rattle.spec_trees.specs.declared.window.Window.{Window}
use Rattle.spec_events.specs.declared.dir.Dir.TheVariants.{Any}
use Rattle.spec_scalars.specs.declared.reach.Reach.{Reach}
use Rattle.spec_scalars.specs.Quads.{Quadratic, quad_scalar}
use Rattle.spec_scalars.specs.Searches.{Search}

abbrev pub quad : ℤ → ℤ → ℤ → Quadratic
quad p q r = record { p = p; q = q; r = r }

abbrev pub reach : ℤ → ℤ → ℤ → ℤ → Reach
reach lo hi step_lo step_hi = record { lo = lo; hi = hi; step_lo = step_lo; step_hi = step_hi }

-- t^2 - 100
abbrev pub square_less_100 : Quadratic
square_less_100 = quad (pos 1) (pos 0) (minus 100)

-- the search of a polynomial for each of its turns, down to one time and this depth
abbrev pub search_to : ℕ → Quadratic → Search
search_to depth k = record { scalar = quad_scalar k; plan = record { dir = Any; width = 1; depth = depth; cut = Half } }

abbrev pub one_window : ℤ → ℤ → Holds → List Window
one_window first last holds = record { first = first; last = last; holds = holds } ∷ []
