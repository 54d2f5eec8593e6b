-- The mid of the function of a search over a node into which no border falls tells the sign at its middle.
use Rattle.std.proofs.Common.{◌≡◌, false, ap, arith}
use Rattle.spec_numbers.proofs.Order.{lin}
use Rattle.spec_intervals.specs.Enclosure.{middle}
use Rattle.spec_intervals.specs.Signs.{sign_of}
use Rattle.spec_bodies.specs.Views.{Fits, state_enclosure}
use Rattle.spec_trees.specs.declared.tree.Node.{Node}
use Rattle.spec_trees.specs.Tree.{IsValid}
use Rattle.spec_searches.specs.Found.{rules}
use Rattle.spec_searches.specs.Search.{Search, IsSearch, crosses, enclosure_over}
use Rattle.spec_searches.proofs.Borders.{span_fits}
use Rattle.spec_bounds.specs.Steady.{sign_at}
use Rattle.spec_bounds.proofs.StatesAtMiddle.{middle_told}

module _ (s : Search) (n : Node) (is : IsSearch s) (valid : IsValid (rules s) n) (open_node : crosses s n ≡ false) where
  over_node : Fits s.view n.a n.b
  over_node =
      let inside = valid.inside in
      span_fits s.view is.view n.a n.b valid.from (omega (arith, lin, inside)) valid.to open_node

  pub sign_told : sign_of (enclosure_over (state_enclosure s.view) s.event.function n.a n.b).mid ≡ sign_at s (middle n.a n.b)
  sign_told = ap sign_of (middle_told s.view n.a n.b over_node s.event.function is.formulas.function.leaves)
