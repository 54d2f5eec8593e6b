-- One span more at the end of those that are joined.
use Rattle.std.proofs.Common.{◌≡◌, List, [], ◌∷◌, ◌++◌, ℤ, ◌≤ℤ◌, ◌<ℤ◌, refl}
use Rattle.spec_stills.specs.declared.still.StillSpan.{StillSpan}
use Rattle.still_spans.specs.Found.{AreInOrder}
use Rattle.still_spans.specs.Joined.{end_of_last}

pub in_order_after : (from : ℤ) (xs : List StillSpan) (x : StillSpan) → AreInOrder from xs → end_of_last from xs ≤ℤ x.from → x.from <ℤ x.upto
    → AreInOrder from (xs ++ x ∷ [])
in_order_after from [] x order after several = (after, several, tt)
in_order_after from (y ∷ ys) x order after several = (order.0, order.1, in_order_after y.upto ys x order.2 after several)

pub end_after : (from : ℤ) (xs : List StillSpan) (x : StillSpan) → end_of_last from (xs ++ x ∷ []) ≡ x.upto
end_after from [] x = refl
end_after from (y ∷ ys) x = end_after y.upto ys x
