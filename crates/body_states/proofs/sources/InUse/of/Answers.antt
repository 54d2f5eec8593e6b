use Rattle.std.proofs.Common.{arith, ◌∙◌, sym}
use Rattle.std.proofs.lemmas.List.{get_or_default}
use Rattle.std.proofs.lemmas.List.Filters.{FiltersInPlace-more_set, FiltersInPlace-more_no}
use Rattle.body_states.proofs.sources.InUse.of.Goals as goal
use Rattle.body_states.proofs.sources.InUse.of.Goals.{then-is_in_use, else-is_in_use}

pub loop-i-preserved : goal.loop-i-preserved
loop-i-preserved c =
    let long = c.loop-i.invariant.long in
    let below = c.loop-i-test.true in
    elim c.if-is_in_use.branch [
      | then-is_in_use w ↦ rw (w.numbers-is, w.count-is) (FiltersInPlace-more_set c.loop-i.invariant (omega (arith, long, below)) (sym c.is_in_use.ensures ∙ w.if-is_in_use.true) (get_or_default c.loop-i.numbers c.loop-i.i 0 _ (omega (arith, long, below))))
      | else-is_in_use w ↦ rw (w.numbers-is, w.count-is) (FiltersInPlace-more_no c.loop-i.invariant (omega (arith, long, below)) (sym c.is_in_use.ensures ∙ w.if-is_in_use.false) (get_or_default c.loop-i.numbers c.loop-i.i 0 _ (omega (arith, long, below))))
    ]
