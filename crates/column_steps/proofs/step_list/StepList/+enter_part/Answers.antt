use Rattle.std.proofs.Common.{arith, inr, refl, rules}
use Rattle.spec_expressions.specs.Term.{position as position_of, velocity as velocity_of, sum as sum_of, difference as difference_of, product as product_of, nodes, term}
use Rattle.spec_steps.specs.ColumnTerms.{sum, difference, product, signed_square}
use Rattle.spec_expressions.specs.declared.expressions.Expr.TheFolds.{the_lemmas}
use Rattle.column_steps.specs.Listed.{step_count}
use Rattle.column_steps.proofs.Entered.{one_entered}
use Rattle.column_steps.proofs.Formulas.{leaf_entered, placed_later, second_room, terms_below, terms_entered, terms_part}
use Rattle.column_steps.proofs.step_list.StepList.+enter_part.Goals as goal

pub enter_part-y-requires : goal.enter_part-y-requires
enter_part-y-requires t c = (
  search (rules, the_lemmas),
  (
    search rules,
    (
      placed_later _ _ _ _ (sum_of (term c.in-Add.x.value) (term c.in-Add.y.value)) (term c.deref-in-Add.result.now) c.enter_part-x.ensures.grown
          (λ l named. inr (rw c.deref-in-Add.ensures at named)) (rw c.in-Add.is at c.requires.placed),
      rw c.deref-in-Add.ensures
          (second_room (step_count c.args.self.now) (step_count c.enter_part-x.new.self) (nodes (term c.in-Add.x.value)) (nodes (term c.in-Add.y.value))
          (rw c.in-Add.is at c.requires.room) (rw c.deref.ensures at c.enter_part-x.ensures.grown.few)),
    ),
  ),
)

pub enter-requires-in-Add-clause-step : goal.enter-requires-in-Add-clause-step
enter-requires-in-Add-clause-step t c =
    record {
      operands = terms_below sum sum_of (λ s d e. refl) _ _ _ _ _ _ _ (term c.in-Add.x.value) (term c.in-Add.y.value) (rw c.deref.ensures at c.enter_part-x.ensures) (rw c.deref-in-Add.ensures at c.enter_part-y.ensures);
      part = terms_part sum sum_of (λ s d e. refl) _ _ _ _ _ _ _ (term c.in-Add.x.value) (term c.in-Add.y.value) (rw c.deref.ensures at c.enter_part-x.ensures) (rw c.deref-in-Add.ensures at c.enter_part-y.ensures) (rw c.in-Add.is at c.requires.formula);
    }

pub returns-in-Add : goal.returns-in-Add
returns-in-Add t c = rw c.in-Add.is (terms_entered sum sum_of (λ s d e. refl) _ _ _ _ _ _ _ (term c.in-Add.x.value) (term c.in-Add.y.value) (rw c.deref.ensures at c.enter_part-x.ensures) (rw c.deref-in-Add.ensures at c.enter_part-y.ensures) _ _ _ (omega arith) c.enter-in-Add.ensures)

pub enter_part-y-requires-in-Sub : goal.enter_part-y-requires-in-Sub
enter_part-y-requires-in-Sub t c = (
  search (rules, the_lemmas),
  (
    search rules,
    (
      placed_later _ _ _ _ (difference_of (term c.in-Sub.x.value) (term c.in-Sub.y.value)) (term c.deref-in-Sub-2.result.now) c.enter_part-x-in-Sub.ensures.grown
          (λ l named. inr (rw c.deref-in-Sub-2.ensures at named)) (rw c.in-Sub.is at c.requires.placed),
      rw c.deref-in-Sub-2.ensures
          (second_room (step_count c.args.self.now) (step_count c.enter_part-x-in-Sub.new.self) (nodes (term c.in-Sub.x.value)) (nodes (term c.in-Sub.y.value))
          (rw c.in-Sub.is at c.requires.room) (rw c.deref-in-Sub.ensures at c.enter_part-x-in-Sub.ensures.grown.few)),
    ),
  ),
)

pub enter-requires-in-Sub-clause-step : goal.enter-requires-in-Sub-clause-step
enter-requires-in-Sub-clause-step t c =
    record {
      operands = terms_below difference difference_of (λ s d e. refl) _ _ _ _ _ _ _ (term c.in-Sub.x.value) (term c.in-Sub.y.value) (rw c.deref-in-Sub.ensures at c.enter_part-x-in-Sub.ensures) (rw c.deref-in-Sub-2.ensures at c.enter_part-y-in-Sub.ensures);
      part = terms_part difference difference_of (λ s d e. refl) _ _ _ _ _ _ _ (term c.in-Sub.x.value) (term c.in-Sub.y.value) (rw c.deref-in-Sub.ensures at c.enter_part-x-in-Sub.ensures) (rw c.deref-in-Sub-2.ensures at c.enter_part-y-in-Sub.ensures) (rw c.in-Sub.is at c.requires.formula);
    }

pub returns-in-Sub : goal.returns-in-Sub
returns-in-Sub t c = rw c.in-Sub.is (terms_entered difference difference_of (λ s d e. refl) _ _ _ _ _ _ _ (term c.in-Sub.x.value) (term c.in-Sub.y.value) (rw c.deref-in-Sub.ensures at c.enter_part-x-in-Sub.ensures) (rw c.deref-in-Sub-2.ensures at c.enter_part-y-in-Sub.ensures) _ _ _ (omega arith) c.enter-in-Sub.ensures)

pub enter_part-y-requires-in-Mul : goal.enter_part-y-requires-in-Mul
enter_part-y-requires-in-Mul t c = (
  search (rules, the_lemmas),
  (
    search rules,
    (
      placed_later _ _ _ _ (product_of (term c.in-Mul.x.value) (term c.in-Mul.y.value)) (term c.deref-in-Mul-2.result.now) c.enter_part-x-in-Mul.ensures.grown
          (λ l named. inr (rw c.deref-in-Mul-2.ensures at named)) (rw c.in-Mul.is at c.requires.placed),
      rw c.deref-in-Mul-2.ensures
          (second_room (step_count c.args.self.now) (step_count c.enter_part-x-in-Mul.new.self) (nodes (term c.in-Mul.x.value)) (nodes (term c.in-Mul.y.value))
          (rw c.in-Mul.is at c.requires.room) (rw c.deref-in-Mul.ensures at c.enter_part-x-in-Mul.ensures.grown.few)),
    ),
  ),
)

pub enter-requires-in-Mul-clause-step : goal.enter-requires-in-Mul-clause-step
enter-requires-in-Mul-clause-step t c =
    record {
      operands = terms_below product product_of (λ s d e. refl) _ _ _ _ _ _ _ (term c.in-Mul.x.value) (term c.in-Mul.y.value) (rw c.deref-in-Mul.ensures at c.enter_part-x-in-Mul.ensures) (rw c.deref-in-Mul-2.ensures at c.enter_part-y-in-Mul.ensures);
      part = terms_part product product_of (λ s d e. refl) _ _ _ _ _ _ _ (term c.in-Mul.x.value) (term c.in-Mul.y.value) (rw c.deref-in-Mul.ensures at c.enter_part-x-in-Mul.ensures) (rw c.deref-in-Mul-2.ensures at c.enter_part-y-in-Mul.ensures) (rw c.in-Mul.is at c.requires.formula);
    }

pub returns-in-Mul : goal.returns-in-Mul
returns-in-Mul t c = rw c.in-Mul.is (terms_entered product product_of (λ s d e. refl) _ _ _ _ _ _ _ (term c.in-Mul.x.value) (term c.in-Mul.y.value) (rw c.deref-in-Mul.ensures at c.enter_part-x-in-Mul.ensures) (rw c.deref-in-Mul-2.ensures at c.enter_part-y-in-Mul.ensures) _ _ _ (omega arith) c.enter-in-Mul.ensures)

pub returns-in-Pos : goal.returns-in-Pos
returns-in-Pos t c =
    rw c.in-Pos.is
    (leaf_entered _ c.args.places.now _ (position_of c.in-Pos.target c.in-Pos.axis) c.position.ensures (rw c.in-Pos.is at c.requires.formula.leaves) (rw c.in-Pos.is at c.requires.placed))

pub returns-in-Vel : goal.returns-in-Vel
returns-in-Vel t c =
    rw c.in-Vel.is
    (leaf_entered _ c.args.places.now _ (velocity_of c.in-Vel.target c.in-Vel.axis) c.velocity.ensures (rw c.in-Vel.is at c.requires.formula.leaves) (rw c.in-Vel.is at c.requires.placed))

pub returns-in-SignedSquare : goal.returns-in-SignedSquare
returns-in-SignedSquare t c =
    rw c.in-SignedSquare.is
    (one_entered signed_square _ _ _ _ _ (rw c.deref-in-SignedSquare.ensures at c.enter_part-x-in-SignedSquare.ensures) _ _ _ (omega arith) c.enter-in-SignedSquare.ensures)
