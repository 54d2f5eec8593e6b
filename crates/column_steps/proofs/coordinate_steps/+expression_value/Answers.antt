use Rattle.std.proofs.Common.{refl}
use Rattle.spec_expressions.specs.Term.{position as position_of, velocity as velocity_of, sum as sum_of, difference as difference_of, product as product_of, signed_square as square_of, term}
use Rattle.spec_steps.specs.ColumnTerms.{sum, difference, product, signed_square}
use Rattle.column_steps.proofs.WholeFormulas.{both_operands, both_value, leaf_valued, one_operand, one_value}
use Rattle.column_steps.proofs.coordinate_steps.+expression_value.Goals as goal

pub sum-requires-clause-operands : goal.sum-requires-clause-operands
sum-requires-clause-operands g t c = both_operands (g.A.Arithmetic.is_value c.args.arithmetic.now) (g.A.Arithmetic.sight c.args.arithmetic.now) sum sum_of (λ d e. refl) (term c.in-Add.x.value) (term c.in-Add.y.value) c.expression_value-x.result c.expression_value-y.result (rw c.in-Add.is at c.requires.formula) (rw c.deref.ensures at c.expression_value-x.ensures) (rw c.deref-in-Add.ensures at c.expression_value-y.ensures)

pub returns-in-Add : goal.returns-in-Add
returns-in-Add g t c = rw c.in-Add.is (both_value (g.A.Arithmetic.is_value c.args.arithmetic.now) (g.A.Arithmetic.sight c.args.arithmetic.now) sum sum_of (λ d e. refl) (term c.in-Add.x.value) (term c.in-Add.y.value) c.expression_value-x.result c.expression_value-y.result (rw c.in-Add.is at c.requires.formula) (rw c.deref.ensures at c.expression_value-x.ensures) (rw c.deref-in-Add.ensures at c.expression_value-y.ensures) c.sum.result c.sum.ensures)

pub difference-requires-clause-operands : goal.difference-requires-clause-operands
difference-requires-clause-operands g t c = both_operands (g.A.Arithmetic.is_value c.args.arithmetic.now) (g.A.Arithmetic.sight c.args.arithmetic.now) difference difference_of (λ d e. refl) (term c.in-Sub.x.value) (term c.in-Sub.y.value) c.expression_value-x-in-Sub.result c.expression_value-y-in-Sub.result (rw c.in-Sub.is at c.requires.formula) (rw c.deref-in-Sub.ensures at c.expression_value-x-in-Sub.ensures) (rw c.deref-in-Sub-2.ensures at c.expression_value-y-in-Sub.ensures)

pub returns-in-Sub : goal.returns-in-Sub
returns-in-Sub g t c = rw c.in-Sub.is (both_value (g.A.Arithmetic.is_value c.args.arithmetic.now) (g.A.Arithmetic.sight c.args.arithmetic.now) difference difference_of (λ d e. refl) (term c.in-Sub.x.value) (term c.in-Sub.y.value) c.expression_value-x-in-Sub.result c.expression_value-y-in-Sub.result (rw c.in-Sub.is at c.requires.formula) (rw c.deref-in-Sub.ensures at c.expression_value-x-in-Sub.ensures) (rw c.deref-in-Sub-2.ensures at c.expression_value-y-in-Sub.ensures) c.difference.result c.difference.ensures)

pub product-requires-clause-operands : goal.product-requires-clause-operands
product-requires-clause-operands g t c = both_operands (g.A.Arithmetic.is_value c.args.arithmetic.now) (g.A.Arithmetic.sight c.args.arithmetic.now) product product_of (λ d e. refl) (term c.in-Mul.x.value) (term c.in-Mul.y.value) c.expression_value-x-in-Mul.result c.expression_value-y-in-Mul.result (rw c.in-Mul.is at c.requires.formula) (rw c.deref-in-Mul.ensures at c.expression_value-x-in-Mul.ensures) (rw c.deref-in-Mul-2.ensures at c.expression_value-y-in-Mul.ensures)

pub returns-in-Mul : goal.returns-in-Mul
returns-in-Mul g t c = rw c.in-Mul.is (both_value (g.A.Arithmetic.is_value c.args.arithmetic.now) (g.A.Arithmetic.sight c.args.arithmetic.now) product product_of (λ d e. refl) (term c.in-Mul.x.value) (term c.in-Mul.y.value) c.expression_value-x-in-Mul.result c.expression_value-y-in-Mul.result (rw c.in-Mul.is at c.requires.formula) (rw c.deref-in-Mul.ensures at c.expression_value-x-in-Mul.ensures) (rw c.deref-in-Mul-2.ensures at c.expression_value-y-in-Mul.ensures) c.product.result c.product.ensures)

pub signed_square-requires-clause-operand : goal.signed_square-requires-clause-operand
signed_square-requires-clause-operand g t c = one_operand (g.A.Arithmetic.is_value c.args.arithmetic.now) (g.A.Arithmetic.sight c.args.arithmetic.now) signed_square square_of (λ d. refl) (term c.in-SignedSquare.x.value) c.expression_value-x-in-SignedSquare.result (rw c.in-SignedSquare.is at c.requires.formula) (rw c.deref-in-SignedSquare.ensures at c.expression_value-x-in-SignedSquare.ensures)

pub returns-in-SignedSquare : goal.returns-in-SignedSquare
returns-in-SignedSquare g t c = rw c.in-SignedSquare.is (one_value (g.A.Arithmetic.is_value c.args.arithmetic.now) (g.A.Arithmetic.sight c.args.arithmetic.now) signed_square square_of (λ d. refl) (term c.in-SignedSquare.x.value) c.expression_value-x-in-SignedSquare.result (rw c.in-SignedSquare.is at c.requires.formula) (rw c.deref-in-SignedSquare.ensures at c.expression_value-x-in-SignedSquare.ensures) c.signed_square.result c.signed_square.ensures)

pub returns-in-Pos : goal.returns-in-Pos
returns-in-Pos g t c = rw c.in-Pos.is (leaf_valued (g.A.Arithmetic.is_value c.args.arithmetic.now) (g.A.Arithmetic.sight c.args.arithmetic.now) c.args.values.now (position_of c.in-Pos.target c.in-Pos.axis) c.position.result c.position.ensures (rw c.in-Pos.is at c.requires.formula.leaves) (rw c.in-Pos.is at c.requires.named))

pub returns-in-Vel : goal.returns-in-Vel
returns-in-Vel g t c = rw c.in-Vel.is (leaf_valued (g.A.Arithmetic.is_value c.args.arithmetic.now) (g.A.Arithmetic.sight c.args.arithmetic.now) c.args.values.now (velocity_of c.in-Vel.target c.in-Vel.axis) c.velocity.result c.velocity.ensures (rw c.in-Vel.is at c.requires.formula.leaves) (rw c.in-Vel.is at c.requires.named))
