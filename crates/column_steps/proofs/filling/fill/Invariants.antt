use Rattle.std.proofs.Common.{◌≡◌, ◌≤◌, length}
use Rattle.spec_steps.specs.Steps.{terms_of}
use Rattle.column_steps.specs.Values.{AreValues}
use Rattle.column_steps.proofs.filling.fill.Given as goal

abbrev pub invariant-loop-place : goal.invariant-loop-place
invariant-loop-place g l = record {
  room : length l.slots ≡ length l.fn.slots;
  order : l.place ≤ l.upto;
  values : AreValues (g.A.Arithmetic.is_value l.arithmetic) (terms_of l.steps.steps) l.place l.slots;
}
