use Rattle.std.proofs.Common.{subst}
use Rattle.spec_bodies.specs.declared.quantity.Quantity.TheVariants.{Position, Velocity}
use Rattle.body_states.specs.Moments.{AreMade, Moment}
use Rattle.body_states.proofs.snapshots.Snapshot.written_entries.Goals as goal

pub returns-in-Position : goal.returns-in-Position
returns-in-Position c =
    rw c.in-Position.is (subst (λ (m : Moment). AreMade m.view Position c.self.inside.position_axes m.first m.last c.self.inside.positions) c.self.view_is c.self.invariant.0)

pub returns-in-Velocity : goal.returns-in-Velocity
returns-in-Velocity c =
    rw c.in-Velocity.is (subst (λ (m : Moment). AreMade m.view Velocity c.self.inside.velocity_axes m.first m.last c.self.inside.velocities) c.self.view_is c.self.invariant.1)
