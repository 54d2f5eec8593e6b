use Rattle.std.proofs.Common.{◌-ℤ◌, w64, arith}
use Rattle.std.proofs.lemmas.Int.{ints, to_z-of_z}
use mir.Val.{SFits}
use Rattle.spec_searches.specs.Found.{rules}
use Rattle.event_judge.proofs.Near.{a_fits, a_low, b_fits, b_high, width_fits}
use Rattle.event_judge.proofs.valid_node.ValidNode.width.Goals as goal

pub overflow_sub-self : goal.overflow_sub-self
overflow_sub-self c =
    let s = c.args.self in
    let t = rules s.search.now in
    let low = a_low t s.sound s.node s.valid in
    let high = b_high t s.sound s.node s.valid in
    let inside = s.valid.inside in
    rw (to_z-of_z w64 s.node.a (a_fits t s.sound s.node s.valid), to_z-of_z w64 s.node.b (b_fits t s.sound s.node s.valid)) (omega (arith, ints, low, high, inside))

pub returns : goal.returns
returns c =
    let s = c.args.self in
    let t = rules s.search.now in
    let a : SFits w64 s.node.a = a_fits t s.sound s.node s.valid in
    let b : SFits w64 s.node.b = b_fits t s.sound s.node s.valid in
    let difference : SFits w64 (s.node.b -ℤ s.node.a) = width_fits t s.sound s.node s.valid in
    simp to_z-of_z at c.unsigned_abs.ensures.value
