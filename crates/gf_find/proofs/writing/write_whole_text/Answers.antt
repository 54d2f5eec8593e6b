use Rattle.std.proofs.Common.{arith, length-drop, ℕ}
use Rattle.gf_find.proofs.Gains.{gains_more}
use Rattle.gf_find.proofs.writing.write_whole_text.Goals as goal

pub loop-done-preserved : goal.loop-done-preserved
loop-done-preserved g c = record {
  within = omega (arith, c.in_ok-count.ensures.bound, length-drop {A = ℕ});
  gained = gains_more _ _ _ _ _ c.args.text.now c.loop-done.invariant.gained c.in_ok-count.ensures.bytes;
  later = omega (arith, c.loop-done.invariant.later, c.write.ensures.cause.later);
}
