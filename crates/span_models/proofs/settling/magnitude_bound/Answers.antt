use Rattle.std.proofs.Common.{◌≤◌, ◌≡◌, inl, inr, arith, get_or, pos, rules, subst, to_z, of_z, unsigned_abs}
use mir.Syntax.{w128}
use Rattle.std.specs.Int.Bits.{bit_or}
use Rattle.std.proofs.lemmas.Bool.{cases_lt}
use Rattle.std.proofs.lemmas.Nat.{le_or_l, le_or_r}
use Rattle.span_models.proofs.Numbers.{are_within}
use Rattle.span_models.proofs.settling.magnitude_bound.Goals as goal

pub loop-i-preserved : goal.loop-i-preserved
loop-i-preserved c =
    let size = c.loop-i.size in
    let own = c.unsigned_abs-size.result in
    let more = le_or_l size own in
    let error = c.loop-i.invariant.error in
    let beside = le_or_r size own in
    let kept : to_z w128 (of_z w128 (get_or c.args.wide.now c.loop-i.i (pos 0))) ≡ get_or c.args.wide.now c.loop-i.i (pos 0) = search rules in
    let is = rw kept at c.unsigned_abs-size.ensures.value in
    record {
      error = omega (arith, more, error);
      coefficients = λ k below. elim (cases_lt k c.loop-i.i) [
        | inl before ↦ let h = c.loop-i.invariant.coefficients k before in omega (arith, more, h)
        | inr after ↦
            let same : c.loop-i.i ≡ k = omega (arith, below, after) in
            subst (λ j. unsigned_abs (get_or c.args.wide.now j (pos 0)) ≤ bit_or size own) same (omega (arith, beside, is))
      ];
    }

pub returns-clause-coefficients : goal.returns-clause-coefficients
returns-clause-coefficients c =
    let t = c.loop-i-test.false in
    are_within c.loop-i.size c.args.wide.now c.requires.count (λ i below. c.loop-i.invariant.coefficients i (omega (arith, t, below)))
