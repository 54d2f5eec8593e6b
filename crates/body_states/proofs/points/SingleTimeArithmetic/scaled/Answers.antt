use Rattle.std.proofs.Common.{◌∙◌, arith}
use Rattle.spec_intervals.specs.Interval as I
use Rattle.spec_steps.specs.ColumnTerms.{scaled as term_of}
use Rattle.spec_steps.proofs.Parts.{scaled_part}
use Rattle.body_states.proofs.Alone.{fits_alone, one_exponent}
use Rattle.body_states.proofs.Good.{factor_within}
use Rattle.body_states.proofs.points.SingleTimeArithmetic.scaled.Goals as goal

pub mul-requires : goal.mul-requires
mul-requires c =
    let small = (factor_within c.args.self.now.states.now c.requires.ready.fits.view c.args.factor).exponent in
    record {
      exponent = rw c.factor.ensures (omega (arith, small));
      other_exponent = one_exponent _ _ c.listed_enclosures_are_within_limits.ensures.within (fits_alone c.args.self.now c.requires.ready) (term_of c.args.factor) (scaled_part _ c.args.factor) c.args.x.now c.requires.operand;
    }

pub returns : goal.returns
returns c = λ p part x. c.mul.ensures.equals ∙ λ i. I.product (c.factor.ensures i) (x i)
