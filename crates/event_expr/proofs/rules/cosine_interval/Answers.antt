use Rattle.std.proofs.Common.{arith, inr, refl, rules, w64}
use Rattle.std.proofs.lemmas.Int.{ints, to_z-of_z}
use mir.Syntax.{w16}
use mir.Val.{SFits}
use Rattle.spec_intervals.specs.Interval.{cosine_exponent}
use Rattle.event_expr.proofs.Decimals.{decimal_kept, holds-number, cosine-part}
use Rattle.event_expr.proofs.rules.cosine_interval.Goals as goal

pub from_decimal-requires-clause-exponent : goal.from_decimal-requires-clause-exponent
from_decimal-requires-clause-exponent c = inr refl

pub from_decimal-requires-clause-cosine : goal.from_decimal-requires-clause-cosine
from_decimal-requires-clause-cosine c =
    let m : SFits w64 c.args.number.mant = search rules in
    let q : SFits w16 c.args.number.exp = search rules in
    λ e. rw (to_z-of_z w64 c.args.number.mant m, to_z-of_z w16 c.args.number.exp q) c.requires

pub from_decimal-requires-clause-distance : goal.from_decimal-requires-clause-distance
from_decimal-requires-clause-distance c = λ e. absurd (omega (arith, ints, e))

pub returns-clause-equals : goal.returns-clause-equals
returns-clause-equals c = decimal_kept c.args.number cosine_exponent c.from_decimal.result (search rules) (search rules) c.from_decimal.ensures.equals

pub returns-clause-within : goal.returns-clause-within
returns-clause-within c =
    cosine-part c.args.number c.from_decimal.result (decimal_kept c.args.number cosine_exponent c.from_decimal.result (search rules) (search rules) c.from_decimal.ensures.equals) c.requires

pub returns-clause-number : goal.returns-clause-number
returns-clause-number c =
    let m : SFits w64 c.args.number.mant = search rules in
    let q : SFits w16 c.args.number.exp = search rules in
    holds-number c.args.number c.from_decimal.result (simp to_z-of_z at c.from_decimal.ensures.holds)
