use Rattle.std.proofs.Common.{arith, inl, refl, rules, w64}
use Rattle.std.proofs.lemmas.Int.{ints, to_z-of_z}
use mir.Syntax.{w16}
use mir.Val.{SFits}
use Rattle.spec_intervals.specs.Interval.{distance_exponent}
use Rattle.event_expr.proofs.Decimals.{decimal_kept, holds-number, length-within}
use Rattle.event_expr.proofs.rules.length_interval.Goals as goal

pub from_decimal-requires-clause-exponent : goal.from_decimal-requires-clause-exponent
from_decimal-requires-clause-exponent c = inl refl

pub from_decimal-requires-clause-distance : goal.from_decimal-requires-clause-distance
from_decimal-requires-clause-distance c =
    let m : SFits w64 c.args.km.mant = search rules in
    let q : SFits w16 c.args.km.exp = search rules in
    λ e. rw (to_z-of_z w64 c.args.km.mant m, to_z-of_z w16 c.args.km.exp q) c.requires

pub from_decimal-requires-clause-cosine : goal.from_decimal-requires-clause-cosine
from_decimal-requires-clause-cosine c = λ e. absurd (omega (arith, ints, e))

pub returns-clause-equals : goal.returns-clause-equals
returns-clause-equals c = decimal_kept c.args.km distance_exponent c.from_decimal.result (search rules) (search rules) c.from_decimal.ensures.equals

pub returns-clause-within : goal.returns-clause-within
returns-clause-within c =
    length-within c.args.km c.from_decimal.result (decimal_kept c.args.km distance_exponent c.from_decimal.result (search rules) (search rules) c.from_decimal.ensures.equals) c.requires

pub returns-clause-number : goal.returns-clause-number
returns-clause-number c =
    let m : SFits w64 c.args.km.mant = search rules in
    let q : SFits w16 c.args.km.exp = search rules in
    holds-number c.args.km c.from_decimal.result (simp to_z-of_z at c.from_decimal.ensures.holds)
