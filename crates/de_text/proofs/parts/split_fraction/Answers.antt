use Rattle.std.proofs.Common.{◌∷◌, refl, arith}
use Rattle.de_text.proofs.Parting.{split_is}
use Rattle.de_text.proofs.parts.split_fraction.Goals as goal

pub returns-clause-splits : goal.returns-clause-splits
returns-clause-splits c =
    λ word negative signless.
    rw c.numeral_parts.ensures
    (split_is word _ (46 ∷ c.args.text.now) _ 0 1 _ negative signless refl refl refl
    c.in_ok-digits.ensures.number c.in_ok-digits.ensures.count c.in_ok-digits.ensures.rest
    c.in_ok-exponent_negative.ensures.shows (omega arith))

pub returns-clause-near : goal.returns-clause-near
returns-clause-near c = rw c.numeral_parts.ensures (record { mantissa = c.in_ok-digits.ensures.few; exponent = c.in_ok-exponent_negative.ensures.few })
