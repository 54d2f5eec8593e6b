-- Words of the examples.
use Rattle.std.specs.Prelude.{ℤ}
use Rattle.spec_text.specs.declared.decimals.Decimal.{Decimal}

-- mant times ten to the exp
abbrev pub decimal : ℤ → ℤ → Decimal
decimal mant exp = record { mant = mant; exp = exp }
