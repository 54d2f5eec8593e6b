-- The seconds of a number of days are at most those of the most days.
use Rattle.std.proofs.Common.{◌*◌, ◌≤◌, ℕ, Option, None, Some, inl, inr, pos}
use Rattle.std.specs.Prelude.{IfOk, int_lt}
use Rattle.std.proofs.lemmas.Bool.{cases_Bool, cases_lt, le-ltb, lt-ltb}
use Rattle.spec_text.specs.Days.{seconds_of_days, seconds_within, within_days}
use Rattle.spec_text.specs.declared.decimals.Decimal.{Decimal}
use Rattle.spec_text.specs.declared.limits.TheConstants.{DAY_SECONDS}

within_few : (most : ℕ) (d : Decimal) (o : Option ℕ) → IfOk (within_days most d o) (λ s. s ≤ DAY_SECONDS * most)
within_few most d None = tt
within_few most d (Some s) = elim (cases_Bool (int_lt d.mant (pos 0))) [
  | inl negative ↦ rw negative tt
  | inr positive ↦ elim (cases_lt (DAY_SECONDS * most) s) [
    | inl many ↦ rw (positive, lt-ltb (DAY_SECONDS * most) s many) tt
    | inr few ↦ rw (positive, le-ltb (DAY_SECONDS * most) s few) few
  ]
]

pub seconds_few : (most : ℕ) (d : Decimal) → IfOk (seconds_within most d) (λ s. s ≤ DAY_SECONDS * most)
seconds_few most d = within_few most d (seconds_of_days d)
