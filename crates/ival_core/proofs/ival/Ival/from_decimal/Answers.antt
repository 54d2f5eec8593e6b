use Rattle.std.proofs.Common.{◌≡◌, ◌*◌, ◌^◌, ◌≤◌, ◌⊎◌, inl, inr, unsigned_abs}
use borrow.Author.Differences.{up, down}
use Rattle.std.proofs.lemmas.Int.{to_z-of_z}
use Rattle.spec_intervals.specs.Interval.{distance_exponent, cosine_exponent, from_decimal}
use Rattle.spec_intervals.proofs.Decimals.{Holds-from_decimal}
use Rattle.spec_intervals.proofs.DecimalEnds.{distance-size, cosine-size}
use Rattle.ival_core.proofs.ival.Ival.from_decimal.Goals as goal
use Rattle.ival_core.proofs.ival.Ival.from_decimal.Goals.{Start, After-decimal_ival}

size_is : (c : Start) → unsigned_abs c.args.mant * (10 ^ up c.args.exp * 2 ^ down c.args.s) ≤ 2 ^ 60 * 10 ^ down c.args.exp
size_is c = by c.requires.exponent
  where
    by : (c.args.s ≡ distance_exponent) ⊎ (c.args.s ≡ cosine_exponent) → unsigned_abs c.args.mant * (10 ^ up c.args.exp * 2 ^ down c.args.s) ≤ 2 ^ 60 * 10 ^ down c.args.exp
    by (inl e) = distance-size c.args.mant c.args.exp c.args.s e (c.requires.distance e)
    by (inr e) = cosine-size c.args.mant c.args.exp c.args.s e (c.requires.cosine e)

pub decimal_ival-requires-clause-size : goal.decimal_ival-requires-clause-size
decimal_ival-requires-clause-size c =
    let m = c.ranges.mant in
    let q = c.ranges.exp in
    let s = c.ranges.s in
    simp to_z-of_z (size_is c)

equals : (c : After-decimal_ival) → c.decimal_ival.result ≡ from_decimal c.args.mant c.args.exp c.args.s
equals c =
    let m = c.ranges.mant in
    let q = c.ranges.exp in
    let s = c.ranges.s in
    simp to_z-of_z at c.decimal_ival.ensures

pub returns-clause-equals : goal.returns-clause-equals
returns-clause-equals c = equals c

pub returns-clause-holds : goal.returns-clause-holds
returns-clause-holds c = rw (equals c) (Holds-from_decimal c.args.mant c.args.exp c.args.s)
