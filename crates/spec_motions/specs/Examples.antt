-- Two times of a line that passes 0, and its velocity.
use Rattle.std.specs.Prelude.{◌^◌, ℤ, pos, neg_ℤ}
use Rattle.spec_intervals.specs.Interval.{Interval, interval}

-- the time at which it passes 0, and 200 seconds before
abbrev pub middle : ℤ
middle = pos 1339200

abbrev pub before : ℤ
before = pos 1339000

-- 1 alone
abbrev pub one : Interval
one = interval (pos (2 ^ 62)) (pos (2 ^ 62)) (neg_ℤ (pos 62))
