-- Enclosures of the worked examples: the time itself over the times from -3 to -1, and its signed square.
use Rattle.std.specs.Prelude.{pos}
use Rattle.spec_numbers.specs.Numbers.{minus}
use Rattle.spec_intervals.specs.Interval.{interval}
use Rattle.spec_intervals.specs.Enclosure.{Enclosure, triple, signed_square_of}

abbrev pub before_zero : Enclosure
before_zero = triple (interval (minus 2) (minus 2) (pos 0)) (interval (minus 3) (minus 1) (pos 0)) (interval (pos 1) (pos 1) (pos 0))

abbrev pub square_before_zero : Enclosure
square_before_zero = signed_square_of (minus 3) (minus 1) before_zero
