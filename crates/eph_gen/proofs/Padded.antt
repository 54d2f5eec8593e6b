-- Numbers that are printed in 18 digits.
use Rattle.std.proofs.Common.{◌≡◌, ◌-◌, ◌++◌, ℕ, length, replicate, append-nil, arith}
use Rattle.std.specs.Fmt.{char_count, decimal, format_spec, padded_integral, styled_decimal}
use Rattle.spec_generated.specs.Words.{padded_digits}

pub styled_is : (n : ℕ) → styled_decimal (format_spec 32 0 4 18 18446744073709551615) n ≡ padded_digits n
unfolding padded_integral char_count
styled_is n =
    let left : 18 - length (decimal n) - 0 - 0 ≡ 18 - length (decimal n) = omega arith in
    λ i. replicate (left i) 48 ++ append-nil (decimal n) i
