-- The times of blocks.
use Rattle.std.proofs.Common.{◌≡◌, ◌+◌, ◌*◌, ◌^◌, ◌<◌, ◌≤◌, ℕ, Some, Ok, refl, ap, arith, lit<, ℤ, pos, neg_ℤ}
use Rattle.std.specs.Prelude.{◌+ℤ◌}
use Rattle.std.proofs.Math.Nat.{mul-div_cancel, mul-mod_left}
use Rattle.std.proofs.lemmas.Bool.{le-ltb}
use Rattle.std.proofs.lemmas.Int.{ints}
use Rattle.spec_text.specs.Days.{quotient, seconds_of_days}
use Rattle.spec_files.specs.BlockRules.{time_of}
use Rattle.spec_generated.specs.Words.{date_number, date_of}

-- the time at which a block begins
abbrev pub time_at : ℕ → ℤ
time_at block = neg_ℤ (pos 734400) +ℤ pos (block * 2764800)

exact_quotient : (n m q : ℕ) → 0 < m → n ≡ q * m → quotient n m ≡ Some q
exact_quotient n m q some is = rw (is, mul-mod_left q m, mul-div_cancel q some) refl

date_seconds : (block : ℕ) → seconds_of_days (date_number block) ≡ Some (211812753600 + block * 2764800)
date_seconds block =
    exact_quotient (86400 * (date_of block * 10 ^ 0)) (10 ^ 11) (211812753600 + block * 2764800) (lit< tt) (omega arith)

pub time_is : (block : ℕ) → block ≤ 41 → time_of (date_number block) ≡ Ok (time_at block)
time_is block few =
    let seconds = 211812753600 + block * 2764800 in
    let same : neg_ℤ (pos 211813488000) +ℤ pos seconds ≡ time_at block = omega (arith, ints) in
    rw (date_seconds block, le-ltb (date_of block) 0 (omega arith), le-ltb (86400 * 5000000) seconds (omega (arith, few))) (ap Ok same)
