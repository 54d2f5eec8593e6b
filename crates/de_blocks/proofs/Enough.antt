-- As many blocks as there are lines are enough.
use Rattle.std.proofs.Common.{◌≡◌, ℕ, zero, suc, ◌≤◌, List, [], ◌∷◌, length, Result, Ok, Err, refl, arith}
use Rattle.spec_text.specs.declared.decimals.Decimal.{Decimal}
use Rattle.spec_ephemeris.specs.Ephemeris.{Ephemeris}
use Rattle.spec_files.specs.declared.rules.BrokenRule.{BrokenRule}
use Rattle.spec_files.specs.Sections.{FileLine, Stop, ◌>>=◌, at_line, after_words, first_words}
use Rattle.spec_files.proofs.Holding.{Holds, holds_ok, then_any}
use Rattle.spec_files.proofs.Steps.{bind_same}
use Rattle.spec_files.proofs.WordSections.{after_fewer}
use Rattle.spec_faults.specs.declared.numbers.TheConstants.{TRUNCATED}
use Rattle.spec_files.specs.BlockRules.{record_line}
use Rattle.spec_files.specs.Blocks.{block, blocks_after, further_numbers, further_words, numbers_of, with_numbers, zeros_of}

-- the lines after a block are fewer
pub further_fewer : (before : Ephemeris) (n : ℕ) (numbers : List Decimal) (lines : List FileLine)
    → Holds (λ found. length found.1 ≤ length lines) (further_numbers before n numbers lines)
further_fewer before n numbers lines =
    then_any (λ (found : List Decimal × List FileLine). length found.1 ≤ length lines) (numbers_of before numbers (first_words n lines)) _ (λ all b.
    then_any (λ (found : List Decimal × List FileLine). length found.1 ≤ length lines) (zeros_of (further_words n lines)) _ (λ zeros c.
    then_any (λ (found : List Decimal × List FileLine). length found.1 ≤ length lines) (after_words TRUNCATED n lines) _ (λ later d.
    holds_ok (λ (r : List FileLine). length r ≤ length lines) _ later d (after_fewer TRUNCATED n lines))))

abbrev headed : List FileLine → Unit {0} → Result (Unit {0} × List FileLine) Stop
headed rest u = Ok (u, rest)

heading_fewer : (before : Ephemeris) (file number : ℕ) (rest : List FileLine) (r : Result (Unit {0}) BrokenRule)
    → Holds (λ found. length found.1 ≤ length rest)
    ((at_line file number r >>= headed rest) >>= λ heading. further_numbers before before.header.ncoeff [] heading.1)
heading_fewer before file number rest (Ok u) = further_fewer before before.header.ncoeff [] rest
heading_fewer before file number rest (Err b) = tt

block_fewer : (before : Ephemeris) (line : FileLine) (rest : List FileLine) → Holds (λ found. length found.1 ≤ length rest) (block before (line ∷ rest))
block_fewer before line rest = heading_fewer before line.file line.number rest (record_line before.header.ncoeff line.words)

pub enough : (m n : ℕ) (before : Ephemeris) (lines : List FileLine) → length lines ≤ m → length lines ≤ n → blocks_after m before lines ≡ blocks_after n before lines
enough zero zero before lines one other = refl
enough zero (suc n) before [] one other = refl
enough (suc m) zero before [] one other = refl
enough (suc m) (suc n) before [] one other = refl
enough zero n before (line ∷ rest) one other = absurd (omega (arith, one))
enough (suc m) zero before (line ∷ rest) one other = absurd (omega (arith, other))
enough (suc m) (suc n) before (line ∷ rest) one other =
    bind_same (block before (line ∷ rest)) _ _ (λ found is.
    let fewer = holds_ok (λ found. length found.1 ≤ length rest) (block before (line ∷ rest)) found is (block_fewer before line rest) in
    enough m n (with_numbers before found.0) found.1 (omega (arith, one, fewer)) (omega (arith, other, fewer)))
