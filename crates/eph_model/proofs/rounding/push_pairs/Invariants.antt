use Rattle.std.specs.Prelude.{vec_len, vec_capacity}
use Rattle.std.proofs.Common.{◌+◌, ◌-◌, ◌≤◌, ◌++◌, List, length, take}
use Rattle.spec_text.specs.declared.decimals.Decimal.{Decimal}
use Rattle.eph_model.specs.Pairs.{ArePairs}
use Rattle.eph_model.proofs.rounding.push_pairs.Given as goal

-- the rest has room, and the numbers so far have their pairs
abbrev pub invariant-loop-number : goal.invariant-loop-number
invariant-loop-number l =
    (vec_len l.pairs + (length l.numbers - l.number-index) ≤ vec_capacity l.pairs)
    × ((before : List Decimal) → ArePairs before l.initial.pairs.items → ArePairs (before ++ take l.number-index l.numbers) l.pairs.items)
