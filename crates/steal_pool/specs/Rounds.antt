-- How many nodes a worker has worked off, by its acts and by its counter.
use Rattle.std.specs.Prelude.{◌⊎◌, ◌≤◌, ℕ, ◌+◌, ◌*◌, List, [], ◌∷◌, length}
use Rattle.spec_pool.specs.Accounts.{Account, own}
use Rattle.spec_pool.specs.Acts.{Act, Put, Keep, Take, TakeTop, Enter}
use Rattle.steal_pool.specs.declared.worker.Pushed.{Pushed}
use Rattle.steal_pool.specs.declared.worker.Pushed.TheVariants.{OnDeque, Kept, Memory}

-- an act that splits the worker's node, or enters it as a leaf, is a round; one that takes a node is none
abbrev pub round : Act → ℕ
round (Put right) = 1
round Keep = 1
round (Enter leaf) = 1
round (Take from node) = 0
round TakeTop = 0

abbrev pub rounds_in : List Act → ℕ
rounds_in [] = 0
rounds_in (x ∷ xs) = round x + rounds_in xs

-- so is a push that does not run out of memory
abbrev pub rounds_of_push : Pushed → ℕ
rounds_of_push OnDeque = 1
rounds_of_push Kept = 1
rounds_of_push (Memory right) = 0

-- a counter of 64 bits went from a to b in n rounds: it shows a + n, or that it is full
pub record Counts (n a b : ℕ) : Type 0 where
  pub most : b ≤ a + n
  pub least : (a + n ≤ b) ⊎ (18446744073709551615 ≤ b)

-- how many nodes a worker has or has put on its deque, with each leaf that it entered counted twice: one more after each
-- round, as a split makes two of one node, and one more after each take
abbrev pub tally : Account → ℕ
tally a = length (own a) + length a.put + 2 * length a.entered
