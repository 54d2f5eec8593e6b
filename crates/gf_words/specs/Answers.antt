-- What a call may return for words.
use Rattle.std.specs.Prelude.{◌≡◌, ◌⊎◌, Result, Ok, Err}
use Rattle.spec_requests.specs.declared.request.WordFault.{WordFault}
use Rattle.spec_requests.specs.declared.request.WordFault.TheVariants.{Memory}

-- what was expected, or out of memory
abbrev pub Answers : {R : Type 0} → Result R WordFault → Result R WordFault → Type 0
Answers expected (Ok answer) = expected ≡ Ok answer
Answers expected (Err fault) = (fault ≡ Memory) ⊎ (expected ≡ Err fault)
