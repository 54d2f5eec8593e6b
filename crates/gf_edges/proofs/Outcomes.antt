-- What is true of a call that fails.
use Rattle.std.proofs.Common.{Result, Ok, Err}
use Rattle.std.specs.Result.{OnErr}

-- what holds anyway holds of an error
pub of_any_error : {A E : Type 0} (r : Result A E) (P : Type 0) → P → OnErr r P
of_any_error (Ok x) P p = tt
of_any_error (Err e) P p = p
