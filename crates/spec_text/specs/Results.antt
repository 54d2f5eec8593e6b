-- One step after another.
use Rattle.std.specs.Prelude.{Result, Ok, Err}

-- what comes of the next step where a step gives a value, else the error of the step
infixl 10 ◌>>=◌
abbrev pub ◌>>=◌ : {A B E : Type 0} → Result A E → (A → Result B E) → Result B E
(Ok x) >>= f = f x
(Err e) >>= f = Err e
