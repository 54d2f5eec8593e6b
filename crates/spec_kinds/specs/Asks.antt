-- What an ask must be, and the bodies that it names.
use Rattle.std.specs.Prelude.{◌≡◌, ◌≢◌, ◌<◌, List, [], ◌∷◌, Option, None, Some, is_some, IfSome, unwrap_or}
use Rattle.spec_ephemeris.specs.declared.body.Body.{Body}
use Rattle.spec_ephemeris.specs.declared.body.Body.TheVariants.{Ssb}
use Rattle.spec_kinds.specs.declared.ask.Ask.{Ask}
use Rattle.spec_kinds.specs.Table.{takes_second}

-- a second body is there exactly for the kinds that take one, and no target is the barycentre of the solar system
pub record IsAsk (ask : Ask) : Type 0 where
  pub second : is_some ask.second ≡ takes_second ask.kind
  pub target : ask.target ≢ Ssb
  pub other : IfSome ask.second (λ body. body ≢ Ssb)
  pub axis : ask.axis < 3

-- both targets; where there is no second body, both are the target
abbrev pub targets_of : Ask → List Body
targets_of ask = ask.target ∷ unwrap_or ask.second ask.target ∷ []

-- a body in front of others, where there is one
abbrev pub before : Option Body → List Body → List Body
before None bodies = bodies
before (Some body) bodies = body ∷ bodies

-- the target, the second body where there is one, and the observer
abbrev pub bodies_of : Ask → List Body
bodies_of ask = ask.target ∷ before ask.second (ask.observer ∷ [])
