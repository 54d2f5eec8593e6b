-- Still spans of shares that are joined in order.
use Rattle.std.specs.Prelude.{◌≡◌, ℤ, List, [], ◌∷◌, All, IfOk, Result, Vec}
use Rattle.std.specs.declared.alloc.AllocError.{AllocError}
use Rattle.std.specs.declared.alloc.Global.{Global}
use Rattle.spec_searches.specs.Search.{Search}
use Rattle.spec_stills.specs.declared.still.StillSpan.{StillSpan}
use Rattle.spec_stills.specs.Still.{IsStill}
use Rattle.still_spans.specs.Found.{AreInOrder}
use Rattle.still_spans.specs.declared.joining.Joined.{Joined}

-- what was found in a share is still
abbrev pub AreStill : Search → Result (Vec StillSpan Global) AllocError → Type 0
AreStill s share = IfOk share (λ found. All (IsStill s) found.items)

-- the time at which the last span ends, or a time where there is none
abbrev pub end_of_last : ℤ → List StillSpan → ℤ
end_of_last from [] = from
end_of_last from (x ∷ xs) = end_of_last x.upto xs

-- spans in order from a time on, and the time at which the last ends
pub record IsJoined (from : ℤ) (x : Joined) : Type 0 where
  pub order : AreInOrder from x.spans.items
  pub end : x.end ≡ end_of_last from x.spans.items
