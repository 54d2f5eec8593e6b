-- The signs that still spans tell.
use Rattle.std.specs.Prelude.{◌≡◌, List, All, ℤ, ◌≤ℤ◌}
use Rattle.spec_intervals.specs.declared.signs.Sign.{Sign}
use Rattle.spec_stills.specs.declared.still.StillSpan.{StillSpan}

-- each span has the sign that is given for each of its times
abbrev pub TellSigns : (ℤ → Sign) → List StillSpan → Type 0
TellSigns point xs = All (λ x. (t : ℤ) → x.from ≤ℤ t → t ≤ℤ x.upto → point t ≡ x.sign) xs
