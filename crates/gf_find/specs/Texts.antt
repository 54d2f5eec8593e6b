-- The text that a run has is what its words ask for.
use Rattle.std.specs.Prelude.{◌≡◌, ℕ, List, Option}
use Rattle.spec_ephemeris.specs.Ticks.{in_ticks}
use Rattle.spec_requests.specs.declared.request.Request.{Request}
use Rattle.spec_requests.specs.declared.request.Request.TheVariants.{Find, Cert, Verify, Check, Gen, Set, Scalar}
use Rattle.spec_output.specs.Summary.{summary}
use Rattle.gf_edges.specs.Edges.{Files}
use Rattle.gf_find.specs.Outcomes.{Ask, HoldEphemeris, Words}
use Rattle.gf_find.specs.Finds.{IsReport}
use Rattle.gf_find.specs.Certifies.{IsCertificate}
use Rattle.gf_find.specs.Verifies.{IsVerified}
use Rattle.gf_find.specs.Generates.{IsGeneration}
use Rattle.gf_find.specs.Sets.{IsSetReport}
use Rattle.gf_find.specs.Scalars.{IsScalarReport}

-- the text is what a request asks for
abbrev pub IsAnswer : Request → Option Files → List ℕ → Type 0
IsAnswer (Find find) files text = HoldEphemeris files find.files (IsReport find text)
IsAnswer (Cert find) files text = HoldEphemeris files find.files (IsCertificate find text)
IsAnswer (Verify find cert) files text = HoldEphemeris files find.files (λ e. IsVerified files find cert (in_ticks find.tick e) text)
IsAnswer (Check names) files text = HoldEphemeris files names (λ e. text ≡ summary e)
IsAnswer (Gen blocks seed workers) files text = IsGeneration blocks seed text
IsAnswer (Set find ref2 relation) files text = HoldEphemeris files find.files (IsSetReport find ref2 relation text)
IsAnswer (Scalar ask) files text = IsScalarReport ask text

-- the text is what the words ask for
pub record IsAnswered (words : Words) (files : Option Files) (text : List ℕ) : Type 0 where
  pub request : Request
  pub asked : Ask words request
  pub answer : IsAnswer request files text
