-- What a reader of a certificate answers.
use Rattle.std.specs.Prelude.{◌≡◌, Result, Ok, Err}
use Rattle.spec_certificates.specs.declared.entry.CertFault.{CertFault}
use Rattle.gf_cert.specs.declared.errors.CertError.{CertError}
use Rattle.gf_cert.specs.declared.errors.CertError.TheVariants.{Refused, Memory}

abbrev pub refusal_of : CertFault → CertError
refusal_of fault = Refused fault.line fault.number

-- it gives up for want of memory, or for this fault
abbrev pub Fails : {Y : Type 0} → Result Y CertFault → CertError → Type 0
Fails wanted Memory = Unit {0}
Fails wanted (Refused line number) = wanted ≡ Err (record { line = line; number = number })

-- it gives what is wanted, or fails for its fault, or memory runs out
abbrev pub Gives : {X Y : Type 0} → (X → Y) → Result Y CertFault → Result X CertError → Type 0
Gives view wanted (Ok x) = wanted ≡ Ok (view x)
Gives view wanted (Err e) = Fails wanted e
