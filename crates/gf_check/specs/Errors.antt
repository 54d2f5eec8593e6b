-- What the errors of a check are to a run.
use Rattle.gf_cert.specs.declared.errors.CertError.{CertError}
use Rattle.gf_cert.specs.declared.errors.CertError.TheVariants as C
use Rattle.spec_outcomes.specs.declared.refusal.Refusal.{Refusal}
use Rattle.spec_outcomes.specs.declared.refusal.Refusal.TheVariants.{Certificate, Memory}

abbrev pub of_cert : CertError → Refusal
of_cert (C.Refused line number) = Certificate line number
of_cert C.Memory = Memory
