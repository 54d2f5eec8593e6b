use Rattle.std.proofs.Common.{◌≡◌}
use Rattle.spec_certificates.specs.Entries.{are_same}
use Rattle.gf_cert.proofs.lines.have_same_words.Given as goal

abbrev pub invariant-loop-word : goal.invariant-loop-word
invariant-loop-word l =
    (goal.iterator-loop-word).can_next l.one × (goal.iterator-loop-word).is_finite l.one × (are_same l.one l.other ≡ are_same l.fn.one l.fn.other)
