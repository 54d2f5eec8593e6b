use Rattle.std.proofs.Common.{refl}
use Rattle.spec_certificates.proofs.examples.words_are_read_as_leaves_or_ends.Goals as goal

pub returns : goal.returns
returns c = record { times = refl; longest = refl; long_time = refl; plus = refl; no_digit = refl; long_depth = refl; count = refl; long_count = refl }
