use Rattle.std.proofs.Common.{refl, arith}
use Rattle.std.proofs.lemmas.Int.{ints}
use Rattle.spec_spans.proofs.examples.cut_times_make_pieces.Goals as goal

pub returns : goal.returns
returns c = record {
  whole = λ s. refl;
  three = λ s. refl;
  inside = λ s seams. let before = seams.0.before in absurd (omega (arith, ints, before));
  in_order = λ s seams. let after = seams.1.0.after in absurd (omega (arith, ints, after));
}
