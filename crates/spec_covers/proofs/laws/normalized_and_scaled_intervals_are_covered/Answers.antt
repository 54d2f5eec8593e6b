use Rattle.spec_covers.proofs.Rounded.{Covers-narrow, Covers-scale}
use Rattle.spec_covers.proofs.laws.normalized_and_scaled_intervals_are_covered.Goals as goal

pub returns : goal.returns
returns c = record {
  narrowed = λ m d enough p q lo hi s is covers. Covers-narrow d p q is m lo hi s covers enough;
  scaled = λ m k length d s positive scales upto p q lo hi is covers. Covers-scale d p q is m lo hi s covers length k positive scales upto;
}
