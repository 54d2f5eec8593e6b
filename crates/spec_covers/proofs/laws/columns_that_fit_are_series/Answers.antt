use Rattle.spec_bodies.proofs.Held.{own_series, own_span, readable_columns}
use Rattle.spec_covers.proofs.laws.columns_that_fit_are_series.Goals as goal

pub returns : goal.returns
returns c = record {
  readable = λ v a b target axis fits three. readable_columns v a b fits target axis three;
  series = λ v a b number axis fits is. own_series v a b fits number axis is.along is.usable;
  spans = λ v a b number axis fits is. own_span v a b fits number axis is.along is.usable;
}
