use Rattle.spec_bounds.proofs.Quiet.{clear_at_border, clear_in_quiet, sign_in_quiet}
use Rattle.spec_bounds.proofs.laws.quiet_spans_are_clear.Goals as goal

pub returns : goal.returns
returns c = record {
  times = λ s a b t is quiet after upto. sign_in_quiet s a b is quiet t after upto;
  nodes = λ s a b n is quiet valid after upto. clear_in_quiet s a b is quiet n valid after upto;
  borders = λ s n is valid border narrow none. clear_at_border s n is valid border narrow none;
}
