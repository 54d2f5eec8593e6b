use Rattle.spec_bounds.proofs.Limits.{unconditional, verdict_by_limits}
use Rattle.spec_bounds.proofs.laws.ends_that_differ.Goals as goal

pub returns : goal.returns
returns c = record {
  unconditional = λ s n is valid none open_node wide differs wider. unconditional s n is valid open_node wide differs wider none;
  certified = λ s n t is valid after upto certified open_node wide differs wider.
      verdict_by_limits s n is valid open_node wide differs wider t after upto certified;
}
