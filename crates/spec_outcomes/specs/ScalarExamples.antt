-- Polynomials that are asked for in worked values.
use Rattle.std.specs.Prelude.{ℕ, ℤ, codes, pos}
use Rattle.spec_numbers.specs.Numbers.{minus}
use Rattle.spec_trees.specs.declared.cuts.CutRule.TheVariants.{Half}
use Rattle.spec_trees.specs.declared.window.Holds.{Holds}
use Rattle.spec_trees.specs.declared.window.Window.{Window}
use Rattle.spec_events.specs.declared.dir.Dir.TheVariants.{Any}
use Rattle.spec_requests.specs.declared.request.ScalarAsk.{ScalarAsk}

-- t^2 - 100 after one time and up to another, down to this depth
abbrev pub square_less_100 : ℤ → ℤ → ℕ → ScalarAsk
square_less_100 from to depth = record {
  p = pos 1;
  q = pos 0;
  r = minus 100;
  text = codes "1,0,-100";
  from = from;
  to = to;
  plan = record { dir = Any; width = 1; depth = depth; cut = Half };
  workers = 1;
}

abbrev pub window : ℤ → ℤ → Holds → Window
window first last holds = record { first = first; last = last; holds = holds }
