-- The times of a span within an ephemeris whose times have texts, and of windows in such a span, have texts.
use Rattle.std.proofs.Common.{◌≡◌, ℕ, true, List, All, arith}
use Rattle.std.proofs.lemmas.Int.{ints}
use Rattle.std.proofs.lemmas.List.Elements.{All-weaker}
use Rattle.spec_ephemeris.specs.Ephemeris.{Ephemeris, end_of}
use Rattle.spec_trees.specs.declared.tree.Leaf.{Leaf}
use Rattle.spec_trees.specs.declared.window.Window.{Window}
use Rattle.spec_trees.specs.Placement.{IsWithin}
use Rattle.spec_trees.specs.Windows.{windows}
use Rattle.spec_searches.specs.Search.{Search}
use Rattle.spec_times.specs.Ticks.{IsTimeIn}
use Rattle.spec_output.specs.Report.{HasTimes}
use Rattle.spec_outcomes.specs.declared.query.Span.{Span}
use Rattle.spec_outcomes.specs.Queries.{AreFound, is_within}

module _ (tick : ℕ) (e : Ephemeris) (start : IsTimeIn tick e.start) (end : IsTimeIn tick (end_of e)) (span : Span) (within : is_within span e ≡ true) where
  pub from_is : IsTimeIn tick span.from
  from_is = let early = start.low in let late = end.high in record { low = grind (arith, ints, within, early); high = grind (arith, ints, within, late) }

  pub upto_is : IsTimeIn tick span.upto
  upto_is = let early = start.low in let late = end.high in record { low = grind (arith, ints, within, early); high = grind (arith, ints, within, late) }

module _ (tick : ℕ) (span : Span) (from : IsTimeIn tick span.from) (upto : IsTimeIn tick span.upto) where
  one : (w : Window) → IsWithin span.from span.upto w → HasTimes tick w
  one w is = record {
    first = record { low = omega (arith, ints, from.low, is.from); high = omega (arith, ints, upto.high, is.ordered, is.to) };
    last = record { low = omega (arith, ints, from.low, is.from, is.ordered); high = omega (arith, ints, upto.high, is.to) };
  }

  pub windows_are : (s : Search) (ls : List Leaf) → AreFound s span ls → All (HasTimes tick) (windows ls)
  windows_are s ls found = All-weaker (IsWithin span.from span.upto) (HasTimes tick) one (windows ls) found.within
