-- The search that an ask means over an ephemeris.
use Rattle.std.specs.Prelude.{ℕ}
use Rattle.spec_trees.specs.declared.cuts.CutRule.{CutRule}
use Rattle.spec_ephemeris.specs.Ephemeris.{Ephemeris}
use Rattle.spec_bodies.specs.Views.{View, view_of}
use Rattle.spec_searches.specs.Search.{Search}
use Rattle.spec_kinds.specs.declared.ask.Ask.{Ask}
use Rattle.spec_kinds.specs.Asks.{targets_of}
use Rattle.spec_kinds.specs.Kinds.{event_of}

-- the targets seen from the observer in the frame
abbrev pub view_of_ask : Ephemeris → Ask → View
view_of_ask e ask = view_of e (targets_of ask) ask.observer ask.frame

-- its events, down to a width in ticks and a depth, with nodes cut by a rule
abbrev pub search_of : Ephemeris → Ask → ℕ → ℕ → CutRule → Search
search_of e ask width depth cut = record { view = view_of_ask e ask; event = event_of ask; width = width; depth = depth; cut = cut }
