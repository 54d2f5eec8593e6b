-- An ask that has no fault means a search.
use Rattle.std.proofs.Common.{◌≡◌, ◌<◌, ℕ, None}
use Rattle.spec_trees.specs.declared.cuts.CutRule.{CutRule}
use Rattle.spec_ephemeris.specs.Ephemeris.{Ephemeris, IsEphemeris}
use Rattle.spec_searches.specs.Search.{IsSearch}
use Rattle.spec_kinds.specs.declared.ask.Ask.{Ask}
use Rattle.spec_kinds.specs.Asks.{IsAsk}
use Rattle.spec_kinds.specs.Faults.{fault_of}
use Rattle.spec_kinds.specs.Searches.{search_of}
use Rattle.spec_kinds.proofs.Formulas.{event_formulas}
use Rattle.spec_kinds.proofs.Served.{viewed}

pub search_is : (e : Ephemeris) (ask : Ask) (width depth : ℕ) (cut : CutRule) → IsEphemeris e → 0 < e.blocks → IsAsk ask → fault_of e ask ≡ None → 0 < width → IsSearch (search_of e ask width depth cut)
search_is e ask width depth cut checked block is none some = record {
  view = viewed e ask checked block none;
  formulas = event_formulas e ask is none;
  some_width = some;
}
