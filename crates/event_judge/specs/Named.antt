-- A search for a name that no call has picked yet.
use Rattle.std.specs.Prelude.{[], pos}
use Rattle.spec_ephemeris.specs.Examples.{four_columns, whole}
use Rattle.spec_expressions.specs.Term.{length}
use Rattle.spec_bodies.specs.Views.{View}
use Rattle.spec_bodies.specs.declared.frame.Frame.TheVariants.{Eq}
use Rattle.spec_bodies.specs.declared.source.Source.TheVariants.{Origin}
use Rattle.spec_trees.specs.declared.cuts.CutRule.TheVariants.{Half}
use Rattle.spec_events.specs.declared.dir.Dir.TheVariants.{Any}
use Rattle.spec_searches.specs.Search.{Search}

abbrev pub no_view : View
no_view = record { ephemeris = record { header = four_columns; start = pos 0; blocks = 0; numbers = [] }; first = Origin; second = Origin; observer = Origin; frame = Eq }

abbrev pub no_search : Search
no_search = record { view = no_view; event = record { function = length (whole (pos 0)); conditions = []; dir = Any }; width = 1; depth = 0; cut = Half }
