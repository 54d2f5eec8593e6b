-- A row of which no entry is made.
use Rattle.std.specs.Prelude.{List, replicate}
use Rattle.spec_chebyshev.specs.declared.ends.Ival62.{Ival62}
use Rattle.spec_chebyshev.specs.Rows.{nothing}

abbrev pub no_row : List Ival62
no_row = replicate 32 nothing
