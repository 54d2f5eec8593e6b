-- Worked searches.
use Rattle.std.specs.Prelude.{ℕ, ℤ, List, [], ◌∷◌, None, Some, codes, pos, neg_ℤ}
use Rattle.spec_text.specs.declared.decimals.Decimal.{Decimal}
use Rattle.spec_ephemeris.specs.declared.body.Body.TheVariants.{Mercury, Ssb}
use Rattle.spec_events.specs.declared.dir.Dir.TheVariants.{Any}
use Rattle.spec_trees.specs.declared.cuts.CutRule.TheVariants.{Half}
use Rattle.spec_kinds.specs.declared.kind.Kind.TheVariants.{Coord}
use Rattle.spec_kinds.specs.Examples.{of_one}
use Rattle.spec_requests.specs.declared.request.FindAsk.{FindAsk}
use Rattle.spec_requests.specs.declared.request.Relation.{Relation}
use Rattle.spec_requests.specs.declared.request.Request.{Request}
use Rattle.spec_requests.specs.declared.request.Request.TheVariants.{Set}
use Rattle.spec_requests.specs.declared.request.ScalarAsk.{ScalarAsk}
use Rattle.spec_requests.specs.Names.{Text}
use Rattle.spec_requests.specs.Requests.{nought}

-- a command that searches for Mercury's x, and then more words
abbrev pub search_words : Text → List Text → List Text
search_words command words = command ∷ codes "--kind" ∷ codes "coord" ∷ codes "--target" ∷ codes "mercury"
    ∷ codes "--axis" ∷ codes "x" ∷ words

abbrev pub with_search : List Text → List Text
with_search = search_words (codes "find")

-- what it asks for of one file, with all that is left out
abbrev pub search_in : Text → FindAsk
search_in file = record {
  ask = of_one Coord Mercury Ssb nought;
  values = codes "0";
  tick = 1;
  from = None;
  to = None;
  width = pos 1;
  depth = 40;
  workers = 1;
  cut = Half;
  files = file ∷ [];
}

-- a command that asks for a set of Mercury's x with this relation, and then more words
abbrev pub set_words : Text → List Text → List Text
set_words name words = search_words (codes "set") (codes "--relation" ∷ name ∷ words)

abbrev pub tenths : ℤ → Decimal
tenths n = record { mant = n; exp = neg_ℤ (pos 1) }

-- what it asks for of a file, with a first reference, 100.5, and both as they are given
abbrev pub set_between : Relation → Decimal → Text → Request
set_between relation value words =
    Set (record (search_in (codes "a")) { ask = of_one Coord Mercury Ssb value; values = words }) (Some (tenths (pos 1005))) relation

-- a command that asks for a scalar, and then more words
abbrev pub scalar_words : Text → List Text → List Text
scalar_words quad words = codes "scalar" ∷ codes "--quad" ∷ quad ∷ words

-- t^2 - 100 over a span, down to this depth
abbrev pub scalar_in : ℕ → ℤ → ℤ → ScalarAsk
scalar_in depth from to = record {
  p = pos 1;
  q = pos 0;
  r = neg_ℤ (pos 100);
  text = codes "1,0,-100";
  from = from;
  to = to;
  plan = record { dir = Any; width = 1; depth = depth; cut = Half };
  workers = 1;
}
