-- The pieces of a span that is cut at several times, and their leaves.
use Rattle.std.specs.Prelude.{List, [], ◌∷◌, ◌++◌, ℤ}
use Rattle.spec_trees.specs.declared.tree.Leaf.{Leaf}
use Rattle.spec_searches.specs.Search.{Search}
use Rattle.spec_searches.specs.Found.{leaves_of}
use Rattle.spec_spans.specs.Seams.{IsSeam}

-- in order, each strictly inside of what the times before it leave of the span, and at a border or one tick before one
abbrev pub AreSeams : Search → ℤ → List ℤ → ℤ → Type 0
AreSeams s first [] last = Unit {0}
AreSeams s first (time ∷ times) last = IsSeam s first last time × AreSeams s time times last

-- the leaves of the pieces, one after another: up to the first time, from there up to the next, and so on
abbrev pub leaves_of_pieces : Search → ℤ → List ℤ → ℤ → List Leaf
leaves_of_pieces s first [] last = leaves_of s first last
leaves_of_pieces s first (time ∷ times) last = leaves_of s first time ++ leaves_of_pieces s time times last
