-- Short names for worked values.
use Rattle.std.specs.Prelude.{ℕ, List, [], ◌∷◌, ◌++◌, codes, ℤ, pos, ◌&&◌, nat_lt, int_lt, ◌-ℤ◌, if◌then◌else◌}
use Rattle.spec_trees.specs.declared.tree.Leaf.{Leaf}
use Rattle.spec_trees.specs.declared.tree.Mark.{Mark}
use Rattle.spec_trees.specs.declared.tree.Mark.TheVariants.{Clear, One}
use Rattle.spec_trees.specs.declared.tree.Turn.TheVariants.{Rise}
use Rattle.spec_trees.specs.declared.tree.Node.{Node}
use Rattle.spec_trees.specs.declared.tree.Verdict.{Verdict}
use Rattle.spec_trees.specs.declared.tree.Verdict.TheVariants as V
use Rattle.spec_trees.specs.declared.cuts.CutRule.TheVariants.{Half}
use Rattle.spec_trees.specs.Cuts.{cut_of, is_wide}
use Rattle.spec_trees.specs.CutExamples.{parts_at}
use Rattle.spec_certificates.specs.Places.{Cutting}

abbrev pub node : ℤ → ℤ → ℕ → Node
node a b depth = record { a = a; b = b; depth = depth }

abbrev pub leaf : ℤ → ℤ → ℕ → Mark → Leaf
leaf a b depth mark = record { node = node a b depth; mark = mark }

-- something turns at 1339200 for good: a node that ends before it or begins with it is clear, one no wider than 60 has
-- this verdict, and others are split
abbrev pub turned : Verdict → Node → Verdict
turned told n =
    if int_lt n.b (pos 1339200) then V.Clear
    else if int_lt (pos 1339199) n.a then V.Clear
    else if int_lt (n.b -ℤ n.a) (pos 61) then told
    else V.Split

abbrev pub turns_once : Verdict → Cutting
turns_once told = record {
  rules = record {
    first = pos 1339000;
    last = pos 1339400;
    deepest = 40;
    verdict = turned told;
    parts = λ n. parts_at (cut_of Half n.a n.b) n;
  };
  may = λ n. is_wide n && nat_lt n.depth 40;
}

abbrev pub rises_once : Cutting
rises_once = turns_once (V.One Rise)

abbrev pub span : Node
span = node (pos 1339000) (pos 1339400) 0

abbrev pub request : List ℕ
request = codes "FIND it"

-- the first two lines
abbrev pub head : List ℕ
head = codes "CERT 1\nFIND it\n"

abbrev pub first_line : List ℕ
first_line = codes "L 1339000 1339100 2 N\n"

-- the leaves of the lines, where the third has this mark
abbrev pub four_leaves : Mark → List Leaf
four_leaves mark =
    leaf (pos 1339000) (pos 1339100) 2 Clear
    ∷ leaf (pos 1339100) (pos 1339150) 3 Clear
    ∷ leaf (pos 1339150) (pos 1339200) 3 mark
    ∷ leaf (pos 1339200) (pos 1339400) 1 Clear
    ∷ []

-- the second line and the third, with this letter for its mark
abbrev pub middle_lines : List ℕ → List ℕ
middle_lines letter = codes "L 1339100 1339150 3 N\nL 1339150 1339200 3 " ++ letter ++ codes "\n"

abbrev pub last_line : List ℕ
last_line = codes "L 1339200 1339400 1 N\n"

-- the four leaves, with this letter for the mark of the third
abbrev pub marked_text : List ℕ → List ℕ
marked_text letter = head ++ first_line ++ middle_lines letter ++ last_line ++ codes "END leaves 4\n"

abbrev pub whole_text : List ℕ
whole_text = marked_text (codes "R")

-- the four leaves after these two lines
abbrev pub headed_text : List ℕ → List ℕ
headed_text two_lines = two_lines ++ first_line ++ middle_lines (codes "R") ++ last_line ++ codes "END leaves 4\n"

-- the four leaves, the first of which has this line
abbrev pub begun_text : List ℕ → List ℕ
begun_text line = head ++ line ++ middle_lines (codes "R") ++ last_line ++ codes "END leaves 4\n"

-- the four leaves, and after them these lines
abbrev pub ended_text : List ℕ → List ℕ
ended_text lines = head ++ first_line ++ middle_lines (codes "R") ++ last_line ++ lines

-- the last leaf is cut once more
abbrev pub further_text : List ℕ
further_text =
    head ++ first_line ++ middle_lines (codes "R") ++ codes "L 1339200 1339300 2 N\nL 1339300 1339400 2 N\nEND leaves 5\n"

abbrev pub further_leaves : List Leaf
further_leaves =
    leaf (pos 1339000) (pos 1339100) 2 Clear
    ∷ leaf (pos 1339100) (pos 1339150) 3 Clear
    ∷ leaf (pos 1339150) (pos 1339200) 3 (One Rise)
    ∷ leaf (pos 1339200) (pos 1339300) 2 Clear
    ∷ leaf (pos 1339300) (pos 1339400) 2 Clear
    ∷ []

-- the second leaf is left out
abbrev pub gap_text : List ℕ
gap_text = head ++ first_line ++ codes "L 1339150 1339200 3 R\nL 1339200 1339400 1 N\nEND leaves 3\n"

-- it is at another depth
abbrev pub deep_text : List ℕ
deep_text =
    head ++ first_line ++ codes "L 1339100 1339150 40 N\nL 1339150 1339200 3 R\nL 1339200 1339400 1 N\nEND leaves 4\n"

-- the text ends after the leaf with the turn
abbrev pub short_text : List ℕ
short_text = head ++ first_line ++ middle_lines (codes "R")
