-- The text of a certificate.
use Rattle.std.specs.Prelude.{ℕ, List, ◌++◌, codes, flat_map, length}
use Rattle.std.specs.Fmt.{decimal, signed_decimal}
use Rattle.spec_trees.specs.declared.tree.Leaf.{Leaf}
use Rattle.spec_trees.specs.declared.tree.Mark.{Mark}
use Rattle.spec_trees.specs.declared.tree.Mark.TheVariants.{Clear, One, Undecided}
use Rattle.spec_trees.specs.declared.tree.Turn.TheVariants.{Rise, Fall}

abbrev pub mark_word : Mark → List ℕ
mark_word Clear = codes "N"
mark_word (One Rise) = codes "R"
mark_word (One Fall) = codes "F"
mark_word Undecided = codes "U"

-- the line of a leaf, without its end
abbrev pub leaf_text : Leaf → List ℕ
leaf_text l =
    codes "L " ++ signed_decimal l.node.a ++ (codes " " ++ signed_decimal l.node.b)
    ++ (codes " " ++ decimal l.node.depth) ++ (codes " " ++ mark_word l.mark)

abbrev pub leaf_lines : List Leaf → List ℕ
leaf_lines ls = flat_map (λ l. leaf_text l ++ codes "\n") ls

-- the last line, with so many leaves
abbrev pub end_text : ℕ → List ℕ
end_text count = codes "END leaves " ++ decimal count

-- the certificate of leaves, for the request of this line
abbrev pub certificate : List ℕ → List Leaf → List ℕ
certificate request ls =
    codes "CERT 1\n" ++ (request ++ codes "\n") ++ leaf_lines ls ++ (end_text (length ls) ++ codes "\n")
