-- The rules of a certificate: the leaves of one that breaks none, or the first line that breaks a rule, with the
-- rule's number.
use Rattle.std.specs.Prelude.{ℕ, ◌+◌, ◌==◌, Bool, true, false, List, [], ◌∷◌, ◌++◌, length, Option, None, Some, Result, Ok, Err, if◌then◌else◌}
use Rattle.spec_text.specs.Lines.{Numbered, is_too_long, lines, text_lines, tokens}
pub use Rattle.spec_text.specs.Results.{◌>>=◌}
use Rattle.spec_trees.specs.declared.tree.Leaf.{Leaf}
use Rattle.spec_trees.specs.declared.tree.Mark.{Mark}
use Rattle.spec_trees.specs.declared.tree.Mark.TheVariants.{Clear, One, Undecided}
use Rattle.spec_trees.specs.declared.tree.Node.{Node}
use Rattle.spec_trees.specs.declared.tree.Turn.{Turn}
use Rattle.spec_trees.specs.declared.tree.Turn.TheVariants.{Rise, Fall}
use Rattle.spec_trees.specs.Tree.{mark_of}
use Rattle.spec_certificates.specs.declared.entry.Entry.{Entry}
use Rattle.spec_certificates.specs.declared.entry.Entry.TheVariants as entry
use Rattle.spec_certificates.specs.declared.entry.CertFault.{CertFault}
use Rattle.spec_faults.specs.declared.numbers.TheConstants.{CERT_LINE, CERT_REQUEST, CERT_PLACE, CERT_MARK, CERT_END}
use Rattle.spec_certificates.specs.Entries.{are_same, entry_of, form_words}
use Rattle.spec_certificates.specs.Places.{Cutting, waiting_after}

-- the line with this number breaks this rule
abbrev pub at_line : ℕ → ℕ → CertFault
at_line line number = record { line = line; number = number }

-- what is there, or a broken rule
abbrev pub or_broken : {A : Type 0} → CertFault → Option A → Result A CertFault
or_broken fault (Some x) = Ok x
or_broken fault None = Err fault

-- so it is, or a rule is broken
abbrev pub holds_or : CertFault → Bool → Result (Unit {0}) CertFault
holds_or fault true = Ok tt
holds_or fault false = Err fault

-- the words of a line that is not too long
abbrev pub words_of : Numbered → Result (List (List ℕ)) CertFault
words_of line = if is_too_long line then Err (at_line line.number CERT_LINE) else Ok (tokens line.bytes)

-- what a line says after the second
abbrev pub entry_at : Numbered → Result Entry CertFault
entry_at line = words_of line >>= λ words. or_broken (at_line line.number CERT_LINE) (entry_of words)

abbrev pub are_same_turns : Turn → Turn → Bool
are_same_turns Rise Rise = true
are_same_turns Rise Fall = false
are_same_turns Fall Rise = false
are_same_turns Fall Fall = true

-- there is a mark, and it is this one
abbrev pub is_mark : Option Mark → Mark → Bool
is_mark (Some Clear) Clear = true
is_mark (Some (One turn)) (One other) = are_same_turns turn other
is_mark (Some Undecided) Undecided = true
is_mark found mark = false

-- the nodes that wait after a leaf, which stands in this line, has its place and the mark of its verdict
abbrev pub leaf_at : Cutting → ℕ → List Node → Leaf → Result (List Node) CertFault
leaf_at c line [] l = Err (at_line line CERT_END)
leaf_at c line (here ∷ rest) l =
    or_broken (at_line line CERT_PLACE) (waiting_after c here rest l.node)
    >>= λ waiting. holds_or (at_line line CERT_MARK) (is_mark (mark_of (c.rules.verdict l.node)) l.mark)
    >>= λ _. Ok waiting

-- no node waits, and the number is that of the leaves
abbrev pub is_end : List Node → ℕ → ℕ → Bool
is_end [] count n = n == count
is_end (here ∷ rest) count n = false

-- the lines after the end: there are none
abbrev pub after_end : List Numbered → Result (List Leaf) CertFault
after_end [] = Ok []
after_end (line ∷ rest) = entry_at line >>= λ _. Err (at_line line.number CERT_END)

-- a leaf more, in front
abbrev pub with_first : Leaf → Result (List Leaf) CertFault → Result (List Leaf) CertFault
with_first l (Ok ls) = Ok (l ∷ ls)
with_first l (Err fault) = Err fault

-- what an entry in this line comes to, where these nodes wait and so many leaves stand before: a leaf is placed, and
-- what further lines come to for the nodes that then wait follows it; at the end no line is left
abbrev pub after_entry : Cutting → ℕ → List Node → ℕ → (List Node → Result (List Leaf) CertFault) → List Numbered
    → Entry → Result (List Leaf) CertFault
after_entry c line waiting count further rest (entry.Leaf l) =
    leaf_at c line waiting l >>= λ later. with_first l (further later)
after_entry c line waiting count further rest (entry.End n) =
    holds_or (at_line line CERT_END) (is_end waiting count n) >>= λ _. after_end rest

-- the leaves of the lines, where these nodes wait and so many leaves stand before; `end` is the number of the text's
-- lines plus 1
unfoldable pub leaves_from : Cutting → ℕ → List Node → ℕ → List Numbered → Result (List Leaf) CertFault
leaves_from c end waiting count [] = Err (at_line end CERT_END)
leaves_from c end waiting count (line ∷ rest) =
    entry_at line
    >>= after_entry c line.number waiting count (λ later. leaves_from c end later (count + 1) rest) rest

-- the next line has these words, else this rule is broken; further lines come to this
abbrev pub with_words : List (List ℕ) → ℕ → ℕ → (List Numbered → Result (List Leaf) CertFault) → List Numbered
    → Result (List Leaf) CertFault
with_words wanted rule end further [] = Err (at_line end CERT_END)
with_words wanted rule end further (line ∷ rest) =
    words_of line >>= λ words. holds_or (at_line line.number rule) (are_same words wanted) >>= λ _. further rest

-- the leaves of a text that is a certificate of the tree of a root, for the request of this line; or the first line
-- that breaks a rule
unfoldable pub checked : Cutting → Node → List ℕ → List ℕ → Result (List Leaf) CertFault
checked c root request text =
    let end = length (lines text) + 1 in
    with_words form_words CERT_LINE end
    (with_words (tokens request) CERT_REQUEST end (leaves_from c end (root ∷ []) 0)) (text_lines text)

-- ---- the leaves that lines name, in order
abbrev pub leaf_of_entry : Option Entry → List Leaf
leaf_of_entry None = []
leaf_of_entry (Some (entry.Leaf l)) = l ∷ []
leaf_of_entry (Some (entry.End n)) = []

unfoldable pub named_leaves : List Numbered → List Leaf
named_leaves [] = []
named_leaves (line ∷ rest) = leaf_of_entry (entry_of (tokens line.bytes)) ++ named_leaves rest
