-- A certificate that is written of the leaves of a tree breaks no rule.
use Rattle.std.proofs.Common.{◌≡◌, ◌+◌, ◌*◌, ◌^◌, ◌<◌, ◌≤◌, ◌&&◌, ℕ, suc, Bool, true, List, [], ◌∷◌, ◌++◌, length, map, Some, Result, Ok, refl, ap, ◌∙◌, arith, rules, append_assoc, append-nil, eq-eqb}
use Rattle.std.specs.Prelude.{codes}
use Rattle.std.specs.Str.{bytes_eq}
use Rattle.std.proofs.lemmas.List.{length-append}
use Rattle.spec_text.specs.Lines.{Numbered, lines, numbered_from, text_lines, tokens}
use Rattle.spec_text.specs.Printed.{AreLines, IsLine, joined_lines}
use Rattle.spec_text.proofs.Printed.{lines_append, not_long, printed, text_lines_are}
use Rattle.spec_trees.specs.declared.tree.Leaf.{Leaf}
use Rattle.spec_trees.specs.declared.tree.Node.{Node}
use Rattle.spec_trees.specs.Tree.{IsValid, leaves}
use Rattle.spec_certificates.specs.declared.entry.CertFault.{CertFault}
use Rattle.spec_certificates.specs.declared.entry.Entry.{Entry}
use Rattle.spec_certificates.specs.declared.entry.Entry.TheVariants as entry
use Rattle.spec_faults.specs.declared.numbers.TheConstants.{CERT_LINE, CERT_REQUEST}
use Rattle.spec_certificates.specs.Entries.{are_same, entry_of, form_words}
use Rattle.spec_certificates.specs.Checks.{◌>>=◌, after_entry, at_line, checked, entry_at, holds_or, leaves_from, or_broken, with_words}
use Rattle.spec_certificates.specs.Places.{Cutting, IsCutting}
use Rattle.spec_certificates.specs.Texts.{certificate, end_text, leaf_lines, leaf_text}
use Rattle.spec_certificates.proofs.Binds.{fronted}
use Rattle.spec_certificates.specs.Shapes.{AllFit}
use Rattle.spec_certificates.proofs.Trees.{NameLeaves, taken}
use Rattle.spec_certificates.proofs.Words.{end_is_line, end_said, end_short, leaf_is_line, leaf_said, leaf_short}

-- ---- the text by its lines
abbrev all_lines : List ℕ → List Leaf → List (List ℕ)
all_lines request ls = codes "CERT 1" ∷ request ∷ (map leaf_text ls ++ end_text (length ls) ∷ [])

leaves_joined : (ls : List Leaf) (end : List ℕ)
    → leaf_lines ls ++ (end ++ 10 ∷ []) ≡ joined_lines (map leaf_text ls ++ end ∷ [])
unfolding joined_lines
leaves_joined [] end = refl
leaves_joined (l ∷ ls) end =
    append_assoc (leaf_text l ++ 10 ∷ []) (leaf_lines ls) (end ++ 10 ∷ [])
    ∙ append_assoc (leaf_text l) (10 ∷ []) (leaf_lines ls ++ (end ++ 10 ∷ []))
    ∙ ap (λ (t : List ℕ). leaf_text l ++ 10 ∷ t) (leaves_joined ls end)

text_joined : (request : List ℕ) (ls : List Leaf) → certificate request ls ≡ joined_lines (all_lines request ls)
unfolding joined_lines
text_joined request ls =
    let end = end_text (length ls) in
    ap (λ (t : List ℕ). codes "CERT 1\n" ++ t)
    (append_assoc (request ++ 10 ∷ []) (leaf_lines ls) (end ++ 10 ∷ [])
    ∙ append_assoc request (10 ∷ []) (leaf_lines ls ++ (end ++ 10 ∷ []))
    ∙ ap (λ (t : List ℕ). request ++ 10 ∷ t) (leaves_joined ls end))

first_is_line : IsLine (codes "CERT 1")
first_is_line = printed (codes "CERT 1") (search rules) (omega arith) (omega arith)

leaves_are_lines : (ls : List Leaf) → AllFit ls → AreLines (map leaf_text ls)
leaves_are_lines [] fit = tt
leaves_are_lines (l ∷ ls) fit = (leaf_is_line l fit.0, leaves_are_lines ls fit.1)

are_lines : (request : List ℕ) → IsLine request → (ls : List Leaf) → AllFit ls → length ls < 10 ^ 8
    → AreLines (all_lines request ls)
are_lines request is ls fit few =
    (first_is_line, (is, lines_append (map leaf_text ls) (end_text (length ls) ∷ []) (leaves_are_lines ls fit) (end_is_line (length ls) few, tt)))

-- ---- what the lines say
numbered_append : (n : ℕ) (xs ys : List (List ℕ))
    → numbered_from n (xs ++ ys) ≡ numbered_from n xs ++ numbered_from (n + length xs) ys
numbered_append n [] ys = let same : n ≡ n + 0 = omega arith in ap (λ (k : ℕ). numbered_from k ys) same
numbered_append n (x ∷ xs) ys =
    let next : n + 1 + length xs ≡ n + suc (length xs) = omega arith in
    ap (λ (l : List Numbered). record { number = n; bytes = x } ∷ l) (numbered_append (n + 1) xs ys ∙ ap (λ (k : ℕ). numbered_from (n + 1) xs ++ numbered_from k ys) next)

says : (n : ℕ) (line : List ℕ) (said : Entry) → IsLine line → entry_of (tokens line) ≡ Some said
    → entry_at (record { number = n; bytes = line }) ≡ Ok said
says n line said is e = rw (not_long line is) (ap (or_broken (at_line n CERT_LINE)) e)

leaves_named : (n : ℕ) (ls : List Leaf) → AllFit ls → NameLeaves (numbered_from n (map leaf_text ls)) ls
leaves_named n [] fit = tt
leaves_named n (l ∷ ls) fit =
    (says n (leaf_text l) (entry.Leaf l) (leaf_is_line l fit.0) (leaf_said l fit.0), leaves_named (n + 1) ls fit.1)

words_same : (word : List ℕ) → bytes_eq word word ≡ true
words_same word = search rules

same_words : (ws : List (List ℕ)) → are_same ws ws ≡ true
same_words [] = refl
same_words (w ∷ ws) = both (bytes_eq w w) (are_same ws ws) (words_same w) (same_words ws)
  where
    both : (x y : Bool) → x ≡ true → y ≡ true → (x && y) ≡ true
    both x y p q = rw (p, q)

-- a line with the words that are wanted
wanted : (words : List (List ℕ)) (rule end n : ℕ) (further : List Numbered → Result (List Leaf) CertFault) (line : List ℕ) (rest : List Numbered) → IsLine line → tokens line ≡ words
    → with_words words rule end further (record { number = n; bytes = line } ∷ rest) ≡ further rest
wanted words rule end n further line rest is e =
    rw (not_long line is)
    (ap (λ (ts : List (List ℕ)). holds_or (at_line n rule) (are_same ts words) >>= λ _. further rest) e
    ∙ ap (λ (b : Bool). holds_or (at_line n rule) b >>= λ _. further rest) (same_words words))

ended : (c : Cutting) (end n count : ℕ) (line : List ℕ) → IsLine line
    → entry_of (tokens line) ≡ Some (entry.End count)
    → leaves_from c end [] count (record { number = n; bytes = line } ∷ []) ≡ Ok []
unfolding leaves_from
ended c end n count line is e =
    ap (λ (said : Result Entry CertFault). said >>= after_entry c n [] count (λ later. leaves_from c end later (count + 1) []) []) (says n line (entry.End count) is e)
    ∙ rw (eq-eqb count count refl) refl

module _ (c : Cutting) (is : IsCutting c) (root : Node) (valid : IsValid c.rules root) (request : List ℕ) (line : IsLine request) where
  abbrev ls : List Leaf
  ls = leaves c.rules root

  pub written : AllFit (leaves c.rules root) → length (leaves c.rules root) < 10 ^ 8
      → checked c root request (certificate request (leaves c.rules root)) ≡ Ok (leaves c.rules root)
  unfolding checked
  written fit few =
      let text = certificate request ls in
      let end = length (lines text) + 1 in
      let further = leaves_from c end (root ∷ []) 0 in
      let last : Numbered = record { number = 3 + length (map leaf_text ls); bytes = end_text (length ls) } in
      let are : text_lines text ≡ numbered_from 1 (all_lines request ls) = ap text_lines (text_joined request ls)
      ∙ text_lines_are (all_lines request ls) (are_lines request line ls fit few) in
      ap (with_words form_words CERT_LINE end (with_words (tokens request) CERT_REQUEST end further)) are
      ∙ wanted form_words CERT_LINE end 1 (with_words (tokens request) CERT_REQUEST end further) (codes "CERT 1") (numbered_from 2 (request ∷ (map leaf_text ls ++ end_text (length ls) ∷ []))) first_is_line refl
      ∙ wanted (tokens request) CERT_REQUEST end 2 further request (numbered_from 3 (map leaf_text ls ++ end_text (length ls) ∷ [])) line refl
      ∙ ap further (numbered_append 3 (map leaf_text ls) (end_text (length ls) ∷ []))
      ∙ taken c is end root valid (numbered_from 3 (map leaf_text ls)) [] 0 (last ∷ []) (leaves_named 3 ls fit)
      ∙ ap (λ (k : ℕ). fronted ls (leaves_from c end [] k (last ∷ []))) (omega arith)
      ∙ ap (fronted ls) (ended c end last.number (length ls) (end_text (length ls)) (end_is_line (length ls) few) (end_said (length ls) few))
      ∙ ap (λ (l : List Leaf). Ok l) (append-nil ls)

-- ---- how long it is
leaves_short : (ls : List Leaf) → AllFit ls → length (leaf_lines ls) ≤ 41 * length ls
leaves_short [] fit = omega arith
leaves_short (l ∷ ls) fit =
    omega (arith, length-append (leaf_text l ++ 10 ∷ []) (leaf_lines ls), length-append (leaf_text l) (10 ∷ []), leaf_short l fit.0, leaves_short ls fit.1)

pub short : (request : List ℕ) (ls : List Leaf) → length request ≤ 4096 → AllFit ls → length ls ≤ 4194304
    → length (certificate request ls) ≤ 268435456
short request ls line fit few =
    let end = end_text (length ls) in
    omega (
      arith,
      length-append (codes "CERT 1\n" ++ (request ++ 10 ∷ []) ++ leaf_lines ls) (end ++ 10 ∷ []),
      length-append (codes "CERT 1\n" ++ (request ++ 10 ∷ [])) (leaf_lines ls),
      length-append (codes "CERT 1\n") (request ++ 10 ∷ []),
      length-append request (10 ∷ []),
      length-append end (10 ∷ []),
      end_short (length ls) (omega (arith, few)),
      leaves_short ls fit,
      line,
      few,
    )
