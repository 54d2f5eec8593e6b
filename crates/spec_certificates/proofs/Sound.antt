-- The leaves of a text that breaks no rule follow one another over the root, each with the mark of its verdict.
use Rattle.std.proofs.Common.{◌≡◌, ℕ, ◌+◌, Bool, true, false, List, [], ◌∷◌, ◌++◌, drop, Option, Some, Result, Ok, Err, ℤ, refl, sym, ap, ◌∙◌, subst}
use Rattle.std.specs.Prelude.{if◌then◌else◌, length}
use Rattle.std.proofs.lemmas.List.Elements.{All-nil, All-cons}
use Rattle.spec_text.specs.Lines.{Numbered, is_too_long, lines, text_lines, tokens}
use Rattle.spec_trees.specs.declared.tree.Leaf.{Leaf}
use Rattle.spec_trees.specs.declared.tree.Node.{Node}
use Rattle.spec_trees.specs.Tree.{AreLeaves, Covers, IsLeaf, IsValid, mark_of}
use Rattle.spec_certificates.specs.declared.entry.Entry.{Entry}
use Rattle.spec_certificates.specs.declared.entry.Entry.TheVariants as entry
use Rattle.spec_certificates.specs.declared.entry.CertFault.{CertFault}
use Rattle.spec_faults.specs.declared.numbers.TheConstants.{CERT_LINE, CERT_REQUEST, CERT_PLACE, CERT_MARK, CERT_END}
use Rattle.spec_certificates.specs.Entries.{are_same, entry_of, form_words}
use Rattle.spec_certificates.specs.Checks.{◌>>=◌, after_end, after_entry, at_line, checked, entry_at, holds_or, is_end, is_mark, leaf_at, leaf_of_entry, leaves_from, named_leaves, or_broken, with_words, words_of}
use Rattle.spec_certificates.specs.Places.{Cutting, IsCutting, waiting_after}
use Rattle.spec_certificates.proofs.Binds.{bind_ok, has_first, holds, mark_is, unbroken}
use Rattle.spec_certificates.proofs.Placing.{Follow, IsPlaced, placed}

-- ---- one leaf
-- it stands at its place, with the mark of its verdict, and these nodes wait after it
pub record Stands (c : Cutting) (waiting : List Node) (l : Leaf) (later : List Node) : Type 0 where
  pub here : Node
  pub rest : List Node
  pub first : waiting ≡ here ∷ rest
  pub place : waiting_after c here rest l.node ≡ Some later
  pub mark : mark_of (c.rules.verdict l.node) ≡ Some l.mark

pub stands : (c : Cutting) (line : ℕ) (waiting : List Node) (l : Leaf) (later : List Node)
    → leaf_at c line waiting l ≡ Ok later → Stands c waiting l later
stands c line [] l later e = absurd (cc)
stands c line (here ∷ rest) l later e =
    let place = bind_ok (or_broken (at_line line CERT_PLACE) (waiting_after c here rest l.node)) _ later e in
    let mark = bind_ok (holds_or (at_line line CERT_MARK) (is_mark (mark_of (c.rules.verdict l.node)) l.mark)) _ later place.2 in
    let last : Ok place.0 ≡ Ok later = mark.2 in
    let same : place.0 ≡ later = cc in
    record {
      here = here;
      rest = rest;
      first = refl;
      place =
          unbroken (at_line line CERT_PLACE) (waiting_after c here rest l.node) place.0 place.1
          ∙ ap (λ (ns : List Node). Some ns) same;
      mark = mark_is (mark_of (c.rules.verdict l.node)) l.mark (holds (at_line line CERT_MARK) _ mark.0 mark.1);
    }

-- ---- the lines
pub record AreCertified (c : Cutting) (a b : ℤ) (ls : List Leaf) : Type 0 where
  pub cover : Covers a ls b
  pub are : AreLeaves c.rules ls

nothing_after : (rest : List Numbered) (ls : List Leaf) → after_end rest ≡ Ok ls → ls ≡ []
nothing_after [] ls e = cc
nothing_after (line ∷ rest) ls e = let more = bind_ok (entry_at line) _ ls e in absurd (no_more line.number ls more.2)
  where
    no_more : (line : ℕ) (ls : List Leaf)
        → ◌≡◌ {A = Result (List Leaf) CertFault} (Err (at_line line CERT_END)) (Ok ls) → ⊥
    no_more line ls e = absurd (cc)

none_wait : (waiting : List Node) (count n : ℕ) → is_end waiting count n ≡ true → waiting ≡ []
none_wait [] count n e = refl
none_wait (here ∷ rest) count n e = absurd (cc)

one_more : (c : Cutting) (a b : ℤ) (l : Leaf) (later : List Node) (ls : List Leaf) → IsPlaced c.rules a b l.node later
    → mark_of (c.rules.verdict l.node) ≡ Some l.mark
    → AreCertified c l.node.b b ls → AreCertified c a b (l ∷ ls)
one_more c a b l later ls place mark are = record {
  cover = (place.from, place.valid.inside, are.cover);
  are = All-cons (IsLeaf c.rules) l ls (record { valid = place.valid; marked = mark }) are.are;
}

none_left : (c : Cutting) (a b : ℤ) (waiting : List Node) (ls : List Leaf) → Follow c.rules a waiting b → waiting ≡ []
    → ls ≡ [] → AreCertified c a b ls
none_left c a b waiting ls follow none no_leaf =
    let end : a ≡ b = subst (λ (ns : List Node). Follow c.rules a ns b) none follow in
    record {
      cover = subst (λ (l : List Leaf). Covers a l b) (sym no_leaf) end;
      are = subst (AreLeaves c.rules) (sym no_leaf) (All-nil (IsLeaf c.rules));
    }

module _ (c : Cutting) (is : IsCutting c) (end : ℕ) (b : ℤ) where
  abbrev Certifies : List Numbered → Type 0
  Certifies rest = (waiting : List Node) (count : ℕ) (a : ℤ) (ls : List Leaf) → Follow c.rules a waiting b → leaves_from c end waiting count rest ≡ Ok ls → AreCertified c a b ls

  by_said : (line : Numbered) (rest : List Numbered) → Certifies rest
      → (waiting : List Node) (count : ℕ) (a : ℤ) (ls : List Leaf) → Follow c.rules a waiting b → (said : Entry)
      → after_entry c line.number waiting count (λ later. leaves_from c end later (count + 1) rest) rest said ≡ Ok ls
      → AreCertified c a b ls
  by_said line rest further waiting count a ls follow (entry.Leaf l) e =
      let there = bind_ok (leaf_at c line.number waiting l) _ ls e in
      let it = stands c line.number waiting l there.0 there.1 in
      let more = has_first l (leaves_from c end there.0 (count + 1) rest) ls there.2 in
      let place = placed c is it.here it.rest l.node there.0 a b (subst (λ (ns : List Node). Follow c.rules a ns b) it.first follow) it.place in
      subst (AreCertified c a b) more.2
      (one_more c a b l there.0 more.0 place it.mark (further there.0 (count + 1) l.node.b more.0 place.rest more.1))
  by_said line rest further waiting count a ls follow (entry.End n) e =
      let there = bind_ok (holds_or (at_line line.number CERT_END) (is_end waiting count n)) _ ls e in
      none_left c a b waiting ls follow (none_wait waiting count n (holds (at_line line.number CERT_END) _ there.0 there.1)) (nothing_after rest ls there.2)

  certify : (rest : List Numbered) → Certifies rest
  unfolding leaves_from
  certify [] waiting count a ls follow e = absurd (cc)
  certify (line ∷ rest) waiting count a ls follow e =
      let said = bind_ok (entry_at line) _ ls e in
      by_said line rest (certify rest) waiting count a ls follow said.0 said.2

-- a line with the words that are wanted
module _ (wanted : List (List ℕ)) (rule end : ℕ) (further : List Numbered → Result (List Leaf) CertFault) (ls : List Leaf) where
  pub after_words : (all : List Numbered) → with_words wanted rule end further all ≡ Ok ls
      → further (drop 1 all) ≡ Ok ls
  after_words [] e = absurd (cc)
  after_words (line ∷ rest) e =
      let words = bind_ok (words_of line) _ ls e in
      let same = bind_ok (holds_or (at_line line.number rule) (are_same words.0 wanted)) _ ls words.2 in
      same.2

after_two : (all : List Numbered) → drop 1 (drop 1 all) ≡ drop 2 all
after_two [] = refl
after_two (line ∷ []) = refl
after_two (line ∷ other ∷ rest) = refl

-- the lines after the first two
pub rest_of : (c : Cutting) (root : Node) (request text : List ℕ) (ls : List Leaf) → checked c root request text ≡ Ok ls
    → leaves_from c (length (lines text) + 1) (root ∷ []) 0 (drop 2 (text_lines text)) ≡ Ok ls
unfolding checked
rest_of c root request text ls e =
    let end = length (lines text) + 1 in
    let one = after_words form_words CERT_LINE end (with_words (tokens request) CERT_REQUEST end (leaves_from c end (root ∷ []) 0)) ls (text_lines text) e in
    ap (leaves_from c end (root ∷ []) 0) (sym (after_two (text_lines text)))
    ∙ after_words (tokens request) CERT_REQUEST end (leaves_from c end (root ∷ []) 0) ls (drop 1 (text_lines text)) one

pub are_certified : (c : Cutting) → IsCutting c → (root : Node) → IsValid c.rules root
    → (request text : List ℕ) (ls : List Leaf) → checked c root request text ≡ Ok ls → AreCertified c root.a root.b ls
are_certified c is root valid request text ls e =
    certify c is (length (lines text) + 1) root.b (drop 2 (text_lines text)) (root ∷ []) 0 root.a ls (refl, valid, refl) (rest_of c root request text ls e)

-- ---- they are the leaves that the lines name
entry_is : (line : Numbered) (said : Entry) → entry_at line ≡ Ok said → entry_of (tokens line.bytes) ≡ Some said
entry_is line said e = by (is_too_long line) e
  where
    by : (long : Bool)
        → ((if long then Err (at_line line.number CERT_LINE) else Ok (tokens line.bytes)) >>= λ words. or_broken (at_line line.number CERT_LINE) (entry_of words)) ≡ Ok said
        → entry_of (tokens line.bytes) ≡ Some said
    by true e = absurd (cc)
    by false e = unbroken (at_line line.number CERT_LINE) (entry_of (tokens line.bytes)) said e

module _ (c : Cutting) (end : ℕ) where
  abbrev Names : List Numbered → Type 0
  Names rest =
      (waiting : List Node) (count : ℕ) (ls : List Leaf) → leaves_from c end waiting count rest ≡ Ok ls → ls ≡ named_leaves rest

  unnamed : (rest : List Numbered) (ls : List Leaf) → after_end rest ≡ Ok ls → named_leaves rest ≡ []
  unfolding named_leaves
  unnamed [] ls e = refl
  unnamed (line ∷ rest) ls e = let more = bind_ok (entry_at line) _ ls e in absurd (no_more more.2)
    where
      no_more : ◌≡◌ {A = Result (List Leaf) CertFault} (Err (at_line line.number CERT_END)) (Ok ls) → ⊥
      no_more e = absurd (cc)

  named_by : (line : Numbered) (rest : List Numbered) → Names rest
      → (waiting : List Node) (count : ℕ) (ls : List Leaf) (said : Entry)
      → after_entry c line.number waiting count (λ later. leaves_from c end later (count + 1) rest) rest said ≡ Ok ls
      → ls ≡ leaf_of_entry (Some said) ++ named_leaves rest
  named_by line rest further waiting count ls (entry.Leaf l) e =
      let there = bind_ok (leaf_at c line.number waiting l) _ ls e in
      let more = has_first l (leaves_from c end there.0 (count + 1) rest) ls there.2 in
      sym more.2 ∙ ap (λ (later : List Leaf). l ∷ later) (further there.0 (count + 1) more.0 more.1)
  named_by line rest further waiting count ls (entry.End n) e =
      let there = bind_ok (holds_or (at_line line.number CERT_END) (is_end waiting count n)) _ ls e in
      nothing_after rest ls there.2 ∙ sym (unnamed rest ls there.2)

  names : (rest : List Numbered) → Names rest
  unfolding leaves_from named_leaves
  names [] waiting count ls e = absurd (cc)
  names (line ∷ rest) waiting count ls e =
      let said = bind_ok (entry_at line) _ ls e in
      named_by line rest (names rest) waiting count ls said.0 said.2
      ∙ ap (λ (found : Option Entry). leaf_of_entry found ++ named_leaves rest) (sym (entry_is line said.0 said.1))

pub are_named : (c : Cutting) (root : Node) (request text : List ℕ) (ls : List Leaf)
    → checked c root request text ≡ Ok ls → ls ≡ named_leaves (drop 2 (text_lines text))
are_named c root request text ls e =
    names c (length (lines text) + 1) (drop 2 (text_lines text)) (root ∷ []) 0 ls (rest_of c root request text ls e)
