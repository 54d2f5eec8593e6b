-- Parts that were read so far, and the bytes that are left.
use Rattle.std.proofs.Common.{◌≡◌, ◌<◌, ◌+◌, ◌++◌, ℕ, length, List, [], ◌∷◌, map, take, drop, Option, None, Some, append-nil, refl, sym, ap, ◌∙◌, subst, arith}
use Rattle.std.proofs.lemmas.List.{drop_at}
use Rattle.std.specs.Prelude.{IsUtf8}
use Rattle.memchr.specs.Find.{IsFirstByte, is_byte}
use Rattle.memchr.proofs.lemmas.ValueLemmas.{IsFirstByte-value}
use Rattle.finder_c.specs.Layout.{AreParts, BeginWithContent, BeginWithFile, BeginWithText, first_zero}

-- parts that were read, after which bytes are left: what follows them is all that is left, and of no other parts
pub record AreRead {Given Part : Type 0} (Begin : List ℕ → Part → List ℕ → Type 0) (part_of : Given → Part) (bytes : List ℕ) (read : List Given) (rest : List ℕ) : Type 0 where
  pub whole : (more : List Part) → AreParts Begin rest more → AreParts Begin bytes (map part_of read ++ more)
  pub only : (all : List Part) → AreParts Begin bytes all → (more : List Part) × AreParts Begin rest more

pub is_none : (bytes : List ℕ) → length bytes ≡ 0 → bytes ≡ []
is_none [] none = refl
is_none (first ∷ bytes) none = absurd (omega (arith, none))

pub is_some : (bytes : List ℕ) → 0 < length bytes → bytes ≡ [] → ⊥
is_some [] some none = absurd (omega (arith, some))
is_some (first ∷ bytes) some none = absurd (cc)

-- ---- texts and files
pub zero_at : (bytes : List ℕ) (place : Option ℕ) → IsFirstByte (is_byte 0) bytes place → first_zero bytes ≡ place
zero_at bytes place is = sym (IsFirstByte-value (is_byte 0) bytes place is)

pub no_text : (bytes text rest : List ℕ) → first_zero bytes ≡ None → BeginWithText bytes text rest → ⊥
no_text bytes text rest none b = let some = b.ended in absurd (cc)

same_end : (bytes : List ℕ) (i j : ℕ) → first_zero bytes ≡ Some i → first_zero bytes ≡ Some j → i ≡ j
same_end bytes i j one other = cc

pub no_utf8 : (bytes text rest : List ℕ) (end : ℕ) → first_zero bytes ≡ Some end → (IsUtf8 (take end bytes) → ⊥) → BeginWithText bytes text rest → ⊥
no_utf8 bytes text rest end is not b =
    not (subst IsUtf8 (b.before ∙ ap (λ (i : ℕ). take i bytes) (same_end bytes b.end end b.ended is)) b.is_text)

pub text_once : (bytes text other rest later : List ℕ) → BeginWithText bytes text rest → BeginWithText bytes other later → rest ≡ later
text_once bytes text other rest later a b =
    a.after ∙ ap (λ (i : ℕ). drop (i + 1) bytes) (same_end bytes a.end b.end a.ended b.ended) ∙ sym b.after

content_once : (bytes content other rest later : List ℕ) → BeginWithContent bytes content rest → BeginWithContent bytes other later → rest ≡ later
content_once bytes content other rest later a b =
    sym (drop_at content rest (length content) refl)
    ∙ ap (λ (n : ℕ). drop n (content ++ rest)) (sym a.count ∙ b.count)
    ∙ ap (λ (left : List ℕ). drop (length other) left) (sym a.after ∙ b.after)
    ∙ drop_at other later (length other) refl

pub file_once : (bytes : List ℕ) (file other : List ℕ × List ℕ) (rest later : List ℕ) → BeginWithFile bytes file rest → BeginWithFile bytes other later → rest ≡ later
file_once bytes file other rest later a b =
    let same = text_once bytes file.0 other.0 a.later b.later a.name b.name in
    content_once b.later file.1 other.1 rest later (subst (λ (l : List ℕ). BeginWithContent l file.1 rest) same a.content) b.content

-- ---- lists of parts
module _ {Given Part : Type 0} (Begin : List ℕ → Part → List ℕ → Type 0) (part_of : Given → Part) where
  map_last : (read : List Given) (last : Given) (more : List Part) → map part_of (read ++ last ∷ []) ++ more ≡ map part_of read ++ part_of last ∷ more
  map_last [] last more = refl
  map_last (first ∷ read) last more = ap (λ (parts : List Part). part_of first ∷ parts) (map_last read last more)

  -- one more part is read
  pub one_more : (bytes : List ℕ) (read : List Given) (rest : List ℕ) (last : Given) (later : List ℕ)
      → ((x y : Part) (r s : List ℕ) → Begin rest x r → Begin rest y s → r ≡ s)
      → (rest ≡ [] → ⊥) → Begin rest (part_of last) later → AreRead Begin part_of bytes read rest
      → AreRead Begin part_of bytes (read ++ last ∷ []) later
  one_more bytes read rest last later once some begin before = record {
    whole = λ more h. subst (AreParts Begin bytes) (sym (map_last read last more)) (before.whole (part_of last ∷ more) (later, begin, h));
    only = λ all h. let left = before.only all h in after left.0 left.1;
  }
    where
      after : (more : List Part) → AreParts Begin rest more → (others : List Part) × AreParts Begin later others
      after [] h = absurd (some h)
      after (part ∷ parts) h = (parts, subst (λ (r : List ℕ). AreParts Begin r parts) (once part (part_of last) h.0 later h.1 begin) h.2)

  -- all is read
  pub all_read : (bytes : List ℕ) (read : List Given) (rest : List ℕ) → rest ≡ [] → AreRead Begin part_of bytes read rest → AreParts Begin bytes (map part_of read)
  all_read bytes read rest none before = subst (AreParts Begin bytes) (append-nil (map part_of read)) (before.whole [] none)

  -- bytes that begin with no part are no parts
  pub no_parts : (bytes : List ℕ) (read : List Given) (rest : List ℕ) → (rest ≡ [] → ⊥) → ((part : Part) (later : List ℕ) → Begin rest part later → ⊥)
      → AreRead Begin part_of bytes read rest → (all : List Part) → AreParts Begin bytes all → ⊥
  no_parts bytes read rest some none before all h = let left = before.only all h in without left.0 left.1
    where
      without : (more : List Part) → AreParts Begin rest more → ⊥
      without [] h = some h
      without (part ∷ parts) h = none part h.0 h.1
