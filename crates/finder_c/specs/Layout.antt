-- What the bytes of a call hold: its words, and files with their names.
use Rattle.std.specs.Int.{from_le_bytes, w64}
use Rattle.std.specs.Prelude.{◌≡◌, ◌+◌, ◌≤◌, ◌++◌, ℕ, IsUtf8, List, [], ◌∷◌, length, take, drop, map, Option, Some}
use Rattle.memchr.specs.Find.{first_of, is_byte, places}
use Rattle.gf_edges.specs.Edges.{Files}
use Rattle.finder_c.specs.declared.layout.NamedBytes.{NamedBytes}

-- the place of the first byte 0
abbrev pub first_zero : List ℕ → Option ℕ
first_zero bytes = first_of (places (is_byte 0) bytes)

-- bytes begin with a text, which the first byte 0 ends, and go on with the rest
pub record BeginWithText (bytes text rest : List ℕ) : Type 0 where
  pub end : ℕ
  pub ended : first_zero bytes ≡ Some end
  pub before : text ≡ take end bytes
  pub after : rest ≡ drop (end + 1) bytes
  pub is_text : IsUtf8 text

-- bytes begin with 8 that say a length, the least significant first, and so many bytes, and go on with the rest
pub record BeginWithContent (bytes content rest : List ℕ) : Type 0 where
  pub sized : 8 ≤ length bytes
  pub count : from_le_bytes w64 (take 8 bytes) ≡ length content
  pub after : drop 8 bytes ≡ content ++ rest

-- bytes begin with a file, its name and then its content, and go on with the rest
pub record BeginWithFile (bytes : List ℕ) (file : List ℕ × List ℕ) (rest : List ℕ) : Type 0 where
  pub later : List ℕ
  pub name : BeginWithText bytes file.0 later
  pub content : BeginWithContent later file.1 rest

-- bytes are these parts, one after the other, where Begin says that bytes begin with a part, and go on with the rest
abbrev pub AreParts : {Part : Type 0} → (List ℕ → Part → List ℕ → Type 0) → List ℕ → List Part → Type 0
AreParts Begin bytes [] = bytes ≡ []
AreParts Begin bytes (part ∷ parts) = (rest : List ℕ) × Begin bytes part rest × AreParts Begin rest parts

abbrev pub AreWords : List ℕ → List (List ℕ) → Type 0
AreWords bytes words = AreParts BeginWithText bytes words

abbrev pub AreFiles : List ℕ → Files → Type 0
AreFiles bytes files = AreParts BeginWithFile bytes files

-- a file with its name
abbrev pub entry : NamedBytes → List ℕ × List ℕ
entry file = (file.name.now, file.bytes.now)

abbrev pub entries : List NamedBytes → Files
entries files = map entry files
