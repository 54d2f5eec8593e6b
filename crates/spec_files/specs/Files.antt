-- What is there of named files, where the files of a run are known.
use Rattle.std.specs.Prelude.{◌≡◌, ◌<◌, ◌≤◌, ◌+◌, ℕ, List, [], ◌∷◌, length, drop, slice_get, Option, Some, IfSome, IsSomeAnd}
use Rattle.spec_text.specs.declared.limits.TheConstants.{MAX_TEXT_BYTES}
use Rattle.gf_edges.specs.Edges.{Files, file_of}

-- where files are known, this one is there, and has P
abbrev pub NamedFile : Option Files → List ℕ → (List ℕ → Type 0) → Type 0
NamedFile files name P = IfSome files (λ known. IsSomeAnd (file_of name known) P)

-- where files are known, this one is there, and these are its bytes
abbrev pub IsFile : Option Files → List ℕ → List ℕ → Type 0
IsFile files name bytes = IfSome files (λ known. file_of name known ≡ Some bytes)

-- where files are known, these are there, and these are their bytes, in order
abbrev pub AreFiles : Option Files → List (List ℕ) → List (List ℕ) → Type 0
AreFiles files [] [] = Unit {0}
AreFiles files [] (text ∷ texts) = ⊥
AreFiles files (name ∷ names) [] = ⊥
AreFiles files (name ∷ names) (text ∷ texts) = IsFile files name text × AreFiles files names texts

-- where files are known, this one is there, and has more bytes than a file may have
abbrev pub IsLongFile : Option Files → List ℕ → Type 0
IsLongFile files name = NamedFile files name (λ bytes. MAX_TEXT_BYTES < length bytes)

-- where files are known, this one is there, and all but its first n bytes are left
abbrev pub HasLeft : Option Files → List ℕ → ℕ → Option (List ℕ) → Type 0
HasLeft files name n left = NamedFile files name (λ bytes. left ≡ Some (drop n bytes))

-- of this file at most one byte more was taken than a file may have
pub record FewAreTaken (files : Option Files) (name : List ℕ) (left : Option (List ℕ)) : Type 0 where
  pub count : ℕ
  pub few : count ≤ MAX_TEXT_BYTES + 1
  pub rest : HasLeft files name count left

-- the same of one of these files
pub record FewAreTakenOfOne (files : Option Files) (names : List (List ℕ)) (left : Option (List ℕ)) : Type 0 where
  pub file : ℕ
  pub name : List ℕ
  pub named : slice_get names file ≡ Some name
  pub taken : FewAreTaken files name left
