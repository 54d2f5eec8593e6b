-- What the outside tells: named files, the bytes that are left of the open one, and a count of faults.
use Rattle.std.specs.Prelude.{◌≡◌, ℕ, ◌+◌, ◌-◌, ◌^◌, ◌≤◌, min, List, [], ◌∷◌, Option, None, Some, IsSome, IsSomeAnd, Result, OnErr, if◌then◌else◌}
use Rattle.std.specs.Str.{bytes_eq}

-- names with their bytes
abbrev pub Files : Type 0
Files = List (List ℕ × List ℕ)

-- the bytes of the first entry with this name
abbrev pub file_of : List ℕ → Files → Option (List ℕ)
file_of name [] = None
file_of name (entry ∷ rest) = if bytes_eq entry.0 name then Some entry.1 else file_of name rest

-- a count after one more; it stays at its last value, 2^64 - 1
abbrev pub raised : ℕ → ℕ
raised count = min (count + 1) (2 ^ 64 - 1)

-- the count rose, or stands at its last value
abbrev pub Rose : ℕ → ℕ → Type 0
Rose before now = raised before ≤ now

-- the count does not fall, and a failure comes only where it rose
pub record HasCause {T E : Type 0} (before now : ℕ) (result : Result T E) : Type 0 where
  pub later : before ≤ now
  pub failed : OnErr result (Rose before now)

-- where files are told, this one is there, and these are its bytes
abbrev pub Opens : Option Files → List ℕ → Option (List ℕ) → Type 0
Opens None name left = Unit {0}
Opens (Some files) name left = (left ≡ file_of name files) × IsSome left

-- files are told, and this one is not there
abbrev pub Lacks : Option Files → List ℕ → Type 0
Lacks files name = IsSomeAnd files (λ told. file_of name told ≡ None)
