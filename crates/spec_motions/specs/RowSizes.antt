-- What is asked of rows: which entries they have, and sizes that keep the sums of their products within 128 bits.
use Rattle.std.specs.Prelude.{◌≡◌, ℕ, suc, ◌^◌, ◌<◌, max, List, unsigned_abs}
use Rattle.spec_chebyshev.specs.declared.ends.Ival62.{Ival62}
use Rattle.spec_chebyshev.specs.Rows.{entry, EndsWithin}

-- the first n entries of a row are these
abbrev pub IsRow : ℕ → List Ival62 → (ℕ → Ival62) → Type 0
IsRow n row exact = (k : ℕ) → k < n → entry row k ≡ exact k

-- the first entries are, one less than n: a sum of k C_k X_(k-1) over n terms takes no more
abbrev pub IsShorterRow : ℕ → List Ival62 → (ℕ → Ival62) → Type 0
IsShorterRow n row exact = (k : ℕ) → suc k < n → entry row k ≡ exact k

-- the first entries of a row, as many as there are terms, are small
abbrev pub IsSmallRow : List Ival62 → ℕ → Type 0
IsSmallRow row n = (k : ℕ) → k < n → EndsWithin (2 ^ 60) (entry row k)

-- how large an entry is
abbrev pub entry_size : List Ival62 → ℕ → ℕ
entry_size row k = max (unsigned_abs (entry row k).lo) (unsigned_abs (entry row k).hi)
