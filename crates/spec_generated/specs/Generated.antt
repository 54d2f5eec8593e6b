-- The generated text of a number of blocks and a seed, and the ephemeris that it is.
use Rattle.std.specs.Prelude.{ℕ, List, [], ◌∷◌, ◌++◌, codes, neg_ℤ, pos}
use Rattle.spec_text.specs.Printed.{joined_lines}
use Rattle.spec_ephemeris.specs.Ephemeris.{Ephemeris}
use Rattle.spec_ephemeris.specs.Examples.{de405}
use Rattle.spec_generated.specs.Blocks.{lines_from, numbers_of}

-- the lines before the blocks: a header of DE405's columns
unfoldable pub header_lines : List (List ℕ)
header_lines =
    codes "KSIZE= 2036 NCOEFF= 1018"
    ∷ codes "GROUP 1010"
    ∷ codes "GENERATED TEXT"
    ∷ codes "GROUP 1030"
    ∷ codes "2451536.50 2525008.50 32."
    ∷ codes "GROUP 1040"
    ∷ codes "1"
    ∷ codes "EMRAT"
    ∷ codes "GROUP 1041"
    ∷ codes "1"
    ∷ codes "0.813005600000000000D+02"
    ∷ codes "GROUP 1050"
    ∷ codes "3 171 231 309 342 366 387 405 423 441 753 819 899"
    ∷ codes "14 10 13 11 8 7 6 6 6 13 11 10 10"
    ∷ codes "4 2 2 1 1 1 1 1 1 8 2 4 4"
    ∷ codes "GROUP 1070"
    ∷ []

-- the generated text
unfoldable pub generated_text : ℕ → ℕ → List ℕ
generated_text blocks seed = joined_lines (header_lines ++ lines_from seed 0 blocks)

-- the ephemeris of the generated text: it begins at Julian date 2451536.5
unfoldable pub generated_ephemeris : ℕ → ℕ → Ephemeris
generated_ephemeris blocks seed =
    record { header = de405; start = neg_ℤ (pos 734400); blocks = blocks; numbers = numbers_of seed blocks }
