-- The words after those of a section, on the line of its last one.
use Rattle.std.proofs.Common.{◌≡◌, ℕ, List, [], ◌∷◌, refl, eq-eqb}
use Rattle.spec_files.specs.Sections.{FileLine}
use Rattle.spec_files.specs.Blocks.{further_words}

-- a section without words has none
pub none_further : (n : ℕ) (lines : List FileLine) → n ≡ 0 → further_words n lines ≡ []
none_further n [] is = refl
none_further n (line ∷ rest) is = rw (eq-eqb n 0 is) refl
