-- The leaves of a span are those of its pieces, one after another, where each is cut off at a seam of what is left.
use Rattle.std.proofs.Common.{◌≡◌, List, [], ◌∷◌, ◌++◌, ℤ, refl, ap, ◌∙◌, arith}
use Rattle.std.proofs.lemmas.Int.{ints}
use Rattle.spec_searches.specs.Search.{IsSearch, Search}
use Rattle.spec_searches.specs.Found.{IsSpan, leaves_of}
use Rattle.spec_searches.proofs.Parts.{root_is_valid}
use Rattle.spec_spans.specs.Pieces.{AreSeams, leaves_of_pieces}
use Rattle.spec_spans.proofs.Seams.{leaves_at_seam}

pub leaves_of_all_pieces : (s : Search) → IsSearch s → (first last : ℤ) (times : List ℤ) → IsSpan s first last → AreSeams s first times last
    → leaves_of s first last ≡ leaves_of_pieces s first times last
leaves_of_all_pieces s is first last [] span seams = refl
leaves_of_all_pieces s is first last (time ∷ times) span seams =
    let from = span.from in
    let after = seams.0.after in
    let left : IsSpan s time last = record { from = omega (arith, ints, from, after); ordered = seams.0.before; to = span.to } in
    leaves_at_seam s is first last 0 (root_is_valid s is.view first last span) time seams.0
    ∙ ap (λ ls. leaves_of s first time ++ ls) (leaves_of_all_pieces s is time last times left seams.1)
