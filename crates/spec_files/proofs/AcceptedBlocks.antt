-- The blocks of accepted lines are a checked ephemeris.
use Rattle.std.proofs.Common.{◌≡◌, ℕ, zero, suc, List, [], ◌∷◌, length, Ok, refl, ◌∙◌, inl, inr, arith, eq-eqb, ne_eqb}
use Rattle.std.proofs.lemmas.Bool.{cases_eq}
use Rattle.spec_ephemeris.specs.declared.header.Header.{Header}
use Rattle.spec_ephemeris.specs.Header.{IsHeader}
use Rattle.spec_ephemeris.specs.Ephemeris.{Ephemeris, IsEphemeris}
use Rattle.spec_files.specs.Sections.{FileLine}
use Rattle.spec_files.proofs.Holding.{holds_also, Holds, holds_ok, then_any}
use Rattle.spec_files.specs.Blocks.{block, blocks, blocks_after, no_blocks, with_numbers}
use Rattle.spec_files.proofs.Numbers.{block_holds}
use Rattle.spec_files.proofs.Blocks.{IsWith, is_with, none_checked}

at_end : (before : Ephemeris) → IsEphemeris before → Holds (IsWith before) (blocks_after 0 before [])
at_end before checked = elim (cases_eq before.blocks 0) [
  | inl none ↦ rw (eq-eqb before.blocks 0 none) tt
  | inr some ↦ rw (ne_eqb before.blocks 0 some) (record { checked = checked; header = refl; some = omega (arith, some) })
]

pub after_hold : (n : ℕ) (before : Ephemeris) (lines : List FileLine) → IsEphemeris before → Holds (IsWith before) (blocks_after n before lines)
after_hold zero before [] checked = at_end before checked
after_hold (suc n) before [] checked = at_end before checked
after_hold zero before (line ∷ rest) checked = tt
after_hold (suc n) before (line ∷ rest) checked =
    then_any (IsWith before) (block before (line ∷ rest)) _ (λ found is.
    let counted = holds_ok _ (block before (line ∷ rest)) found is (block_holds before (line ∷ rest)) in
    let next = is_with before found.0 checked counted.0 counted.1 in
    holds_also (IsWith (with_numbers before found.0)) (IsWith before) _
    (λ e with. record { checked = with.checked; header = with.header ∙ next.header; some = with.some }) (after_hold n (with_numbers before found.0) found.1 next.checked))

pub blocks_hold : (h : Header) (lines : List FileLine) → IsHeader h → Holds (IsWith (no_blocks h)) (blocks h lines)
unfolding blocks
blocks_hold h lines header = after_hold (length lines) (no_blocks h) lines (none_checked h header)

pub is_accepted : (h : Header) (lines : List FileLine) (e : Ephemeris) → IsHeader h → blocks h lines ≡ Ok e → IsWith (no_blocks h) e
is_accepted h lines e header is = holds_ok (IsWith (no_blocks h)) (blocks h lines) e is (blocks_hold h lines header)
