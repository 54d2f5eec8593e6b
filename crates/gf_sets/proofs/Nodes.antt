-- The times of a node after its first, as code reads them, and sets to which they are added.
use Rattle.std.proofs.Common.{◌≡◌, ◌⊎◌, inl, inr, Bool, true, false, ◌&&◌, ◌||◌, ℤ, pos, ◌+ℤ◌, ◌-ℤ◌, ◌≤ℤ◌, ◌<ℤ◌, int_le, List, refl, sym, ◌∙◌, w64, to_z, of_z, arith}
use Rattle.std.proofs.lemmas.Int.{fits_signed_from_abs, ints, to_z-of_z}
use mir.Val.{SFits}
use Rattle.spec_intervals.specs.declared.signs.Sign.{Sign}
use Rattle.spec_trees.specs.declared.tree.Node.{Node}
use Rattle.spec_sets.specs.Spans.{IsAfterAll, Span, has, is_between}
use Rattle.spec_sets.proofs.Members.{le_so}
use Rattle.gf_sets.specs.Adding.{AreAdded, ComesNext}
use Rattle.gf_sets.proofs.Pairs.{run_as_read}
use Rattle.gf_sets.proofs.Reading.{read_less, read_more}

-- a set to which times before another time are added ends before that
ends_before_next : (old now : List Span) (p : Bool) (start first last next : ℤ) → IsAfterAll old start → start ≤ℤ next → last <ℤ next
    → ((t : ℤ) → has now t ≡ (has old t || (is_between first last t && p))) → IsAfterAll now next
ends_before_next old now p start first last next after early late added t is = by (either (has old t) (int_le first t) (int_le t last) p (sym (added t) ∙ is))
  where
    either : (h i j p : Bool) → (h || ((i && j) && p)) ≡ true → (h ≡ true) ⊎ (j ≡ true)
    either true i j p e = inl refl
    either false i true p e = inr refl
    either false true false p e = absurd (cc)
    either false false false p e = absurd (cc)

    by : (has old t ≡ true) ⊎ (int_le t last ≡ true) → t <ℤ next
    by (inl e) = let before = after t e in omega (arith, ints, before, early)
    by (inr e) = let upto = le_so t last e in omega (arith, ints, upto, late)

module _ (n : Node) (surely perhaps : List Span) (comes : ComesNext n surely perhaps) where
  start_fits : SFits w64 n.a
  start_fits = fits_signed_from_abs w64 n.a (omega (arith, ints, comes.early, comes.wide, comes.late))

  first_fits : SFits w64 (n.a +ℤ pos 1)
  first_fits = fits_signed_from_abs w64 (n.a +ℤ pos 1) (omega (arith, ints, comes.early, comes.wide, comes.late))

  end_fits : SFits w64 n.b
  end_fits = fits_signed_from_abs w64 n.b (omega (arith, ints, comes.early, comes.wide, comes.late))

  before_end_fits : SFits w64 (n.b -ℤ pos 1)
  before_end_fits = fits_signed_from_abs w64 (n.b -ℤ pos 1) (omega (arith, ints, comes.early, comes.wide, comes.late))

  pub ordered : (n.a +ℤ pos 1) ≤ℤ n.b
  ordered = omega (arith, ints, comes.wide)

  first_is : to_z w64 (of_z w64 (to_z w64 (of_z w64 n.a) +ℤ pos 1)) ≡ n.a +ℤ pos 1
  first_is = read_more n.a start_fits first_fits

  pub end_is : to_z w64 (of_z w64 n.b) ≡ n.b
  end_is = to_z-of_z w64 n.b end_fits

  before_end_is : to_z w64 (of_z w64 (to_z w64 (of_z w64 n.b) -ℤ pos 1)) ≡ n.b -ℤ pos 1
  before_end_is = read_less n.b end_fits before_end_fits

  -- all times after its first but its last are added
  module _ (x : Sign) (s m : List Span)
      (added : AreAdded (λ t. x) (to_z w64 (of_z w64 (to_z w64 (of_z w64 n.a) +ℤ pos 1))) (to_z w64 (of_z w64 (to_z w64 (of_z w64 n.b) -ℤ pos 1))) surely perhaps s m) where
    pub before_end : AreAdded (λ t. x) (n.a +ℤ pos 1) (n.b -ℤ pos 1) surely perhaps s m
    before_end = run_as_read x x _ _ (n.a +ℤ pos 1) (n.b -ℤ pos 1) surely perhaps s m refl first_is before_end_is added

    pub sure_before_end : IsAfterAll s n.b
    sure_before_end = ends_before_next surely s _ (n.a +ℤ pos 1) (n.a +ℤ pos 1) (n.b -ℤ pos 1) n.b comes.after_sure ordered (omega (arith, ints)) before_end.sure

    pub maybe_before_end : IsAfterAll m n.b
    maybe_before_end = ends_before_next perhaps m _ (n.a +ℤ pos 1) (n.a +ℤ pos 1) (n.b -ℤ pos 1) n.b comes.after_maybe ordered (omega (arith, ints)) before_end.maybe
