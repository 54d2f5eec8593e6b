-- The unit between two still spans of one sign is still.
use Rattle.std.proofs.Common.{◌≡◌, ℕ, ◌<◌, true, ℤ, pos, ◌+ℤ◌, ◌≤ℤ◌, arith, refl, sym, ap, ◌∙◌, subst}
use Rattle.std.proofs.lemmas.Int.{ints}
use Rattle.spec_intervals.specs.declared.signs.Sign.{Sign}
use Rattle.spec_events.specs.Verdict.{is_known}
use Rattle.spec_searches.specs.Search.{IsSearch, Search}
use Rattle.spec_bounds.specs.Steady.{sign_at}
use Rattle.spec_stills.specs.declared.still.StillSpan.{StillSpan}
use Rattle.spec_stills.specs.Still.{IsStill, unit_from}
use Rattle.still_spans.specs.Found.{IsStillOver, still}

-- the law of units
abbrev pub Units : Type 0
Units = (s : Search) (t : ℤ) (widest : ℕ) (sign : Sign) → IsSearch s → 0 < widest → is_known sign ≡ true → sign_at s t ≡ sign → sign_at s (t +ℤ pos 1) ≡ sign
    → IsStill s (unit_from t widest sign)

module _ (s : Search) (before after : StillSpan) (is : IsSearch s) (later : IsStill s after) (ordered : after.from ≤ℤ after.upto)
    (next : after.from ≡ before.upto +ℤ pos 1) (same : before.sign ≡ after.sign) (known : is_known after.sign ≡ true) where
  pub unit_over : Units → IsStill s before → before.from ≤ℤ before.upto → IsStillOver s before.upto after.from (still before.upto after.from s.width 0 after.sign)
  unit_over units sooner in_order =
      let last = sooner.signs before.upto in_order (omega (arith, ints)) ∙ same in
      let first = ap (sign_at s) (sym next) ∙ later.signs after.from (omega (arith, ints)) ordered in
      record {
        still = subst (λ (t : ℤ). IsStill s (still before.upto t s.width 0 after.sign)) (sym next) (units s before.upto s.width after.sign is is.some_width known last first);
        from = refl;
        upto = refl;
      }
