-- Models in a finer unit, and of an interval by its middle.
use Rattle.std.proofs.Common.{◌≡◌, ◌∙◌, ℕ, zero, suc, ◌*◌, ◌^◌, arith, refl, sym, subst, Option, IfSome, List, [], ◌∷◌, ℤ, pos, ◌+ℤ◌, ◌-ℤ◌, ◌*ℤ◌, ◌≤ℤ◌}
use Rattle.std.proofs.lemmas.Nat.{pow_pos}
use Rattle.std.proofs.lemmas.Option.{IfSome_then}
use borrow.Author.Differences.{down}
use Rattle.spec_numbers.proofs.Order.{lin}
use Rattle.spec_intervals.specs.Interval.{Interval}
use Rattle.spec_intervals.specs.Fraction.{Fraction, IsFraction}
use Rattle.spec_chebyshev.specs.Differences.{IsArgument}
use Rattle.spec_models.specs.Ends.{NoMore, in_units}
use Rattle.spec_models.proofs.Ordered.{more_units}
use Rattle.spec_models.specs.Models.{Covers, Model, IsNear, coefficient, constant, lowered, model}
use Rattle.span_models.specs.Settled.{Reaches}
use Rattle.span_models.specs.Making.{IsMiddle}

-- ---- a line in a finer unit
module _ (similar : (p q : ℤ) → IsArgument p q → (m : Model) (ys : List ℤ) (r : Fraction) → ((k : ℕ) → coefficient m.coefficients k ≡ coefficient ys k) → IsNear m p q r → IsNear (model ys m.error m.exponent) p q r) where
  pub line_near : ((p q : ℤ) → IsArgument p q → (k : ℕ) (m : Model) (r : Fraction) → IsNear m p q r → IsNear (lowered k m) p q r)
      → (a b : ℤ) (e : ℕ) (s : ℤ) (j : ℕ) (x y : ℤ) (zs : List ℤ) (d : ℕ) (t : ℤ) → x ≡ pos (2 ^ j) *ℤ a → y ≡ pos (2 ^ j) *ℤ b → ((k : ℕ) → coefficient (x ∷ y ∷ []) k ≡ coefficient zs k)
      → d ≡ e * 2 ^ j → t ≡ s -ℤ pos j → (o : Option Model) → IfSome o (λ k. Reaches (model zs d t) k) → IfSome o (λ k. Reaches (model (a ∷ b ∷ []) e s) k)
  line_near finer a b e s j x y zs d t ex ey same ed et o h =
      IfSome_then o {P = λ k. Reaches (model zs d t) k} {Q = λ k. Reaches (model (a ∷ b ∷ []) e s) k} h (λ k reaches p q r g near.
      reaches p q r g (subst (λ (l : Model). IsNear l p q r) (λ i. model zs (sym ed i) (sym et i)) (similar p q g (lowered j (model (a ∷ b ∷ []) e s)) zs r (λ n. (λ i. coefficient (sym ex i ∷ sym ey i ∷ []) n) ∙ same n) (finer p q g j (model (a ∷ b ∷ []) e s) r near))))

  -- ---- an interval by its middle
  same_constant : (a : ℤ) (k : ℕ) → coefficient (a ∷ []) k ≡ coefficient (a ∷ pos 0 ∷ []) k
  same_constant a zero = refl
  same_constant a (suc zero) = refl
  same_constant a (suc (suc k)) = refl

  -- an end of it
  end_near : ((p q : ℤ) → IsArgument p q → (a : ℤ) (e : ℕ) (s : ℤ) (r : Fraction) → IsFraction r → NoMore (in_units (a -ℤ pos e) s) r → NoMore r (in_units (a +ℤ pos e) s) → IsNear (constant a e s) p q r)
      → (p q : ℤ) → IsArgument p q → (a : ℤ) (e : ℕ) (s z : ℤ) → (a -ℤ pos e) ≤ℤ z → z ≤ℤ (a +ℤ pos e) → IsNear (model (a ∷ pos 0 ∷ []) e s) p q (in_units z s)
  end_near near p q g a e s z above below =
      similar p q g (constant a e s) (a ∷ pos 0 ∷ []) (in_units z s) (same_constant a) (near p q g a e s (in_units z s) (pow_pos (down s)) (more_units (a -ℤ pos e) z s above) (more_units z (a +ℤ pos e) s below))

  pub interval_covered : ((p q : ℤ) → IsArgument p q → (a : ℤ) (e : ℕ) (s : ℤ) (r : Fraction) → IsFraction r → NoMore (in_units (a -ℤ pos e) s) r → NoMore r (in_units (a +ℤ pos e) s) → IsNear (constant a e s) p q r)
      → (x : Interval) (lo hi a : ℤ) (e : ℕ) (b s : ℤ) → IsMiddle lo hi a e → lo ≡ x.lo → hi ≡ x.hi → b ≡ a → s ≡ x.s
      → (o : Option Model) → IfSome o (λ k. Reaches (model (b ∷ pos 0 ∷ []) e s) k) → IfSome o (λ k. (p q : ℤ) → IsArgument p q → Covers k p q x)
  interval_covered near x lo hi a e b s is el eh eb es o h =
      let fl = is.low in
      let fh = is.high in
      let fo = is.ordered in
      IfSome_then o {P = λ k. Reaches (model (b ∷ pos 0 ∷ []) e s) k} {Q = λ k. (p q : ℤ) → IsArgument p q → Covers k p q x} h (λ k reaches p q g. record {
        low = subst (λ (t : ℤ). IsNear k p q (in_units x.lo t)) es (reaches p q (in_units x.lo s) g (end_near near p q g b e s x.lo (omega (arith, lin, fl, el, eb)) (omega (arith, lin, fh, fo, el, eb))));
        high = subst (λ (t : ℤ). IsNear k p q (in_units x.hi t)) es (reaches p q (in_units x.hi s) g (end_near near p q g b e s x.hi (omega (arith, lin, fl, fo, eh, eb)) (omega (arith, lin, fh, eh, eb))));
      })
