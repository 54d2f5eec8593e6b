-- One still span more at the end of those that are found.
use Rattle.std.proofs.Common.{◌≡◌, suc, ◌-◌, ◌<◌, List, [], ◌∷◌, ◌++◌, All, length, Option, Some, None, Result, Ok, Err, ℤ, pos, negsuc, ◌+ℤ◌, ◌-ℤ◌, ◌≤ℤ◌, ◌<ℤ◌, arith, refl, sym, ap, ◌∙◌, subst}
use Rattle.std.specs.Prelude.{IfOk, IfSome, OnOk, Vec, slice_get}
use Rattle.std.specs.declared.alloc.Global.{Global}
use Rattle.std.proofs.lemmas.Int.{ints}
use Rattle.std.proofs.lemmas.Option.{same_Some}
use Rattle.std.proofs.lemmas.List.Elements.{All-head, All-push, All-tail}
use Rattle.spec_ephemeris.specs.Series.{to_nat}
use Rattle.spec_searches.specs.Search.{Search}
use Rattle.spec_stills.specs.declared.still.StillSpan.{StillSpan}
use Rattle.spec_stills.specs.Still.{IsStill}
use Rattle.still_spans.specs.Found.{AreFound, AreInOrder, Follow, IsStillOver}

follow_on : (from : ℤ) (xs : List StillSpan) (a b : ℤ) → Follow from xs a → a ≤ℤ b → Follow from xs b
follow_on from [] a b follow later = omega (arith, ints, follow, later)
follow_on from (x ∷ xs) a b follow later = (follow.0, follow.1, follow_on x.upto xs a b follow.2 later)

follow_more : (from : ℤ) (xs : List StillSpan) (a b : ℤ) (x : StillSpan) → Follow from xs a → a ≤ℤ x.from → x.from <ℤ x.upto → x.upto ≤ℤ b
    → Follow from (xs ++ x ∷ []) b
follow_more from [] a b x follow after several upto = (omega (arith, ints, follow, after), several, upto)
follow_more from (y ∷ xs) a b x follow after several upto = (follow.0, follow.1, follow_more y.upto xs a b x follow.2 after several upto)

pub in_order : (from : ℤ) (xs : List StillSpan) (upto : ℤ) → Follow from xs upto → AreInOrder from xs
in_order from [] upto follow = tt
in_order from (x ∷ xs) upto follow = (follow.0, follow.1, in_order x.upto xs upto follow.2)

pub sooner : (from later : ℤ) (xs : List StillSpan) → from ≤ℤ later → AreInOrder later xs → AreInOrder from xs
sooner from later [] less order = tt
sooner from later (x ∷ xs) less order = let after = order.0 in (omega (arith, ints, less, after), order.1, order.2)

pub passed : (s : Search) (from : ℤ) (xs : List StillSpan) (a b : ℤ) → AreFound s from xs a → a ≤ℤ b → AreFound s from xs b
passed s from xs a b found later = record { still = found.still; follow = follow_on from xs a b found.follow later }

-- what is found by a call up to b' from a', which are b and a as they are passed on
pub found_as : {T E : Type 0} (s : Search) (from : ℤ) (xs ys : List StillSpan) (done : Result T E) (a' a b' b : ℤ) → a' ≡ a → b' ≡ b
    → (AreFound s from xs a' → OnOk done (AreFound s from ys b')) → AreFound s from xs a → OnOk done (AreFound s from ys b)
found_as s from xs ys done a' a b' b begins ends call found = subst (λ (t : ℤ). OnOk done (AreFound s from ys t)) ends (call (subst (AreFound s from xs) (sym begins) found))

pub added : (s : Search) (from : ℤ) (xs : List StillSpan) (a b : ℤ) (x : StillSpan) → AreFound s from xs a → a <ℤ b → IsStillOver s a b x
    → AreFound s from (xs ++ x ∷ []) b
added s from xs a b x found several over =
    let begins = over.from in
    let ends = over.upto in
    record {
      still = All-push (IsStill s) xs x found.still over.still;
      follow = follow_more from xs a b x found.follow (omega (arith, ints, begins)) (omega (arith, ints, begins, ends, several)) (omega (arith, ints, ends));
    }

-- ---- the unit between the last of them and one more
shorter : (y z : StillSpan) (zs : List StillSpan) (x : StillSpan) → slice_get (y ∷ z ∷ zs) (length (y ∷ z ∷ zs) - 1) ≡ Some x
    → slice_get (z ∷ zs) (length (z ∷ zs) - 1) ≡ Some x
shorter y z zs x e =
    let same : length (y ∷ z ∷ zs) - 1 ≡ suc (length (z ∷ zs) - 1) = omega arith in
    sym (ap (slice_get (y ∷ z ∷ zs)) same) ∙ e

last_all : (s : Search) (xs : List StillSpan) (x : StillSpan) → slice_get xs (length xs - 1) ≡ Some x → All (IsStill s) xs → IsStill s x
last_all s [] x e stills = cc
last_all s (y ∷ []) x e stills = subst (IsStill s) (same_Some y x e) (All-head (IsStill s) y [] stills)
last_all s (y ∷ z ∷ zs) x e stills = last_all s (z ∷ zs) x (shorter y z zs x e) (All-tail (IsStill s) y (z ∷ zs) stills)

last_follow : (from : ℤ) (xs : List StillSpan) (upto : ℤ) (x : StillSpan) → slice_get xs (length xs - 1) ≡ Some x → Follow from xs upto → Follow from xs x.upto
last_follow from [] upto x e follow = cc
last_follow from (y ∷ []) upto x e follow = (follow.0, follow.1, subst (λ (u : StillSpan). y.upto ≤ℤ u.upto) (same_Some y x e) (omega (arith, ints)))
last_follow from (y ∷ z ∷ zs) upto x e follow = (follow.0, follow.1, last_follow y.upto (z ∷ zs) upto x (shorter y z zs x e) follow.2)

last_several : (from : ℤ) (xs : List StillSpan) (upto : ℤ) (x : StillSpan) → slice_get xs (length xs - 1) ≡ Some x → Follow from xs upto → x.from <ℤ x.upto
last_several from [] upto x e follow = cc
last_several from (y ∷ []) upto x e follow = subst (λ (u : StillSpan). u.from <ℤ u.upto) (same_Some y x e) follow.1
last_several from (y ∷ z ∷ zs) upto x e follow = last_several y.upto (z ∷ zs) upto x (shorter y z zs x e) follow.2

pub unit_added : (s : Search) (from : ℤ) (xs : List StillSpan) (upto : ℤ) (x : StillSpan) (found : Option StillSpan) → slice_get xs (length xs - 1) ≡ Some x
    → AreFound s from xs upto → IfSome found (λ unit. upto ≡ x.upto +ℤ pos 1)
    → IfSome found (λ unit. IsStill s x → x.from ≤ℤ x.upto → IsStillOver s x.upto upto unit) → IfSome found (λ unit. AreFound s from (xs ++ unit ∷ []) upto)
unit_added s from xs upto x None last found next over = over
unit_added s from xs upto x (Some unit) last found next over =
    let several = last_several from xs upto x last found.follow in
    added s from xs x.upto upto unit (record { still = found.still; follow = last_follow from xs upto x last found.follow }) (omega (arith, ints, next))
    (over (last_all s xs x last found.still) (omega (arith, ints, several)))

-- from a later time on
pub sooner_if : {E : Type 0} (from later : ℤ) (r : Result (Vec StillSpan Global) E) → from ≤ℤ later → IfOk r (λ found. AreInOrder later found.items) → IfOk r (λ found. AreInOrder from found.items)
sooner_if from later (Ok found) less order = sooner from later found.items less order
sooner_if from later (Err e) less order = order

-- the time after the end of a granule is nearer to the last
pub nearer : (here end upto : ℤ) → here <ℤ upto → here ≤ℤ end → to_nat (upto -ℤ (end +ℤ pos 1)) < to_nat (upto -ℤ here)
nearer here end upto before after = by (upto -ℤ (end +ℤ pos 1)) (upto -ℤ here) refl refl
  where
    by : (x y : ℤ) → upto -ℤ (end +ℤ pos 1) ≡ x → upto -ℤ here ≡ y → to_nat x < to_nat y
    by (pos m) (pos n) e f = omega (arith, ints, e, f, after)
    by (negsuc m) (pos n) e f = omega (arith, ints, f, before)
    by x (negsuc n) e f = absurd (omega (arith, ints, f, before))
