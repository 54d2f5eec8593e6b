-- Of spans in order, one that holds a time tells the sign at it: the last that begins no later, if it has not ended.
use Rattle.std.proofs.Common.{◌≡◌, ℕ, ◌≤◌, ◌-◌, true, false, List, length, ℤ, ◌≤ℤ◌, sym, subst, arith}
use Rattle.std.proofs.Math.ListN.{get_or}
use Rattle.std.proofs.lemmas.Int.{ints}
use Rattle.std.specs.Prelude.{int_le}
use Rattle.std.specs.List.Sorted.{IsPartitionPoint}
use Rattle.spec_intervals.specs.declared.signs.Sign.{Sign}
use Rattle.spec_stills.specs.declared.still.StillSpan.{StillSpan}
use Rattle.still_judge.specs.Signs.{TellSigns}

pub told : (sign : ℤ → Sign) (xs : List StillSpan) (t : ℤ) (count place : ℕ) (x : StillSpan)
    → IsPartitionPoint (λ x. int_le x.from t ≡ true) (λ x. int_le x.from t ≡ false) xs count → count ≤ length xs
    → 1 ≤ count → place ≡ count - 1 → ((d : StillSpan) → x ≡ get_or xs place d) → t ≤ℤ x.upto → TellSigns sign xs → sign t ≡ x.sign
told sign xs t count place x point within some before there upto tell =
    let here : (u : ℤ) → x.from ≤ℤ u → u ≤ℤ x.upto → sign u ≡ x.sign =
    subst (λ (y : StillSpan). (u : ℤ) → y.from ≤ℤ u → u ≤ℤ y.upto → sign u ≡ y.sign) (sym (there x)) (tell place x (omega (arith, within, some, before))) in
    let from : int_le x.from t ≡ true =
    subst (λ (y : StillSpan). int_le y.from t ≡ true) (sym (there x)) (point.0 place x (omega arith) (omega (arith, some, before))) in
    here t (grind (arith, ints, from)) upto
