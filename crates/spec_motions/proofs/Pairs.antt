-- The pairs of the coefficients of an axis are their intervals, and are small, in order and of one sign.
use Rattle.std.proofs.Common.{◌≡◌, ℕ, ◌^◌, ◌≤◌, arith, refl, ap, ◌∙◌, List, [], ◌∷◌, map, take, drop, All, negsuc}
use Rattle.std.proofs.lemmas.List.{length-take, take-map, drop-map}
use Rattle.std.proofs.lemmas.List.Elements.{All-nil, All-cons, All-head, All-tail, All-take, All-drop}
use Rattle.spec_text.specs.declared.decimals.Decimal.{Decimal}
use Rattle.spec_numbers.proofs.Order.{lin}
use Rattle.spec_numbers.proofs.Floor.{ordered_quotients, quotients_of_one_sign}
use Rattle.spec_intervals.specs.Interval.{IsDistance, from_decimal, decimal_top, decimal_bottom}
use Rattle.spec_intervals.proofs.Decimals.{bottom_pos}
use Rattle.spec_chebyshev.specs.declared.ends.Ival62.{Ival62}
use Rattle.spec_chebyshev.proofs.Arguments.{size_within}
use Rattle.spec_ephemeris.specs.declared.granule.Rounded.{Rounded}
use Rattle.spec_ephemeris.specs.Ephemeris.{IsBodyNumber}
use Rattle.spec_ephemeris.specs.Rounding.{pair_of}
use Rattle.spec_ephemeris.proofs.Rounding.{low_size, high_size}
use Rattle.spec_motions.specs.Pairs.{term_of, IsPair, ArePairs}
use Rattle.spec_motions.specs.Sums.{coefficient}

-- ---- the pair of a coefficient is its interval
terms_are : (cs : List Decimal) → map term_of (map pair_of cs) ≡ map coefficient cs
terms_are [] = refl
terms_are (c ∷ cs) = ap (λ (l : List Ival62). coefficient c ∷ l) (terms_are cs)

pub terms_of_axis : (cs : List Decimal) (ps : List Rounded) (from n : ℕ) → ps ≡ map pair_of cs
    → map term_of (take n (drop from ps)) ≡ map coefficient (take n (drop from cs))
terms_of_axis cs ps from n is =
    ap (λ (l : List Rounded). map term_of (take n (drop from l))) is
    ∙ ap (λ (l : List Rounded). map term_of (take n l)) (drop-map pair_of from cs)
    ∙ ap (map term_of) (take-map pair_of n (drop from cs))
    ∙ terms_are (take n (drop from cs))

-- ---- and each pair is small, in order and of one sign
pub IsPair-of : (c : Decimal) → IsDistance c.mant c.exp → IsPair (pair_of c)
unfolding from_decimal
IsPair-of c h = record {
  small = record { lo = size_within (pair_of c).lo (2 ^ 60) (low_size c h); hi = size_within (pair_of c).hi (2 ^ 60) (high_size c h) };
  ordered = ordered_quotients (decimal_top c.mant c.exp (negsuc 23)) (decimal_top c.mant c.exp (negsuc 23)) (decimal_bottom c.exp (negsuc 23)) (bottom_pos c.exp (negsuc 23)) (omega (arith, lin));
  one_sign = quotients_of_one_sign (decimal_top c.mant c.exp (negsuc 23)) (decimal_bottom c.exp (negsuc 23)) (bottom_pos c.exp (negsuc 23));
}

all_pairs : (cs : List Decimal) → All IsBodyNumber cs → All IsPair (map pair_of cs)
all_pairs [] h = All-nil IsPair
all_pairs (c ∷ cs) h = All-cons IsPair (pair_of c) (map pair_of cs) (IsPair-of c (All-head IsBodyNumber c cs h).small) (all_pairs cs (All-tail IsBodyNumber c cs h))

pub ArePairs-axis : (cs : List Decimal) (ps : List Rounded) (from n : ℕ) → n ≤ 32 → All IsBodyNumber cs → ps ≡ map pair_of cs → ArePairs (take n (drop from ps))
ArePairs-axis cs ps from n few bodies is = record {
  few = let t = length-take n (drop from ps) in omega (arith, t, few);
  pairs = All-take IsPair n (drop from ps) (All-drop IsPair from ps (rw is (all_pairs cs bodies)));
}
