-- Pairs beside numbers, one after the other.
use Rattle.std.proofs.Common.{◌≡◌, ℕ, zero, suc, ◌+◌, ◌^◌, ◌<◌, ◌≤◌, slice_index_or, append_assoc, sym, List, [], ◌∷◌, ◌++◌, length, map, take, drop, All, ℤ, unsigned_abs, w64, to_z, of_z, FitsSigned, refl, ap, subst, ◌∙◌, arith}
use Rattle.std.specs.Prelude.{IsOk, OnOk, Result, Ok, Err}
use Rattle.std.proofs.lemmas.Bool.{false≢true}
use Rattle.std.proofs.lemmas.Int.{ints, to_z-of_z}
use Rattle.std.proofs.lemmas.List.{take-append-drop, take_more}
use Rattle.std.proofs.lemmas.List.Elements.{All-head, All-tail}
use mir.Syntax.{w128}
use Rattle.spec_text.specs.declared.decimals.Decimal.{Decimal}
use Rattle.spec_ephemeris.specs.declared.granule.Rounded.{Rounded}
use Rattle.spec_ephemeris.specs.Ephemeris.{IsBodyNumber}
use Rattle.spec_ephemeris.specs.Rounding.{pair_of}
use Rattle.eph_model.specs.Pairs.{IsPair, ArePairs, BeginWithPairs}

pub pairs_length : (ds : List Decimal) (ps : List Rounded) → ArePairs ds ps → length ps ≡ length ds
pairs_length [] [] are = refl
pairs_length [] (p ∷ ps) are = absurd are
pairs_length (d ∷ ds) [] are = absurd are
pairs_length (d ∷ ds) (p ∷ ps) are = ap suc (pairs_length ds ps are.1)

pub pairs_append : (ds es : List Decimal) (ps qs : List Rounded) → ArePairs ds ps → ArePairs es qs → ArePairs (ds ++ es) (ps ++ qs)
pairs_append [] es [] qs one other = other
pairs_append [] es (p ∷ ps) qs one other = absurd one
pairs_append (d ∷ ds) es [] qs one other = absurd one
pairs_append (d ∷ ds) es (p ∷ ps) qs one other = (one.0, pairs_append ds es ps qs one.1 other)

pub pairs_take : (n : ℕ) (ds : List Decimal) (ps : List Rounded) → ArePairs ds ps → ArePairs (take n ds) (take n ps)
pairs_take zero ds ps are = tt
pairs_take (suc n) [] [] are = tt
pairs_take (suc n) [] (p ∷ ps) are = absurd are
pairs_take (suc n) (d ∷ ds) [] are = absurd are
pairs_take (suc n) (d ∷ ds) (p ∷ ps) are = (are.0, pairs_take n ds ps are.1)

pub pairs_drop : (n : ℕ) (ds : List Decimal) (ps : List Rounded) → ArePairs ds ps → ArePairs (drop n ds) (drop n ps)
pairs_drop zero ds ps are = are
pairs_drop (suc n) [] [] are = tt
pairs_drop (suc n) [] (p ∷ ps) are = absurd are
pairs_drop (suc n) (d ∷ ds) [] are = absurd are
pairs_drop (suc n) (d ∷ ds) (p ∷ ps) are = pairs_drop n ds ps are.1

-- beside numbers of bodies each is the pair of its number
pub pairs_are : (ds : List Decimal) (ps : List Rounded) → ArePairs ds ps → All IsBodyNumber ds → ps ≡ map pair_of ds
pairs_are [] [] are bodies = refl
pairs_are [] (p ∷ ps) are bodies = absurd are
pairs_are (d ∷ ds) [] are bodies = absurd are
pairs_are (d ∷ ds) (p ∷ ps) are bodies =
    let first : p ≡ pair_of d = are.0 (All-head IsBodyNumber d ds bodies).small in
    let rest : ps ≡ map pair_of ds = pairs_are ds ps are.1 (All-tail IsBodyNumber d ds bodies) in
    λ i. first i ∷ rest i

-- a granule's pairs stand beside its numbers
pub pairs_within : (ds : List Decimal) (ps : List Rounded) (from ncoeff first size : ℕ) → ArePairs ds ps
    → ArePairs (take size (drop first (take ncoeff (drop from ds)))) (take size (drop first (take ncoeff (drop from ps))))
pairs_within ds ps from ncoeff first size are =
    pairs_take size (drop first (take ncoeff (drop from ds))) (drop first (take ncoeff (drop from ps)))
    (pairs_drop first (take ncoeff (drop from ds)) (take ncoeff (drop from ps))
    (pairs_take ncoeff (drop from ds) (drop from ps) (pairs_drop from ds ps are)))

-- one number more with its pair
pub pairs_more : (before numbers : List Decimal) (k : ℕ) (d : Decimal) (p : Rounded) (old new : List Rounded) → k < length numbers
    → IsPair (slice_index_or numbers k d) p → new ≡ old ++ p ∷ [] → ArePairs (before ++ take k numbers) old → ArePairs (before ++ take (k + 1) numbers) new
pairs_more before numbers k d p old new below is pushed are =
    let one : List Decimal = slice_index_or numbers k d ∷ [] in
    let more : before ++ take (k + 1) numbers ≡ (before ++ take k numbers) ++ one = ap (λ l. before ++ l) (take_more numbers k d below) ∙ sym (append_assoc before (take k numbers) one) in
    rw (more, pushed) (pairs_append (before ++ take k numbers) one old (p ∷ []) are (is, tt))

-- the same of two lists
pub pairs_pushed : (numbers new : List Decimal) (d : Decimal) (old pairs : List Rounded) (p : Rounded) → IsPair d p → new ≡ numbers ++ d ∷ []
    → pairs ≡ old ++ p ∷ [] → ArePairs numbers old → ArePairs new pairs
pairs_pushed numbers new d old pairs p is one other are = rw (one, other) (pairs_append numbers (d ∷ []) old (p ∷ []) are (is, tt))

-- ---- pairs of the first numbers alone
pub begun_length : (ds : List Decimal) (ps : List Rounded) → BeginWithPairs ds ps → length ps ≤ length ds
begun_length [] [] begun = omega arith
begun_length [] (p ∷ ps) begun = absurd begun
begun_length (d ∷ ds) [] begun = omega arith
begun_length (d ∷ ds) (p ∷ ps) begun = let rest = begun_length ds ps begun.1 in omega (arith, rest)

pub begun_more : (ds es : List Decimal) (ps : List Rounded) → BeginWithPairs ds ps → BeginWithPairs (ds ++ es) ps
begun_more [] [] [] begun = tt
begun_more [] (e ∷ es) [] begun = tt
begun_more [] es (p ∷ ps) begun = absurd begun
begun_more (d ∷ ds) es [] begun = tt
begun_more (d ∷ ds) es (p ∷ ps) begun = (begun.0, begun_more ds es ps begun.1)

pub begun_take : (n : ℕ) (ds : List Decimal) (ps : List Rounded) → BeginWithPairs ds ps → BeginWithPairs (take n ds) (take n ps)
begun_take zero ds ps begun = tt
begun_take (suc n) [] [] begun = tt
begun_take (suc n) [] (p ∷ ps) begun = absurd begun
begun_take (suc n) (d ∷ ds) [] begun = tt
begun_take (suc n) (d ∷ ds) (p ∷ ps) begun = (begun.0, begun_take n ds ps begun.1)

-- those numbers, with these pairs
pub begun_are : (ds : List Decimal) (ps : List Rounded) → BeginWithPairs ds ps → ArePairs (take (length ps) ds) ps
begun_are [] [] begun = tt
begun_are [] (p ∷ ps) begun = absurd begun
begun_are (d ∷ ds) [] begun = tt
begun_are (d ∷ ds) (p ∷ ps) begun = (begun.0, begun_are ds ps begun.1)

-- no number lacks its pair
pub begun_all : (ds : List Decimal) (ps : List Rounded) → BeginWithPairs ds ps → length ds ≤ length ps → ArePairs ds ps
begun_all [] [] begun all = tt
begun_all [] (p ∷ ps) begun all = absurd begun
begun_all (d ∷ ds) [] begun all = absurd (omega (arith, all))
begun_all (d ∷ ds) (p ∷ ps) begun all = (begun.0, begun_all ds ps begun.1 (omega (arith, all)))

pub are_begun : (ds : List Decimal) (ps : List Rounded) → ArePairs ds ps → BeginWithPairs ds ps
are_begun [] [] are = tt
are_begun [] (p ∷ ps) are = absurd are
are_begun (d ∷ ds) [] are = absurd are
are_begun (d ∷ ds) (p ∷ ps) are = (are.0, are_begun ds ps are.1)

-- the lacking pairs, those of the rest of the numbers, after those that were there
pub begun_filled : {T E : Type 0} (result : Result T E) (ds : List Decimal) (ps new : List Rounded) (rest : List Decimal) → rest ≡ drop (length ps) ds
    → BeginWithPairs ds ps → IsOk result → OnOk result ((before : List Decimal) → ArePairs before ps → ArePairs (before ++ rest) new) → ArePairs ds new
begun_filled (Ok done) ds ps new rest is begun ok filled =
    subst (λ (l : List Decimal). ArePairs l new) (ap (λ (l : List Decimal). take (length ps) ds ++ l) is ∙ take-append-drop (length ps) ds)
    (filled (take (length ps) ds) (begun_are ds ps begun))
begun_filled (Err error) ds ps new rest is begun ok filled = absurd (false≢true ok)

-- ---- a small end in 64 bits
small_fits : (z : ℤ) → unsigned_abs z ≤ 2 ^ 60 → FitsSigned w64 z
small_fits z h = omega (arith, ints)

pub narrowed : (r z : ℤ) → FitsSigned w128 r → r ≡ z → unsigned_abs z ≤ 2 ^ 60 → to_z w64 (of_z w64 (to_z w128 (of_z w128 r))) ≡ z
narrowed r z f e h = ap (λ (y : ℤ). to_z w64 (of_z w64 y)) (to_z-of_z w128 r f ∙ e) ∙ to_z-of_z w64 z (small_fits z h)
