-- Whole blocks, and after them the numbers of one that was begun.
use Rattle.std.proofs.Common.{◌≡◌, ℕ, ◌+◌, ◌*◌, ◌<◌, ◌≤◌, List, [], ◌++◌, length, take, drop, sym, ◌∙◌, subst, arith, ℤ}
use Rattle.std.proofs.lemmas.List.{length-take, length-drop, take-append-le, take-append-drop, take-take, take_all, drop-take, drop_all}
use Rattle.spec_text.specs.declared.decimals.Decimal.{Decimal}
use Rattle.spec_ephemeris.specs.declared.header.Header.{Header}
use Rattle.spec_ephemeris.specs.declared.limits.TheConstants.{MAX_BLOCKS}
use Rattle.spec_ephemeris.specs.Ephemeris.{Ephemeris, IsBlock, IsEphemeris}
use Rattle.spec_ephemeris.proofs.Pushing.{pushed}
use Rattle.eph_model.specs.Stores.{Store, closed, cut_to}

-- the whole blocks of a list of numbers
abbrev pub accepted_of : Header → ℤ → ℕ → List Decimal → Ephemeris
accepted_of h start blocks all = record { header = h; start = start; blocks = blocks; numbers = take (blocks * h.ncoeff) all }

-- the whole blocks, and the numbers after them
abbrev pub store_of : Header → ℤ → ℕ → List Decimal → Store
store_of h start blocks all = record { accepted = accepted_of h start blocks all; numbers = drop (blocks * h.ncoeff) all }

-- the whole blocks are within the numbers
pub within : {X : Type 0} (n : ℕ) (xs : List X) → length (take n xs) ≡ n → n ≤ length xs
within n xs is = let taken = length-take n xs in omega (arith, is, taken)

module _ (h : Header) (start : ℤ) (blocks : ℕ) (all : List Decimal) (checked : IsEphemeris (accepted_of h start blocks all)) where
  abbrev n : ℕ
  n = blocks * h.ncoeff

  enough : n ≤ length all
  enough = within n all checked.whole

  pub still_checked : (more : List Decimal) → IsEphemeris (accepted_of h start blocks (all ++ more))
  still_checked more =
      subst (λ (l : List Decimal). IsEphemeris (record { header = h; start = start; blocks = blocks; numbers = l })) (sym (take-append-le n all more enough)) checked

  -- the first numbers alone
  kept_whole : (count : ℕ) → take n (take (n + count) all) ≡ take n all
  kept_whole count = take-take n (n + count) all (omega arith)

  pub cut_checked : (count : ℕ) → IsEphemeris (accepted_of h start blocks (take (n + count) all))
  cut_checked count =
      subst (λ (l : List Decimal). IsEphemeris (record { header = h; start = start; blocks = blocks; numbers = l })) (sym (kept_whole count)) checked

  pub numbers_cut : (count : ℕ) → store_of h start blocks (take (n + count) all) ≡ cut_to count (store_of h start blocks all)
  numbers_cut count =
      let kept = kept_whole count in
      let rest : drop n (take (n + count) all) ≡ take count (drop n all) = drop-take n count all in
      λ i. record { accepted = record { header = h; start = start; blocks = blocks; numbers = kept i }; numbers = rest i }

  -- the block that was begun is whole
  module _ (fits : IsBlock h (drop n all)) where
    abbrev later : ℕ
    later = (blocks + 1) * h.ncoeff

    counted : length all ≡ later
    counted = let rest = length-drop n all in let whole = fits.whole in omega (arith, enough, rest, whole)

    all_taken : take later all ≡ take n all ++ drop n all
    all_taken = take_all later all (omega (arith, counted)) ∙ sym (take-append-drop n all)

    none_left : drop later all ≡ []
    none_left = drop_all later all (omega (arith, counted))

    pub block_closed : store_of h start (blocks + 1) all ≡ closed (store_of h start blocks all)
    block_closed = λ i. record { accepted = record { header = h; start = start; blocks = blocks + 1; numbers = all_taken i }; numbers = none_left i }

    pub closed_checked : blocks < MAX_BLOCKS → IsEphemeris (accepted_of h start (blocks + 1) all)
    closed_checked room =
        subst (λ (l : List Decimal). IsEphemeris (record { header = h; start = start; blocks = blocks + 1; numbers = l })) (sym all_taken)
        (pushed (accepted_of h start blocks all) (drop n all) checked fits room)
