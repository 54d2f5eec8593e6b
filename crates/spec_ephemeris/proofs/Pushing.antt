-- One block more keeps an ephemeris checked.
use Rattle.std.proofs.Common.{◌≡◌, ℕ, ◌+◌, ◌*◌, ◌<◌, ◌≤◌, List, ◌++◌, length, take, drop, ap, subst, sym, ◌∙◌, arith, length-append, length-drop, drop_at, take_all, ◌⊎◌, inl, inr}
use Rattle.std.proofs.lemmas.List.{take-append-le, drop-append-le}
use Rattle.std.proofs.lemmas.Bool.{cases_lt}
use Rattle.spec_numbers.proofs.Naturals.{row_fits}
use Rattle.spec_text.specs.declared.decimals.Decimal.{Decimal}
use Rattle.spec_ephemeris.specs.declared.header.Header.{Header}
use Rattle.spec_ephemeris.specs.declared.limits.TheConstants.{MAX_BLOCKS}
use Rattle.spec_ephemeris.specs.Ephemeris.{Ephemeris, IsEphemeris, IsBlock, AreBodiesBounded, with_block}

-- the numbers of block k of n numbers a block
abbrev of_block : {X : Type 0} → ℕ → ℕ → List X → List X
of_block n k xs = take n (drop (k * n) xs)

earlier : {X : Type 0} (n k blocks : ℕ) (xs ys : List X) → length xs ≡ blocks * n → k < blocks → of_block n k (xs ++ ys) ≡ of_block n k xs
earlier n k blocks xs ys whole below =
    let fits : k * n + n ≤ blocks * n = row_fits k blocks n below in
    let starts : k * n ≤ length xs = omega (arith, fits, whole) in
    let rest : n ≤ length (drop (k * n) xs) = rw (length-drop (k * n) xs) (omega (arith, fits, whole)) in
    ap (take n) (drop-append-le (k * n) xs ys starts) ∙ take-append-le n (drop (k * n) xs) ys rest

added : {X : Type 0} (n blocks : ℕ) (xs ys : List X) → length xs ≡ blocks * n → length ys ≡ n → of_block n blocks (xs ++ ys) ≡ ys
added n blocks xs ys whole one = ap (take n) (drop_at xs ys (blocks * n) whole) ∙ take_all n ys (omega (arith, one))

bodies_pushed : (h : Header) (k blocks : ℕ) (xs ys : List Decimal) → length xs ≡ blocks * h.ncoeff → length ys ≡ h.ncoeff
    → ((k : ℕ) → k < blocks → AreBodiesBounded h (of_block h.ncoeff k xs)) → AreBodiesBounded h ys
    → (k < blocks) ⊎ (blocks ≤ k) → k < blocks + 1 → AreBodiesBounded h (of_block h.ncoeff k (xs ++ ys))
bodies_pushed h k blocks xs ys whole one old new (inl below) within = subst (AreBodiesBounded h) (sym (earlier h.ncoeff k blocks xs ys whole below)) (old k below)
bodies_pushed h k blocks xs ys whole one old new (inr above) within =
    let last : blocks ≡ k = omega (arith, above, within) in
    let P : ℕ → Type 0 = λ k. AreBodiesBounded h (of_block h.ncoeff k (xs ++ ys)) in
    subst P last (subst (AreBodiesBounded h) (sym (added h.ncoeff blocks xs ys whole one)) new)

pub pushed : (e : Ephemeris) (block : List Decimal) → IsEphemeris e → IsBlock e.header block → e.blocks < MAX_BLOCKS → IsEphemeris (with_block e block)
pushed e block checked fits room = record {
  header = checked.header;
  start = checked.start;
  few = omega (arith, room);
  whole = length-append e.numbers block ∙ omega (arith, checked.whole, fits.whole);
  bodies = λ k within. bodies_pushed e.header k e.blocks e.numbers block checked.whole fits.whole checked.bodies fits.bodies (cases_lt k e.blocks) within;
}
