-- The granule that a time is divided into is the granule of the time.
use Rattle.std.proofs.Common.{◌≡◌, ◌⊎◌, ℕ, ◌+◌, ◌-◌, ◌*◌, ◌/◌, ◌%◌, ◌<◌, ◌≤◌, min, IsTrue, ℤ, pos, negsuc, ◌+ℤ◌, ◌-ℤ◌, ◌<ℤ◌, ◌≤ℤ◌, refl, ap, ◌∙◌, arith, inl, inr}
use Rattle.std.proofs.lemmas.Int.{ints}
use Rattle.std.proofs.lemmas.Nat.{mul-le, div_below, mod_below, div-add-mod'}
use Rattle.std.proofs.lemmas.Bool.{cases_lt}
use Rattle.std.proofs.Math.Nat.{div-mul-le_self, lt-div-mul-add, mul-div_cancel}
use Rattle.spec_ephemeris.specs.Series.{to_nat}
use Rattle.spec_ephemeris.specs.Header.{IsColumn, IsShared, has_column}
use Rattle.spec_ephemeris.specs.Ephemeris.{Ephemeris, IsEphemeris, IsGranule, IsGranuleAt, end_of}
use Rattle.spec_ephemeris.specs.Granules.{column_of, granule_length, granule_index, granule_of_index, granule_at}
use Rattle.spec_numbers.proofs.Naturals.{positive_product}
use Rattle.spec_ephemeris.proofs.ColumnRules.{is_column, some_granules}
use Rattle.spec_ephemeris.proofs.Granules.{granules_end, some_length as length_of_some}

shared_length : (block : ℤ) (granules : ℕ) → 0 < granules → IsShared block granules → block ≡ pos (to_nat block / granules * granules)
shared_length block granules some shared =
    let whole : block ≡ pos (shared.seconds * granules) = shared.whole in
    let quotient : shared.seconds * granules / granules ≡ shared.seconds = mul-div_cancel shared.seconds some in
    rw (whole, quotient) refl

-- the granules of a column share each block
pub shares : (e : Ephemeris) (number : ℕ) → IsEphemeris e → IsTrue (has_column e.header number)
    → e.header.block_seconds ≡ pos (granule_length e (column_of e number) * (column_of e number).granules)
shares e number checked there =
    let is : IsColumn e.header number (column_of e number) = is_column e number there in
    shared_length e.header.block_seconds (column_of e number).granules (some_granules (column_of e number) e.header number is) (checked.header.columns number (column_of e number) is).granules

-- a granule has some length
pub some_length : (e : Ephemeris) (number : ℕ) → IsEphemeris e → IsTrue (has_column e.header number) → 0 < granule_length e (column_of e number)
some_length e number checked there = length_of_some e (granule_length e (column_of e number)) (column_of e number).granules checked (shares e number checked there)

-- what is known of the index of a time
pub record IsIndex (n l count i : ℕ) : Type 0 where
  pub inside : i < count
  pub from : i * l ≤ n
  pub upto : (n < i * l + l) ⊎ ((n ≡ i * l + l) × (i + 1 ≡ count))

index_is : (n l count : ℕ) → 0 < l → 0 < count → n ≤ count * l → IsIndex n l count (min (n / l) (count - 1))
index_is n l count some one within = elim (cases_lt (n / l) count) [
  | inl below ↦ (let least : min (n / l) (count - 1) ≡ n / l = omega (arith, below) in
      rw least (record { inside = below; from = div-mul-le_self n l; upto = inl (lt-div-mul-add some) }))
  | inr past ↦ (let least : min (n / l) (count - 1) ≡ count - 1 = omega (arith, past) in
      let all : count * l ≤ n / l * l = mul-le count l (n / l) l past (omega arith) in
      let under : n / l * l ≤ n = div-mul-le_self n l in
      let last : count * l ≡ (count - 1) * l + l = before count l one in
      rw least (record { inside = omega (arith, one); from = omega (arith, all, under, last); upto = inr (omega (arith, all, under, last, within), omega (arith, one)) }))
]
  where
    before : (count l : ℕ) → 0 < count → count * l ≡ (count - 1) * l + l
    before count l one = let some : count ≡ (count - 1) + 1 = omega (arith, one) in ap (λ k. k * l) some ∙ one_more (count - 1) l
      where
        one_more : (n l : ℕ) → (n + 1) * l ≡ n * l + l
        one_more n l = omega arith

-- each index below the count of all granules is that of a granule
pub at_index : (e : Ephemeris) (number : ℕ) (index : ℕ) → IsEphemeris e → IsTrue (has_column e.header number)
    → index < e.blocks * (column_of e number).granules → IsGranule e number (granule_of_index e number (column_of e number) index)
at_index e number index checked there below =
    let is : IsColumn e.header number (column_of e number) = is_column e number there in
    let some : 0 < (column_of e number).granules = some_granules (column_of e number) e.header number is in
    record {
      column = column_of e number;
      is = is;
      block = index / (column_of e number).granules;
      of_ephemeris = div_below index (column_of e number).granules e.blocks some below;
      inner = index % (column_of e number).granules;
      of_block = mod_below index (column_of e number).granules some;
      shares = shares e number checked there;
      start = rw (div-add-mod' index (column_of e number).granules) refl;
      coefs = refl;
    }

pub from_start : (start t : ℤ) → start ≤ℤ t → t ≡ start +ℤ pos (to_nat (t -ℤ start))
from_start start t from = let same : t -ℤ start ≡ pos (to_nat (t -ℤ start)) = whole (t -ℤ start) (omega (arith, ints, from)) in omega (arith, ints, same)
  where
    whole : (z : ℤ) → pos 0 ≤ℤ z → z ≡ pos (to_nat z)
    whole (pos n) h = refl
    whole (negsuc n) h = absurd (omega (arith, ints, h))

-- the index of a time of the ephemeris
pub index_of_time : (e : Ephemeris) (number : ℕ) (t : ℤ) → IsEphemeris e → IsTrue (has_column e.header number) → 0 < e.blocks → e.start ≤ℤ t → t ≤ℤ end_of e
    → IsIndex (to_nat (t -ℤ e.start)) (granule_length e (column_of e number)) (e.blocks * (column_of e number).granules) (granule_index e (column_of e number) t)
index_of_time e number t checked there blocks from upto =
    let some : 0 < (column_of e number).granules = some_granules (column_of e number) e.header number (is_column e number there) in
    let last = granules_end e (granule_length e (column_of e number)) (column_of e number).granules (shares e number checked there) in
    let is = from_start e.start t from in
    index_is (to_nat (t -ℤ e.start)) (granule_length e (column_of e number)) (e.blocks * (column_of e number).granules) (some_length e number checked there) (positive_product e.blocks (column_of e number).granules blocks some) (omega (arith, ints, last, is, upto))

upto_end : (e : Ephemeris) (t : ℤ) (n i l count : ℕ) → end_of e ≡ e.start +ℤ pos (count * l) → t ≡ e.start +ℤ pos n
    → (n < i * l + l) ⊎ ((n ≡ i * l + l) × (i + 1 ≡ count))
    → (t <ℤ ((e.start +ℤ pos (i * l)) +ℤ pos l)) ⊎ ((t ≡ (e.start +ℤ pos (i * l)) +ℤ pos l) × (t ≡ end_of e))
upto_end e t n i l count last is (inl before) = inl (omega (arith, ints, is, before))
upto_end e t n i l count last is (inr at_end) =
    let all : count * l ≡ i * l + l = rw (← at_end.1) (more i l) in
    inr (omega (arith, ints, is, at_end.0), omega (arith, ints, is, at_end.0, all, last))
  where
    more : (i l : ℕ) → (i + 1) * l ≡ i * l + l
    more i l = omega arith

pub granule_of_time : (e : Ephemeris) (number : ℕ) (t : ℤ) → IsEphemeris e → IsTrue (has_column e.header number) → 0 < e.blocks → e.start ≤ℤ t → t ≤ℤ end_of e
    → IsGranuleAt e number t (granule_at e number t)
granule_of_time e number t checked there blocks from upto =
    let found = index_of_time e number t checked there blocks from upto in
    let is = from_start e.start t from in
    let under = found.from in
    record {
      granule = at_index e number (granule_index e (column_of e number) t) checked there found.inside;
      from = omega (arith, ints, is, under);
      upto = upto_end e t (to_nat (t -ℤ e.start)) (granule_index e (column_of e number) t) (granule_length e (column_of e number)) (e.blocks * (column_of e number).granules) (granules_end e (granule_length e (column_of e number)) (column_of e number).granules (shares e number checked there)) is found.upto;
    }
