-- A sum with one product more covers the sum with one coefficient more.
use Rattle.std.proofs.Common.{◌≡◌, ◌∙◌, ℕ, zero, suc, ◌+◌, ◌*◌, ◌<◌, ◌≤◌, ◌⊎◌, inl, inr, arith, refl, sym, ap, List, [], ◌∷◌, length, drop, map, ◌-◌, replicate, slice_index_or, subst, ℤ, pos, ◌+ℤ◌, ◌*ℤ◌, ◌≤ℤ◌, unsigned_abs}
use Rattle.std.proofs.lemmas.Int.{ints}
use Rattle.std.proofs.lemmas.Bool.{cases_lt}
use Rattle.std.proofs.lemmas.List.Elements.{All-get_or}
use Rattle.std.proofs.lemmas.List.FromFn.{length-map-range_with_len, get_or-map-range_with_len}
use Rattle.std.specs.List.{range_with_len}
use Rattle.spec_ephemeris.specs.declared.granule.Rounded.{Rounded}
use Rattle.spec_motions.specs.Pairs.{ArePairs, IsPair, term_of}
use Rattle.spec_intervals.specs.Interval.{distance_exponent}
use Rattle.spec_chebyshev.specs.declared.ends.Ival62.{Ival62}
use Rattle.spec_chebyshev.specs.Differences.{IsArgument}
use Rattle.spec_motions.specs.Enclosures.{sum_exponent}
use Rattle.spec_models.specs.Models.{Covers, Model, added, coefficient, constant, convolved, model, product_model, sizes, sum_model}
use Rattle.spec_models.proofs.Coefficients.{coefficient-added, coefficient-by_constant, coefficient-past, zeros-same}
use Rattle.spec_models.proofs.Made.{near-product, near-sum}
use Rattle.spec_covers.specs.Combining.{AddsTo, MultipliesTo}
use Rattle.spec_covers.specs.Series.{of_entry, sums}
use Rattle.spec_covers.proofs.Sums.{Covers-sums}
use Rattle.spec_covers.proofs.Units.{Covers-constant, Covers-zero}
use Rattle.event_models.specs.declared.rows.RowModel.{RowModel}
use Rattle.event_models.specs.declared.sums.Wide.{Wide}
use Rattle.event_models.specs.Rows.{AreSumRows, IsSumRow, no_row, of_row, terms, unit}
use Rattle.event_models.specs.Sums.{AreNarrow, IsSumFrom, added_error, error_of_sum, half, no_pair, number_of_sum, of_sum, pair_before, row_before}
use Rattle.event_models.proofs.Like.{covers_like}

-- ---- no coefficient
none_covers : (p q : ℤ) → IsArgument p q → (n : ℕ) (row : ℕ → Ival62) (k : ℕ) → Covers (model (replicate terms (pos 0)) 0 (sum_exponent unit)) p q (sums n row k [])
none_covers p q is n row k =
    covers_like p q is (constant (pos 0) 0 (sum_exponent unit)) (replicate terms (pos 0)) 0 (sum_exponent unit) (zeros-same terms) (omega arith) refl _
    (Covers-zero p q is (sum_exponent unit) (sum_exponent n) 0)

-- ---- one more
abbrev added_number : ℤ → List ℤ → List ℤ → ℕ → ℤ
added_number z xs ys k = coefficient ys k +ℤ z *ℤ coefficient xs k

record IsAdded (z : ℤ) (r : RowModel) (w made : Wide) : Type 0 where
  pub count : length made.coefficients ≡ terms
  pub numbers : (k : ℕ) → k < terms → slice_index_or made.coefficients k (pos 0) ≡ added_number z r.coefficients w.coefficients k
  pub error : made.error ≡ added_error z r w.error

module _ (c : Ival62) (r : RowModel) (w made : Wide) (row : IsSumRow r) (count : length w.coefficients ≡ terms) (is : IsAdded c.lo r w made)
    (ordered : c.lo ≤ℤ c.hi) (narrow : c.hi ≤ℤ (c.lo +ℤ pos 1)) where
  abbrev first : Model
  first = constant c.lo 1 distance_exponent

  abbrev times_row : Model
  times_row = product_model first (of_row unit r)

  abbrev total : Model
  total = sum_model times_row (of_sum w)

  same_unit : times_row.exponent ≡ sum_exponent unit
  same_unit = omega (arith, ints)

  multiplies : MultipliesTo first (of_row unit r) times_row
  multiplies p q x t argument near_x near_t = near-product p q argument first (of_row unit r) x t near_x near_t

  adds : AddsTo times_row (of_sum w) total
  adds p q x t argument near_x near_t = near-sum p q argument times_row (of_sum w) x t same_unit near_x near_t

  number : (k : ℕ) → coefficient total.coefficients k ≡ added_number c.lo r.coefficients w.coefficients k
  number k =
      coefficient-added (convolved (c.lo ∷ []) r.coefficients) w.coefficients k ∙ ap (λ z. z +ℤ coefficient w.coefficients k) (coefficient-by_constant c.lo r.coefficients k) ∙ turned (c.lo *ℤ coefficient r.coefficients k) (coefficient w.coefficients k)
    where
      turned : (x y : ℤ) → x +ℤ y ≡ y +ℤ x
      turned x y = omega (arith, ints)

  beyond : (k : ℕ) → terms ≤ k → added_number c.lo r.coefficients w.coefficients k ≡ pos 0
  beyond k h =
      let a = row.count in
      (λ i. coefficient-past w.coefficients k (omega (arith, count, h)) i +ℤ c.lo *ℤ coefficient-past r.coefficients k (omega (arith, a, h)) i) ∙ nothing c.lo
    where
      nothing : (x : ℤ) → pos 0 +ℤ x *ℤ pos 0 ≡ pos 0
      nothing x = omega (arith, ints)

  same : (k : ℕ) → coefficient total.coefficients k ≡ coefficient made.coefficients k
  same k = number k ∙ by (cases_lt k terms)
    where
      by : (k < terms) ⊎ (terms ≤ k) → added_number c.lo r.coefficients w.coefficients k ≡ coefficient made.coefficients k
      by (inl h) = sym (is.numbers k h)
      by (inr h) = let all = is.count in beyond k h ∙ sym (coefficient-past made.coefficients k (omega (arith, all, h)))

  more : total.error ≤ made.error
  more =
      let size = row.size in
      let error = is.error in
      by (unsigned_abs c.lo) r.error (sizes r.coefficients) w.error made.error (error ∙ (λ i. w.error + unsigned_abs c.lo * r.error + size i + r.error))
    where
      by : (a e s o m : ℕ) → m ≡ o + a * e + s + e → (a + 0) * e + s * 1 + 1 * e + o ≤ m
      by a e s o m is = let f : (a + 0) * e ≡ a * e = (let g : a + 0 ≡ a = omega arith in λ i. g i * e) in omega (arith, f, is)

  one_covers : (n : ℕ) (p q : ℤ) → IsArgument p q → (row : ℕ → Ival62) (j : ℕ) (cs : List Ival62) → Covers (of_row unit r) p q (of_entry n (row j))
      → Covers (of_sum w) p q (sums n row (suc j) cs) → Covers (of_sum made) p q (sums n row j (c ∷ cs))
  one_covers n p q argument entries j cs own rest =
      covers_like p q argument total made.coefficients made.error (sum_exponent unit) same more same_unit _
      (Covers-sums p q argument n entries j c cs first (of_row unit r) times_row (of_sum w) total multiplies adds
      (Covers-constant p q argument c.lo c.lo c.hi distance_exponent 1 (record { low = omega (arith, ints); high = omega (arith, ints) }) (record { low = omega (arith, ints, ordered); high = omega (arith, ints, narrow) }))
      own rest)

-- ---- the sum from a place on, with the coefficient before
drop_at : (xs : List Rounded) (k : ℕ) (d : Rounded) → k < length xs → drop k xs ≡ slice_index_or xs k d ∷ drop (suc k) xs
drop_at [] k d h = absurd (omega (arith, h))
drop_at (x ∷ xs) zero d h = refl
drop_at (x ∷ xs) (suc k) d h = drop_at xs k d (omega (arith, h))

sum_before : (pairs : List Rounded) (rows : List RowModel) (k : ℕ) (w made : Wide) (d : Rounded) → ArePairs pairs → AreSumRows (length pairs) rows → k < length pairs
    → length w.coefficients ≡ terms → (slice_index_or pairs k d).hi ≤ℤ ((slice_index_or pairs k d).lo +ℤ pos 1)
    → IsAdded (slice_index_or pairs k d).lo (slice_index_or rows k no_row) w made → IsSumFrom pairs rows (suc k) w → IsSumFrom pairs rows k made
sum_before pairs rows k w made d are small below count narrow added rest = λ n p q row argument entries.
    let pair = All-get_or IsPair pairs k d below are.pairs in
    subst (λ (cs : List Rounded). Covers (of_sum made) p q (sums n row k (map term_of cs))) (sym (drop_at pairs k d below))
    (one_covers (term_of (slice_index_or pairs k d)) (slice_index_or rows k no_row) w made (small k below) count added pair.ordered narrow n p q argument row k (map term_of (drop (suc k) pairs)) (entries k below) (rest n p q row argument entries))

sum_next : (pairs : List Rounded) (rows : List RowModel) (k n : ℕ) (w made : Wide) (d : Rounded) → k ≡ n → ArePairs pairs → AreSumRows (length pairs) rows → k < length pairs
    → length w.coefficients ≡ terms → (slice_index_or pairs k d).hi ≤ℤ ((slice_index_or pairs k d).lo +ℤ pos 1)
    → IsAdded (slice_index_or pairs k d).lo (slice_index_or rows k no_row) w made → IsSumFrom pairs rows (suc k) w → IsSumFrom pairs rows n made
sum_next pairs rows k n w made d same are small below count narrow added rest =
    subst (λ (m : ℕ). IsSumFrom pairs rows m made) same (sum_before pairs rows k w made d are small below count narrow added rest)

-- ---- the sum of the last coefficients, of which there may be none
drop_all : (xs : List Rounded) (n : ℕ) → length xs ≤ n → drop n xs ≡ []
drop_all [] zero h = refl
drop_all [] (suc n) h = refl
drop_all (x ∷ xs) zero h = absurd (omega (arith, h))
drop_all (x ∷ xs) (suc n) h = drop_all xs n (omega (arith, h))

pub record IsSumOfLast (pairs : List Rounded) (rows : List RowModel) (n : ℕ) (w : Wide) : Type 0 where
  pub count : length w.coefficients ≡ terms
  pub numbers : (k : ℕ) → k < terms → slice_index_or w.coefficients k (pos 0) ≡ number_of_sum pairs rows k n
  pub error : w.error ≡ error_of_sum pairs rows n

module _ (pairs : List Rounded) (rows : List RowModel) where
  abbrev sum_of_last : ℕ → Wide
  sum_of_last n = record { coefficients = map (λ k. number_of_sum pairs rows k n) (range_with_len 0 terms); error = error_of_sum pairs rows n }

  is_of_last : (n : ℕ) → IsSumOfLast pairs rows n (sum_of_last n)
  is_of_last n = record {
    count = length-map-range_with_len (λ k. number_of_sum pairs rows k n) 0 terms;
    numbers = λ k below. get_or-map-range_with_len (λ k. number_of_sum pairs rows k n) 0 terms k k (pos 0) below (omega arith);
    error = refl;
  }

  adds_last : (n : ℕ) → IsAdded (pair_before pairs n).lo (row_before pairs rows n) (sum_of_last n) (sum_of_last (suc n))
  unfolding number_of_sum error_of_sum
  adds_last n = record {
    count = (is_of_last (suc n)).count;
    numbers = λ k below. (is_of_last (suc n)).numbers k below
        ∙ λ i. sym ((is_of_last n).numbers k below) i +ℤ (pair_before pairs n).lo *ℤ coefficient (row_before pairs rows n).coefficients k;
    error = refl;
  }

  module _ (are : ArePairs pairs) (small : AreSumRows (length pairs) rows) where
    last_covers : (n : ℕ) → n ≤ length pairs → AreNarrow pairs n → IsSumFrom pairs rows (length pairs - n) (sum_of_last n)
    unfolding number_of_sum error_of_sum
    last_covers zero few narrow = λ n p q row is entries.
        subst (λ (cs : List Rounded). Covers (of_sum (sum_of_last 0)) p q (sums n row (length pairs - 0) (map term_of cs))) (sym (drop_all pairs (length pairs - 0) (omega arith)))
        (none_covers p q is n row (length pairs - 0))
    last_covers (suc n) few narrow =
        let next : length pairs - n ≡ suc (length pairs - 1 - n) = omega (arith, few) in
        sum_next pairs rows (length pairs - 1 - n) (length pairs - suc n) (sum_of_last n) (sum_of_last (suc n)) no_pair (omega arith) are small (omega (arith, few)) (is_of_last n).count
        (narrow n (omega arith)) (adds_last n)
        (subst (λ (m : ℕ). IsSumFrom pairs rows m (sum_of_last n)) next (last_covers n (omega (arith, few)) (λ k h. narrow k (omega (arith, h)))))

    pub sum_covers : (n : ℕ) (w : Wide) → n ≤ length pairs → AreNarrow pairs n → IsSumOfLast pairs rows n w → IsSumFrom pairs rows (length pairs - n) w
    sum_covers n w few narrow is = λ unit_of_rows p q row argument entries.
        covers_like p q argument (of_sum (sum_of_last n)) w.coefficients w.error (sum_exponent unit) same (let e = is.error in omega (arith, e)) refl _ (last_covers n few narrow unit_of_rows p q row argument entries)
      where
        same : (k : ℕ) → coefficient (sum_of_last n).coefficients k ≡ coefficient w.coefficients k
        same k = by (cases_lt k terms)
          where
            by : (k < terms) ⊎ (terms ≤ k) → coefficient (sum_of_last n).coefficients k ≡ coefficient w.coefficients k
            by (inl h) = (is_of_last n).numbers k h ∙ sym (is.numbers k h)
            by (inr h) =
                let a = (is_of_last n).count in
                let b = is.count in
                coefficient-past (sum_of_last n).coefficients k (omega (arith, a, h)) ∙ sym (coefficient-past w.coefficients k (omega (arith, b, h)))

-- ---- of one coefficient more, by the definitions
pub number_more : (pairs : List Rounded) (rows : List RowModel) (k n : ℕ)
    → number_of_sum pairs rows k (n + 1) ≡ number_of_sum pairs rows k n +ℤ (pair_before pairs n).lo *ℤ coefficient (row_before pairs rows n).coefficients k
unfolding number_of_sum
number_more pairs rows k n = let e : n + 1 ≡ suc n = omega arith in ap (λ (m : ℕ). number_of_sum pairs rows k m) e

pub error_more : (pairs : List Rounded) (rows : List RowModel) (n : ℕ)
    → error_of_sum pairs rows (n + 1) ≡ added_error (pair_before pairs n).lo (row_before pairs rows n) (error_of_sum pairs rows n)
unfolding error_of_sum
error_more pairs rows n = let e : n + 1 ≡ suc n = omega arith in ap (λ (m : ℕ). error_of_sum pairs rows m) e

pub narrow_more : (pairs : List Rounded) (n : ℕ) → AreNarrow pairs n → (pair_before pairs n).hi ≤ℤ ((pair_before pairs n).lo +ℤ pos 1) → AreNarrow pairs (n + 1)
narrow_more pairs n narrow is k below = by (cases_lt k n)
  where
    by : (k < n) ⊎ (n ≤ k) → (pair_before pairs k).hi ≤ℤ ((pair_before pairs k).lo +ℤ pos 1)
    by (inl h) = narrow k h
    by (inr h) =
        let same : n ≡ k = omega (arith, h, below) in
        subst (λ (j : ℕ). (pair_before pairs j).hi ≤ℤ ((pair_before pairs j).lo +ℤ pos 1)) same is

-- ---- what holds for the numbers of both halves holds for all
module _ (P : ℕ → ℤ → Type 0) (xs low high : List ℤ) (lower : (k : ℕ) → k < half → slice_index_or xs k (pos 0) ≡ slice_index_or low k (pos 0))
    (upper : (k : ℕ) → k < half → slice_index_or xs (half + k) (pos 0) ≡ slice_index_or high k (pos 0)) where
  pub of_halves : ((k : ℕ) → k < half → P k (slice_index_or low k (pos 0))) → ((k : ℕ) → k < half → P (half + k) (slice_index_or high k (pos 0)))
      → (k : ℕ) → k < terms → P k (slice_index_or xs k (pos 0))
  of_halves first second k below = by (cases_lt k half)
    where
      by : (k < half) ⊎ (half ≤ k) → P k (slice_index_or xs k (pos 0))
      by (inl h) = subst (P k) (sym (lower k h)) (first k h)
      by (inr h) =
          let place : half + (k - half) ≡ k = omega (arith, h) in
          let inside : k - half < half = omega (arith, below, h) in
          subst (λ (j : ℕ). P j (slice_index_or xs j (pos 0))) place (subst (P (half + (k - half))) (sym (upper (k - half) inside)) (second (k - half) inside))
