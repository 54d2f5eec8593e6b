-- An ephemeris whose times are counted in ticks is checked, and its positions are the same.
use Rattle.std.proofs.Common.{◌≡◌, ℕ, zero, suc, ◌+◌, ◌*◌, ◌-◌, ◌^◌, ◌≤◌, List, [], ◌∷◌, length, ℤ, pos, neg_ℤ, ◌+ℤ◌, ◌-ℤ◌, ◌*ℤ◌, ◌≤ℤ◌, refl, sym, ap, ◌∙◌, arith}
use Rattle.std.proofs.lemmas.Int.{ints}
use Rattle.std.proofs.lemmas.Nat.{mul-le, mul-pow}
use Rattle.spec_numbers.specs.Numbers.{power}
use Rattle.spec_numbers.proofs.Order.{le-mul}
use Rattle.spec_numbers.proofs.Naturals.{power-pos}
use Rattle.spec_numbers.proofs.Ring.{v, k as lit, ◌⊕◌, ◌⊖◌, ◌⊗◌, minus, ring}
use Rattle.spec_text.specs.declared.decimals.Decimal.{Decimal}
use Rattle.spec_chebyshev.specs.Polynomials.{cleared_t}
use Rattle.spec_ephemeris.specs.declared.header.Column.{Column}
use Rattle.spec_ephemeris.specs.declared.header.Header.{Header}
use Rattle.spec_ephemeris.specs.Header.{IsHeader, IsColumn, MeetsColumnRules}
use Rattle.spec_ephemeris.specs.Series.{Series, argument_at, scaled, cleared_sum, position}
use Rattle.spec_ephemeris.specs.Ephemeris.{Ephemeris, IsEphemeris, end_of}
use Rattle.spec_ephemeris.specs.Ticks.{IsInSeconds, IsSame, IsTick, header_in_ticks, in_ticks, series_in_ticks}

-- ---- bounds
high : (z : ℤ) (m k : ℕ) → z ≤ℤ pos m → k ≤ 1000 → (z *ℤ pos k) ≤ℤ pos (m * 1000)
high z m k h few =
    let one : (z *ℤ pos k) ≤ℤ (pos m *ℤ pos k) = le-mul z (pos m) (pos k) (omega (arith, ints)) h in
    let two : m * k ≤ m * 1000 = mul-le m k m 1000 (omega arith) few in
    omega (arith, ints, one, two)

low : (z : ℤ) (m k : ℕ) → neg_ℤ (pos m) ≤ℤ z → k ≤ 1000 → neg_ℤ (pos (m * 1000)) ≤ℤ (z *ℤ pos k)
low z m k h few =
    let one : (neg_ℤ (pos m) *ℤ pos k) ≤ℤ (z *ℤ pos k) = le-mul (neg_ℤ (pos m)) z (pos k) (omega (arith, ints)) h in
    let e : neg_ℤ (pos m) *ℤ pos k ≡ neg_ℤ (pos m *ℤ pos k) = ring (pos m ∷ pos k ∷ []) (minus (v 0) ⊗ v 1) (minus (v 0 ⊗ v 1)) tt in
    let two : m * k ≤ m * 1000 = mul-le m k m 1000 (omega arith) few in
    omega (arith, ints, one, two, e)

some : (z : ℤ) (k : ℕ) → pos 1 ≤ℤ z → 1 ≤ k → pos 1 ≤ℤ (z *ℤ pos k)
some z k h more =
    let one : (pos 1 *ℤ pos k) ≤ℤ (z *ℤ pos k) = le-mul (pos 1) z (pos k) (omega (arith, ints)) h in
    omega (arith, ints, one, more)

-- ---- the rules
own_column : (k : ℕ) (h : Header) (number : ℕ) (c : Column) → IsColumn (header_in_ticks k h) number c → IsColumn h number c
own_column k h number c is = record { listed = is.listed; present = is.present }

column_rules : (k : ℕ) (h : Header) (number : ℕ) (c : Column) → MeetsColumnRules h number c → MeetsColumnRules (header_in_ticks k h) number c
column_rules k h number c meets = record {
  coefficients = meets.coefficients;
  start = meets.start;
  last = meets.last;
  granules = record {
    seconds = meets.granules.seconds * k;
    whole = ap (λ (z : ℤ). z *ℤ pos k) meets.granules.whole ∙ ap pos (exchanged meets.granules.seconds c.granules k);
  };
}
  where
    exchanged : (m n k : ℕ) → m * n * k ≡ m * k * n
    exchanged m n k = omega arith

header_is : (k : ℕ) (h : Header) → IsTick k → IsHeader h → h.block_seconds ≤ℤ pos 5529600 → IsHeader (header_in_ticks k h)
header_is k h tick is long = record {
  fewest = is.fewest;
  most = is.most;
  shortest = some h.block_seconds k is.shortest tick.some;
  longest = high h.block_seconds 5529600 k long tick.few;
  ratio = is.ratio;
  count = is.count;
  columns = λ number c column. column_rules k h number c (is.columns number c (own_column k h number c column));
  apart = λ i j c d before one other. is.apart i j c d before (own_column k h i c one) (own_column k h j d other);
}

pub are_checked : (k : ℕ) (e : Ephemeris) → IsTick k → IsEphemeris e → IsInSeconds e → IsEphemeris (in_ticks k e)
are_checked k e tick is seconds = record {
  header = header_is k e.header tick is.header seconds.longest;
  start = (low e.start 211813488000 k seconds.first tick.few, high e.start 220186512000 k seconds.last tick.few);
  few = is.few;
  whole = is.whole;
  bodies = λ block within number place c d column body takes there. is.bodies block within number place c d (own_column k e.header number c column) body takes there;
}

-- an ephemeris in ticks ends where it did
pub end_in_ticks : (k : ℕ) (e : Ephemeris) → end_of (in_ticks k e) ≡ end_of e *ℤ pos k
end_in_ticks k e =
    ring (e.start ∷ pos e.blocks ∷ e.header.block_seconds ∷ pos k ∷ []) (v 0 ⊗ v 3 ⊕ v 1 ⊗ (v 2 ⊗ v 3)) ((v 0 ⊕ v 1 ⊗ v 2) ⊗ v 3) tt

-- ---- positions
-- T_k has the degree k
t_scales : (u l m : ℤ) (k : ℕ) → cleared_t (u *ℤ m) (l *ℤ m) k ≡ cleared_t u l k *ℤ power m k
t_scales u l m zero = refl
t_scales u l m (suc zero) = ring (u ∷ m ∷ []) (v 0 ⊗ v 1) (v 0 ⊗ (v 1 ⊗ lit (pos 1))) tt
t_scales u l m (suc (suc k)) =
    (λ i. pos 2 *ℤ (u *ℤ m) *ℤ t_scales u l m (suc k) i -ℤ (l *ℤ m) *ℤ (l *ℤ m) *ℤ t_scales u l m k i)
    ∙ ring (u ∷ l ∷ m ∷ cleared_t u l (suc k) ∷ cleared_t u l k ∷ power m k ∷ [])
    (((lit (pos 2) ⊗ (v 0 ⊗ v 2)) ⊗ (v 3 ⊗ (v 2 ⊗ v 5))) ⊖ (((v 1 ⊗ v 2) ⊗ (v 1 ⊗ v 2)) ⊗ (v 4 ⊗ v 5)))
    ((((lit (pos 2) ⊗ v 0) ⊗ v 3) ⊖ ((v 1 ⊗ v 1) ⊗ v 4)) ⊗ (v 2 ⊗ (v 2 ⊗ v 5))) tt

power_scales : (l m : ℤ) (k : ℕ) → power (l *ℤ m) k ≡ power l k *ℤ power m k
power_scales l m zero = refl
power_scales l m (suc k) =
    ap (λ x. (l *ℤ m) *ℤ x) (power_scales l m k) ∙ ring (l ∷ m ∷ power l k ∷ power m k ∷ []) ((v 0 ⊗ v 1) ⊗ (v 2 ⊗ v 3)) ((v 0 ⊗ v 2) ⊗ (v 1 ⊗ v 3)) tt

power_add : (m : ℤ) (i j : ℕ) → power m i *ℤ power m j ≡ power m (i + j)
power_add m zero j = let e : j ≡ 0 + j = omega arith in ring (power m j ∷ []) (lit (pos 1) ⊗ v 0) (v 0) tt ∙ ap (power m) e
power_add m (suc i) j =
    let e : suc (i + j) ≡ suc i + j = omega arith in
    ring (m ∷ power m i ∷ power m j ∷ []) ((v 0 ⊗ v 1) ⊗ v 2) (v 0 ⊗ (v 1 ⊗ v 2)) tt ∙ (ap (λ x. m *ℤ x) (power_add m i j) ∙ ap (power m) e)

-- each term is multiplied by one power of m, that of the last index
sum_scales : (u l m : ℤ) (k : ℕ) (cs : List Decimal) → cleared_sum (cleared_t (u *ℤ m) (l *ℤ m)) (l *ℤ m) k cs ≡ cleared_sum (cleared_t u l) l k cs *ℤ power m (k + (length cs - 1))
sum_scales u l m k [] = ring (power m (k + (0 - 1)) ∷ []) (lit (pos 0)) (lit (pos 0) ⊗ v 0) tt
sum_scales u l m k (c ∷ cs) =
    (λ i. scaled c *ℤ (t_scales u l m k i *ℤ power_scales l m (length cs) i) +ℤ (sum_scales u l m (suc k) cs ∙ shifted cs) i)
    ∙ (ring (scaled c ∷ cleared_t u l k ∷ power m k ∷ power l (length cs) ∷ power m (length cs) ∷ cleared_sum (cleared_t u l) l (suc k) cs ∷ power m (k + length cs) ∷ [])
    ((v 0 ⊗ ((v 1 ⊗ v 2) ⊗ (v 3 ⊗ v 4))) ⊕ (v 5 ⊗ v 6)) ((v 0 ⊗ (v 1 ⊗ v 3)) ⊗ (v 2 ⊗ v 4) ⊕ v 5 ⊗ v 6) tt
    ∙ (ap (λ x. (scaled c *ℤ (cleared_t u l k *ℤ power l (length cs))) *ℤ x +ℤ cleared_sum (cleared_t u l) l (suc k) cs *ℤ power m (k + length cs)) (power_add m k (length cs))
    ∙ (ring ((scaled c *ℤ (cleared_t u l k *ℤ power l (length cs))) ∷ cleared_sum (cleared_t u l) l (suc k) cs ∷ power m (k + length cs) ∷ [])
    (v 0 ⊗ v 2 ⊕ v 1 ⊗ v 2) ((v 0 ⊕ v 1) ⊗ v 2) tt
    ∙ ap (λ n. cleared_sum (cleared_t u l) l k (c ∷ cs) *ℤ power m (k + n)) same)))
  where
    same : length cs ≡ length (c ∷ cs) - 1
    same = omega arith

    -- the rest has one coefficient less and begins one later; where there is none, its sum is 0
    shifted : (ds : List Decimal) → cleared_sum (cleared_t u l) l (suc k) ds *ℤ power m (suc k + (length ds - 1)) ≡ cleared_sum (cleared_t u l) l (suc k) ds *ℤ power m (k + length ds)
    shifted [] = ring (power m (suc k + (0 - 1)) ∷ power m (k + 0) ∷ []) (lit (pos 0) ⊗ v 0) (lit (pos 0) ⊗ v 1) tt
    shifted (d ∷ ds) = ap (λ n. cleared_sum (cleared_t u l) l (suc k) (d ∷ ds) *ℤ power m n) (index (length ds))
      where
        index : (n : ℕ) → suc k + (suc n - 1) ≡ k + suc n
        index n = omega arith

argument_scales : (s : Series) (k : ℕ) (t : ℤ) → argument_at (series_in_ticks k s) (t *ℤ pos k) ≡ argument_at s t *ℤ pos k
argument_scales s k t =
    ring (t ∷ s.start ∷ pos s.duration ∷ pos k ∷ []) (lit (pos 2) ⊗ (v 0 ⊗ v 3 ⊖ v 1 ⊗ v 3) ⊖ v 2 ⊗ v 3) ((lit (pos 2) ⊗ (v 0 ⊖ v 1) ⊖ v 2) ⊗ v 3) tt

pub same_position : (k : ℕ) (s : Series) (t : ℤ) → IsSame (position (series_in_ticks k s) (t *ℤ pos k)) (position s t)
same_position k s t =
    ap (λ x. x *ℤ pos (10 ^ 140 * s.duration ^ n)) numerator_is
    ∙ (ring (own ∷ power (pos k) n ∷ pos (10 ^ 140) ∷ pos (s.duration ^ n) ∷ []) ((v 0 ⊗ v 1) ⊗ (v 2 ⊗ v 3)) (v 0 ⊗ (v 2 ⊗ (v 3 ⊗ v 1))) tt
    ∙ (ap (λ x. own *ℤ (pos (10 ^ 140) *ℤ (pos (s.duration ^ n) *ℤ x))) (power-pos k n)
    ∙ ap (λ m. own *ℤ pos (10 ^ 140 * m)) (sym (mul-pow s.duration k n))))
  where
    n : ℕ
    n = length s.coefficients - 1

    own : ℤ
    own = cleared_sum (cleared_t (argument_at s t) (pos s.duration)) (pos s.duration) 0 s.coefficients

    numerator_is : (position (series_in_ticks k s) (t *ℤ pos k)).numerator ≡ own *ℤ power (pos k) n
    numerator_is =
        ap (λ u. cleared_sum (cleared_t u (pos s.duration *ℤ pos k)) (pos s.duration *ℤ pos k) 0 s.coefficients) (argument_scales s k t)
        ∙ (sum_scales (argument_at s t) (pos s.duration) (pos k) 0 s.coefficients
        ∙ ap (λ j. own *ℤ power (pos k) j) (from_nought n))
      where
        from_nought : (n : ℕ) → 0 + n ≡ n
        from_nought n = omega arith
