-- Sizes of decimals, capped at the greatest number of 128 bits.
use Rattle.std.proofs.Common.{◌≡◌, ◌≢◌, ℕ, zero, suc, ◌-◌, ◌*◌, ◌/◌, ◌%◌, ◌^◌, ◌<◌, ◌≤◌, min, refl, sym, ap, ◌∙◌, inl, inr, arith, None, Some, ne_eqb}
use Rattle.std.specs.Prelude.{pos, negsuc, ℤ, unsigned_abs}
use Rattle.std.proofs.lemmas.Bool.{cases_lt}
use Rattle.std.proofs.Math.Nat.{pow-le-pow_right, mul-le-mul_right, one-le-pow, div-one, mod-one, mod-eq_of_lt, div-eq_of_lt, div-le_self}
use borrow.Author.Differences.{up, down}
use Rattle.spec_text.specs.declared.decimals.Decimal.{Decimal}
use Rattle.spec_text.specs.Days.{quotient, seconds_of_days, size_over, size_under}
use Rattle.de_text.specs.Sizes.{capped}

pub ten_fits : (n : ℕ) → n ≤ 38 → 10 ^ n < 2 ^ 128
ten_fits n few = let bound : 10 ^ n ≤ 10 ^ 38 = pow-le-pow_right (omega arith) few in omega (arith, bound)

pub great_power : (e : ℕ) → 38 < e → 2 ^ 128 - 1 ≡ min (10 ^ e) (2 ^ 128 - 1)
great_power e lt = let bound : 10 ^ 39 ≤ 10 ^ e = pow-le-pow_right (omega arith) {i = 39} (omega (arith, lt)) in omega (arith, bound)

some_power : (e : ℕ) → 0 < 10 ^ e
some_power e = one-le-pow e 10 (omega arith)

pub power_is_some : (e k : ℕ) → k ≡ min (10 ^ e) (2 ^ 128 - 1) → 0 < k
power_is_some e k is = omega (arith, is, some_power e)

at_least : (p m : ℕ) → p ≤ suc m * p
at_least p m = let bound : 1 * p ≤ suc m * p = mul-le-mul_right p (omega arith) in omega (arith, bound)

-- a factor may be capped before a product is
capped_factor : (m p cap : ℕ) → min (m * min p cap) cap ≡ min (m * p) cap
capped_factor zero p cap = omega arith
capped_factor (suc m) p cap = elim (cases_lt p cap) [
  | inl less ↦ let same : min p cap ≡ p = omega (arith, less) in ap (λ (k : ℕ). min (suc m * k) cap) same
  | inr more ↦
      let same : min p cap ≡ cap = omega (arith, more) in
      let one : cap ≤ suc m * cap = at_least cap m in
      let other : p ≤ suc m * p = at_least p m in
      ap (λ (k : ℕ). min (suc m * k) cap) same ∙ omega (arith, one, other, more)
]

pub capped_size : (m e k n : ℕ) → k ≡ min (10 ^ e) (2 ^ 128 - 1) → n ≡ min (m * k) (2 ^ 128 - 1) → n ≡ min (m * 10 ^ e) (2 ^ 128 - 1)
capped_size m e k n power is = is ∙ ap (λ (x : ℕ). min (m * x) (2 ^ 128 - 1)) power ∙ capped_factor m (10 ^ e) (2 ^ 128 - 1)

quotient_whole : (n m : ℕ) → n % m ≡ 0 → quotient n m ≡ Some (n / m)
quotient_whole n m is = rw is refl

quotient_none : (n m : ℕ) → n % m ≢ 0 → quotient n m ≡ None
quotient_none n m is = rw (ne_eqb (n % m) 0 is) refl

-- n over u, which are a over m but capped, is whole where that is, and its cap
pub record Divides (a m n u : ℕ) : Type 0 where
  pub whole : n % u ≡ 0 → (s : ℕ) × (quotient a m ≡ Some s) × (n / u ≡ min s (2 ^ 128 - 1))
  pub part : n % u ≢ 0 → quotient a m ≡ None

by_one : (a n u m : ℕ) → m ≡ 1 → n ≡ min a (2 ^ 128 - 1) → u ≡ min m (2 ^ 128 - 1) → Divides a m n u
by_one a n u m one n_is u_is =
    let u_one : u ≡ 1 = omega (arith, one, u_is) in
    let whole : quotient a m ≡ Some a = rw one (quotient_whole a 1 (mod-one a) ∙ ap (λ (x : ℕ). Some x) (div-one a)) in
    record { whole = λ none. (a, whole, rw u_one (div-one n ∙ n_is)); part = λ some. absurd (some (rw u_one (mod-one n))) }

-- a power of ten that is capped divides no number below the cap but 0
by_power : (a n u m : ℕ) → a < 2 ^ 128 - 1 → 0 < m → n ≡ min a (2 ^ 128 - 1) → u ≡ min m (2 ^ 128 - 1) → Divides a m n u
by_power a n u m small some n_is u_is = elim (cases_lt m (2 ^ 128 - 1)) [
  | inl less ↦
      let n_same : n ≡ a = omega (arith, small, n_is) in
      let u_same : u ≡ m = omega (arith, less, u_is) in
      let within : a / m ≤ a = div-le_self a m in
      let capped : a / m ≡ min (a / m) (2 ^ 128 - 1) = omega (arith, within, small) in
      record {
        whole = λ none. (a / m, quotient_whole a m (rw (u_same, n_same) at none), rw (u_same, n_same) capped);
        part = λ rest. quotient_none a m (λ e. rest (rw (u_same, n_same) e));
      }
  | inr more ↦
      let n_same : n ≡ a = omega (arith, small, n_is) in
      let below : n < u = omega (arith, n_is, u_is, small, more) in
      let under : a < m = omega (arith, small, more) in
      record {
        whole = λ none. (
          a / m,
          quotient_whole a m (mod-eq_of_lt under ∙ sym n_same ∙ sym (mod-eq_of_lt below) ∙ none),
          div-eq_of_lt below ∙ sym (ap (λ (x : ℕ). min x (2 ^ 128 - 1)) (div-eq_of_lt under)),
        );
        part = λ rest. quotient_none a m (λ e. rest (mod-eq_of_lt below ∙ n_same ∙ sym (mod-eq_of_lt under) ∙ e));
      }
]

divides_by : (mant exp : ℤ) (n u : ℕ) → unsigned_abs mant ≤ 2 ^ 63 → n ≡ min (86400 * (unsigned_abs mant * 10 ^ up exp)) (2 ^ 128 - 1)
    → u ≡ min (10 ^ down exp) (2 ^ 128 - 1) → Divides (86400 * (unsigned_abs mant * 10 ^ up exp)) (10 ^ down exp) n u
divides_by mant (pos e) n u bound n_is u_is = by_one (86400 * (unsigned_abs mant * 10 ^ e)) n u 1 refl n_is u_is
divides_by mant (negsuc e) n u bound n_is u_is = by_power (86400 * (unsigned_abs mant * 1)) n u (10 ^ suc e) (omega (arith, bound)) (some_power (suc e)) n_is u_is

pub divides : (d : Decimal) (over n u : ℕ) → unsigned_abs d.mant ≤ 2 ^ 63 → over ≡ min (size_over d) (2 ^ 128 - 1)
    → n ≡ min (over * 86400) (2 ^ 128 - 1) → u ≡ min (size_under d) (2 ^ 128 - 1) → Divides (86400 * size_over d) (size_under d) n u
divides d over n u bound over_is n_is u_is = divides_by d.mant d.exp n u bound (n_is ∙ omega (arith, over_is)) u_is

pub whole_seconds : (d : Decimal) (n u : ℕ) → Divides (86400 * size_over d) (size_under d) n u → n % u ≡ 0 → Some (n / u) ≡ capped (seconds_of_days d)
whole_seconds d n u divides none = let found = divides.whole none in rw (found.1, ← found.2) refl

pub part_seconds : (d : Decimal) (n u : ℕ) → Divides (86400 * size_over d) (size_under d) n u → n % u ≢ 0 → None ≡ capped (seconds_of_days d)
part_seconds d n u divides some = rw (divides.part some) refl
