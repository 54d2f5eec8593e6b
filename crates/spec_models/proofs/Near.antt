-- When what is rounded is near: compared over the whole numbers, at one exponent and over one divisor.
use Rattle.std.proofs.Common.{◌≡◌, ℕ, ◌+◌, ◌*◌, ◌^◌, ◌<◌, arith, sym, ap, ◌∙◌, [], ◌∷◌, ℤ, pos, ◌+ℤ◌, ◌-ℤ◌, ◌*ℤ◌, ◌≤ℤ◌}
use Rattle.std.proofs.lemmas.Nat.{pow-add, pow_pos}
use Rattle.std.proofs.Math.Nat.{mul-pos}
use borrow.Author.Differences.{up, down}
use Rattle.spec_numbers.proofs.Ring.{v, ◌⊕◌, ◌⊖◌, ◌⊗◌, ring}
use Rattle.spec_numbers.proofs.Order.{lin, le-mul, le-mul_cancel}
use Rattle.spec_intervals.specs.Fraction.{Fraction}
use Rattle.spec_models.specs.Ends.{in_units, Under, Over}

-- r is a / b * 2^e
abbrev pub IsRatio : Fraction → ℤ → ℤ → ℕ → Type 0
IsRatio r a e b = r.numerator *ℤ pos (2 ^ down e * b) ≡ a *ℤ pos (2 ^ up e * r.denominator)

-- loss / b * 2^e is at most d
abbrev pub IsAllowed : Fraction → ℤ → ℤ → ℕ → Type 0
IsAllowed d loss e b = (loss *ℤ pos (2 ^ up e * d.denominator)) ≤ℤ (d.numerator *ℤ pos (2 ^ down e * b))

-- powers of an exponent that is g higher
pub raised_powers : (e s : ℤ) (g : ℕ) → s ≡ e +ℤ pos g → 2 ^ up s * 2 ^ down e ≡ 2 ^ up e * 2 ^ g * 2 ^ down s
raised_powers e s g h =
    let sums : up s + down e ≡ (up e + g) + down s = omega (arith, lin) in
    sym (pow-add 2 (up s) (down e)) ∙ (ap (λ n. 2 ^ n) sums ∙
    (pow-add 2 (up e + g) (down s) ∙ ap (λ n. n * 2 ^ down s) (pow-add 2 (up e) g)))

-- ---- n / q against z: both are brought over the divisor b and to the exponent e
module _ (n a z m loss : ℤ) (q p b up_e down_e up_s down_s g : ℕ)
    (positive : 0 < down_e * b)
    (powers : up_s * down_e ≡ up_e * g * down_s)
    (ratio : n *ℤ pos (down_e * b) ≡ a *ℤ pos (up_e * q)) where
  -- both sides of a comparison with z, over the divisor
  scaled_end : (w : ℕ) → z *ℤ pos up_s *ℤ pos w *ℤ pos (down_e * b) ≡ z *ℤ pos (g * b) *ℤ pos (up_e * w * down_s)
  scaled_end w =
      ring (z ∷ pos up_s ∷ pos w ∷ pos down_e ∷ pos b ∷ []) (v 0 ⊗ v 1 ⊗ v 2 ⊗ (v 3 ⊗ v 4)) (v 0 ⊗ v 2 ⊗ v 4 ⊗ (v 1 ⊗ v 3)) tt ∙
      (ap (λ k. z *ℤ pos w *ℤ pos b *ℤ pos k) powers ∙
      ring (z ∷ pos w ∷ pos b ∷ pos up_e ∷ pos g ∷ pos down_s ∷ []) (v 0 ⊗ v 1 ⊗ v 2 ⊗ (v 3 ⊗ v 4 ⊗ v 5))
      (v 0 ⊗ (v 4 ⊗ v 2) ⊗ (v 3 ⊗ v 1 ⊗ v 5)) tt)

  scaled_number : (w : ℕ) → n *ℤ pos w *ℤ pos (down_e * b) ≡ a *ℤ pos (up_e * q * w)
  scaled_number w =
      ring (n ∷ pos w ∷ pos (down_e * b) ∷ []) (v 0 ⊗ v 1 ⊗ v 2) (v 0 ⊗ v 2 ⊗ v 1) tt ∙
      (ap (λ k. k *ℤ pos w) ratio ∙
      ring (a ∷ pos up_e ∷ pos q ∷ pos w ∷ []) (v 0 ⊗ (v 1 ⊗ v 2) ⊗ v 3) (v 0 ⊗ (v 1 ⊗ v 2 ⊗ v 3)) tt)

  end_below : (z *ℤ pos (g * b)) ≤ℤ a → (z *ℤ pos up_s *ℤ pos q) ≤ℤ (n *ℤ pos down_s)
  end_below h =
      let l = le-mul (z *ℤ pos (g * b)) a (pos (up_e * q * down_s)) (omega (arith, lin)) h in
      let e = scaled_end q in
      let f = scaled_number down_s in
      le-mul_cancel (z *ℤ pos up_s *ℤ pos q) (n *ℤ pos down_s) (down_e * b) positive (omega (arith, lin))

  end_above : a ≤ℤ (z *ℤ pos (g * b)) → (n *ℤ pos down_s) ≤ℤ (z *ℤ pos up_s *ℤ pos q)
  end_above h =
      let l = le-mul a (z *ℤ pos (g * b)) (pos (up_e * q * down_s)) (omega (arith, lin)) h in
      let e = scaled_end q in
      let f = scaled_number down_s in
      le-mul_cancel (n *ℤ pos down_s) (z *ℤ pos up_s *ℤ pos q) (down_e * b) positive (omega (arith, lin))

  -- what may be lost, over the same divisor
  lost : (loss *ℤ pos (up_e * p)) ≤ℤ (m *ℤ pos (down_e * b))
      → (loss *ℤ pos (up_e * (q * p) * down_s)) ≤ℤ (m *ℤ pos q *ℤ pos down_s *ℤ pos (down_e * b))
  lost h =
      let l = le-mul (loss *ℤ pos (up_e * p)) (m *ℤ pos (down_e * b)) (pos (q * down_s)) (omega (arith, lin)) h in
      let e = ring (loss ∷ pos up_e ∷ pos p ∷ pos q ∷ pos down_s ∷ []) (v 0 ⊗ (v 1 ⊗ v 2) ⊗ (v 3 ⊗ v 4))
      (v 0 ⊗ (v 1 ⊗ (v 3 ⊗ v 2) ⊗ v 4)) tt in
      let f = ring (m ∷ pos (down_e * b) ∷ pos q ∷ pos down_s ∷ []) (v 0 ⊗ v 1 ⊗ (v 2 ⊗ v 3)) (v 0 ⊗ v 2 ⊗ v 3 ⊗ v 1) tt in
      omega (arith, lin)

  number_beside : n *ℤ pos p *ℤ pos down_s *ℤ pos (down_e * b) ≡ a *ℤ pos (up_e * (q * p) * down_s)
  number_beside =
      ring (n ∷ pos p ∷ pos down_s ∷ pos (down_e * b) ∷ []) (v 0 ⊗ v 1 ⊗ v 2 ⊗ v 3) (v 0 ⊗ (v 1 ⊗ v 2) ⊗ v 3) tt ∙
      (scaled_number (p * down_s) ∙
      ring (a ∷ pos up_e ∷ pos q ∷ pos p ∷ pos down_s ∷ []) (v 0 ⊗ (v 1 ⊗ v 2 ⊗ (v 3 ⊗ v 4)))
      (v 0 ⊗ (v 1 ⊗ (v 2 ⊗ v 3) ⊗ v 4)) tt)

  lessened : (n *ℤ pos p -ℤ m *ℤ pos q) *ℤ pos down_s *ℤ pos (down_e * b)
      ≡ n *ℤ pos p *ℤ pos down_s *ℤ pos (down_e * b) -ℤ m *ℤ pos q *ℤ pos down_s *ℤ pos (down_e * b)
  lessened =
      ring (n ∷ pos p ∷ m ∷ pos q ∷ pos down_s ∷ pos (down_e * b) ∷ []) ((v 0 ⊗ v 1 ⊖ v 2 ⊗ v 3) ⊗ v 4 ⊗ v 5)
      (v 0 ⊗ v 1 ⊗ v 4 ⊗ v 5 ⊖ v 2 ⊗ v 3 ⊗ v 4 ⊗ v 5) tt

  increased : (n *ℤ pos p +ℤ m *ℤ pos q) *ℤ pos down_s *ℤ pos (down_e * b)
      ≡ n *ℤ pos p *ℤ pos down_s *ℤ pos (down_e * b) +ℤ m *ℤ pos q *ℤ pos down_s *ℤ pos (down_e * b)
  increased =
      ring (n ∷ pos p ∷ m ∷ pos q ∷ pos down_s ∷ pos (down_e * b) ∷ []) ((v 0 ⊗ v 1 ⊕ v 2 ⊗ v 3) ⊗ v 4 ⊗ v 5)
      (v 0 ⊗ v 1 ⊗ v 4 ⊗ v 5 ⊕ v 2 ⊗ v 3 ⊗ v 4 ⊗ v 5) tt

  spread : (x : ℤ) (k : ℕ) → (x +ℤ loss) *ℤ pos k ≡ x *ℤ pos k +ℤ loss *ℤ pos k
  spread x k = ring (x ∷ loss ∷ pos k ∷ []) ((v 0 ⊕ v 1) ⊗ v 2) (v 0 ⊗ v 2 ⊕ v 1 ⊗ v 2) tt

  near_below : (loss *ℤ pos (up_e * p)) ≤ℤ (m *ℤ pos (down_e * b)) → a ≤ℤ (z *ℤ pos (g * b) +ℤ loss)
      → ((n *ℤ pos p -ℤ m *ℤ pos q) *ℤ pos down_s) ≤ℤ (z *ℤ pos up_s *ℤ pos (q * p))
  near_below allowed h =
      let l = le-mul a (z *ℤ pos (g * b) +ℤ loss) (pos (up_e * (q * p) * down_s)) (omega (arith, lin)) h in
      let s = spread (z *ℤ pos (g * b)) (up_e * (q * p) * down_s) in
      let d = lost allowed in
      let e = scaled_end (q * p) in
      let f = number_beside in
      let i = lessened in
      le-mul_cancel _ (z *ℤ pos up_s *ℤ pos (q * p)) (down_e * b) positive (omega (arith, lin))

  near_above : (loss *ℤ pos (up_e * p)) ≤ℤ (m *ℤ pos (down_e * b)) → (z *ℤ pos (g * b)) ≤ℤ (a +ℤ loss)
      → (z *ℤ pos up_s *ℤ pos (q * p)) ≤ℤ ((n *ℤ pos p +ℤ m *ℤ pos q) *ℤ pos down_s)
  near_above allowed h =
      let l = le-mul (z *ℤ pos (g * b)) (a +ℤ loss) (pos (up_e * (q * p) * down_s)) (omega (arith, lin)) h in
      let s = spread a (up_e * (q * p) * down_s) in
      let d = lost allowed in
      let e = scaled_end (q * p) in
      let f = number_beside in
      let i = increased in
      le-mul_cancel (z *ℤ pos up_s *ℤ pos (q * p)) _ (down_e * b) positive (omega (arith, lin))

  -- what is rounded down is near and below, and what is rounded up near and above
  ends_under : (loss *ℤ pos (up_e * p)) ≤ℤ (m *ℤ pos (down_e * b)) → (z *ℤ pos (g * b)) ≤ℤ a
      → a ≤ℤ (z *ℤ pos (g * b) +ℤ loss)
      → (((n *ℤ pos p -ℤ m *ℤ pos q) *ℤ pos down_s) ≤ℤ (z *ℤ pos up_s *ℤ pos (q * p)))
      × ((z *ℤ pos up_s *ℤ pos q) ≤ℤ (n *ℤ pos down_s))
  ends_under allowed h i = (near_below allowed i, end_below h)

  ends_over : (loss *ℤ pos (up_e * p)) ≤ℤ (m *ℤ pos (down_e * b)) → a ≤ℤ (z *ℤ pos (g * b))
      → (z *ℤ pos (g * b)) ≤ℤ (a +ℤ loss)
      → ((z *ℤ pos up_s *ℤ pos (q * p)) ≤ℤ ((n *ℤ pos p +ℤ m *ℤ pos q) *ℤ pos down_s))
      × ((n *ℤ pos down_s) ≤ℤ (z *ℤ pos up_s *ℤ pos q))
  ends_over allowed h i = (near_above allowed i, end_above h)

-- ---- a number that was rounded at most so much
module _ (z a e s loss : ℤ) (g b : ℕ) (d r : Fraction) (positive : 0 < b) (is_raised : s ≡ e +ℤ pos g)
    (ratio : IsRatio r a e b) (allowed : IsAllowed d loss e b) where
  pub rounded_under : (z *ℤ pos (2 ^ g * b)) ≤ℤ a → a ≤ℤ (z *ℤ pos (2 ^ g * b) +ℤ loss) → Under d (in_units z s) r
  rounded_under h i =
      let ends = ends_under r.numerator a z d.numerator loss r.denominator d.denominator b (2 ^ up e) (2 ^ down e)
      (2 ^ up s) (2 ^ down s) (2 ^ g) (mul-pos (pow_pos (down e)) positive) (raised_powers e s g is_raised) ratio allowed h i in
      record { near = ends.0; below = ends.1 }

  pub rounded_over : a ≤ℤ (z *ℤ pos (2 ^ g * b)) → (z *ℤ pos (2 ^ g * b)) ≤ℤ (a +ℤ loss) → Over d (in_units z s) r
  rounded_over h i =
      let ends = ends_over r.numerator a z d.numerator loss r.denominator d.denominator b (2 ^ up e) (2 ^ down e)
      (2 ^ up s) (2 ^ down s) (2 ^ g) (mul-pos (pow_pos (down e)) positive) (raised_powers e s g is_raised) ratio allowed h i in
      record { near = ends.0; above = ends.1 }
